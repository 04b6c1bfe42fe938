use Rattle.std.proofs.Common.{refl, sym, ap}
use Rattle.std.specs.Prelude.{codes}
use Rattle.cc_jsdoc.specs.Tags.{tag_name}
use Rattle.cc_jsdoc.proofs.TagLemmas.{tag_name-other}
use Rattle.cc_jsdoc.proofs.WordLemmas.{is_word, no_word}
use Rattle.cc_jsdoc.proofs.gives.tag_name.Goals as goal

pub returns-in-constructor : goal.returns-in-constructor
unfolding tag_name
returns-in-constructor c = sym (ap tag_name (is_word c.args.letters.now (codes "constructor") refl c.in-constructor.is))

pub returns-in-interface : goal.returns-in-interface
unfolding tag_name
returns-in-interface c = sym (ap tag_name (is_word c.args.letters.now (codes "interface") refl c.in-interface.is))

pub returns-in-enum : goal.returns-in-enum
unfolding tag_name
returns-in-enum c = sym (ap tag_name (is_word c.args.letters.now (codes "enum") refl c.in-enum.is))

pub returns-in-typedef : goal.returns-in-typedef
unfolding tag_name
returns-in-typedef c = sym (ap tag_name (is_word c.args.letters.now (codes "typedef") refl c.in-typedef.is))

pub returns-in-extends : goal.returns-in-extends
unfolding tag_name
returns-in-extends c = sym (ap tag_name (is_word c.args.letters.now (codes "extends") refl c.in-extends.is))

pub returns-in-implements : goal.returns-in-implements
unfolding tag_name
returns-in-implements c = sym (ap tag_name (is_word c.args.letters.now (codes "implements") refl c.in-implements.is))

pub returns-in-param : goal.returns-in-param
unfolding tag_name
returns-in-param c = sym (ap tag_name (is_word c.args.letters.now (codes "param") refl c.in-param.is))

pub returns-in-return : goal.returns-in-return
unfolding tag_name
returns-in-return c = sym (ap tag_name (is_word c.args.letters.now (codes "return") refl c.in-return.is))

pub returns-in-type : goal.returns-in-type
unfolding tag_name
returns-in-type c = sym (ap tag_name (is_word c.args.letters.now (codes "type") refl c.in-type.is))

pub returns-in-this : goal.returns-in-this
unfolding tag_name
returns-in-this c = sym (ap tag_name (is_word c.args.letters.now (codes "this") refl c.in-this.is))

pub returns-in-const : goal.returns-in-const
unfolding tag_name
returns-in-const c = sym (ap tag_name (is_word c.args.letters.now (codes "const") refl c.in-const.is))

pub returns-in-define : goal.returns-in-define
unfolding tag_name
returns-in-define c = sym (ap tag_name (is_word c.args.letters.now (codes "define") refl c.in-define.is))

pub returns-in-export : goal.returns-in-export
unfolding tag_name
returns-in-export c = sym (ap tag_name (is_word c.args.letters.now (codes "export") refl c.in-export.is))

pub returns-in-nocollapse : goal.returns-in-nocollapse
unfolding tag_name
returns-in-nocollapse c = sym (ap tag_name (is_word c.args.letters.now (codes "nocollapse") refl c.in-nocollapse.is))

pub returns-in-license : goal.returns-in-license
unfolding tag_name
returns-in-license c = sym (ap tag_name (is_word c.args.letters.now (codes "license") refl c.in-license.is-license))

pub returns-in-license-2 : goal.returns-in-license-2
unfolding tag_name
returns-in-license-2 c = sym (ap tag_name (is_word c.args.letters.now (codes "preserve") refl c.in-license.is-preserve))

pub returns-in_default : goal.returns-in_default
returns-in_default c =
    let w = c.args.letters.now in let u = c.utf8.letters in let h = c.in_default in
    sym (tag_name-other _ (no_word w (codes "constructor") u refl h.not-constructor)
    (no_word w (codes "interface") u refl h.not-interface)
    (no_word w (codes "enum") u refl h.not-enum)
    (no_word w (codes "typedef") u refl h.not-typedef)
    (no_word w (codes "extends") u refl h.not-extends)
    (no_word w (codes "implements") u refl h.not-implements)
    (no_word w (codes "param") u refl h.not-param)
    (no_word w (codes "return") u refl h.not-return)
    (no_word w (codes "type") u refl h.not-type)
    (no_word w (codes "this") u refl h.not-this)
    (no_word w (codes "const") u refl h.not-const)
    (no_word w (codes "define") u refl h.not-define)
    (no_word w (codes "export") u refl h.not-export)
    (no_word w (codes "nocollapse") u refl h.not-nocollapse)
    (no_word w (codes "license") u refl h.not-license)
    (no_word w (codes "preserve") u refl h.not-preserve))
