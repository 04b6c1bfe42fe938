use Rattle.std.proofs.Common.{◌∙◌, ◌&&◌, ◌||◌, not, Bool, is_some, sym, ap}
use Rattle.cc_meaning.specs.Shapes.{tables_of}
use Rattle.cc_meaning.specs.SlotRules.{rule_unless}
use Rattle.cc_meaning.specs.Store.{is_kept}
use Rattle.cc_value.specs.Bridge.{value_of}
use Rattle.cc_conform.specs.Bridge.{access_of, with_store}
use Rattle.cc_conform.proofs.FieldLemmas.{field-fits, field-else}
use Rattle.cc_conform.proofs.fields.field_rule.Goals as goal

pub returns-then-object_fits : goal.returns-then-object_fits
returns-then-object_fits c = λ s. field-fits (tables_of c.args.program.now) (with_store s c.args.heap.now) c.args.object (access_of c.args.key.now) c.args.name.now c.args.broken (value_of c.args.value.now) c.requires (sym c.object_fits.ensures ∙ c.if-object_fits.true)

pub returns : goal.returns
returns c = λ s.
    let otherwise = field-else (tables_of c.args.program.now) (with_store s c.args.heap.now) c.args.object (access_of c.args.key.now) c.args.name.now c.args.broken (value_of c.args.value.now) c.requires (sym c.object_fits.ensures ∙ c.if-object_fits.false) in
    c.rule_unless.ensures
    ∙ ap (λ (b : Bool). rule_unless ((b && not c.is_kept-kept.result) || not (c.is_kept-kept.result || c.is_dot.result)) 6) c.is_some.ensures
    ∙ ap (λ (k : Bool). rule_unless ((is_some c.args.broken && not k) || not (k || c.is_dot.result)) 6) c.is_kept-kept.ensures
    ∙ ap (λ (d : Bool). rule_unless ((is_some c.args.broken && not (is_kept (tables_of c.args.program.now) c.args.name.now)) || not (is_kept (tables_of c.args.program.now) c.args.name.now || d)) 6) c.is_dot.ensures
    ∙ otherwise
