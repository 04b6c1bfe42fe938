use Rattle.std.proofs.Common.{◌≡◌, ◌∙◌, ◌&&◌, not, Bool, slice_get, sym, ap}
use Rattle.cc_meaning.specs.Names.{is_index}
use Rattle.cc_meaning.specs.SlotRules.{rule_if, whole_key_rule}
use Rattle.cc_meaning.specs.Typed.{elements_in}
use Rattle.cc_conform.specs.Bridge.{access_of}
use Rattle.cc_conform.specs.declared.act.Access as key
use Rattle.cc_conform.proofs.KeyLemmas.{whole-no_array, whole-Runtime, whole-others}
use Rattle.cc_conform.proofs.keys.whole_key_rule.Goals as goal

pub returns-then-not-is_array : goal.returns-then-not-is_array
returns-then-not-is_array c = whole-no_array (elements_in (slice_get c.args.heap.now.objs c.args.object)) (access_of c.args.key.now) (sym c.is_array.ensures ∙ c.if-not-is_array.true)

pub returns-in-Runtime : goal.returns-in-Runtime
returns-in-Runtime c =
    let es = elements_in (slice_get c.args.heap.now.objs c.args.object) in
    let named : c.as_slice.result.now ≡ c.in-Runtime.text = c.as_slice.ensures.value ∙ c.text.view_is in
    let index = c.is_index.ensures ∙ ap is_index named in
    c.rule_if.ensures ∙ ap (λ (b : Bool). rule_if (c.in-Runtime.whole && not b) 2) index
    ∙ whole-Runtime es c.in-Runtime.text c.in-Runtime.whole (sym c.is_array.ensures ∙ c.if-not-is_array.false) ∙ ap (λ (k : key.Access). whole_key_rule es (access_of k)) (sym c.in-Runtime.is)

pub returns-in_default : goal.returns-in_default
returns-in_default c = whole-others (elements_in (slice_get c.args.heap.now.objs c.args.object)) c.args.key.now c.in_default.not-Runtime
