use Rattle.std.proofs.Common.{◌∙◌, None, Option, ℕ, slice_get, sym, ap}
use Rattle.cc_meaning.specs.Monad.{pick}
use Rattle.cc_meaning.specs.Shapes.{tables_of}
use Rattle.cc_meaning.specs.Store.{slots_in}
use Rattle.cc_conform.specs.Bridge.{access_of}
use Rattle.cc_conform.specs.Slots.{is_free, least_of}
use Rattle.cc_conform.specs.declared.slots.SlotTest.{SlotTest}
use Rattle.cc_conform.proofs.SlotLemmas.{slots-parts}
use Rattle.cc_conform.proofs.slots.own_slots_rule.Goals as goal

pub returns : goal.returns
returns c =
    let T = tables_of c.args.program.now in
    let a = access_of c.args.key.now in
    let n = c.args.name.now in
    let os = c.args.heap.now.objs in
    let xs = slots_in (slice_get os c.args.object) in
    c.unless_free.ensures ∙ ap (λ (r : Option ℕ). pick (is_free T a n) None r) (c.own_rule-broken.ensures ∙ ap (λ (t : SlotTest). least_of t n xs) c.test_of.ensures) ∙ sym (slots-parts T a n xs)
