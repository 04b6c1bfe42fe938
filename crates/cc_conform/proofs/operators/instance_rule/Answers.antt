use Rattle.std.proofs.Common.{◌∙◌, not, Option, ℕ, is_some, refl, sym, ap}
use Rattle.std.proofs.Math.Bool.{not-not}
use Rattle.cc_meaning.specs.Rules.{binary_rule}
use Rattle.cc_meaning.specs.SlotRules.{rule_if}
use Rattle.cc_conform.specs.Bridge.{with_store}
use Rattle.cc_conform.proofs.operators.instance_rule.Goals as goal

pub returns : goal.returns
unfolding binary_rule
returns c = λ s.
    let none = sym (not-not c.is_none.result) ∙ ap not (sym c.is_none.ensures) ∙ ap (λ (o : Option ℕ). not (is_some o)) (c.prototype_of.ensures (with_store s c.args.heap.now) refl) in
    c.rule_if.ensures ∙ (λ i. rule_if (none i) 2)
