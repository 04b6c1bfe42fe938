use Rattle.std.proofs.Common.{◌∙◌, ℤ, pos, int_lt, nat_lt, unsigned_abs, length, sym, ap}
use Rattle.std.specs.Int.{w64}
use Rattle.std.proofs.lemmas.Int.{to_z-of_z}
use Rattle.cc_meaning.specs.SlotRules.{rule_unless}
use Rattle.cc_conform.proofs.UnitLemmas.{code-negative, code-place}
use Rattle.cc_conform.proofs.text_uses.code_at_rule.Goals as goal

pub returns-then-place-lt0 : goal.returns-then-place-lt0
returns-then-place-lt0 c =
    let same = to_z-of_z w64 c.args.place c.ranges.place in
    code-negative c.args.text.now c.args.place (ap (λ (z : ℤ). int_lt z (pos 0)) (sym same) ∙ c.if-place-lt0.true)

pub returns : goal.returns
returns c =
    let same = to_z-of_z w64 c.args.place c.ranges.place in
    c.rule_unless.ensures ∙ ap (λ (z : ℤ). rule_unless (nat_lt (unsigned_abs z) (length c.args.text.now)) 1) same
    ∙ code-place c.args.text.now c.args.place (ap (λ (z : ℤ). int_lt z (pos 0)) (sym same) ∙ c.if-place-lt0.false) c.type_inv.text
