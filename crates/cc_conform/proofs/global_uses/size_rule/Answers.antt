use Rattle.std.proofs.Common.{◌∙◌, ℕ, nat_le, unsigned_abs, ap}
use Rattle.std.specs.Int.{w64}
use Rattle.std.proofs.lemmas.Int.{to_z-of_z}
use Rattle.cc_meaning.specs.SlotRules.{rule_unless}
use Rattle.cc_conform.proofs.UseGlobals.{abs-Whole}
use Rattle.cc_conform.proofs.global_uses.size_rule.Goals as goal

pub returns : goal.returns
returns c =
    let same = to_z-of_z w64 c.args.z c.ranges.z in
    c.rule_unless.ensures ∙ ap (λ (n : ℕ). rule_unless (nat_le n 9007199254740991) 1) (c.unsigned_abs.ensures.value ∙ ap unsigned_abs same) ∙ abs-Whole c.args.z
