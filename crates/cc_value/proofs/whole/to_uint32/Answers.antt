use Rattle.std.proofs.Common.{◌∙◌, ap, ℤ, pos, unsigned_abs, rules, FitsSigned}
use Rattle.std.proofs.lemmas.Int.{to_z-of_z}
use Rattle.std.specs.Int.{w64, int_rem_euclid}
use Rattle.cc_meaning.specs.Operators.{to_uint32}
use Rattle.cc_value.proofs.whole.to_uint32.Goals as goal

pub returns : goal.returns
unfolding to_uint32
returns c =
    let fits : FitsSigned w64 c.rem_euclid.result = search rules in
    ap unsigned_abs (to_z-of_z w64 c.rem_euclid.result fits)
    ∙ ap unsigned_abs (c.rem_euclid.ensures.value ∙ ap (λ (z : ℤ). int_rem_euclid z (pos 4294967296)) (to_z-of_z w64 c.args.z c.ranges.z))
