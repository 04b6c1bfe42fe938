use Rattle.std.proofs.Common.{◌∙◌, ap, ℕ, rules, FitsSigned}
use Rattle.std.proofs.lemmas.Int.{to_z-of_z}
use Rattle.std.specs.Int.{w32, w64, cast_signed}
use Rattle.cc_meaning.specs.Operators.{to_int32, to_uint32}
use Rattle.cc_value.proofs.whole.to_int32.Goals as goal

pub returns : goal.returns
unfolding to_int32
returns c =
    let fits : FitsSigned w32 c.cast_signed.result = search rules in
    to_z-of_z w32 c.cast_signed.result fits ∙ c.cast_signed.ensures
    ∙ ap (λ (n : ℕ). cast_signed w32 n) (c.to_uint32.ensures ∙ ap to_uint32 (to_z-of_z w64 c.args.z c.ranges.z))
