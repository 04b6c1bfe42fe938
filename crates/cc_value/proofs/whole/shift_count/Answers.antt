use Rattle.std.proofs.Common.{◌%◌, ◌∙◌, ℕ, ap}
use Rattle.std.proofs.lemmas.Int.{to_z-of_z}
use Rattle.std.specs.Int.{w64}
use Rattle.cc_meaning.specs.Operators.{shift_count, to_uint32}
use Rattle.cc_value.proofs.whole.shift_count.Goals as goal

pub returns-clause-count : goal.returns-clause-count
unfolding shift_count
returns-clause-count c = ap (λ (n : ℕ). n % 32) (c.to_uint32.ensures ∙ ap to_uint32 (to_z-of_z w64 c.args.z c.ranges.z))
