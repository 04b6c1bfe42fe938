use Rattle.std.proofs.Common.{◌+ℤ◌}
use Rattle.std.proofs.lemmas.Int.{to_z-of_z}
use Rattle.std.specs.Int.{w64}
use Rattle.cc_value.proofs.Numbers.{number-wide}
use Rattle.cc_value.proofs.whole.sum.Goals as goal

pub returns-in-None : goal.returns-in-None
returns-in-None c = number-wide (c.args.a +ℤ c.args.b) (simp (to_z-of_z w64 c.args.a c.ranges.a, to_z-of_z w64 c.args.b c.ranges.b) at (c.in-None.ensures {u = tt}))
