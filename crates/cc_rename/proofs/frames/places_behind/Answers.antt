use Rattle.std.proofs.Common.{arith, refl}
use Rattle.cc_rename.proofs.Tallies.{end_at, end_past}
use Rattle.cc_rename.proofs.frames.places_behind.Goals as goal

pub returns-then-left_out-ends : goal.returns-then-left_out-ends
returns-then-left_out-ends c = λ fs e. end_at c.args.ends.now fs c.args.left_out _ 0 e (omega arith) refl

pub returns-else-left_out-ends : goal.returns-else-left_out-ends
returns-else-left_out-ends c = λ fs e. end_past c.args.ends.now fs c.args.left_out e (omega arith)
