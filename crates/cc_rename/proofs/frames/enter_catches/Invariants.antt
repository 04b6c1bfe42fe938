use Rattle.std.proofs.Common.{◌≡◌}
use Rattle.cc_printer.specs.RawOf.{Frames}
use Rattle.cc_printer.specs.Naming.{inside_catches}
use Rattle.cc_rename.specs.Counting.{sums}
use Rattle.cc_rename.proofs.frames.enter_catches.Given as goal

abbrev pub invariant-loop : goal.invariant-loop
invariant-loop l = (fs : Frames) → l.initial.ends.items ≡ sums fs → l.ends.items ≡ sums (inside_catches l.counter fs)
