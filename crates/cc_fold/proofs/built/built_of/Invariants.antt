use Rattle.std.proofs.Common.{◌≡◌, map}
use Rattle.std.specs.List.{range_with_len}
use Rattle.cc_fold.specs.Built.{global_built_in}
use Rattle.cc_fold.proofs.built.built_of.Given as goal

abbrev pub invariant-loop-n : goal.invariant-loop-n
invariant-loop-n l = l.built.items ≡ map (global_built_in l.program) (range_with_len 0 l.n)
