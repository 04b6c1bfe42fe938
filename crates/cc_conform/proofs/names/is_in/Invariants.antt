use Rattle.std.proofs.Common.{◌≡◌, drop}
use Rattle.cc_meaning.specs.Operators.{is_in}
use Rattle.cc_conform.proofs.names.is_in.Given as goal

abbrev pub invariant-loop-other : goal.invariant-loop-other
invariant-loop-other l = is_in l.name (drop l.other-index l.names) ≡ is_in l.name l.names
