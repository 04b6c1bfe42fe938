use Rattle.std.proofs.Common.{◌≡◌, drop}
use Rattle.cc_meaning.specs.Store.{code_class_from}
use Rattle.cc_conform.proofs.calls.code_class_from.Given as goal

abbrev pub invariant-loop-at : goal.invariant-loop-at
invariant-loop-at l = code_class_from l.at (drop l.at l.classes) l.function ≡ code_class_from 0 l.classes l.function
