use Rattle.std.proofs.Common.{◌≡◌, drop}
use Rattle.cc_meaning.specs.Store.{class_from}
use Rattle.cc_conform.proofs.prototypes.class_from.Given as goal

abbrev pub invariant-loop-at : goal.invariant-loop-at
invariant-loop-at l = class_from l.at (drop l.at l.classes) l.function ≡ class_from 0 l.classes l.function
