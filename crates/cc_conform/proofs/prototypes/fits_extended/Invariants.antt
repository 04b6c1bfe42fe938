use Rattle.std.proofs.Common.{◌≡◌, drop}
use Rattle.cc_meaning.specs.Shapes.{tables_of}
use Rattle.cc_meaning.specs.SlotRules.{fits_extended}
use Rattle.cc_conform.proofs.prototypes.fits_extended.Given as goal

abbrev pub invariant-loop-prototype : goal.invariant-loop-prototype
invariant-loop-prototype l = fits_extended (tables_of l.program) l.heap.objs l.next (drop l.prototype-index l.chain) ≡ fits_extended (tables_of l.program) l.heap.objs l.fn.above l.chain
