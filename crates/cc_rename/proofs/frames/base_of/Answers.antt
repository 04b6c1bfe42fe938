use Rattle.std.proofs.Common.{arith, refl}
use Rattle.cc_rename.proofs.Tallies.{near_some, far}
use Rattle.cc_rename.proofs.frames.base_of.Goals as goal

pub returns-then-up-catches : goal.returns-then-up-catches
returns-then-up-catches c = λ fs e. near_some c.checked_add.result fs c.args.catches c.args.up c.places_behind.result (omega arith) (c.places_behind.ensures fs e) c.checked_add.ensures

pub returns-else-up-catches : goal.returns-else-up-catches
returns-else-up-catches c = λ fs e. far fs c.args.catches c.args.up _ c.places_behind-else-up-catches.result (omega arith) refl (c.places_behind-else-up-catches.ensures fs e)
