use Rattle.cc_conform.proofs.PositionLemmas.{position-made, position-past, position-none}
use Rattle.cc_conform.proofs.places.position_rule.Goals as goal

pub returns-then-place-le-GREATEST : goal.returns-then-place-le-GREATEST
returns-then-place-le-GREATEST c = position-made c.args.place c.in-Some.place c.in-Some.is c.if-place-le-GREATEST.true

pub returns-else-place-le-GREATEST : goal.returns-else-place-le-GREATEST
returns-else-place-le-GREATEST c = position-past c.args.place c.in-Some.place c.in-Some.is c.if-place-le-GREATEST.false

pub returns-in-None : goal.returns-in-None
returns-in-None c = position-none c.args.place c.in-None.is
