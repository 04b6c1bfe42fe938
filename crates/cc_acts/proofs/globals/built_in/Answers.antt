use Rattle.cc_acts.proofs.Outer.{first-built, second-built, later-built}
use Rattle.cc_acts.proofs.globals.built_in.Goals as goal

pub returns-then-number-eq0 : goal.returns-then-number-eq0
returns-then-number-eq0 c = first-built c.args.number c.if-number-eq0.true

pub returns-then-number-eq1 : goal.returns-then-number-eq1
returns-then-number-eq1 c = second-built c.args.number c.if-number-eq1.true

pub returns-else-number-eq1 : goal.returns-else-number-eq1
returns-else-number-eq1 c = later-built c.args.number c.if-number-eq0.false c.if-number-eq1.false
