use Rattle.cc_types.proofs.Ancestry.{subtype-only, subtype-tells}
use Rattle.cc_types.specs.Types.{subtype}
use Rattle.cc_types.proofs.subtype.Goals as goal

pub returns-then-count-le64-clause-test : goal.returns-then-count-le64-clause-test
returns-then-count-le64-clause-test c = subtype-only c.is_above.result c.args.classes.now c.args.a c.args.b c.is_above.ensures

pub returns-then-count-le8192-clause-test : goal.returns-then-count-le8192-clause-test
returns-then-count-le8192-clause-test c = subtype-only c.is_above-then-count-le8192.result c.args.classes.now c.args.a c.args.b c.is_above-then-count-le8192.ensures

pub returns-then-count-le1048576-clause-test : goal.returns-then-count-le1048576-clause-test
returns-then-count-le1048576-clause-test c = subtype-only c.is_above-then-count-le1048576.result c.args.classes.now c.args.a c.args.b c.is_above-then-count-le1048576.ensures

pub returns-else-count-le1048576-clause-ancestry :
    goal.returns-else-count-le1048576-clause-ancestry
unfolding subtype
returns-else-count-le1048576-clause-ancestry c = subtype-tells c.climbs.result c.args.classes.now c.args.a c.args.b c.climbs.ensures

pub returns-else-count-le1048576-clause-test : goal.returns-else-count-le1048576-clause-test
unfolding subtype
returns-else-count-le1048576-clause-test c = c.climbs.ensures
