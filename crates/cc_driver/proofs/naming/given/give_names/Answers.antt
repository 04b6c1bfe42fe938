use Rattle.std.proofs.Common.{arith, refl}
use Rattle.cc_driver.proofs.GivingLaws.{giving_on, giving_ends}
use Rattle.cc_driver.proofs.naming.given.give_names.Goals as goal

pub giving-preserved : goal.giving-preserved
giving-preserved c =
    giving_on c.args.passed.now.keys c.args.ranks.now c.giving.k c.giving.passed.keys c.give.new.passed.keys c.giving.given c.give.new.given _ _ c.in-Ok.name.items
    c.in-Ok-give.ensures.taken c.in-Ok-give.ensures.passed_over c.giving.invariant (omega arith) c.len-in-giving.result c.len-in-giving.ensures refl c.in-Ok.ensures

pub returns-clause-names : goal.returns-clause-names
returns-clause-names c = giving_ends c.args.passed.now.keys c.args.ranks.now c.giving.k c.giving.passed.keys c.giving.given c.giving.invariant
