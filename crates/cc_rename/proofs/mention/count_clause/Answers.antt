use Rattle.cc_rename.proofs.Tallies.{as_use, clause_is}
use Rattle.cc_rename.proofs.mention.count_clause.Goals as goal

pub returns : goal.returns
returns c = λ fs e. as_use c.args.tally.now.globals.items c.args.tally.now.slots.items c.count_slot.new.tally.globals.items c.count_slot.new.tally.slots.items _ _ (clause_is fs c.args.catches c.places_behind.result c.in-Some.n (c.places_behind.ensures fs e) c.in-Some.ensures.1) c.in_ok-count_slot.ensures
