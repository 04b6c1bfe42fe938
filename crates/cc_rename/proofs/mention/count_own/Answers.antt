use Rattle.cc_rename.proofs.Tallies.{as_uses, own_is, no_own, took_none}
use Rattle.cc_rename.proofs.mention.count_own.Goals as goal

pub returns-in_ok-count_slot : goal.returns-in_ok-count_slot
returns-in_ok-count_slot c = λ fs e. as_uses c.args.tally.now.globals.items c.args.tally.now.slots.items c.count_slot.new.tally.globals.items c.count_slot.new.tally.slots.items _ _ (own_is fs c.args.own c.places_behind.result c.if-own.true (c.places_behind.ensures fs e)) c.in_ok-count_slot.ensures

pub returns-else-own : goal.returns-else-own
returns-else-own c = λ fs e. as_uses c.args.tally.now.globals.items c.args.tally.now.slots.items c.args.tally.now.globals.items c.args.tally.now.slots.items _ _ (no_own fs c.args.own c.if-own.false) (took_none c.args.tally.now.globals.items c.args.tally.now.slots.items)
