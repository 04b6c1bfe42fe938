use Rattle.cc_rename.proofs.Tallies.{as_uses, took_none, took_both, slots_from, slots_turn}
use Rattle.cc_rename.proofs.mention.count_params.Goals as goal

pub loop-k-init : goal.loop-k-init
loop-k-init c = as_uses c.args.tally.now.globals.items c.args.tally.now.slots.items c.args.tally.now.globals.items c.args.tally.now.slots.items _ _ (slots_from c.args.from) (took_none c.args.tally.now.globals.items c.args.tally.now.slots.items)

pub loop-k-preserved : goal.loop-k-preserved
loop-k-preserved c = as_uses c.args.tally.now.globals.items c.args.tally.now.slots.items c.count_slot.new.tally.globals.items c.count_slot.new.tally.slots.items _ _ (slots_turn c.args.from c.loop-k.k c.in-Some.at c.in-Some.ensures.1) (took_both c.args.tally.now.globals.items c.args.tally.now.slots.items c.loop-k.tally.globals.items c.loop-k.tally.slots.items _ _ _ _ c.loop-k.invariant c.in_ok-count_slot.ensures)
