use Rattle.cc_rename.proofs.Tallies.{took_global}
use Rattle.cc_rename.proofs.tally.count_global.Goals as goal

pub returns : goal.returns
returns c = took_global c.args.tally.now.globals.items c.args.tally.now.slots.items c.count.new.counts.items c.args.n (c.in_ok-count.ensures)
