use Rattle.cc_rename.proofs.Tallies.{took_span}
use Rattle.cc_rename.proofs.tally.span.Goals as goal

pub returns : goal.returns
returns c = took_span c.args.tally.now.globals.items c.args.tally.now.slots.items c.reach.new.counts.items c.args.n (c.in_ok-reach.ensures)
