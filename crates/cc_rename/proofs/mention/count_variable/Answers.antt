use Rattle.cc_rename.proofs.Tallies.{as_use, means_global, means_slot}
use Rattle.cc_printer.specs.Naming.{inside_catches}
use Rattle.cc_rename.proofs.mention.count_variable.Goals as goal

pub returns-in_ok-count_global-in-Global : goal.returns-in_ok-count_global-in-Global
returns-in_ok-count_global-in-Global c = λ fs e. as_use c.args.tally.now.globals.items c.args.tally.now.slots.items c.count_global.new.tally.globals.items c.count_global.new.tally.slots.items _ _ (means_global (inside_catches c.args.catches fs) c.args.r _ c.in-Global.is) c.in_ok-count_global-in-Global.ensures

pub returns-in_ok-count_slot-in-Frame : goal.returns-in_ok-count_slot-in-Frame
returns-in_ok-count_slot-in-Frame c = λ fs e. as_use c.args.tally.now.globals.items c.args.tally.now.slots.items c.count_slot.new.tally.globals.items c.count_slot.new.tally.slots.items _ _ (means_slot (inside_catches c.args.catches fs) c.args.r _ _ c.in-Some.n c.in-Frame.is (c.in-Some.ensures fs e)) c.in_ok-count_slot-in-Frame.ensures
