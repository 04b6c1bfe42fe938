use Rattle.std.proofs.Common.{◌≡◌, ◌-◌, []}
use Rattle.cc_driver.specs.FormReading.{read_more}
use Rattle.cc_driver.proofs.form.reader.more.Given as goal

-- what is read from here on is what is read from the start
abbrev pub invariant-loop-turn : goal.invariant-loop-turn
invariant-loop-turn l = read_more l.fn.most [] l.fn.cursor.at l.fn.cursor.rest.now ≡ read_more (l.fn.most - l._turn) l.found l.cursor.at l.cursor.rest.now
