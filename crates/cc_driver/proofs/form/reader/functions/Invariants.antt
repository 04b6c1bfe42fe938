use Rattle.std.proofs.Common.{◌≡◌, ◌-◌, suc, length, []}
use Rattle.cc_driver.specs.FormReading.{read_functions}
use Rattle.cc_driver.proofs.form.reader.functions.Given as goal

-- what is read from here on is what is read from the start
abbrev pub invariant-loop-turn : goal.invariant-loop-turn
invariant-loop-turn l = read_functions (suc (length l.fn.cursor.rest.now)) [] l.fn.cursor.at l.fn.cursor.rest.now ≡ read_functions (l._turn-end - l._turn) l.found l.cursor.at l.cursor.rest.now
