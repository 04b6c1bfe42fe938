use Rattle.std.proofs.Common.{◌≡◌, ◌-◌}
use Rattle.cc_cursor.specs.Reads as spec
use Rattle.cc_cursor.proofs.ahead.opened.Given as goal

abbrev pub invariant-loop-count : goal.invariant-loop-count
invariant-loop-count l = spec.opened l.turns 0 l.fn.cursor ≡ spec.opened (l.turns - l.count) l.count l.cursor
