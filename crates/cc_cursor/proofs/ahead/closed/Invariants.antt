use Rattle.std.proofs.Common.{◌≡◌, ◌-◌}
use Rattle.cc_cursor.specs.Reads as spec
use Rattle.cc_cursor.proofs.ahead.closed.Given as goal

abbrev pub invariant-loop-turn : goal.invariant-loop-turn
invariant-loop-turn l = spec.closed l.count l.fn.cursor ≡ spec.closed (l.count - l._turn) l.cursor
