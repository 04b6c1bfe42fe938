use Rattle.std.proofs.Common.{◌≡◌, ◌-◌, ◌≤◌, map}
use Rattle.cc_cursor.specs.Shown as shown
use Rattle.cc_expr.specs.Expressions as spec
use Rattle.cc_expr.proofs.grammar.Grammar.object_fields.Given as goal

abbrev pub invariant-loop-turn : goal.invariant-loop-turn
invariant-loop-turn g l = record {
  reads : spec.object_fields l.self.limits l.self.limits.turns (map shown.field l.fn.found) 0 l.fn.cursor
      ≡ spec.object_fields l.self.limits (l._turn-end - l._turn) (map shown.field l.found) l.height l.cursor;
  low : l.height ≤ l.self.limits.depth - 1;
}
