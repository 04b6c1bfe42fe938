use Rattle.std.proofs.Common.{◌≡◌, ◌-◌, ◌≤◌, map}
use Rattle.cc_raw.specs.Bridge.{raw_stmt}
use Rattle.cc_cursor.specs.Shown as shown
use Rattle.cc_statements.specs.ReadsStatements as spec
use Rattle.cc_statements.proofs.grammar.Grammar.statements.Given as goal

abbrev pub invariant-loop-turn : goal.invariant-loop-turn
invariant-loop-turn g l = record {
  reads : spec.list l.self.limits (shown.context l.context) l.self.limits.turns (map raw_stmt l.fn.found) 0 l.fn.cursor
      ≡ spec.list l.self.limits (shown.context l.context) (l._turn-end - l._turn) (map raw_stmt l.found) l.height l.cursor;
  low : l.height ≤ l.self.limits.depth - 1;
}
