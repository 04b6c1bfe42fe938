use Rattle.std.proofs.Common.{◌≡◌, ◌-◌, ◌≤◌, false}
use Rattle.cc_trees.specs.StatementParts as parts
use Rattle.cc_cursor.specs.Shown as shown
use Rattle.cc_statements.specs.ReadsStatements as spec
use Rattle.cc_statements.proofs.grammar.Grammar.clauses.Given as goal

abbrev pub invariant-loop-turn : goal.invariant-loop-turn
invariant-loop-turn g l = record {
  reads : spec.clauses l.self.limits (shown.context l.context) l.self.limits.turns false (parts.clauses l.fn.found) 0 l.fn.cursor
      ≡ spec.clauses l.self.limits (shown.context l.context) (l._turn-end - l._turn) l.seen (parts.clauses l.found) l.height l.cursor;
  low : l.height ≤ l.self.limits.depth - 1;
}
