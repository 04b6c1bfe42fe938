use Rattle.std.proofs.Common.{◌≡◌, ◌-◌, ◌≤◌}
use Rattle.cc_trees.specs.StatementParts as parts
use Rattle.cc_statements.specs.ReadsStatements as spec
use Rattle.cc_statements.proofs.grammar.Statements.declarators.Given as goal

abbrev pub invariant-loop-turn : goal.invariant-loop-turn
invariant-loop-turn g l = record {
  reads : spec.declarators l.self.grammar.limits l.with_in l.self.grammar.limits.turns (parts.declarators l.fn.found) 0 l.fn.cursor
      ≡ spec.declarators l.self.grammar.limits l.with_in (l._turn-end - l._turn) (parts.declarators l.found) l.height l.cursor;
  low : l.height ≤ spec.bound l.self.grammar.limits l.with_in;
}
