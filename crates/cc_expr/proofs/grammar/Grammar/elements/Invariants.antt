use Rattle.std.proofs.Common.{◌≡◌, ◌-◌, ◌≤◌, map}
use Rattle.cc_raw.specs.Bridge.{raw_expr}
use Rattle.cc_expr.specs.Expressions as spec
use Rattle.cc_expr.proofs.grammar.Grammar.elements.Given as goal

abbrev pub invariant-loop-turn : goal.invariant-loop-turn
invariant-loop-turn g l = record {
  reads : spec.elements l.self.limits l.self.limits.turns (map raw_expr l.fn.found) 0 l.fn.cursor
      ≡ spec.elements l.self.limits (l._turn-end - l._turn) (map raw_expr l.found) l.height l.cursor;
  low : l.height ≤ l.self.limits.depth - 1;
}
