use Rattle.std.proofs.Common.{◌≡◌, ◌-◌, ◌≤◌, suc}
use Rattle.cc_raw.specs.Bridge.{raw_expr}
use Rattle.cc_expr.specs.Expressions as spec
use Rattle.cc_expr.proofs.grammar.Grammar.suffixes.Given as goal

abbrev pub invariant-loop-turn : goal.invariant-loop-turn
invariant-loop-turn g l = record {
  reads : spec.suffixes l.self.limits l.calls (suc l.self.limits.depth) (raw_expr l.fn.e, l.fn.height) l.fn.cursor
      ≡ spec.suffixes l.self.limits l.calls (l._turn-end - l._turn) (raw_expr l.e, l.height) l.cursor;
  low : l.height ≤ l.self.limits.depth;
  grows : l._turn ≤ l.height;
}
