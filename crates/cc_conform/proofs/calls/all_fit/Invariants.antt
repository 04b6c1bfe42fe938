use Rattle.std.proofs.Common.{◌≡◌, drop, map}
use Rattle.cc_meaning.specs.Rules.{all_fit}
use Rattle.cc_meaning.specs.Shapes.{tables_of}
use Rattle.cc_meaning.specs.State.{State}
use Rattle.cc_value.specs.Bridge.{value_of}
use Rattle.cc_conform.specs.Bridge.{with_store}
use Rattle.cc_conform.proofs.calls.all_fit.Given as goal

abbrev pub invariant-loop-at : goal.invariant-loop-at
invariant-loop-at l = (s : State) → all_fit (tables_of l.program) (with_store s l.heap) (drop l.at l.types) (map value_of (drop l.at l.values)) ≡ all_fit (tables_of l.program) (with_store s l.heap) l.types (map value_of l.values)
