use Rattle.std.proofs.Common.{◌≡◌, drop, map, List}
use Rattle.cc_ast.specs.Syntax.{Program}
use Rattle.cc_meaning.specs.Acts.{all_given}
use Rattle.cc_meaning.specs.State.{Reply}
use Rattle.cc_acts.specs.Scripts.{view_of}
use Rattle.cc_acts.specs.Shown.{state_of}
use Rattle.cc_acts.proofs.views.all_given.Given as goal

abbrev pub invariant-loop-view : goal.invariant-loop-view
invariant-loop-view l = (P : Program) (rs : List Reply) → all_given (state_of P rs l.state) (map view_of (drop l.view-index l.views)) ≡ all_given (state_of P rs l.state) (map view_of l.views)
