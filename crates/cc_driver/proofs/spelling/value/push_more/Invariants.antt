use Rattle.std.proofs.Common.{◌≡◌, drop, Some}
use Rattle.cc_ast.specs.Bridge.{terms}
use Rattle.cc_driver.specs.Spelling.{join}
use Rattle.cc_driver.specs.Shapes.{spell_more}
use Rattle.cc_driver.proofs.spelling.value.push_more.Given as goal

abbrev pub invariant-loop-value : goal.invariant-loop-value
invariant-loop-value l = join (Some l.pieces) (spell_more (terms (drop l.value-index l.values))) ≡ join (Some l.initial.pieces) (spell_more (terms l.values))
