use Rattle.std.proofs.Common.{◌≡◌, map, take}
use Rattle.cc_ast.specs.Bridge.{term}
use Rattle.cc_driver.specs.Source.{value_tree}
use Rattle.cc_driver.specs.FormChecks.{names_in}
use Rattle.cc_driver.proofs.resolve.value_trees.Given as goal

abbrev pub invariant-loop-value : goal.invariant-loop-value
invariant-loop-value l = map term l.trees ≡ map (value_tree (names_in l.fn.table)) (take l.value-index l.values)
