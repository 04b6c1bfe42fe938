use Rattle.std.proofs.Common.{◌≡◌, drop}
use Rattle.cc_ast.specs.Bridge.{term}
use Rattle.cc_driver.specs.Source.{chain_tree, value_tree}
use Rattle.cc_driver.specs.FormChecks.{names_in}
use Rattle.cc_driver.proofs.resolve.value_tree.Given as goal

abbrev pub invariant-loop-added : goal.invariant-loop-added
invariant-loop-added l = chain_tree (names_in l.fn.table) (term l.tree) (drop l.added-index l.fn.value.more) ≡ value_tree (names_in l.fn.table) l.fn.value
