use Rattle.std.proofs.Common.{◌≡◌, map, take}
use Rattle.cc_ast.specs.StmtBridge.{declarator}
use Rattle.cc_fold.specs.Built.{built_in}
use Rattle.cc_fold.specs.Walk.{fold_declarator}
use Rattle.cc_fold.proofs.parts.fold_declarators.Given as goal

abbrev pub invariant-loop-d : goal.invariant-loop-d
invariant-loop-d l = map declarator l.folded ≡ map (fold_declarator (built_in l.plan)) (map declarator (take l.d-index l.declarators))
