use Rattle.std.proofs.Common.{◌≡◌, drop, map}
use Rattle.cc_ast.specs.StmtBridge.{declarator}
use Rattle.cc_fold.specs.Keeps.{keeps_declarators}
use Rattle.cc_fold.proofs.keeps.parts.keeps_declarators.Given as goal

abbrev pub invariant-loop-d : goal.invariant-loop-d
invariant-loop-d l = keeps_declarators (map declarator (drop l.d-index l.d-items)) ≡ keeps_declarators (map declarator l.d-items)
