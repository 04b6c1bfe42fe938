use Rattle.std.proofs.Common.{◌≡◌, ◌++◌, map, take}
use Rattle.cc_ast.specs.StmtBridge.{declarator}
use Rattle.cc_rename.specs.Steps.{met_vars}
use Rattle.cc_rename.proofs.parts.meet_vars.Given as goal

abbrev pub invariant-loop-d : goal.invariant-loop-d
invariant-loop-d l = l.met ≡ l.initial.met ++ met_vars l.catches (map declarator (take l.d-index l.d-items))
