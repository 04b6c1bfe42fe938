use Rattle.std.proofs.Common.{arith, map, take}
use Rattle.cc_ast.specs.StmtBridge.{declarator}
use Rattle.cc_rename.specs.Steps.{met_vars}
use Rattle.cc_rename.proofs.Walk as W
use Rattle.cc_rename.proofs.WalkParts as P
use Rattle.cc_rename.proofs.parts.meet_vars.Goals as goal

pub loop-d-init : goal.loop-d-init
loop-d-init c = P.vars-start c.args.catches c.args.met.now

pub loop-d-preserved : goal.loop-d-preserved
loop-d-preserved c =
    let ds = c.as_slice-d-items.result.now in
    W.two _ _ _ (met_vars c.args.catches (map declarator (take c.loop-d.d-index ds))) _ _ c.loop-d.invariant (P.vars-turn c.args.catches ds c.loop-d.d-index _ c.d-item.result (omega arith) (omega arith) c.d-item.is) c.in_ok-meet_declarator.ensures
