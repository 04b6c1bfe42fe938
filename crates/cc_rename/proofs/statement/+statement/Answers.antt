use Rattle.std.proofs.Common.{arith, take}
use Rattle.cc_ast.specs.StmtBridge.{term_stmts, term_cases}
use Rattle.cc_rename.specs.Steps.{met_stmts, met_cases}
use Rattle.cc_rename.proofs.Walk as W
use Rattle.cc_rename.proofs.WalkParts as P
use Rattle.cc_rename.proofs.statement.+statement.Goals as goal

pub meet_stmts-loop-s-init : goal.meet_stmts-loop-s-init
meet_stmts-loop-s-init t c = P.stmts-start c.args.catches c.args.met.now

pub meet_stmts-loop-s-preserved : goal.meet_stmts-loop-s-preserved
meet_stmts-loop-s-preserved t c =
    let ss = c.as_slice-s-items.result.now in
    W.two _ _ _ (met_stmts c.args.catches (term_stmts (take c.loop-s.s-index ss))) _ _ c.loop-s.invariant (P.stmts-turn c.args.catches ss c.loop-s.s-index _ c.s-item.result (omega arith) (omega arith) c.s-item.is) c.in_ok-meet_stmt.ensures

pub meet_cases-loop-case-init : goal.meet_cases-loop-case-init
meet_cases-loop-case-init t c = P.cases-start c.args.catches c.args.met.now

pub meet_cases-loop-case-preserved : goal.meet_cases-loop-case-preserved
meet_cases-loop-case-preserved t c =
    let cs = c.as_slice-case-items.result.now in
    W.two _ _ _ (met_cases c.args.catches (term_cases (take c.loop-case.case-index cs))) _ _ c.loop-case.invariant (P.cases-turn c.args.catches cs c.loop-case.case-index _ c.case-item.result (omega arith) (omega arith) c.case-item.is)
    (W.behind c.loop-case.met c.meet_option.new.met c.meet_stmts.new.met _ _ c.in_ok-meet_option.ensures c.in_ok-meet_stmts.ensures)

pub meet_stmt-returns-in-Break : goal.meet_stmt-returns-in-Break
meet_stmt-returns-in-Break t c = P.of-Break c.args.catches _ _ c.args.s.now c.args.met.now c.in-Break.is

pub meet_stmt-returns-in-Continue : goal.meet_stmt-returns-in-Continue
meet_stmt-returns-in-Continue t c = P.of-Continue c.args.catches _ _ c.args.s.now c.args.met.now c.in-Continue.is

pub meet_stmt-returns-in-Tick : goal.meet_stmt-returns-in-Tick
meet_stmt-returns-in-Tick t c = P.of-Tick c.args.catches _ _ c.args.s.now c.args.met.now c.in-Tick.is

pub meet_stmt-returns-in_ok-push-in-Fun : goal.meet_stmt-returns-in_ok-push-in-Fun
meet_stmt-returns-in_ok-push-in-Fun t c =
    W.last c.push-in-Fun.result c.args.met.now c.push.new.self c.push-in-Fun.new.self _ _ _ c.in_ok-push-in-Fun.ensures.ok (P.of-Fun c.args.catches _ _ _ c.args.s.now c.in-Fun.is) c.push-in-Fun.ensures.ok

pub meet_stmt-returns-in_ok-meet_stmts-in-If : goal.meet_stmt-returns-in_ok-meet_stmts-in-If
meet_stmt-returns-in_ok-meet_stmts-in-If t c =
    W.last c.meet_stmts-in-If.result c.args.met.now c.meet_stmts.new.met c.meet_stmts-in-If.new.met _ _ _
    (W.behind c.args.met.now c.meet_expr-in-If.new.met c.meet_stmts.new.met _ _ c.in_ok-meet_expr-in-If.ensures c.in_ok-meet_stmts-in-If.ensures) (P.of-If c.args.catches _ _ _ _ _ c.args.s.now c.in-If.is c.get-in-If.ensures) c.meet_stmts-in-If.ensures

pub meet_stmt-returns-in_ok-meet_expr-in-While : goal.meet_stmt-returns-in_ok-meet_expr-in-While
meet_stmt-returns-in_ok-meet_expr-in-While t c =
    W.last c.meet_stmts-in-While.result c.args.met.now c.meet_expr-in-While.new.met c.meet_stmts-in-While.new.met _ _ _ c.in_ok-meet_expr-in-While.ensures (P.of-While c.args.catches _ _ _ _ c.args.s.now c.in-While.is c.get-in-While.ensures) c.meet_stmts-in-While.ensures

pub meet_stmt-returns-in_ok-meet_stmts-in-DoWhile : goal.meet_stmt-returns-in_ok-meet_stmts-in-DoWhile
meet_stmt-returns-in_ok-meet_stmts-in-DoWhile t c =
    W.last c.meet_expr-in-DoWhile.result c.args.met.now c.meet_stmts-in-DoWhile.new.met c.meet_expr-in-DoWhile.new.met _ _ _ c.in_ok-meet_stmts-in-DoWhile.ensures (P.of-DoWhile c.args.catches _ _ _ _ c.args.s.now c.in-DoWhile.is c.get-in-DoWhile.ensures) c.meet_expr-in-DoWhile.ensures

pub meet_stmt-returns-in_ok-meet_option-in-For-2 : goal.meet_stmt-returns-in_ok-meet_option-in-For-2
meet_stmt-returns-in_ok-meet_option-in-For-2 t c =
    W.last c.meet_stmts-in-For.result c.args.met.now c.meet_option-in-For-2.new.met c.meet_stmts-in-For.new.met _ _ _
    (W.behind c.args.met.now c.meet_option-in-For.new.met c.meet_option-in-For-2.new.met _ _ (W.behind c.args.met.now c.meet_init.new.met c.meet_option-in-For.new.met _ _ c.in_ok-meet_init-in-For.ensures c.in_ok-meet_option-in-For.ensures) c.in_ok-meet_option-in-For-2.ensures)
    (P.of-For c.args.catches _ _ _ _ _ c.args.s.now c.in-For.is) c.meet_stmts-in-For.ensures

pub meet_stmt-returns-in_ok-meet_expr-in-ForIn : goal.meet_stmt-returns-in_ok-meet_expr-in-ForIn
meet_stmt-returns-in_ok-meet_expr-in-ForIn t c =
    W.last c.meet_stmts-in-ForIn.result c.args.met.now c.meet_expr-in-ForIn.new.met c.meet_stmts-in-ForIn.new.met _ _ _
    (W.behind c.args.met.now c.meet_heading.new.met c.meet_expr-in-ForIn.new.met _ _ c.in_ok-meet_heading-in-ForIn.ensures c.in_ok-meet_expr-in-ForIn.ensures) (P.of-ForIn c.args.catches _ _ _ _ _ c.args.s.now c.in-ForIn.is c.get-in-ForIn.ensures) c.meet_stmts-in-ForIn.ensures

pub meet_stmt-returns-in_ok-meet_expr-in-Switch : goal.meet_stmt-returns-in_ok-meet_expr-in-Switch
meet_stmt-returns-in_ok-meet_expr-in-Switch t c =
    W.last c.meet_cases.result c.args.met.now c.meet_expr-in-Switch.new.met c.meet_cases.new.met _ _ _ c.in_ok-meet_expr-in-Switch.ensures (P.of-Switch c.args.catches _ _ _ _ c.args.s.now c.in-Switch.is c.get-in-Switch.ensures) c.meet_cases.ensures

pub meet_try-returns : goal.meet_try-returns
meet_try-returns t c =
    W.last c.meet_finally.result c.args.met.now c.meet_catch.new.met c.meet_finally.new.met _ _ _
    (W.behind c.args.met.now c.meet_stmts.new.met c.meet_catch.new.met _ _ c.in_ok-meet_stmts.ensures c.in_ok-meet_catch.ensures) (P.of-Try c.args.catches _ _ _ _ c.args.s.now c.in-Try.is) c.meet_finally.ensures

pub meet_catch-returns-in_default-clause : goal.meet_catch-returns-in_default-clause
meet_catch-returns-in_default-clause t c = P.catch-none c.args.catches _ _ _ _ c.args.s.now c.args.met.now c.in-Try.is c.in_default-clause.is

pub meet_catch-returns : goal.meet_catch-returns
meet_catch-returns t c =
    W.last c.meet_stmts.result c.args.met.now c.push.new.self c.meet_stmts.new.met _ _ _ c.in_ok-push.ensures.ok
    (P.catch-some c.args.catches c.in-Some-checked_add.inside _ _ _ _ c.in-Some.body c.args.s.now c.in-Try.is c.in-Some.is (omega arith)) c.meet_stmts.ensures

pub meet_finally-returns-in-None : goal.meet_finally-returns-in-None
meet_finally-returns-in-None t c = P.finally-none c.args.catches _ _ _ _ c.args.s.now c.args.met.now c.in-Try.is c.in-None.is

pub meet_finally-returns-in-Some : goal.meet_finally-returns-in-Some
meet_finally-returns-in-Some t c =
    W.same c.meet_stmts.result c.args.met.now c.meet_stmts.new.met _ _ (P.finally-some c.args.catches _ _ _ _ c.in-Some.body c.args.s.now c.in-Try.is c.in-Some.is) c.meet_stmts.ensures
