use Rattle.std.proofs.Common.{arith, take}
use Rattle.cc_ast.specs.Bridge.{terms, term_fields}
use Rattle.cc_rename.specs.Steps.{met_exprs, met_fields}
use Rattle.cc_rename.proofs.Walk as W
use Rattle.cc_rename.proofs.expression.+expression.Goals as goal

pub meet_exprs-loop-e-init : goal.meet_exprs-loop-e-init
meet_exprs-loop-e-init t c = W.exprs-start c.args.catches c.args.met.now

pub meet_exprs-loop-e-preserved : goal.meet_exprs-loop-e-preserved
meet_exprs-loop-e-preserved t c =
    let es = c.as_slice-e-items.result.now in
    W.two _ _ _ (met_exprs c.args.catches (terms (take c.loop-e.e-index es))) _ _ c.loop-e.invariant (W.exprs-turn c.args.catches es c.loop-e.e-index _ c.e-item.result (omega arith) (omega arith) c.e-item.is) c.in_ok-meet_expr.ensures

pub meet_fields-loop-field-init : goal.meet_fields-loop-field-init
meet_fields-loop-field-init t c = W.fields-start c.args.catches c.args.met.now

pub meet_fields-loop-field-preserved : goal.meet_fields-loop-field-preserved
meet_fields-loop-field-preserved t c =
    let fs = c.as_slice-field-items.result.now in
    W.two _ _ _ (met_fields c.args.catches (term_fields (take c.loop-field.field-index fs))) _ _ c.loop-field.invariant (W.fields-turn c.args.catches fs c.loop-field.field-index _ c.field-item.result (omega arith) (omega arith) c.field-item.is) c.in_ok-meet_expr.ensures

pub meet_expr-returns-in_ok-meet_expr-in-Binary : goal.meet_expr-returns-in_ok-meet_expr-in-Binary
meet_expr-returns-in_ok-meet_expr-in-Binary t c =
    let rule = W.of-Binary c.args.catches _ _ _ _ _ _ c.args.e.now c.in-Binary.is c.get-in-Binary.ensures c.get-in-Binary-2.ensures in
    W.last c.meet_expr-in-Binary-2.result c.args.met.now c.meet_expr-in-Binary.new.met c.meet_expr-in-Binary-2.new.met _ _ _ c.in_ok-meet_expr-in-Binary.ensures rule c.meet_expr-in-Binary-2.ensures

pub meet_expr-returns-in_ok-meet_expr-in-And : goal.meet_expr-returns-in_ok-meet_expr-in-And
meet_expr-returns-in_ok-meet_expr-in-And t c =
    let rule = W.of-And c.args.catches _ _ _ _ _ c.args.e.now c.in-And.is c.get-in-And.ensures c.get-in-And-2.ensures in
    W.last c.meet_expr-in-And-2.result c.args.met.now c.meet_expr-in-And.new.met c.meet_expr-in-And-2.new.met _ _ _ c.in_ok-meet_expr-in-And.ensures rule c.meet_expr-in-And-2.ensures

pub meet_expr-returns-in_ok-meet_expr-in-Or : goal.meet_expr-returns-in_ok-meet_expr-in-Or
meet_expr-returns-in_ok-meet_expr-in-Or t c =
    let rule = W.of-Or c.args.catches _ _ _ _ _ c.args.e.now c.in-Or.is c.get-in-Or.ensures c.get-in-Or-2.ensures in
    W.last c.meet_expr-in-Or-2.result c.args.met.now c.meet_expr-in-Or.new.met c.meet_expr-in-Or-2.new.met _ _ _ c.in_ok-meet_expr-in-Or.ensures rule c.meet_expr-in-Or-2.ensures

pub meet_expr-returns-in_ok-meet_expr-in-Index : goal.meet_expr-returns-in_ok-meet_expr-in-Index
meet_expr-returns-in_ok-meet_expr-in-Index t c =
    let rule = W.of-Index c.args.catches _ _ _ _ _ c.args.e.now c.in-Index.is c.get-in-Index.ensures c.get-in-Index-2.ensures in
    W.last c.meet_expr-in-Index-2.result c.args.met.now c.meet_expr-in-Index.new.met c.meet_expr-in-Index-2.new.met _ _ _ c.in_ok-meet_expr-in-Index.ensures rule c.meet_expr-in-Index-2.ensures

pub meet_expr-returns-in_ok-meet_expr-in-Comma : goal.meet_expr-returns-in_ok-meet_expr-in-Comma
meet_expr-returns-in_ok-meet_expr-in-Comma t c =
    let rule = W.of-Comma c.args.catches _ _ _ _ _ c.args.e.now c.in-Comma.is c.get-in-Comma.ensures c.get-in-Comma-2.ensures in
    W.last c.meet_expr-in-Comma-2.result c.args.met.now c.meet_expr-in-Comma.new.met c.meet_expr-in-Comma-2.new.met _ _ _ c.in_ok-meet_expr-in-Comma.ensures rule c.meet_expr-in-Comma-2.ensures

pub meet_expr-returns-in_ok-meet_expr-in-Cond-2 : goal.meet_expr-returns-in_ok-meet_expr-in-Cond-2
meet_expr-returns-in_ok-meet_expr-in-Cond-2 t c =
    let rule = W.of-Cond c.args.catches _ _ _ _ _ _ _ c.args.e.now c.in-Cond.is c.get-in-Cond.ensures c.get-in-Cond-2.ensures c.get-in-Cond-3.ensures in
    W.last c.meet_expr-in-Cond-3.result c.args.met.now c.meet_expr-in-Cond-2.new.met c.meet_expr-in-Cond-3.new.met _ _ _
    (W.behind c.args.met.now c.meet_expr-in-Cond.new.met c.meet_expr-in-Cond-2.new.met _ _ c.in_ok-meet_expr-in-Cond.ensures c.in_ok-meet_expr-in-Cond-2.ensures) rule c.meet_expr-in-Cond-3.ensures

pub meet_expr-returns-in_ok-meet_target-in-Assign : goal.meet_expr-returns-in_ok-meet_target-in-Assign
meet_expr-returns-in_ok-meet_target-in-Assign t c =
    let rule = W.of-Assign c.args.catches _ _ _ _ _ _ c.args.e.now c.in-Assign.is c.get-in-Assign.ensures c.get-in-Assign-2.ensures in
    W.last c.meet_expr-in-Assign.result c.args.met.now c.meet_target.new.met c.meet_expr-in-Assign.new.met _ _ _ c.in_ok-meet_target-in-Assign.ensures rule c.meet_expr-in-Assign.ensures

pub meet_target-returns-in_ok-meet_expr-in-Bracketed : goal.meet_target-returns-in_ok-meet_expr-in-Bracketed
meet_target-returns-in_ok-meet_expr-in-Bracketed t c =
    let rule = W.of-Bracketed c.args.catches _ _ _ _ _ c.args.t.now c.in-Bracketed.is c.get-in-Bracketed.ensures c.get-in-Bracketed-2.ensures in
    W.last c.meet_expr-in-Bracketed-2.result c.args.met.now c.meet_expr-in-Bracketed.new.met c.meet_expr-in-Bracketed-2.new.met _ _ _ c.in_ok-meet_expr-in-Bracketed.ensures rule c.meet_expr-in-Bracketed-2.ensures

pub meet_expr-returns-in_ok-meet_expr-in-Call : goal.meet_expr-returns-in_ok-meet_expr-in-Call
meet_expr-returns-in_ok-meet_expr-in-Call t c =
    let rule = W.of-Call c.args.catches _ _ _ c.args.e.now _ c.in-Call.is c.get-in-Call.ensures in
    W.last c.meet_exprs-in-Call.result c.args.met.now c.meet_expr-in-Call.new.met c.meet_exprs-in-Call.new.met _ _ _ c.in_ok-meet_expr-in-Call.ensures rule c.meet_exprs-in-Call.ensures

pub meet_expr-returns-in_ok-meet_expr-in-New : goal.meet_expr-returns-in_ok-meet_expr-in-New
meet_expr-returns-in_ok-meet_expr-in-New t c =
    let rule = W.of-New c.args.catches _ _ _ c.args.e.now _ c.in-New.is c.get-in-New.ensures in
    W.last c.meet_exprs-in-New.result c.args.met.now c.meet_expr-in-New.new.met c.meet_exprs-in-New.new.met _ _ _ c.in_ok-meet_expr-in-New.ensures rule c.meet_exprs-in-New.ensures
