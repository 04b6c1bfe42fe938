use Rattle.std.proofs.Common.{◌∙◌, ap, sym, List}
use Rattle.cc_ast.specs.declared.tree.Case.{Case}
use Rattle.cc_ast.specs.declared.tree.Stmt.{Stmt}
use Rattle.cc_ast.specs.StmtBridge.{term_case, term_cases, term_stmt, term_stmts}
use Rattle.cc_fold.specs.Keeps.{keeps_case, keeps_cases, keeps_stmt, keeps_stmts}
use Rattle.cc_fold.proofs.KeepLoops.{ended, goes_on, refused}
use Rattle.cc_fold.proofs.KeepStmts.{more_clauses, more_statements, no_clauses, no_statements}
use Rattle.cc_fold.proofs.KeepTries.{both_bodies, only_catch, only_finally}
use Rattle.cc_fold.proofs.keeps.statement.+statement.Goals as goal

pub keeps_stmts-returns-then-not-keeps_stmt : goal.keeps_stmts-returns-then-not-keeps_stmt
keeps_stmts-returns-then-not-keeps_stmt t c = refused (λ (s : Stmt). keeps_stmt (term_stmt s)) (λ (ss : List Stmt). keeps_stmts (term_stmts ss)) no_statements more_statements c.as_slice-s-items.result.now c.loop-s.s-index c.loop-s.invariant c.s-item.result c.loop-s-test.true c.s-item.is (sym c.keeps_stmt.ensures ∙ c.if-not-keeps_stmt.true) ∙ ap (λ (ss : List Stmt). keeps_stmts (term_stmts ss)) c.as_slice-s-items.ensures

pub keeps_stmts-loop-s-preserved : goal.keeps_stmts-loop-s-preserved
keeps_stmts-loop-s-preserved t c = goes_on (λ (s : Stmt). keeps_stmt (term_stmt s)) (λ (ss : List Stmt). keeps_stmts (term_stmts ss)) no_statements more_statements c.as_slice-s-items.result.now c.loop-s.s-index c.loop-s.invariant c.s-item.result c.loop-s-test.true c.s-item.is (sym c.keeps_stmt.ensures ∙ c.if-not-keeps_stmt.false)

pub keeps_stmts-returns : goal.keeps_stmts-returns
keeps_stmts-returns t c = ended (λ (s : Stmt). keeps_stmt (term_stmt s)) (λ (ss : List Stmt). keeps_stmts (term_stmts ss)) no_statements more_statements c.as_slice-s-items.result.now c.loop-s.s-index c.loop-s.invariant c.loop-s-test.false ∙ ap (λ (ss : List Stmt). keeps_stmts (term_stmts ss)) c.as_slice-s-items.ensures

pub keeps_cases-returns-then-not-keeps_case : goal.keeps_cases-returns-then-not-keeps_case
keeps_cases-returns-then-not-keeps_case t c = refused (λ (x : Case). keeps_case (term_case x)) (λ (xs : List Case). keeps_cases (term_cases xs)) no_clauses more_clauses c.as_slice-case-items.result.now c.loop-case.case-index c.loop-case.invariant c.case-item.result c.loop-case-test.true c.case-item.is (sym c.keeps_case.ensures ∙ c.if-not-keeps_case.true) ∙ ap (λ (xs : List Case). keeps_cases (term_cases xs)) c.as_slice-case-items.ensures

pub keeps_cases-loop-case-preserved : goal.keeps_cases-loop-case-preserved
keeps_cases-loop-case-preserved t c = goes_on (λ (x : Case). keeps_case (term_case x)) (λ (xs : List Case). keeps_cases (term_cases xs)) no_clauses more_clauses c.as_slice-case-items.result.now c.loop-case.case-index c.loop-case.invariant c.case-item.result c.loop-case-test.true c.case-item.is (sym c.keeps_case.ensures ∙ c.if-not-keeps_case.false)

pub keeps_cases-returns : goal.keeps_cases-returns
keeps_cases-returns t c = ended (λ (x : Case). keeps_case (term_case x)) (λ (xs : List Case). keeps_cases (term_cases xs)) no_clauses more_clauses c.as_slice-case-items.result.now c.loop-case.case-index c.loop-case.invariant c.loop-case-test.false ∙ ap (λ (xs : List Case). keeps_cases (term_cases xs)) c.as_slice-case-items.ensures

pub keeps_try-returns-in-None-finally-2 : goal.keeps_try-returns-in-None-finally-2
keeps_try-returns-in-None-finally-2 t c = let n = c.in-Try in c.keeps_stmts-in-None-finally-2.ensures ∙ only_catch c.args.s.now n.field-0 n.b n.catch n.finally n.is (sym c.keeps_stmts.ensures ∙ c.if-not-keeps_stmts.false) c.in-Some.body c.in-Some.is c.in-None-finally-2.is

pub keeps_try-returns-in-Some-finally : goal.keeps_try-returns-in-Some-finally
keeps_try-returns-in-Some-finally t c = let n = c.in-Try in c.keeps_stmts-in-Some-finally.ensures ∙ only_finally c.args.s.now n.field-0 n.b n.catch n.finally n.is (sym c.keeps_stmts.ensures ∙ c.if-not-keeps_stmts.false) c.in-Some-finally.body c.in-None.is c.in-Some-finally.is

pub keeps_try-returns-then-keeps_stmts : goal.keeps_try-returns-then-keeps_stmts
keeps_try-returns-then-keeps_stmts t c = let n = c.in-Try in c.keeps_stmts-then-keeps_stmts.ensures ∙ both_bodies c.args.s.now n.field-0 n.b n.catch n.finally n.is (sym c.keeps_stmts.ensures ∙ c.if-not-keeps_stmts.false) c.in-Some.body c.in-Some-finally-2.last c.in-Some.is c.in-Some-finally-2.is (sym c.keeps_stmts-in-Some-finally-2.ensures ∙ c.if-keeps_stmts.true)
