use Rattle.std.proofs.Common.{◌∙◌, ap, sym, List}
use Rattle.cc_ast.specs.declared.tree.Expr.{Expr}
use Rattle.cc_ast.specs.declared.tree.Key.{Key}
use Rattle.cc_ast.specs.Bridge.{term, term_fields, terms}
use Rattle.cc_fold.specs.Keeps.{keeps_all, keeps_expr, keeps_fields}
use Rattle.cc_fold.proofs.KeepExprs.{more_pairs, more_terms, no_pairs, no_terms}
use Rattle.cc_fold.proofs.KeepLoops.{ended, goes_on, refused}
use Rattle.cc_fold.proofs.keeps.expression.+expression.Goals as goal

pub keeps_exprs-returns-then-not-keeps_expr : goal.keeps_exprs-returns-then-not-keeps_expr
keeps_exprs-returns-then-not-keeps_expr t c = refused (λ (e : Expr). keeps_expr (term e)) (λ (es : List Expr). keeps_all (terms es)) no_terms more_terms c.as_slice-e-items.result.now c.loop-e.e-index c.loop-e.invariant c.e-item.result c.loop-e-test.true c.e-item.is (sym c.keeps_expr.ensures ∙ c.if-not-keeps_expr.true) ∙ ap (λ (es : List Expr). keeps_all (terms es)) c.as_slice-e-items.ensures

pub keeps_exprs-loop-e-preserved : goal.keeps_exprs-loop-e-preserved
keeps_exprs-loop-e-preserved t c = goes_on (λ (e : Expr). keeps_expr (term e)) (λ (es : List Expr). keeps_all (terms es)) no_terms more_terms c.as_slice-e-items.result.now c.loop-e.e-index c.loop-e.invariant c.e-item.result c.loop-e-test.true c.e-item.is (sym c.keeps_expr.ensures ∙ c.if-not-keeps_expr.false)

pub keeps_exprs-returns : goal.keeps_exprs-returns
keeps_exprs-returns t c = ended (λ (e : Expr). keeps_expr (term e)) (λ (es : List Expr). keeps_all (terms es)) no_terms more_terms c.as_slice-e-items.result.now c.loop-e.e-index c.loop-e.invariant c.loop-e-test.false ∙ ap (λ (es : List Expr). keeps_all (terms es)) c.as_slice-e-items.ensures

pub keeps_pairs-returns-then-not-keeps_expr : goal.keeps_pairs-returns-then-not-keeps_expr
keeps_pairs-returns-then-not-keeps_expr t c = refused (λ (x : Key × Expr). keeps_expr (term x.1)) (λ (xs : List (Key × Expr)). keeps_fields (term_fields xs)) no_pairs more_pairs c.as_slice-pair-items.result.now c.loop-pair.pair-index c.loop-pair.invariant c.pair-item.result c.loop-pair-test.true c.pair-item.is (sym c.keeps_expr.ensures ∙ c.if-not-keeps_expr.true) ∙ ap (λ (xs : List (Key × Expr)). keeps_fields (term_fields xs)) c.as_slice-pair-items.ensures

pub keeps_pairs-loop-pair-preserved : goal.keeps_pairs-loop-pair-preserved
keeps_pairs-loop-pair-preserved t c = goes_on (λ (x : Key × Expr). keeps_expr (term x.1)) (λ (xs : List (Key × Expr)). keeps_fields (term_fields xs)) no_pairs more_pairs c.as_slice-pair-items.result.now c.loop-pair.pair-index c.loop-pair.invariant c.pair-item.result c.loop-pair-test.true c.pair-item.is (sym c.keeps_expr.ensures ∙ c.if-not-keeps_expr.false)

pub keeps_pairs-returns : goal.keeps_pairs-returns
keeps_pairs-returns t c = ended (λ (x : Key × Expr). keeps_expr (term x.1)) (λ (xs : List (Key × Expr)). keeps_fields (term_fields xs)) no_pairs more_pairs c.as_slice-pair-items.result.now c.loop-pair.pair-index c.loop-pair.invariant c.loop-pair-test.false ∙ ap (λ (xs : List (Key × Expr)). keeps_fields (term_fields xs)) c.as_slice-pair-items.ensures
