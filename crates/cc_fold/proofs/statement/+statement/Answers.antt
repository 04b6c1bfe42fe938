use Rattle.std.proofs.Common.{rules, sym, ap, refl, ◌∙◌, List, Option, Some}
use Rattle.cc_ast.specs.declared.tree.Stmt.{Stmt}
use Rattle.cc_ast.specs.StmtBridge.{maybe_stmts}
use Rattle.cc_fold.specs.Built.{built_in}
use Rattle.cc_fold.specs.Walk.{fold_maybe}
use Rattle.cc_fold.proofs.Clauses.{case_folded, maybe_some, tries, try_folded}
use Rattle.cc_fold.proofs.statement.+statement.Goals as goal

pub fold_case-returns : goal.fold_case-returns
fold_case-returns t c = case_folded (built_in c.args.plan.now) c.args.case.now c.in_ok-test.test c.in_ok-body.body c.in_ok-test.ensures c.in_ok-body.ensures

pub fold_catch-returns-in_ok-fold_stmts-in-Some : goal.fold_catch-returns-in_ok-fold_stmts-in-Some
fold_catch-returns-in_ok-fold_stmts-in-Some t c = λ i b k f h.
    let n = c.in-Try in
    let made = c.in_ok-fold_stmts-in-Some in
    let q = tries n.field-0 i n.field-1 b n.body k n.field-3 f (sym n.is ∙ h) in
    maybe_some (built_in c.args.plan.now) k (Some made.field-0) c.in-Some.body made.field-0 refl (sym q.1 ∙ c.in-Some.is) made.ensures

pub fold_finally-returns-in_ok-fold_stmts-in-Some : goal.fold_finally-returns-in_ok-fold_stmts-in-Some
fold_finally-returns-in_ok-fold_stmts-in-Some t c = λ i b k f h.
    let n = c.in-Try in
    let made = c.in_ok-fold_stmts-in-Some in
    let q = tries n.field-0 i n.field-1 b n.field-2 k n.body f (sym n.is ∙ h) in
    maybe_some (built_in c.args.plan.now) f (Some made.field-0) c.in-Some.body made.field-0 refl (sym q.2 ∙ c.in-Some.is) made.ensures

pub try_stmt-try_beside-requires : goal.try_stmt-try_beside-requires
try_stmt-try_beside-requires t c =
    let w = c.requires in
    let is = w.1.1.1.1 in
    (search rules, (w.0, (w.1.0, (w.1.1.0, (w.1.1.1.0, (is, c.in_ok-catch.ensures w.0 w.1.0 w.1.1.0 w.1.1.1.0 is, c.in_ok-finally.ensures w.0 w.1.0 w.1.1.0 w.1.1.1.0 is))))))

pub try_beside-returns : goal.try_beside-returns
try_beside-returns t c =
    let built = built_in c.args.plan.now in
    let n = c.in-Try in
    let w = c.requires in
    let known = w.1.1.1.1 in
    let q = tries w.0 n.i w.1.0 n.b w.1.1.0 n.field-2 w.1.1.1.0 n.field-3 (sym known.0 ∙ n.is) in
    let same = λ (z : Option (List Stmt)). fold_maybe built (maybe_stmts z) in
    try_folded built c.args.s.now n.i n.b c.in_ok-b.b n.field-2 c.args.catch n.field-3 c.args.finally n.is c.in_ok-b.ensures (known.1 ∙ ap same q.1) (known.2 ∙ ap same q.2)
