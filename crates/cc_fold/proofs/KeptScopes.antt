-- Where folding keeps each node, it keeps the scope.
use Rattle.std.proofs.Common.{◌≡◌, refl, sym, ap, ℕ, true, List, Option, Some, None, unwrap_or}
use Rattle.std.specs.Prelude.{not, is_some, ◌&&◌}
use Rattle.cc_ast.specs.Syntax.{Expr, unary, binary, and, or, cond, Stmts, Scope}
use Rattle.cc_ast.specs.declared.operator.BinOp.{BinOp}
use Rattle.cc_ast.specs.declared.operator.BinOp.TheVariants.{Instance, Has}
use Rattle.cc_ast.specs.declared.operator.UnOp.{UnOp}
use Rattle.cc_ast.specs.declared.operator.UnOp.TheVariants.{Void, Delete}
use Rattle.cc_ast.specs.declared.tree.Stmt.{Stmt}
use Rattle.cc_ast.specs.StmtBridge.{term_stmts}
use Rattle.cc_tied.proofs.Kept.{KeepsExprs, KeepsLists, re_stmts_kept}
use Rattle.cc_fold.specs.Fold.{Literal, literal, computed_of_one, computed_of_two, fold_unary, fold_binary, fold_and, fold_or, fold_cond, fold, same_call, same_declarator, same_name, same_stmt, fold_scope}
use Rattle.cc_fold.specs.Keeps.{is_literal, unary_stays, binary_stays, stays, keeps_stmts, keeps_scope, KeptScopeStays}

one_kept : (i : ℕ) (op : UnOp) (e : Expr) (o : Option Literal) → not (is_some o) ≡ true → unwrap_or (computed_of_one i op o) (unary i op e) ≡ unary i op e
unfolding computed_of_one
one_kept i op e None h = refl
one_kept i op e (Some l) h = absurd (cc)

two_kept : (i : ℕ) (op : BinOp) (a b : Expr) (o p : Option Literal) → not (is_some o && is_some p) ≡ true → unwrap_or (computed_of_two i op o p) (binary i op a b) ≡ binary i op a b
unfolding computed_of_two
two_kept i op a b None p h = refl
two_kept i op a b (Some l) None h = refl
two_kept i op a b (Some l) (Some m) h = absurd (cc)

unary_kept : (i : ℕ) (op : UnOp) (e : Expr) → unary_stays op e ≡ true → fold_unary i op e ≡ unary i op e
unfolding fold_unary unary_stays is_literal
unary_kept i Void e h = refl
unary_kept i Delete e h = refl
unary_kept i op e h = one_kept i op e (literal e) h

binary_kept : (i : ℕ) (op : BinOp) (a b : Expr) → binary_stays op a b ≡ true → fold_binary i op a b ≡ binary i op a b
unfolding fold_binary binary_stays is_literal
binary_kept i Instance a b h = refl
binary_kept i Has a b h = refl
binary_kept i op a b h = two_kept i op a b (literal a) (literal b) h

and_kept : (i : ℕ) (a b : Expr) (o : Option Literal) → not (is_some o) ≡ true → fold_and i o a b ≡ and i a b
unfolding fold_and
and_kept i a b None h = refl
and_kept i a b (Some l) h = absurd (cc)

or_kept : (i : ℕ) (a b : Expr) (o : Option Literal) → not (is_some o) ≡ true → fold_or i o a b ≡ or i a b
unfolding fold_or
or_kept i a b None h = refl
or_kept i a b (Some l) h = absurd (cc)

cond_kept : (i : ℕ) (t a b : Expr) (o : Option Literal) → not (is_some o) ≡ true → fold_cond i o t a b ≡ cond i t a b
unfolding fold_cond
cond_kept i t a b None h = refl
cond_kept i t a b (Some l) h = absurd (cc)

node_kept : (e : Expr) → stays e ≡ true → fold e ≡ e
unfolding fold stays is_literal
node_kept (unary i op e) h = unary_kept i op e h
node_kept (binary i op a b) h = binary_kept i op a b h
node_kept (and i a b) h = and_kept i a b (literal a) h
node_kept (or i a b) h = or_kept i a b (literal a) h
node_kept (cond i t a b) h = cond_kept i t a b (literal t) h
node_kept _ h = refl

nodes_kept : KeepsExprs fold same_call stays
unfolding same_call
nodes_kept = record { by_step = node_kept; by_call = λ i f es h. refl }

lists_kept : KeepsLists same_declarator same_name same_stmt
unfolding same_declarator same_name same_stmt
lists_kept = record { by_trim = λ d. refl; by_trim_in = λ d. refl; by_cut = λ s ss. refl }

pub scope_kept : KeptScopeStays
unfolding keeps_scope keeps_stmts fold_scope
scope_kept built s h = ap (λ (z : Stmts). record s { body = z }) (re_stmts_kept built fold same_call stays nodes_kept same_declarator same_name same_stmt lists_kept s.body h)

-- a scope stays where its statements do
pub body_keeps : (s : Scope) (b : List Stmt) → s.body ≡ term_stmts b → keeps_stmts (term_stmts b) ≡ keeps_scope s
unfolding keeps_scope
body_keeps s b h = ap keeps_stmts (sym h)
