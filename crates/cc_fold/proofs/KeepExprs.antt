-- Whether folding keeps each node, one equation for each kind of expression.
use Rattle.std.proofs.Common.{◌≡◌, refl, ℕ, Bool, true, List, [], ◌∷◌, Option}
use Rattle.std.specs.Prelude.{◌&&◌, not}
use Rattle.cc_ast.specs.Syntax.{Prim, Expr, lit, var, this, fun, list, object, unary, binary, and, or, cond, assign, step, member, index, call, new, comma, cast, tick, Target, to_var, to_member, to_index, Exprs, Fields}
use Rattle.cc_ast.specs.declared.operator.BinOp.{BinOp}
use Rattle.cc_ast.specs.declared.operator.BinOp.TheVariants.{Instance, Has}
use Rattle.cc_ast.specs.declared.operator.UnOp.{UnOp}
use Rattle.cc_ast.specs.declared.operator.UnOp.TheVariants.{Void, Delete}
use Rattle.cc_ast.specs.declared.tree.Expr as Tree
use Rattle.cc_ast.specs.declared.tree.Key.{Key}
use Rattle.cc_ast.specs.declared.tree.Ref.{Ref}
use Rattle.cc_ast.specs.Bridge.{term, terms, term_fields, exprs, fields}
use Rattle.cc_tied.specs.EachNode.{each_expr}
use Rattle.cc_fold.specs.Keeps.{stays, is_literal, unary_stays, binary_stays, keeps_expr, keeps_target, keeps_all, keeps_fields}

pub at-lit : (i : ℕ) (p : Prim) → keeps_expr (lit i p) ≡ true
unfolding keeps_expr keeps_target keeps_all keeps_fields each_expr stays
at-lit i p = refl

pub at-var : (i : ℕ) (r : Ref) → keeps_expr (var i r) ≡ true
unfolding keeps_expr keeps_target keeps_all keeps_fields each_expr stays
at-var i r = refl

pub at-this : (i : ℕ) → keeps_expr (this i) ≡ true
unfolding keeps_expr keeps_target keeps_all keeps_fields each_expr stays
at-this i = refl

pub at-fun : (i f : ℕ) → keeps_expr (fun i f) ≡ true
unfolding keeps_expr keeps_target keeps_all keeps_fields each_expr stays
at-fun i f = refl

pub at-list : (i : ℕ) (es : Exprs) → keeps_expr (list i es) ≡ keeps_all es
unfolding keeps_expr keeps_target keeps_all keeps_fields each_expr stays
at-list i es = refl

pub at-object : (i : ℕ) (fs : Fields) → keeps_expr (object i fs) ≡ keeps_fields fs
unfolding keeps_expr keeps_target keeps_all keeps_fields each_expr stays
at-object i fs = refl

pub at-unary : (i : ℕ) (op : UnOp) (e : Expr) → keeps_expr (unary i op e) ≡ unary_stays op e && keeps_expr e
unfolding keeps_expr keeps_target keeps_all keeps_fields each_expr stays
at-unary i op e = refl

pub at-binary : (i : ℕ) (op : BinOp) (a b : Expr) → keeps_expr (binary i op a b) ≡ binary_stays op a b && (keeps_expr a && keeps_expr b)
unfolding keeps_expr keeps_target keeps_all keeps_fields each_expr stays
at-binary i op a b = refl

pub at-and : (i : ℕ) (a b : Expr) → keeps_expr (and i a b) ≡ not (is_literal a) && (keeps_expr a && keeps_expr b)
unfolding keeps_expr keeps_target keeps_all keeps_fields each_expr stays
at-and i a b = refl

pub at-or : (i : ℕ) (a b : Expr) → keeps_expr (or i a b) ≡ not (is_literal a) && (keeps_expr a && keeps_expr b)
unfolding keeps_expr keeps_target keeps_all keeps_fields each_expr stays
at-or i a b = refl

pub at-cond : (i : ℕ) (e a b : Expr) → keeps_expr (cond i e a b) ≡ not (is_literal e) && (keeps_expr e && (keeps_expr a && keeps_expr b))
unfolding keeps_expr keeps_target keeps_all keeps_fields each_expr stays
at-cond i e a b = refl

pub at-assign : (i : ℕ) (op : Option BinOp) (u : Target) (e : Expr) → keeps_expr (assign i op u e) ≡ keeps_target u && keeps_expr e
unfolding keeps_expr keeps_target keeps_all keeps_fields each_expr stays
at-assign i op u e = refl

pub at-step : (i : ℕ) (up prefix : Bool) (u : Target) → keeps_expr (step i up prefix u) ≡ keeps_target u
unfolding keeps_expr keeps_target keeps_all keeps_fields each_expr stays
at-step i up prefix u = refl

pub at-member : (i : ℕ) (e : Expr) (p : ℕ) → keeps_expr (member i e p) ≡ keeps_expr e
unfolding keeps_expr keeps_target keeps_all keeps_fields each_expr stays
at-member i e p = refl

pub at-index : (i : ℕ) (e k : Expr) → keeps_expr (index i e k) ≡ keeps_expr e && keeps_expr k
unfolding keeps_expr keeps_target keeps_all keeps_fields each_expr stays
at-index i e k = refl

pub at-call : (i : ℕ) (f : Expr) (es : Exprs) → keeps_expr (call i f es) ≡ keeps_expr f && keeps_all es
unfolding keeps_expr keeps_target keeps_all keeps_fields each_expr stays
at-call i f es = refl

pub at-new : (i : ℕ) (f : Expr) (es : Exprs) → keeps_expr (new i f es) ≡ keeps_expr f && keeps_all es
unfolding keeps_expr keeps_target keeps_all keeps_fields each_expr stays
at-new i f es = refl

pub at-comma : (i : ℕ) (a b : Expr) → keeps_expr (comma i a b) ≡ keeps_expr a && keeps_expr b
unfolding keeps_expr keeps_target keeps_all keeps_fields each_expr stays
at-comma i a b = refl

pub at-cast : (i d : ℕ) (e : Expr) → keeps_expr (cast i d e) ≡ keeps_expr e
unfolding keeps_expr keeps_target keeps_all keeps_fields each_expr stays
at-cast i d e = refl

pub at-tick : (i n : ℕ) (e : Expr) → keeps_expr (tick i n e) ≡ keeps_expr e
unfolding keeps_expr keeps_target keeps_all keeps_fields each_expr stays
at-tick i n e = refl

pub at-to_var : (i : ℕ) (r : Ref) → keeps_target (to_var i r) ≡ true
unfolding keeps_expr keeps_target keeps_all keeps_fields each_expr
at-to_var i r = refl

pub at-to_member : (i : ℕ) (e : Expr) (p : ℕ) → keeps_target (to_member i e p) ≡ keeps_expr e
unfolding keeps_expr keeps_target keeps_all keeps_fields each_expr
at-to_member i e p = refl

pub at-to_index : (i : ℕ) (e k : Expr) → keeps_target (to_index i e k) ≡ keeps_expr e && keeps_expr k
unfolding keeps_expr keeps_target keeps_all keeps_fields each_expr
at-to_index i e k = refl

-- ---- lists

pub no_terms : keeps_all (terms []) ≡ true
unfolding keeps_expr keeps_target keeps_all keeps_fields each_expr terms exprs
no_terms = refl

pub more_terms : (e : Tree.Expr) (es : List Tree.Expr) → keeps_all (terms (e ∷ es)) ≡ keeps_expr (term e) && keeps_all (terms es)
unfolding keeps_expr keeps_target keeps_all keeps_fields each_expr terms exprs
more_terms e es = refl

pub no_pairs : keeps_fields (term_fields []) ≡ true
unfolding keeps_expr keeps_target keeps_all keeps_fields each_expr term_fields fields
no_pairs = refl

pub more_pairs : (x : Key × Tree.Expr) (xs : List (Key × Tree.Expr)) → keeps_fields (term_fields (x ∷ xs)) ≡ keeps_expr (term x.1) && keeps_fields (term_fields xs)
unfolding keeps_expr keeps_target keeps_all keeps_fields each_expr term_fields fields
more_pairs x xs = refl

-- ---- operators

pub unary_other : (op : UnOp) (e : Expr) → (op ≡ Void → ⊥) → (op ≡ Delete → ⊥) → unary_stays op e ≡ not (is_literal e)
unfolding unary_stays
unary_other Void e v d = absurd (v refl)
unary_other Delete e v d = absurd (d refl)
unary_other op e v d = refl

pub binary_other : (op : BinOp) (a b : Expr) → (op ≡ Instance → ⊥) → (op ≡ Has → ⊥) → binary_stays op a b ≡ not (is_literal a && is_literal b)
unfolding binary_stays
binary_other Instance a b n h = absurd (n refl)
binary_other Has a b n h = absurd (h refl)
binary_other op a b n h = refl

pub ruleset walk = (at-lit, at-var, at-this, at-fun, at-list, at-object, at-unary, at-binary, at-and, at-or, at-cond, at-assign, at-step, at-member, at-index, at-call, at-new, at-comma, at-cast, at-tick, at-to_var, at-to_member, at-to_index)
