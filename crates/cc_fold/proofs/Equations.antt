-- Folding, one equation for each kind of expression.
use Rattle.std.proofs.Common.{◌≡◌, refl, ap, ◌∙◌, ℕ, Bool, true, List, [], ◌∷◌, map, Option}
use Rattle.cc_ast.specs.Syntax.{Prim, Expr, lit, var, this, fun, list, object, unary, binary, and, or, cond, assign, step, member, index, call, new, comma, cast, tick, Target, to_var, to_member, to_index, Exprs, more_exprs, Fields, more_fields}
use Rattle.cc_ast.specs.declared.operator.BinOp.{BinOp}
use Rattle.cc_ast.specs.declared.operator.UnOp.{UnOp}
use Rattle.cc_ast.specs.declared.tree.Key.{Key}
use Rattle.cc_ast.specs.declared.tree.Ref.{Ref}
use Rattle.cc_ast.specs.declared.tree.Expr as Tree
use Rattle.cc_ast.specs.Bridge.{term, terms, term_fields, exprs, fields, field}
use Rattle.cc_tied.specs.Placed.{Place, a_value, an_assigned, a_callee, a_deleted, an_object, guard, operand}
use Rattle.cc_tied.specs.Rewrites.{put, put_call, put_on_value, re, re_target, re_all, re_fields}
use Rattle.cc_fold.specs.Fold.{fold, same_call, fold_unary, fold_binary, fold_and, fold_or, fold_cond, literal}
use Rattle.cc_fold.specs.Walk.{fold_expr, fold_target, fold_all, fold_fields, fold_field}
use Rattle.cc_fold.proofs.Choices.{stays}
use Rattle.cc_fold.proofs.Results.{unary_stands, binary_stands}

module _ (built : Ref → Bool) where
  -- an access, a cast and a price mark stay at each place
  on_value : (q : Place) (e : Expr) → fold e ≡ e → put_on_value built fold same_call q e ≡ e
  unfolding put_on_value
  on_value a_value e h = h
  on_value an_assigned e h = h
  on_value a_callee e h = refl
  on_value a_deleted e h = refl
  on_value an_object e h = refl

  pub at-lit : (t : Bool) (q : Place) (i : ℕ) (p : Prim) → fold_expr built t q (lit i p) ≡ lit i p
  unfolding fold_expr re
  at-lit t q i p = refl

  pub at-var : (t : Bool) (q : Place) (i : ℕ) (r : Ref) → fold_expr built t q (var i r) ≡ var i r
  unfolding fold_expr re put fold
  at-var t q i r = stays built t q (var i r)

  pub at-this : (t : Bool) (q : Place) (i : ℕ) → fold_expr built t q (this i) ≡ this i
  unfolding fold_expr re put fold
  at-this t q i = stays built t q (this i)

  pub at-fun : (t : Bool) (q : Place) (i f : ℕ) → fold_expr built t q (fun i f) ≡ fun i f
  unfolding fold_expr re put fold
  at-fun t q i f = stays built t q (fun i f)

  pub at-list : (t : Bool) (q : Place) (i : ℕ) (es : Exprs) → fold_expr built t q (list i es) ≡ list i (fold_all built t es)
  unfolding fold_expr fold_all re put fold
  at-list t q i es = stays built t q (list i (fold_all built t es))

  pub at-object : (t : Bool) (q : Place) (i : ℕ) (fs : Fields) → fold_expr built t q (object i fs) ≡ object i (fold_fields built t fs)
  unfolding fold_expr fold_fields re put fold
  at-object t q i fs = stays built t q (object i (fold_fields built t fs))

  pub at-unary : (t : Bool) (q : Place) (i : ℕ) (op : UnOp) (e : Expr) → fold_expr built t q (unary i op e) ≡ fold_unary i op (fold_expr built t (operand op) e)
  unfolding fold_expr re put fold
  at-unary t q i op e = unary_stands built t q i op (fold_expr built t (operand op) e)

  pub at-binary : (t : Bool) (q : Place) (i : ℕ) (op : BinOp) (a b : Expr) → fold_expr built t q (binary i op a b) ≡ fold_binary i op (fold_expr built t a_value a) (fold_expr built t a_value b)
  unfolding fold_expr re put fold
  at-binary t q i op a b = binary_stands built t q i op (fold_expr built t a_value a) (fold_expr built t a_value b)

  pub at-and : (t : Bool) (q : Place) (i : ℕ) (a b : Expr) → fold_expr built t q (and i a b) ≡ guard built t q (and i (fold_expr built t a_value a) (fold_expr built t a_value b)) (fold_and i (literal (fold_expr built t a_value a)) (fold_expr built t a_value a) (fold_expr built t a_value b))
  unfolding fold_expr re put fold
  at-and t q i a b = refl

  pub at-or : (t : Bool) (q : Place) (i : ℕ) (a b : Expr) → fold_expr built t q (or i a b) ≡ guard built t q (or i (fold_expr built t a_value a) (fold_expr built t a_value b)) (fold_or i (literal (fold_expr built t a_value a)) (fold_expr built t a_value a) (fold_expr built t a_value b))
  unfolding fold_expr re put fold
  at-or t q i a b = refl

  pub at-cond : (t : Bool) (q : Place) (i : ℕ) (e a b : Expr) → fold_expr built t q (cond i e a b) ≡ guard built t q (cond i (fold_expr built t a_value e) (fold_expr built t a_value a) (fold_expr built t a_value b)) (fold_cond i (literal (fold_expr built t a_value e)) (fold_expr built t a_value e) (fold_expr built t a_value a) (fold_expr built t a_value b))
  unfolding fold_expr re put fold
  at-cond t q i e a b = refl

  pub at-assign : (t : Bool) (q : Place) (i : ℕ) (op : Option BinOp) (u : Target) (e : Expr) → fold_expr built t q (assign i op u e) ≡ assign i op (fold_target built u) (fold_expr built t an_assigned e)
  unfolding fold_expr fold_target re put fold
  at-assign t q i op u e = stays built t q (assign i op (fold_target built u) (fold_expr built t an_assigned e))

  pub at-step : (t : Bool) (q : Place) (i : ℕ) (up prefix : Bool) (u : Target) → fold_expr built t q (step i up prefix u) ≡ step i up prefix (fold_target built u)
  unfolding fold_expr fold_target re put fold
  at-step t q i up prefix u = stays built t q (step i up prefix (fold_target built u))

  pub at-member : (t : Bool) (q : Place) (i : ℕ) (e : Expr) (p : ℕ) → fold_expr built t q (member i e p) ≡ member i (fold_expr built t an_object e) p
  unfolding fold_expr re fold
  at-member t q i e p = on_value q (member i (fold_expr built t an_object e) p) refl

  pub at-index : (t : Bool) (q : Place) (i : ℕ) (e k : Expr) → fold_expr built t q (index i e k) ≡ index i (fold_expr built t an_object e) (fold_expr built t a_value k)
  unfolding fold_expr re fold
  at-index t q i e k = on_value q (index i (fold_expr built t an_object e) (fold_expr built t a_value k)) refl

  pub at-call : (t : Bool) (q : Place) (i : ℕ) (f : Expr) (es : Exprs) → fold_expr built t q (call i f es) ≡ call i (fold_expr built t a_callee f) (fold_all built t es)
  unfolding fold_expr fold_all re put_call same_call
  at-call t q i f es = stays built t q (call i (fold_expr built t a_callee f) (fold_all built t es))

  pub at-new : (t : Bool) (q : Place) (i : ℕ) (f : Expr) (es : Exprs) → fold_expr built t q (new i f es) ≡ new i (fold_expr built t a_callee f) (fold_all built t es)
  unfolding fold_expr fold_all re put fold
  at-new t q i f es = stays built t q (new i (fold_expr built t a_callee f) (fold_all built t es))

  pub at-comma : (t : Bool) (q : Place) (i : ℕ) (a b : Expr) → fold_expr built t q (comma i a b) ≡ comma i (fold_expr built t a_value a) (fold_expr built t a_value b)
  unfolding fold_expr re put fold
  at-comma t q i a b = stays built t q (comma i (fold_expr built t a_value a) (fold_expr built t a_value b))

  pub at-cast : (t : Bool) (q : Place) (i d : ℕ) (e : Expr) → fold_expr built t q (cast i d e) ≡ cast i d (fold_expr built t q e)
  unfolding fold_expr re fold
  at-cast t q i d e = on_value q (cast i d (fold_expr built t q e)) refl

  pub at-tick : (t : Bool) (q : Place) (i n : ℕ) (e : Expr) → fold_expr built t q (tick i n e) ≡ tick i n (fold_expr built t q e)
  unfolding fold_expr re fold
  at-tick t q i n e = on_value q (tick i n (fold_expr built t q e)) refl

  pub at-to_var : (i : ℕ) (r : Ref) → fold_target built (to_var i r) ≡ to_var i r
  unfolding fold_target re_target
  at-to_var i r = refl

  pub at-to_member : (i : ℕ) (e : Expr) (p : ℕ) → fold_target built (to_member i e p) ≡ to_member i (fold_expr built true an_object e) p
  unfolding fold_target fold_expr re_target
  at-to_member i e p = refl

  pub at-to_index : (i : ℕ) (e k : Expr) → fold_target built (to_index i e k) ≡ to_index i (fold_expr built true an_object e) (fold_expr built true a_value k)
  unfolding fold_target fold_expr re_target
  at-to_index i e k = refl

  -- ---- lists

  all_exprs : (t : Bool) (es : List Expr) → exprs (map (fold_expr built t a_value) es) ≡ fold_all built t (exprs es)
  unfolding exprs fold_all re_all fold_expr
  all_exprs t [] = refl
  all_exprs t (e ∷ es) = ap (more_exprs (fold_expr built t a_value e)) (all_exprs t es)

  all_fields : (t : Bool) (fs : List (Key × Expr)) → fields (map (fold_field built t) fs) ≡ fold_fields built t (fields fs)
  unfolding fields fold_fields re_fields fold_expr
  all_fields t [] = refl
  all_fields t (x ∷ fs) = ap (more_fields x.0 (fold_expr built t a_value x.1)) (all_fields t fs)

  pub at-terms : (t : Bool) (es fs : List Tree.Expr) → map term fs ≡ map (fold_expr built t a_value) (map term es) → terms fs ≡ fold_all built t (terms es)
  unfolding terms
  at-terms t es fs h = ap exprs h ∙ all_exprs t (map term es)

  pub at-term_fields : (t : Bool) (es fs : List (Key × Tree.Expr)) → map field fs ≡ map (fold_field built t) (map field es) → term_fields fs ≡ fold_fields built t (term_fields es)
  unfolding term_fields
  at-term_fields t es fs h = ap fields h ∙ all_fields t (map field es)

pub ruleset walk = (at-lit, at-var, at-this, at-fun, at-list, at-object, at-unary, at-binary, at-and, at-or, at-cond, at-assign, at-step, at-member, at-index, at-call, at-new, at-comma, at-cast, at-tick, at-to_var, at-to_member, at-to_index, at-terms, at-term_fields)
