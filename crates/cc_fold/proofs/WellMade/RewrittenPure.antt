-- A rewriting by a step that keeps what is pure keeps it.
use Rattle.std.proofs.Common.{◌≡◌, ℕ, Bool, true, refl}
use Rattle.cc_ast.specs.Syntax.{Expr, lit, var, this, fun, list, object, unary, binary, and, or, cond, comma, Exprs, no_exprs, more_exprs, Fields, no_fields, more_fields}
use Rattle.cc_ast.specs.declared.tree.Key.{Key}
use Rattle.cc_ast.specs.declared.tree.Ref.{Ref}
use Rattle.cc_meaning.specs.FlatPaths.{pure_unary, pure_binary, pure, pure_all, pure_fields, dotted_keys}
use Rattle.cc_tied.specs.Placed.{Place, a_value, operand}
use Rattle.cc_tied.specs.Rewrites.{put, re, re_all, re_fields}
use Rattle.cc_fold.proofs.DroppingSteps.{put_either}
use Rattle.cc_fold.proofs.WellMade.RewrittenTrees.{both}

module _ (built : Ref → Bool) (step : Expr → Expr) (step_call : ℕ → Expr → Exprs → Expr) (kept : (e : Expr) → pure e ≡ true → pure (step e) ≡ true) where
  put_pure : (t : Bool) (q : Place) (e : Expr) → pure e ≡ true → pure (put built step step_call t q e) ≡ true
  put_pure t q e h = put_either built step step_call (λ z. pure z ≡ true) t q e h (kept e h)

  mutual
    unfolding re pure

    re_pure : (t : Bool) (q : Place) (e : Expr) → pure e ≡ true → pure (re built step step_call t q e) ≡ true
    re_pure t q (lit i p) h = refl
    re_pure t q (var i r) h = put_pure t q (var i r) refl
    re_pure t q (this i) h = put_pure t q (this i) refl
    re_pure t q (fun i f) h = put_pure t q (fun i f) refl
    re_pure t q (list i es) h = put_pure t q _ (all_pure t es h)
    re_pure t q (object i fs) h = put_pure t q _ (fields_pure t fs h)
    re_pure t q (unary i op e) h = put_pure t q _ (both {a = pure_unary op} (λ k. k) (re_pure t (operand op) e) h)
    re_pure t q (binary i op a b) h = put_pure t q _ (both (both {a = pure_binary op} (λ k. k) (re_pure t a_value a)) (re_pure t a_value b) h)
    re_pure t q (and i a b) h = put_pure t q _ (both (re_pure t a_value a) (re_pure t a_value b) h)
    re_pure t q (or i a b) h = put_pure t q _ (both (re_pure t a_value a) (re_pure t a_value b) h)
    re_pure t q (cond i e a b) h = put_pure t q _ (both (both (re_pure t a_value e) (re_pure t a_value a)) (re_pure t a_value b) h)
    re_pure t q (comma i a b) h = put_pure t q _ (both (re_pure t a_value a) (re_pure t a_value b) h)
    re_pure t q e h = absurd (cc)

    all_pure : (t : Bool) (es : Exprs) → pure_all es ≡ true → pure_all (re_all built step step_call t es) ≡ true
    all_pure t no_exprs h = refl
    all_pure t (more_exprs e es) h = both (re_pure t a_value e) (all_pure t es) h

    pub fields_pure : (t : Bool) (fs : Fields) → pure_fields fs ≡ true → pure_fields (re_fields built step step_call t fs) ≡ true
    fields_pure t no_fields h = refl
    fields_pure t (more_fields k e fs) h = both (re_pure t a_value e) (fields_pure t fs) h

  pub keys_dotted : (t : Bool) (fs : Fields) → dotted_keys fs ≡ true → dotted_keys (re_fields built step step_call t fs) ≡ true
  unfolding dotted_keys re_fields
  keys_dotted t no_fields h = refl
  keys_dotted t (more_fields (Key.Dotted p) e fs) h = keys_dotted t fs h
  keys_dotted t (more_fields (Key.Quoted k) e fs) h = absurd (cc)
