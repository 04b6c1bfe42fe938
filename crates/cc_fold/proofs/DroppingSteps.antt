-- Steps of a rewriting that drop parts, and what the guard then leaves as it was: what is no function at
-- the right of an assignment, no variable and no access before a dot, and no variable under `delete`.
use Rattle.std.proofs.Common.{◌≡◌, ℕ, Bool, true, false, Option, Some, None, refl, sym, ap, ◌∙◌}
use Rattle.std.specs.Prelude.{not, ◌&&◌, ◌||◌}
use Rattle.cc_ast.specs.Syntax.{Expr, lit, var, fun, member, index, call, cast, tick, Exprs}
use Rattle.cc_ast.specs.declared.tree.Ref.{Ref}
use Rattle.cc_meaning.specs.State.{Path, Tables}
use Rattle.cc_meaning.specs.Monad.{pick}
use Rattle.cc_meaning.specs.Shapes.{longer, path_of}
use Rattle.cc_meaning.specs.Parts.{expr_parts, expr_well}
use Rattle.cc_tied.specs.Placed.{Place, a_value, an_assigned, a_callee, a_deleted, an_object, accesses, variable, functions, builds, reaches, keeps, guard}
use Rattle.cc_tied.specs.Rewrites.{put, put_call, put_on_value, re, re_all}
use Rattle.cc_tied.proofs.Mixed.KeptPaths.{Stays, guard_same, re_var, re_member}
use Rattle.cc_fold.proofs.WellMade.FewerParts.{Fewer}

-- a step that keeps what is well, drops parts, and leaves the nodes that paths and methods are read off
pub record Drops (T : Tables) (step : Expr → Expr) (step_call : ℕ → Expr → Exprs → Expr) : Type 0 where
  pub stays : Stays step step_call
  pub index : (i : ℕ) (e k : Expr) → step (index i e k) ≡ index i e k
  pub call : (i : ℕ) (f : Expr) (es : Exprs) → step_call i f es ≡ call i f es
  pub cast : (i d : ℕ) (e : Expr) → step (cast i d e) ≡ cast i d e
  pub tick : (i n : ℕ) (e : Expr) → step (tick i n e) ≡ tick i n e
  pub well : (e : Expr) → expr_well T e ≡ true → expr_well T (step e) ≡ true
  pub parts : (c : ℕ) (e : Expr) → Fewer (expr_parts T c (step e)) (expr_parts T c e)

module _ (built : Ref → Bool) (step : Expr → Expr) (step_call : ℕ → Expr → Exprs → Expr) where
  -- what is left is the old node or the new one
  pub put_either : (P : Expr → Type 0) (t : Bool) (q : Place) (e : Expr) → P e → P (step e) → P (put built step step_call t q e)
  unfolding put
  put_either P t q e a b = by_test (keeps built t q e (step e))
    where
      by_test : (k : Bool) → P (pick k e (step e))
      by_test true = a
      by_test false = b

  pub on_value_same : (q : Place) (e : Expr) → step e ≡ e → put_on_value built step step_call q e ≡ e
  unfolding put_on_value
  on_value_same a_value e h = h
  on_value_same an_assigned e h = h
  on_value_same a_callee e h = refl
  on_value_same a_deleted e h = refl
  on_value_same an_object e h = refl

  put_assigned : (t : Bool) (e : Expr) → functions e ≡ false → functions (put built step step_call t an_assigned e) ≡ false
  unfolding put
  put_assigned t e h = by_tests (functions (step e)) (functions e) refl h
    where
      by_tests : (a b : Bool) → functions (step e) ≡ a → b ≡ false → functions (pick (a && not b) e (step e)) ≡ false
      by_tests true false p k = h
      by_tests true true p k = absurd (cc)
      by_tests false b p k = p

  put_object : (e : Expr) → variable e || accesses e ≡ false → variable (put built step step_call true an_object e) || accesses (put built step step_call true an_object e) ≡ false
  unfolding put
  put_object e h = by_tests (builds built (step e)) (variable (step e) || accesses (step e)) (variable e || accesses e) refl h
    where
      by_tests : (x a b : Bool) → variable (step e) || accesses (step e) ≡ a → b ≡ false → (let z = pick (x || (true && (a && not b))) e (step e) in variable z || accesses z) ≡ false
      by_tests true a b p k = h
      by_tests false true false p k = h
      by_tests false true true p k = absurd (cc)
      by_tests false false b p k = p

  put_deleted : (t : Bool) (e : Expr) → variable e ≡ false → variable (put built step step_call t a_deleted e) ≡ false
  unfolding put
  put_deleted t e h = by_tests (reaches built (step e) && not (reaches built e)) (variable (step e)) refl
    where
      by_tests : (x a : Bool) → variable (step e) ≡ a → variable (pick (x || a) e (step e)) ≡ false
      by_tests true a p = h
      by_tests false true p = h
      by_tests false false p = p

  module _ (T : Tables) (D : Drops T step step_call) where
    abbrev R : Bool → Place → Expr → Expr
    R t q e = re built step step_call t q e

    pub re_index : (t : Bool) (q : Place) (i : ℕ) (e k : Expr) → R t q (index i e k) ≡ index i (R t an_object e) (R t a_value k)
    unfolding re
    re_index t q i e k = on_value_same q _ (D.index i _ _)

    pub re_any_call : (t : Bool) (q : Place) (i : ℕ) (f : Expr) (es : Exprs) → R t q (call i f es) ≡ call i (R t a_callee f) (re_all built step step_call t es)
    unfolding re put_call
    re_any_call t q i f es = ap (λ z. guard built t q (call i (R t a_callee f) (re_all built step step_call t es)) z) (D.call i _ _) ∙ guard_same built step step_call D.stays t q _

    pub re_cast : (t : Bool) (q : Place) (i d : ℕ) (e : Expr) → R t q (cast i d e) ≡ cast i d (R t q e)
    unfolding re
    re_cast t q i d e = on_value_same q _ (D.cast i d _)

    pub re_tick : (t : Bool) (q : Place) (i n : ℕ) (e : Expr) → R t q (tick i n e) ≡ tick i n (R t q e)
    unfolding re
    re_tick t q i n e = on_value_same q _ (D.tick i n _)

    -- no function comes where none stood
    pub assigned_no_function : (t : Bool) (e : Expr) → functions e ≡ false → functions (R t an_assigned e) ≡ false
    unfolding re functions
    assigned_no_function t (lit i p) h = refl
    assigned_no_function t (var i r) h = ap functions (re_var built step step_call D.stays t an_assigned i r)
    assigned_no_function t (fun i f) h = absurd (cc)
    assigned_no_function t (member i e p) h = ap functions (re_member built step step_call D.stays t an_assigned i e p)
    assigned_no_function t (index i e k) h = ap functions (re_index t an_assigned i e k)
    assigned_no_function t (call i f es) h = ap functions (re_any_call t an_assigned i f es)
    assigned_no_function t (cast i d e) h = ap functions (re_cast t an_assigned i d e) ∙ assigned_no_function t e h
    assigned_no_function t (tick i n e) h = ap functions (re_tick t an_assigned i n e) ∙ assigned_no_function t e h
    assigned_no_function t e h = put_assigned t _ refl

    -- within a target, no variable and no access before a dot where neither stood
    pub object_no_access : (e : Expr) → variable e || accesses e ≡ false → variable (R true an_object e) || accesses (R true an_object e) ≡ false
    unfolding re variable accesses
    object_no_access (lit i p) h = refl
    object_no_access (var i r) h = absurd (cc)
    object_no_access (member i e p) h = absurd (cc)
    object_no_access (index i e k) h = absurd (cc)
    object_no_access (call i f es) h = ap (λ z. variable z || accesses z) (re_any_call true an_object i f es)
    object_no_access (cast i d e) h = object_no_access e h
    object_no_access (tick i n e) h = object_no_access e h
    object_no_access e h = put_object _ refl

    -- `delete` gets no variable
    pub deleted_no_variable : (t : Bool) (e : Expr) → variable e ≡ false → variable (R t a_deleted e) ≡ false
    unfolding re variable
    deleted_no_variable t (lit i p) h = refl
    deleted_no_variable t (var i r) h = absurd (cc)
    deleted_no_variable t (member i e p) h = refl
    deleted_no_variable t (index i e k) h = refl
    deleted_no_variable t (call i f es) h = ap variable (re_any_call t a_deleted i f es)
    deleted_no_variable t (cast i d e) h = deleted_no_variable t e h
    deleted_no_variable t (tick i n e) h = deleted_no_variable t e h
    deleted_no_variable t e h = put_deleted t _ refl

    -- ---- paths come from paths

    no_path : (e : Expr) → variable e || accesses e ≡ false → path_of e ≡ None
    unfolding path_of variable accesses
    no_path (var i r) h = absurd (cc)
    no_path (member i e p) h = absurd (cc)
    no_path e h = refl

    longer_back : (o o' : Option Path) (p : ℕ) (w : Path) → ((v : Path) → o' ≡ Some v → o ≡ Some v) → longer o' p ≡ Some w → longer o p ≡ Some w
    unfolding longer
    longer_back o None p w k h = absurd (cc)
    longer_back o (Some v) p w k h = ap (λ z. longer z p) (k v refl) ∙ h

    nothing_some : {A : Type 0} {B : Type 0} (o : Option A) (w : A) → o ≡ None → o ≡ Some w → B
    nothing_some o w h k = absurd (cc)

    pub path_back : (e : Expr) (w : Path) → path_of (R true an_object e) ≡ Some w → path_of e ≡ Some w
    unfolding path_of variable accesses
    path_back (var i r) w h = sym (ap path_of (re_var built step step_call D.stays true an_object i r)) ∙ h
    path_back (member i e p) w h = longer_back (path_of e) (path_of (R true an_object e)) p w (path_back e) (sym (ap path_of (re_member built step step_call D.stays true an_object i e p)) ∙ h)
    path_back (index i e k) w h = nothing_some _ w (ap path_of (re_index true an_object i e k)) h
    path_back (cast i d e) w h = nothing_some _ w (ap path_of (re_cast true an_object i d e)) h
    path_back (tick i n e) w h = nothing_some _ w (ap path_of (re_tick true an_object i n e)) h
    path_back e w h = nothing_some _ w (no_path (R true an_object e) (object_no_access e refl)) h
