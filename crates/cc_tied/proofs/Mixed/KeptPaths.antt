-- A rewriting that exchanges no variables, accesses, calls of them, assignments, functions and object literals
-- keeps the paths of a program, and the prototypes that its statements declare.
use Rattle.std.proofs.Common.{◌≡◌, ℕ, Bool, true, false, Option, Some, None, refl, sym, ap, subst, ◌∙◌}
use Rattle.std.specs.Prelude.{◌&&◌}
use Rattle.cc_ast.specs.Syntax.{Expr, var, fun, object, assign, member, call, Target, to_var, to_member, to_index, Exprs, no_exprs, more_exprs, Fields}
use Rattle.cc_ast.specs.declared.operator.BinOp.{BinOp}
use Rattle.cc_ast.specs.declared.tree.Ref.{Ref}
use Rattle.cc_meaning.specs.Names.{name_create, name_prototype}
use Rattle.cc_meaning.specs.State.{Path, Tables}
use Rattle.cc_meaning.specs.Monad.{pick}
use Rattle.cc_meaning.specs.Shapes.{longer, path_of, path_of_target, names_object, is_named, is_create, prototype_path, prototype_path_alone, created_from}
use Rattle.cc_tied.specs.Placed.{Place, a_value, an_assigned, a_callee, a_deleted, an_object, keeps, guard}
use Rattle.cc_tied.specs.Rewrites.{put, put_call, put_on_value, re, re_target, re_all, re_fields}

-- these nodes stay as they are
pub record Stays (step : Expr → Expr) (step_call : ℕ → Expr → Exprs → Expr) : Type 0 where
  pub var : (i : ℕ) (r : Ref) → step (var i r) ≡ var i r
  pub fun : (i f : ℕ) → step (fun i f) ≡ fun i f
  pub object : (i : ℕ) (fs : Fields) → step (object i fs) ≡ object i fs
  -- calls of accesses
  pub call : (i j : ℕ) (e : Expr) (p : ℕ) (es : Exprs) → step_call i (member j e p) es ≡ call i (member j e p) es
  pub member : (i : ℕ) (e : Expr) (p : ℕ) → step (member i e p) ≡ member i e p
  pub assign : (i : ℕ) (op : Option BinOp) (u : Target) (e : Expr) → step (assign i op u e) ≡ assign i op u e

module _ (built : Ref → Bool) (step : Expr → Expr) (step_call : ℕ → Expr → Exprs → Expr) (S : Stays step step_call) where
  abbrev R : Bool → Place → Expr → Expr
  R t q e = re built step step_call t q e

  pick_one : {A : Type 0} (b : Bool) (x : A) → pick b x x ≡ x
  pick_one true x = refl
  pick_one false x = refl

  pub guard_same : (t : Bool) (q : Place) (e : Expr) → guard built t q e e ≡ e
  unfolding guard
  guard_same t q e = pick_one (keeps built t q e e) e

  pub put_same : (t : Bool) (q : Place) (e : Expr) → step e ≡ e → put built step step_call t q e ≡ e
  unfolding put
  put_same t q e h = ap (λ z. guard built t q e z) h ∙ guard_same t q e

  on_value : (q : Place) (e : Expr) → step e ≡ e → put_on_value built step step_call q e ≡ e
  unfolding put_on_value
  on_value a_value e h = h
  on_value an_assigned e h = h
  on_value a_callee e h = refl
  on_value a_deleted e h = refl
  on_value an_object e h = refl

  pub re_member : (t : Bool) (q : Place) (i : ℕ) (e : Expr) (p : ℕ) → R t q (member i e p) ≡ member i (R t an_object e) p
  unfolding re
  re_member t q i e p = on_value q (member i (R t an_object e) p) (S.member i _ p)

  pub re_fun : (t : Bool) (q : Place) (i f : ℕ) → R t q (fun i f) ≡ fun i f
  unfolding re
  re_fun t q i f = put_same t q (fun i f) (S.fun i f)

  pub re_object : (t : Bool) (q : Place) (i : ℕ) (fs : Fields) → R t q (object i fs) ≡ object i (re_fields built step step_call t fs)
  unfolding re
  re_object t q i fs = put_same t q _ (S.object i _)

  re_call_of : (t : Bool) (q : Place) (i j : ℕ) (e f : Expr) (p : ℕ) (es : Exprs) → f ≡ member j e p → put_call built step step_call t q i f es ≡ call i f es
  unfolding put_call
  re_call_of t q i j e f p es d = subst (λ z. guard built t q (call i z es) (step_call i z es) ≡ call i z es) (sym d) (ap (λ z. guard built t q (call i (member j e p) es) z) (S.call i j e p es) ∙ guard_same t q _)

  pub re_call : (t : Bool) (q : Place) (i j : ℕ) (e : Expr) (p : ℕ) (es : Exprs) → R t q (call i (member j e p) es) ≡ call i (R t a_callee (member j e p)) (re_all built step step_call t es)
  unfolding re
  re_call t q i j e p es = re_call_of t q i j (R t an_object e) (R t a_callee (member j e p)) p (re_all built step step_call t es) (re_member t a_callee j e p)

  pub re_assign : (t : Bool) (q : Place) (i : ℕ) (op : Option BinOp) (u : Target) (e : Expr) → R t q (assign i op u e) ≡ assign i op (re_target built step step_call u) (R t an_assigned e)
  unfolding re
  re_assign t q i op u e = put_same t q _ (S.assign i op _ _)

  -- ---- paths

  longer_some : (o : Option Path) (p : ℕ) (w : Path) → longer o p ≡ Some w → (v : Path) × (o ≡ Some v)
  unfolding longer
  longer_some None p w h = absurd (cc)
  longer_some (Some v) p w h = (v, refl)

  pub re_var : (t : Bool) (q : Place) (i : ℕ) (r : Ref) → R t q (var i r) ≡ var i r
  unfolding re
  re_var t q i r = put_same t q (var i r) (S.var i r)

  pub path_kept : (t : Bool) (q : Place) (e : Expr) (w : Path) → path_of e ≡ Some w → path_of (R t q e) ≡ Some w
  unfolding path_of
  path_kept t q (var i r) w h = ap path_of (re_var t q i r) ∙ h
  path_kept t q (member i e p) w h =
      let v = longer_some (path_of e) p w h in
      ap path_of (re_member t q i e p) ∙ ap (λ z. longer z p) (path_kept t an_object e v.0 v.1 ∙ sym v.1) ∙ h
  path_kept t q e w h = absurd (cc)

  pub target_kept : (u : Target) (w : Path) → path_of_target u ≡ Some w → path_of_target (re_target built step step_call u) ≡ Some w
  unfolding path_of_target re_target
  target_kept (to_var i r) w h = h
  target_kept (to_member i e p) w h =
      let v = longer_some (path_of e) p w h in
      ap (λ z. longer z p) (path_kept true an_object e v.0 v.1 ∙ sym v.1) ∙ h
  target_kept (to_index i e k) w h = absurd (cc)

  -- ---- declarations of prototypes

  and_both : (a b : Bool) → a && b ≡ true → (a ≡ true) × (b ≡ true)
  and_both true b h = (refl, h)
  and_both false b h = absurd (cc)

  both_and : {a b : Bool} → a ≡ true → b ≡ true → a && b ≡ true
  both_and {a = a} {b = b} h k = ap (λ z. z && b) h ∙ k

  picked_path : (b : Bool) (o : Option Path) (w : Path) → pick b o None ≡ Some w → (b ≡ true) × (o ≡ Some w)
  picked_path true o w h = (refl, h)
  picked_path false o w h = absurd (cc)

  picked_some : {b : Bool} {o : Option Path} {w : Path} → b ≡ true → o ≡ Some w → pick b o None ≡ Some w
  picked_some {o = o} {w = w} h k = subst (λ z. pick z o None ≡ Some w) (sym h) k

  object_named : (T : Tables) (o : Option Path) → names_object T o ≡ true → (w : Path) × (o ≡ Some w)
  unfolding names_object
  object_named T None h = absurd (cc)
  object_named T (Some w) h = (w, refl)

  create_kept : (T : Tables) (t : Bool) (q : Place) (e : Expr) → is_create T e ≡ true → is_create T (R t q e) ≡ true
  unfolding is_create
  create_kept T t q (member i e p) h =
      let b = and_both (is_named T p name_create) (names_object T (path_of e)) h in
      let w = object_named T (path_of e) b.1 in
      subst (λ z. is_create T z ≡ true) (sym (re_member t q i e p)) (both_and b.0 (ap (λ z. names_object T z) (path_kept t an_object e w.0 w.1 ∙ sym w.1) ∙ b.1))
  create_kept T t q e h = absurd (cc)

  prototype_kept : (T : Tables) (t : Bool) (q : Place) (e : Expr) (w : Path) → prototype_path T e ≡ Some w → prototype_path T (R t q e) ≡ Some w
  unfolding prototype_path
  prototype_kept T t q (member i e p) w h =
      let b = picked_path (is_named T p name_prototype) (path_of e) w h in
      subst (λ z. prototype_path T z ≡ Some w) (sym (re_member t q i e p)) (picked_some b.0 (path_kept t an_object e w b.1))
  prototype_kept T t q e w h = absurd (cc)

  alone_kept : (T : Tables) (t : Bool) (es : Exprs) (w : Path) → prototype_path_alone T es ≡ Some w → prototype_path_alone T (re_all built step step_call t es) ≡ Some w
  unfolding prototype_path_alone re_all
  alone_kept T t no_exprs w h = absurd (cc)
  alone_kept T t (more_exprs e no_exprs) w h = prototype_kept T t a_value e w h
  alone_kept T t (more_exprs e (more_exprs d es)) w h = absurd (cc)

  created : (T : Tables) (t : Bool) (q : Place) (i : ℕ) (f : Expr) (es : Exprs) (w : Path) → is_create T f ≡ true → prototype_path_alone T es ≡ Some w → created_from T (R t q (call i f es)) ≡ Some w
  unfolding created_from is_create
  created T t q i (member j e p) es w h k = subst (λ z. created_from T z ≡ Some w) (sym (re_call t q i j e p es)) (picked_some (create_kept T t a_callee (member j e p) h) (alone_kept T t es w k))
  created T t q i f es w h k = absurd (cc)

  pub created_kept : (T : Tables) (t : Bool) (q : Place) (e : Expr) (w : Path) → created_from T e ≡ Some w → created_from T (R t q e) ≡ Some w
  unfolding created_from
  created_kept T t q (call i f es) w h =
      let b = picked_path (is_create T f) (prototype_path_alone T es) w h in
      created T t q i f es w b.0 b.1
  created_kept T t q e w h = absurd (cc)
