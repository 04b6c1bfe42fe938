-- A rewriting by a step that drops parts sets no method that wasn't set before.
use Rattle.std.proofs.Common.{◌≡◌, ℕ, Bool, true, false, List, [], Option, Some, None, refl, sym, ap, subst}
use Rattle.std.specs.Prelude.{◌||◌}
use Rattle.cc_ast.specs.Syntax.{Expr, var, fun, member, index, cast, tick, Target, to_var, to_member, to_index, Exprs}
use Rattle.cc_ast.specs.declared.tree.Ref.{Ref}
use Rattle.cc_meaning.specs.Names.{name_prototype}
use Rattle.cc_meaning.specs.State.{Path, Tables}
use Rattle.cc_meaning.specs.Monad.{pick}
use Rattle.cc_meaning.specs.Shapes.{is_named, path_of}
use Rattle.cc_meaning.specs.Parts.{Part, method_by, method_on_prototype, method_to, method_in}
use Rattle.cc_tied.specs.Placed.{Place, an_assigned, an_object, accesses, variable, functions}
use Rattle.cc_tied.specs.Rewrites.{re, re_target}
use Rattle.cc_tied.proofs.Mixed.KeptPaths.{re_fun, re_var, re_member}
use Rattle.cc_fold.proofs.WellMade.FewerParts.{Fewer, fewer_same, fewer_nothing}
use Rattle.cc_fold.proofs.DroppingSteps.{Drops, re_index, re_cast, re_tick, assigned_no_function, object_no_access, path_back}

module _ (T : Tables) where
  no_method : (u : Target) (e : Expr) → functions e ≡ false → method_in T u e ≡ []
  unfolding method_in functions
  no_method u (fun i f) h = absurd (cc)
  no_method u e h = refl

  no_prototype : (e : Expr) (p f : ℕ) → variable e || accesses e ≡ false → method_on_prototype T e p f ≡ []
  unfolding method_on_prototype variable accesses
  no_prototype (member i e q) p f h = absurd (cc)
  no_prototype e p f h = refl

  same_path : (o o' : Option Path) (p f : ℕ) → ((w : Path) → o' ≡ Some w → o ≡ Some w) → Fewer (method_by o' p f) (method_by o p f)
  unfolding method_by
  same_path o None p f k = fewer_nothing (method_by o p f)
  same_path o (Some w) p f k = subst (λ z. Fewer (method_by (Some w) p f) (method_by z p f)) (sym (k w refl)) (fewer_same (method_by (Some w) p f))

  fewer_picked : (b : Bool) {xs ys : List Part} → Fewer xs ys → Fewer (pick b xs []) (pick b ys [])
  fewer_picked true h = h
  fewer_picked false h = fewer_nothing []

  fewer_as_none : {xs : List Part} (ys : List Part) → xs ≡ [] → Fewer xs ys
  fewer_as_none ys e = subst (λ z. Fewer z ys) (sym e) (fewer_nothing ys)

  module _ (built : Ref → Bool) (step : Expr → Expr) (step_call : ℕ → Expr → Exprs → Expr) (D : Drops T step step_call) where
    abbrev R : Bool → Place → Expr → Expr
    R t q e = re built step step_call t q e

    on_prototype_fewer : (e : Expr) (p f : ℕ) → Fewer (method_on_prototype T (R true an_object e) p f) (method_on_prototype T e p f)
    unfolding method_on_prototype variable accesses
    on_prototype_fewer (var i r) p f = fewer_as_none [] (ap (λ z. method_on_prototype T z p f) (re_var built step step_call D.stays true an_object i r))
    on_prototype_fewer (member i e q) p f =
        subst (λ z. Fewer (method_on_prototype T z p f) (method_on_prototype T (member i e q) p f)) (sym (re_member built step step_call D.stays true an_object i e q))
        (fewer_picked (is_named T q name_prototype) (same_path (path_of e) (path_of (R true an_object e)) p f (path_back built step step_call T D e)))
    on_prototype_fewer (index i e k) p f = fewer_as_none [] (ap (λ z. method_on_prototype T z p f) (re_index built step step_call T D true an_object i e k))
    on_prototype_fewer (cast i d e) p f = fewer_as_none [] (ap (λ z. method_on_prototype T z p f) (re_cast built step step_call T D true an_object i d e))
    on_prototype_fewer (tick i n e) p f = fewer_as_none [] (ap (λ z. method_on_prototype T z p f) (re_tick built step step_call T D true an_object i n e))
    on_prototype_fewer e p f = fewer_as_none [] (no_prototype (R true an_object e) p f (object_no_access built step step_call T D e refl))

    to_fewer : (u : Target) (f : ℕ) → Fewer (method_to T (re_target built step step_call u) f) (method_to T u f)
    unfolding method_to re_target
    to_fewer (to_var i r) f = fewer_nothing []
    to_fewer (to_member i e p) f = on_prototype_fewer e p f
    to_fewer (to_index i e k) f = fewer_nothing []

    pub method_fewer : (t : Bool) (u : Target) (e : Expr) → Fewer (method_in T (re_target built step step_call u) (R t an_assigned e)) (method_in T u e)
    unfolding method_in functions
    method_fewer t u (fun i f) = subst (λ z. Fewer (method_in T (re_target built step step_call u) z) (method_to T u f)) (sym (re_fun built step step_call D.stays t an_assigned i f)) (to_fewer u f)
    method_fewer t u (cast i d e) = fewer_as_none [] (ap (method_in T (re_target built step step_call u)) (re_cast built step step_call T D t an_assigned i d e))
    method_fewer t u (tick i n e) = fewer_as_none [] (ap (method_in T (re_target built step step_call u)) (re_tick built step step_call T D t an_assigned i n e))
    method_fewer t u e = fewer_as_none [] (no_method (re_target built step step_call u) (R t an_assigned e) (assigned_no_function built step step_call T D t e refl))
