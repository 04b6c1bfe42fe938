-- A rewriting by a step that takes an operand in place of a node leaves mentions that stood before, and uses
-- of paths that come from them.
use Rattle.std.proofs.Common.{◌≡◌, ℕ, Bool, true, false, List, [], ◌∷◌, Option, Some, None, refl, sym, ap, subst, ◌∙◌}
use Rattle.std.specs.Prelude.{not, ◌&&◌, ◌||◌}
use Rattle.cc_ast.specs.Syntax.{Expr, lit, var, this, fun, list, object, unary, binary, and, or, cond, assign, step as step_of, member, index, call, new, comma, cast, tick, Target, to_var, to_member, to_index, Exprs, no_exprs, more_exprs, Fields, no_fields, more_fields}
use Rattle.cc_ast.specs.declared.operator.BinOp.{BinOp}
use Rattle.cc_ast.specs.declared.operator.BinOp.TheVariants.{Instance}
use Rattle.cc_ast.specs.declared.operator.UnOp.{UnOp}
use Rattle.cc_ast.specs.declared.operator.UnOp.TheVariants.{Delete}
use Rattle.cc_ast.specs.declared.tree.Ref.{Ref}
use Rattle.cc_meaning.specs.State.{Path, Tables}
use Rattle.cc_meaning.specs.Monad.{pick}
use Rattle.cc_meaning.specs.Shapes.{longer, path_of_ref, path_of, path_of_target}
use Rattle.cc_meaning.specs.FlatPaths.{Use, called, constructed, tested, deleted, other, elsewhere, Mention, used, below, use_of, setting_of, operand_use, right_use, in_expr, in_target_of, in_exprs, in_fields, extended}
use Rattle.cc_tied.specs.Placed.{Place, a_value, an_assigned, a_callee, a_deleted, an_object, accesses, variable, builds, reaches, keeps, guard, operand}
use Rattle.cc_tied.specs.Rewrites.{put, re, re_target, re_all, re_fields}
use Rattle.cc_tied.proofs.Mixed.KeptPaths.{re_member, path_kept}
use Rattle.cc_fold.proofs.DroppingSteps.{Drops, re_any_call, re_index, re_cast, re_tick, path_back}
use Rattle.cc_fold.proofs.WellMade.LessMentions.{MayBecome, to_call, to_construct, to_test, to_other, Less, less_same, less_twice, less_both, less_further, less_as}

-- ---- the step

-- what comes in place of a node: the node, or an operand, wherever the node isn't a variable or an access
pub data Turned (e r : Expr) : Type 0 where
  stays_node : r ≡ e → Turned e r
  to_operand : variable e ≡ false → accesses e ≡ false → ((u : Use) → Less (in_expr u e) (in_expr other r)) → Turned e r

-- ---- where a use stands

-- a callee is called, and the operand of `delete` deleted
pub data Fits : Place → Use → Type 0 where
  fits_called : Fits a_callee called
  fits_deleted : Fits a_deleted deleted
  fits_constructed : (q : Place) → Fits q constructed
  fits_tested : (q : Place) → Fits q tested
  fits_other : (q : Place) → Fits q other

below_fits : {q : Place} {u : Use} → Fits q u → Fits q (below u)
unfolding below
below_fits fits_called = fits_called
below_fits fits_deleted = fits_deleted
below_fits (fits_constructed q) = fits_other q
below_fits (fits_tested q) = fits_other q
below_fits (fits_other q) = fits_other q

operand_fits : (op : UnOp) → Fits (operand op) (operand_use op)
unfolding operand operand_use
operand_fits Delete = fits_deleted
operand_fits op = fits_other a_value

right_fits : (op : BinOp) → Fits a_value (right_use op)
unfolding right_use
right_fits Instance = fits_tested a_value
right_fits op = fits_other a_value

-- ---- a value used in another way

-- a use to which nothing comes that isn't a value alone
free_for : Use → Expr → Bool
free_for called e = not (accesses e)
free_for deleted e = not (variable e) && not (accesses e)
free_for u e = true

become_global : (u : Use) (n : ℕ) (i : ℕ) → free_for u (var i (Ref.Global n)) ≡ true → MayBecome u (n, [])
unfolding free_for variable accesses
become_global called n i h = to_call (n, []) refl
become_global deleted n i h = absurd (cc)
become_global constructed n i h = to_construct (n, [])
become_global tested n i h = to_test (n, [])
become_global other n i h = to_other (n, [])

become_member : (u : Use) (w : Path) (i : ℕ) (e : Expr) (p : ℕ) → free_for u (member i e p) ≡ true → MayBecome u w
unfolding free_for variable accesses
become_member called w i e p h = absurd (cc)
become_member deleted w i e p h = absurd (cc)
become_member constructed w i e p h = to_construct w
become_member tested w i e p h = to_test w
become_member other w i e p h = to_other w

free_cast : (u : Use) (i d : ℕ) (e : Expr) → free_for u (cast i d e) ≡ true → free_for (below u) e ≡ true
unfolding free_for below variable accesses
free_cast called i d e h = h
free_cast deleted i d e h = h
free_cast constructed i d e h = refl
free_cast tested i d e h = refl
free_cast other i d e h = refl

free_tick : (u : Use) (i n : ℕ) (e : Expr) → free_for u (tick i n e) ≡ true → free_for (below u) e ≡ true
unfolding free_for below variable accesses
free_tick called i n e h = h
free_tick deleted i n e h = h
free_tick constructed i n e h = refl
free_tick tested i n e h = refl
free_tick other i n e h = refl

as_member : (u : Use) (o : Option Path) (ms : List Mention) → ((w : Path) → MayBecome u w) → Less (use_of o other ms) (use_of o u ms)
unfolding use_of
as_member u None ms b = less_same ms
as_member u (Some w) ms b = less_as w u (b w)

used_as : (u : Use) (e : Expr) → free_for u e ≡ true → Less (in_expr other e) (in_expr u e)
unfolding in_expr use_of path_of_ref below
used_as u (var i (Ref.Frame up n)) h = less_same []
used_as u (var i (Ref.Global n)) h = less_as (n, []) u (become_global u n i h)
used_as u (member i e p) h = as_member u (longer (path_of e) p) (in_expr other e) (λ w. become_member u w i e p h)
used_as u (cast i d e) h = used_as (below u) e (free_cast u i d e h)
used_as u (tick i n e) h = used_as (below u) e (free_tick u i n e h)
used_as u e h = less_same _

-- ---- paths

path_use : (u : Use) (e : Expr) (v : Path) → path_of e ≡ Some v → in_expr u e ≡ used v u ∷ []
unfolding in_expr path_of use_of
path_use u (var i r) v h = ap (λ z. use_of z u []) h
path_use u (member i e p) v h = ap (λ z. use_of z u (in_expr other e)) h
path_use u e v h = absurd (cc)

-- an access of what is rewritten, where paths stay
module _ (u : Use) (e d : Expr) (p : ℕ) (kept : (v : Path) → path_of e ≡ Some v → path_of d ≡ Some v) (less : Less (in_expr other e) (in_expr other d)) where
  member_by : (o r : Option Path) → path_of e ≡ o → path_of d ≡ r → Less (use_of (longer o p) u (in_expr other e)) (use_of (longer r p) u (in_expr other d))
  unfolding use_of longer
  member_by None None h k = less
  member_by None (Some v) h k = less_further v p u (in_expr other e) (subst (λ z. Less (in_expr other e) z) (path_use other d v k) less)
  member_by (Some v) None h k = let c = kept v h in absurd (cc)
  member_by (Some v) (Some w) h k = let c : v ≡ w = (let c = kept v h in cc) in subst (λ z. Less (used (extended v p) u ∷ []) (used (extended z p) u ∷ [])) c (less_same _)

  member_less : Less (use_of (longer (path_of e) p) u (in_expr other e)) (use_of (longer (path_of d) p) u (in_expr other d))
  member_less = member_by (path_of e) (path_of d) refl refl

setting_less : (o : Option Path) {ms ns : List Mention} → Less ms ns → Less (setting_of o elsewhere ms) (setting_of o elsewhere ns)
unfolding setting_of
setting_less None h = h
setting_less (Some w) h = less_same _

not_variable : (built : Ref → Bool) (e : Expr) → variable e ≡ false → builds built e ≡ false
unfolding variable builds
not_variable built (var i r) h = absurd (cc)
not_variable built (cast i d e) h = not_variable built e h
not_variable built (tick i n e) h = not_variable built e h
not_variable built e h = refl

-- ---- the rewriting

module _ (T : Tables) (built : Ref → Bool) (step : Expr → Expr) (step_call : ℕ → Expr → Exprs → Expr) (D : Drops T step step_call) (turned : (e : Expr) → Turned e (step e)) where
  abbrev R : Bool → Place → Expr → Expr
  R t q e = re built step step_call t q e

  -- ---- what the guard lets through

  called_free : (a b c d : Bool) → c ≡ false → d ≡ false → (a || b) && not (c || d) ≡ false → not a ≡ true
  called_free false b c d h k g = refl
  called_free true b false false h k g = absurd (cc)
  called_free true b true d h k g = absurd (cc)
  called_free true b false true h k g = absurd (cc)

  deleted_free : (a b c d v : Bool) → c ≡ false → d ≡ false → ((a || b) && not (c || d)) || v ≡ false → not v && not a ≡ true
  deleted_free false b c d false h k g = refl
  deleted_free a b c d true h k g = by_left ((a || b) && not (c || d)) g
    where
      by_left : (x : Bool) → x || true ≡ false → not true && not a ≡ true
      by_left true g = absurd (cc)
      by_left false g = absurd (cc)
  deleted_free true b false false false h k g = absurd (cc)
  deleted_free true b true d false h k g = absurd (cc)
  deleted_free true b false true false h k g = absurd (cc)

  let_through : (t : Bool) {q : Place} {u : Use} (e d : Expr) → Fits q u → variable e ≡ false → accesses e ≡ false → keeps built t q e d ≡ false → free_for u d ≡ true
  unfolding free_for keeps reaches
  let_through t e d fits_called v a k = called_free (accesses d) (builds built d) (accesses e) (builds built e) a (not_variable built e v) k
  let_through t e d fits_deleted v a k = deleted_free (accesses d) (builds built d) (accesses e) (builds built e) (variable d) a (not_variable built e v) k
  let_through t e d (fits_constructed q) v a k = refl
  let_through t e d (fits_tested q) v a k = refl
  let_through t e d (fits_other q) v a k = refl

  by_turn : (t : Bool) {q : Place} (u : Use) (e d : Expr) → Fits q u → Turned e d → keeps built t q e d ≡ false → Less (in_expr u e) (in_expr u d)
  by_turn t u e d f (stays_node h) k = subst (λ z. Less (in_expr u e) (in_expr u z)) (sym h) (less_same _)
  by_turn t u e d f (to_operand v a l) k = less_twice (l u) (used_as u d (let_through t e d f v a k))

  put_less : (t : Bool) (q : Place) (u : Use) (e : Expr) → Fits q u → {ms : List Mention} → Less ms (in_expr u e) → Less ms (in_expr u (put built step step_call t q e))
  unfolding put guard
  put_less t q u e f {ms = ms} h = by_test (keeps built t q e (step e)) refl
    where
      by_test : (k : Bool) → keeps built t q e (step e) ≡ k → Less ms (in_expr u (pick k e (step e)))
      by_test true g = h
      by_test false g = less_twice h (by_turn t u e (step e) f (turned e) g)

  as_node : (u : Use) {e d : Expr} {ms : List Mention} → e ≡ d → Less ms (in_expr u d) → Less ms (in_expr u e)
  as_node u {ms = ms} h k = subst (λ z. Less ms (in_expr u z)) (sym h) k

  -- a path within a target is a path as before
  path_within : (e : Expr) → path_of (R true an_object e) ≡ path_of e
  path_within e = by_paths (path_of e) (path_of (R true an_object e)) refl refl
    where
      by_paths : (o r : Option Path) → path_of e ≡ o → path_of (R true an_object e) ≡ r → path_of (R true an_object e) ≡ path_of e
      by_paths (Some w) r h k = path_kept built step step_call D.stays true an_object e w h ∙ sym h
      by_paths None (Some w) h k = k ∙ sym (path_back built step step_call T D e w k)
      by_paths None None h k = k ∙ sym h

  pub target_path : (u : Target) → path_of_target (re_target built step step_call u) ≡ path_of_target u
  unfolding path_of_target re_target
  target_path (to_var i r) = refl
  target_path (to_member i e p) = ap (λ z. longer z p) (path_within e)
  target_path (to_index i e k) = refl

  mutual
    unfolding re in_expr

    pub re_less : (t : Bool) (q : Place) (u : Use) (e : Expr) → Fits q u → Less (in_expr u e) (in_expr u (R t q e))
    re_less t q u (lit i p) f = less_same _
    re_less t q u (var i r) f = put_less t q u (var i r) f (less_same _)
    re_less t q u (this i) f = put_less t q u (this i) f (less_same _)
    re_less t q u (fun i g) f = put_less t q u (fun i g) f (less_same _)
    re_less t q u (list i es) f = put_less t q u _ f (all_less t es)
    re_less t q u (object i fs) f = put_less t q u _ f (fields_less t fs)
    re_less t q u (unary i op e) f = put_less t q u _ f (re_less t (operand op) (operand_use op) e (operand_fits op))
    re_less t q u (binary i op a b) f = put_less t q u _ f (less_both (re_less t a_value other a (fits_other a_value)) (re_less t a_value (right_use op) b (right_fits op)))
    re_less t q u (and i a b) f = put_less t q u _ f (less_both (re_less t a_value other a (fits_other a_value)) (re_less t a_value other b (fits_other a_value)))
    re_less t q u (or i a b) f = put_less t q u _ f (less_both (re_less t a_value other a (fits_other a_value)) (re_less t a_value other b (fits_other a_value)))
    re_less t q u (cond i e a b) f = put_less t q u _ f (less_both (less_both (re_less t a_value other e (fits_other a_value)) (re_less t a_value other a (fits_other a_value))) (re_less t a_value other b (fits_other a_value)))
    re_less t q u (assign i op x e) f = put_less t q u _ f (less_both (target_less x) (re_less t an_assigned other e (fits_other an_assigned)))
    re_less t q u (step_of i up prefix x) f = put_less t q u _ f (target_less x)
    re_less t q u (member i e p) f =
        as_node u (re_member built step step_call D.stays t q i e p)
        (member_less u e (R t an_object e) p (path_kept built step step_call D.stays t an_object e) (re_less t an_object other e (fits_other an_object)))
    re_less t q u (index i e k) f = as_node u (re_index built step step_call T D t q i e k) (less_both (re_less t an_object other e (fits_other an_object)) (re_less t a_value other k (fits_other a_value)))
    re_less t q u (call i g es) f = as_node u (re_any_call built step step_call T D t q i g es) (less_both (re_less t a_callee called g fits_called) (all_less t es))
    re_less t q u (new i g es) f = put_less t q u _ f (less_both (re_less t a_callee constructed g (fits_constructed a_callee)) (all_less t es))
    re_less t q u (comma i a b) f = put_less t q u _ f (less_both (re_less t a_value other a (fits_other a_value)) (re_less t a_value other b (fits_other a_value)))
    re_less t q u (cast i d e) f = as_node u (re_cast built step step_call T D t q i d e) (re_less t q (below u) e (below_fits f))
    re_less t q u (tick i n e) f = as_node u (re_tick built step step_call T D t q i n e) (re_less t q (below u) e (below_fits f))

    pub target_less : (x : Target) → Less (in_target_of x) (in_target_of (re_target built step step_call x))
    target_less (to_var i r) = less_same _
    target_less (to_member i e p) =
        subst (λ z. Less (setting_of (longer (path_of e) p) elsewhere (in_expr other e)) (setting_of (longer z p) elsewhere (in_expr other (R true an_object e)))) (sym (path_within e))
        (setting_less (longer (path_of e) p) (re_less true an_object other e (fits_other an_object)))
    target_less (to_index i e k) = less_both (re_less true an_object other e (fits_other an_object)) (re_less true a_value other k (fits_other a_value))

    all_less : (t : Bool) (es : Exprs) → Less (in_exprs es) (in_exprs (re_all built step step_call t es))
    all_less t no_exprs = less_same _
    all_less t (more_exprs e es) = less_both (re_less t a_value other e (fits_other a_value)) (all_less t es)

    fields_less : (t : Bool) (fs : Fields) → Less (in_fields fs) (in_fields (re_fields built step step_call t fs))
    fields_less t no_fields = less_same _
    fields_less t (more_fields k e fs) = less_both (re_less t a_value other e (fits_other a_value)) (fields_less t fs)
