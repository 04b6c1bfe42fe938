-- The pairs of a flat path and its global, wherever a path may stand but as what is written to.
use Rattle.std.proofs.Common.{◌≡◌, refl, sym, ap, subst, ◌∙◌, ℕ, Bool, false, Option, None}
use Rattle.cc_ast.specs.Syntax.{Expr, var, member}
use Rattle.cc_ast.specs.declared.tree.Ref.{Ref}
use Rattle.cc_meaning.specs.Values.{at_site}
use Rattle.cc_meaning.specs.State.{Env, Path, State, Tables}
use Rattle.cc_meaning.specs.Monad.{ret, after, ◌>>=◌, with_tables}
use Rattle.cc_meaning.specs.Store.{of_chunk, global_kind}
use Rattle.cc_meaning.specs.Acts.{read_var}
use Rattle.cc_meaning.specs.Calls.{plain, Bodies, value, value_of}
use Rattle.cc_meaning.specs.Meaning.{reach_global, reach_var, ev}
use Rattle.cc_meaning.specs.Script.{checked}
use Rattle.cc_tied.specs.Facts.{Facts}
use Rattle.cc_tied.specs.Placed.{variable, builds}
use Rattle.cc_tied.proofs.Kit.{Kit}
use Rattle.cc_tied.proofs.Parts.{V, Below}
use Rattle.cc_tied.proofs.Laws.{bind_ret}
use Rattle.cc_tied.proofs.AtValues.{plain_value}
use Rattle.cc_tied.proofs.Sim.{ResT, after_t, sim_ret}
use Rattle.cc_tied.proofs.Expressions as E
use Rattle.cc_tied.proofs.Valued as Vd
use Rattle.cc_tied.proofs.Injection.Upkeep.{inject_kit}
use Rattle.cc_collapse.proofs.FlatRider.{Plan, flat_other}
use Rattle.cc_collapse.proofs.FlatHolders.{HolderAt}
use Rattle.cc_collapse.proofs.FlatReads.{T, HomeT, flat_read, as_left}
use Rattle.cc_collapse.proofs.FlatCalls.{flat_callee}

module _ (B : Bodies) (g : Env) (i n c : ℕ) (t : State) (e : global_kind t.tables n ≡ of_chunk c) where
  pub var_runs : (p : Option Path) → ev checked B g p (var i (Ref.Global n)) t ≡ (read_var checked (at_site i) g (Ref.Global n) >>= λ v. ret (plain v)) t
  unfolding ev reach_var with_tables reach_global
  var_runs p = ap (λ z. reach_global checked i g n z t) e

  pub var_value : (p : Option Path) → value checked B (ev checked B g p (var i (Ref.Global n))) t ≡ read_var checked (at_site i) g (Ref.Global n) t
  unfolding value ◌>>=◌
  var_value p = ap (λ z. after z (value_of checked B)) (var_runs p) ∙ ap (λ z. z t) (plain_value checked B (read_var checked (at_site i) g (Ref.Global n)))

module _ (F : Facts) (S : Tables) (P : Plan S) where
  abbrev pub K : Kit
  K = inject_kit F S (flat_other S P)

  abbrev nothing_built : Ref → Bool
  nothing_built r = false

  module _ (X : Below K) (c : K.Ctx) (h p : ℕ) (is : P.Child h p) (single : (i : ℕ) → P.Inner h p i → ⊥) (e : Expr) (a : HolderAt S P h e) (home : (v : K.World) → K.Later X.w v → (g g' : Env) → K.EnvT c v g g' → HomeT F S P v.w h p) (i i' : ℕ) where
    abbrev old : Expr
    old = member i e p

    abbrev new : Expr
    new = var i' (Ref.Global (P.fresh h p))

    pub flat_values : (q q' : Option Path) → E.FollowsAs K X (V K) c q q' old new
    flat_values q q' = record {
      by = λ v l g g' en s t ti le le'.
          subst (λ z. ResT (T F S P) (V K) v (value checked X.B (ev checked X.B g q old) s) z) (sym (var_value X.B' g' i' (P.fresh h p) (P.home h p) t (ap (λ z. global_kind z (P.fresh h p)) ti.tables' ∙ P.fresh_kind h p is) q'))
          (flat_read F S P X.B h p is single a (home v l g g' en) i (at_site i') g g' q s t ti le le');
    }

    pub flat_called : E.FollowsCallee K X c old new
    flat_called = record { by = λ v l g g' en. flat_callee F S P X.B h p is single a (home v l g g' en) X.B' i i' g g' }

    flat_plain : Vd.FollowsPlain K X nothing_built c old new
    unfolding ◌>>=◌
    flat_plain = record {
      by = λ v l g g' en s t ti le le'.
          as_left F S P (sym (ap (λ z. z s) (bind_ret (value checked X.B (ev checked X.B g None old)))))
          (subst (λ z. ResT (T F S P) (Vd.PlainT K X nothing_built) v (after (value checked X.B (ev checked X.B g None old) s) ret) z) (sym (var_runs X.B' g' i' (P.fresh h p) (P.home h p) t (ap (λ z. global_kind z (P.fresh h p)) ti.tables' ∙ P.fresh_kind h p is) None))
          (after_t (T F S P) (λ u m x y q. sim_ret (T F S P) x (plain y) (Vd.plain_p q)) (flat_read F S P X.B h p is single a (home v l g g' en) i (at_site i') g g' None s t ti le le')));
    }

    flat_valued : Vd.FollowsValue K X nothing_built c old new
    flat_valued = record { site = tt; values = flat_values; plain = λ q. flat_plain }

    pub flat_on : E.FollowsOn K X c old new
    unfolding variable builds
    flat_on = Vd.from_on K X nothing_built c (Vd.valued_t flat_valued refl refl)
