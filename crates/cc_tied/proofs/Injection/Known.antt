-- Known globals under the injection: their declarations set them, and what is read of them is known.
use Rattle.std.proofs.Common.{◌≡◌, ◌≢◌, ◌⊎◌, inl, inr, ℕ, zero, suc, List, [], ◌∷◌, Option, Some, None, refl, sym, subst}
use Rattle.std.specs.Prelude.{slice_get, slice_set}
use Rattle.cc_ast.specs.Syntax.{Prim}
use Rattle.cc_ast.specs.declared.tree.Ref.{Ref}
use Rattle.cc_meaning.specs.Values.{Val, prim, Spot}
use Rattle.cc_meaning.specs.State.{Env, State, Tables}
use Rattle.cc_meaning.specs.Store.{flat_option}
use Rattle.cc_meaning.specs.Acts.{set_global, write_var}
use Rattle.cc_meaning.specs.Script.{checked}
use Rattle.cc_tied.specs.Tied.{prim_t}
use Rattle.cc_tied.specs.Facts.{Held, holds_literal, Facts}
use Rattle.cc_tied.proofs.Lists.{place_cases, get_set_other}
use Rattle.cc_tied.proofs.Sim.{Tie, World, Sim}
use Rattle.cc_tied.proofs.Injection.Places.{places_set}
use Rattle.cc_tied.proofs.Injection.World.{Tabs, KnownT, unset_k, literal_k}
use Rattle.cc_tied.proofs.Injection.Types.{shared_global}
use Rattle.cc_tied.proofs.Injection.Tie.{Other, view, Ctx, EnvI, SetI, sets_known, TiedI, inject}
use Rattle.cc_tied.proofs.Injection.Frames.{keep_at, global_budget}

-- a place that was set, or is beyond the end
pub set_cases : {A : Type 0} (xs : List (Option A)) (n : ℕ) (x : A) → (flat_option (slice_get (slice_set xs n (Some x)) n) ≡ Some x) ⊎ (flat_option (slice_get (slice_set xs n (Some x)) n) ≡ None)
unfolding flat_option
set_cases [] n x = inr refl
set_cases (y ∷ xs) zero x = inl refl
set_cases (y ∷ xs) (suc n) x = set_cases xs n x

module _ (F : Facts) (S : Tables) (set' : Other S) where
  abbrev T : Tie
  T = inject F S set'

  abbrev W : Type 0
  W = World T

  abbrev Tied : Tabs → State → State → Type 0
  Tied = TiedI F S set'

  abbrev Done : W → Unit {0} → Unit {0} → Type 0
  Done v a b = Unit {0}

  -- ---- literals

  literal_here : {w : Tabs} {x : List (Option Val)} {g : ℕ} {p : Prim} {o : Option Val} → (o ≡ Some (prim p)) ⊎ (o ≡ None) → KnownT w x g (holds_literal p) o
  literal_here (inl e) = rw e literal_k
  literal_here (inr e) = rw e unset_k

  literal_known : {w : Tabs} {s t : State} → Tied w s t → (n : ℕ) (p : Prim) → ((h : Held) → F.Known n h → h ≡ holds_literal p) → (g : ℕ) (h : Held) → F.Known g h → (n ≡ g) ⊎ (n ≢ g) → KnownT w w.still g h (flat_option (slice_get (slice_set s.globals n (Some (prim p))) g))
  literal_known {w = w} {s = s} ti n p u g h k (inl e) =
      let d : h ≡ holds_literal p = u h (subst (λ z. F.Known z h) (sym e) k) in
      rw (d, ← e) (literal_here (set_cases s.globals n (prim p)))
  literal_known {w = w} {s = s} ti n p u g h k (inr e) = subst (λ z. KnownT w w.still g h (flat_option z)) (sym (get_set_other s.globals n g (Some (prim p)) e)) (ti.known g h k)

  literal_set : {w : Tabs} {s t : State} → Tied w s t → (n : ℕ) (p : Prim) → ((h : Held) → F.Known n h → h ≡ holds_literal p) → (set'.Foreign n → ⊥) → Tied w (set_global n (prim p) s) (set_global n (prim p) t)
  unfolding set_global
  literal_set {w = w} {s = s} {t = t} ti n p u f = record { tables = ti.tables; tables' = ti.tables'; objs = ti.objs; owned = ti.owned; mated = ti.mated; frames = ti.frames; globals = places_set ti.globals n prim_t; known = λ g h k. literal_known ti n p u g h k (place_cases n g); loaded = ti.loaded; begun = ti.begun; failed = ti.failed; constructed = ti.constructed; handles = ti.handles; replies = ti.replies; budget = ti.budget; extra = set'.rider.both_set (view w s t) n f (prim p) (prim p) ti.extra }

  pub set_known_t : {w : W} (i i' : Spot) {c : Ctx} {g h : Env} {r : Ref} {p : Prim} → EnvI F S set' w.w c g h → SetI F S set'.Foreign c r p → Sim T Done w (write_var checked i g r (prim p)) (write_var checked i' h r (prim p))
  unfolding write_var
  set_known_t i i' {p = p} e (sets_known {n = n} k u f) s t ti le le' = keep_at F S set' i i' (shared_global {n = n} f) prim_t (set_global n (prim p)) (set_global n (prim p)) ti le le' (global_budget F S set' n (prim p)) (global_budget F S set' n (prim p)) (literal_set ti n p u f)
