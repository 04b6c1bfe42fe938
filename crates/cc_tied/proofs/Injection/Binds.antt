-- Functions that are bound to known globals before a chunk's own list runs.
use Rattle.std.proofs.Common.{◌≡◌, ◌≢◌, ◌⊎◌, inl, inr, ℕ, Bool, true, false, List, [], Option, Some, None, refl, sym, ap, subst, ◌∙◌, arith}
use Rattle.std.specs.Prelude.{slice_get, slice_set}
use Rattle.cc_ast.specs.Syntax.{Stmt, fun_decl, Stmts, no_stmts, more_stmts}
use Rattle.cc_ast.specs.declared.tree.Ref.{Ref}
use Rattle.cc_meaning.specs.Values.{Val, Spot, at_site}
use Rattle.cc_meaning.specs.State.{State, Tables}
use Rattle.cc_meaning.specs.Monad.{M, ret, stop, ◌>>=◌, after, with_tables}
use Rattle.cc_meaning.specs.Store.{flat_option}
use Rattle.cc_meaning.specs.Typed.{global}
use Rattle.cc_meaning.specs.Judge.{Act, keeps, least_broken}
use Rattle.cc_meaning.specs.Acts.{judged, allowed, refused, is_fatal, changing, set_global, keep, write_var}
use Rattle.cc_meaning.specs.Meaning.{hoist_one, hoist}
use Rattle.cc_meaning.specs.Script.{checked, top}
use Rattle.cc_meaning.specs.Alike.{In}
use Rattle.cc_tied.specs.Facts.{Held, holds_function, Facts}
use Rattle.cc_tied.proofs.Lists.{place_cases, get_set_other}
use Rattle.cc_tied.proofs.Parts.{list_as}
use Rattle.cc_tied.proofs.Sim.{Tie, World, Later, Sim, sim_bind, sim_ret}
use Rattle.cc_tied.proofs.Runs.{IsExact}
use Rattle.cc_tied.specs.Fine.{FineStmt, FineStmts}
use Rattle.cc_tied.proofs.Kit.{Kit}
use Rattle.cc_tied.proofs.Rewriting.{Standing, BindsT, bound_by_write, bound_alone}
use Rattle.cc_tied.proofs.Rewriting as R
use Rattle.cc_tied.proofs.Statements.{declares_function, hoists_nothing}
use Rattle.cc_tied.proofs.Injection.Upkeep.{inject_kit}
use Rattle.cc_tied.proofs.Whole.{WholeT, ok_w, broken_w, Whole, Nothing, whole_of, whole_bind}
use Rattle.cc_tied.proofs.Injection.Table.{table_more}
use Rattle.cc_tied.proofs.Injection.Places.{places_more, places_set}
use Rattle.cc_tied.proofs.Injection.World.{Tabs, Ext, mates_more, Vals, val_more, FunctionAt, no_function, KnownT, function_k, unset_k, literal_k, obj_more, frame_more, known_more}
use Rattle.cc_tied.proofs.Injection.Types.{shared_global}
use Rattle.cc_tied.proofs.Injection.Tie.{Other, view, Ctx, at, StandI, WriteI, env_top, BindI, binds_known, with_set, TiedI, inject}
use Rattle.cc_tied.proofs.Injection.Made.{MadeT, function_made_t, function_t}
use Rattle.cc_tied.proofs.Injection.Frames.{write_var_t, keep_none, received_t, global_budget}
use Rattle.cc_tied.proofs.Injection.Known.{set_cases}

module _ (F : Facts) (S : Tables) (set' : Other S) where
  abbrev Right : Tables
  Right = with_set S set'

  abbrev T : Tie
  T = inject F S set'

  abbrev W : Type 0
  W = World T

  abbrev K : Kit
  K = inject_kit F S set'

  abbrev Tied : Tabs → State → State → Type 0
  Tied = TiedI F S set'

  -- ---- acts

  refused_whole : {A B : Type 0} {I : W → Type 0} {Q : W → A → B → Type 0} {w : W} (i : Spot) (b : Bool) (r : ℕ) (m : M A) (s : State) {y : Rattle.cc_meaning.specs.Monad.Res B} → WholeT T I Q w (refused checked i b r m s) y
  unfolding refused stop ◌>>=◌ after
  refused_whole i true r m s = broken_w tt
  refused_whole i false r m s = broken_w tt

  -- where the left act breaks no rule, the right one breaks none
  judged_whole : {A B : Type 0} {I : W → Type 0} {Q : W → A → B → Type 0} {w : W} (i i' : Spot) (a a' : Act) (m : M A) (m' : M B) {s t : State} → Tied w.w s t → (least_broken S s a ≡ None → (least_broken Right t a' ≡ None) × WholeT T I Q w (m s) (m' t)) → WholeT T I Q w (judged checked i a m s) (judged checked i' a' m' t)
  unfolding judged allowed
  judged_whole {I = I} {Q = Q} {w = w} i i' a a' m m' {s = s} {t = t} ti h = by_rule (least_broken s.tables s a) refl
    where
      by_rule : (o : Option ℕ) → least_broken s.tables s a ≡ o → WholeT T I Q w (allowed checked i a o m s) (allowed checked i' a' (least_broken t.tables t a') m' t)
      by_rule None e = let k = h (sym (ap (λ z. least_broken z s a) ti.tables) ∙ e) in subst (λ z. WholeT T I Q w (m s) (allowed checked i' a' z m' t)) (sym (ap (λ z. least_broken z t a') ti.tables' ∙ k.0)) k.1
      by_rule (Some r) e = refused_whole i (is_fatal a r) r m s

  -- ---- a known global is bound

  abbrev with_still : Tabs → List (Option Val) → Tabs
  with_still w x = record w { still = x }

  ext_still : (w : Tabs) (x : List (Option Val)) → Ext w (with_still w x)
  ext_still w x = record { objs = λ q h. h; frames = λ q h. h; spare = λ q h. h; alone = λ q h. h; begun = λ c h. h }

  now_still : {w : Tabs} {x : List (Option Val)} {g : ℕ} {h : Held} {o : Option Val} (y : List (Option Val)) → o ≡ flat_option (slice_get y g) → KnownT w x g h o → KnownT w y g h o
  now_still y e (function_k k d) = function_k k e
  now_still y e unset_k = unset_k
  now_still y e literal_k = literal_k

  function_here : {w : Tabs} {x : List (Option Val)} {g f : ℕ} {v : Val} {o : Option Val} → FunctionAt w f (Some v) → o ≡ flat_option (slice_get x g) → (o ≡ Some v) ⊎ (o ≡ None) → KnownT w x g (holds_function f) o
  function_here {w = w} {f = f} h d (inl e) = function_k (subst (λ z. FunctionAt w f z) (sym e) h) d
  function_here {w = w} {f = f} h d (inr e) = function_k (subst (λ z. FunctionAt w f z) (sym e) no_function) d

  function_known : {w : Tabs} {s t : State} → Tied w s t → (n f : ℕ) (v : Val) → FunctionAt w f (Some v) → ((h : Held) → F.Known n h → h ≡ holds_function f) → (g : ℕ) (h : Held) → F.Known g h → (n ≡ g) ⊎ (n ≢ g) → KnownT w (slice_set s.globals n (Some v)) g h (flat_option (slice_get (slice_set s.globals n (Some v)) g))
  function_known {s = s} ti n f v k u g h d (inl e) =
      let q : h ≡ holds_function f = u h (subst (λ z. F.Known z h) (sym e) d) in
      rw (q, ← e) (function_here k refl (set_cases s.globals n v))
  function_known {w = w} {s = s} ti n f v k u g h d (inr e) = now_still (slice_set s.globals n (Some v)) refl (subst (λ z. KnownT w w.still g h (flat_option z)) (sym (get_set_other s.globals n g (Some v) e)) (ti.known g h d))

  -- in a world where known globals hold what they hold now
  function_bound : {w : Tabs} {s t : State} → Tied w s t → (n f : ℕ) {u v : Val} → MadeT w f u v → ((h : Held) → F.Known n h → h ≡ holds_function f) → (set'.Foreign n → ⊥) → Tied (with_still w (slice_set s.globals n (Some u))) (set_global n u s) (set_global n v t)
  unfolding set_global
  function_bound {w = w} {s = s} {t = t} ti n f {u = u} {v = v} m k fo =
      let e = ext_still w (slice_set s.globals n (Some u)) in record {
        tables = ti.tables;
        tables' = ti.tables';
        objs = table_more ti.objs (obj_more F S e);
        owned = ti.owned;
        mated = ti.mated;
        frames = table_more ti.frames (frame_more F S e);
        globals = places_more (val_more e) (places_set ti.globals n m.vals);
        known = λ g h d. known_more e (function_known ti n f u m.made k g h d (place_cases n g));
        loaded = ti.loaded;
        begun = ti.begun;
        failed = ti.failed;
        constructed = ti.constructed;
        handles = list_as (λ a b o. mates_more e o) ti.handles;
        replies = ti.replies;
        budget = ti.budget;
        extra = set'.rider.both_set (view w s t) n fo u v ti.extra;
      }

  module _ (exact : IsExact T) (chunk : ℕ) where
    -- the chunk is loaded
    abbrev Loaded : W → Type 0
    Loaded v = In chunk v.w.begun

    loaded_on : {w : W} → Loaded w → (v : W) → Later T w v → Loaded v
    loaded_on b v l = l.2.ext.begun chunk b

    keep_bound : {w : W} → Loaded w → (i i' : Spot) (n f : ℕ) {u v : Val} → MadeT w.w f u v → ((h : Held) → F.Known n h → h ≡ holds_function f) → (set'.Foreign n → ⊥) → Whole T Loaded (Nothing T) w (keep checked i (global n) u (set_global n u)) (keep checked i' (global n) v (set_global n v))
    unfolding keep changing ret least_broken
    keep_bound {w = w} lo i i' n f {u = u} {v = v} m k fo =
        whole_bind T {R = λ z a b. Vals z.w u v} (λ s t ti le le'. judged_whole i i' (keeps (global n) u) (keeps (global n) v) (changing (set_global n u)) (changing (set_global n v)) ti (λ q.
        let b = global_budget F S set' n u s in let b' = global_budget F S set' n v t in
        let e = ext_still w.w (slice_set s.globals n (Some u)) in
        (keep_none F S set' ti (shared_global {n = n} fo) m.vals q, ok_w refl (record { l = w.l; r = w.r; w = with_still w.w (slice_set s.globals n (Some u)) }) (omega arith, omega arith) lo (val_more e _ _ m.vals) (function_bound ti n f m k fo) (omega arith) (omega arith)))) (λ z l lo2 _ _ h.
        whole_of T {R = Nothing T} exact (loaded_on lo2) (received_t F S set' (shared_global {n = n} fo) h))

    write_bound : {w : W} → Loaded w → (i i' : Spot) (n f : ℕ) {u v : Val} → MadeT w.w f u v → ((h : Held) → F.Known n h → h ≡ holds_function f) → (set'.Foreign n → ⊥) → Whole T Loaded (Nothing T) w (write_var checked i top (Ref.Global n) u) (write_var checked i' top (Ref.Global n) v)
    unfolding write_var
    write_bound lo i i' n f m k fo s t ti le le' = keep_bound lo i i' n f m k fo s t ti le le'

    -- a declaration of a function that is known of a global
    pub binds_t : {w : W} → Loaded w → (i : ℕ) {r : Ref} {f : ℕ} → StandI F (at None 0) f f → BindI F S set'.Foreign (at None 0) r f → Whole T Loaded (Nothing T) w (hoist_one checked top (fun_decl i r f)) (hoist_one checked top (fun_decl i r f))
    unfolding hoist_one
    binds_t lo i {f = f} st (binds_known {n = n} d k fo) =
        whole_bind T {R = λ v. MadeT v.w f} (whole_of T exact (loaded_on lo) (function_made_t F S set' i i st (env_top F S set' {d = []} {d' = []} (record { keeps = λ g e. e })))) (λ v l lo2 x y m.
        write_bound lo2 (at_site i) (at_site i) n f m k fo)

    written_t : {w : W} (i : ℕ) {r : Ref} {f : ℕ} → StandI F (at None 0) f f → WriteI F S set'.Foreign (at None 0) r r → Sim T (Nothing T) w (hoist_one checked top (fun_decl i r f)) (hoist_one checked top (fun_decl i r f))
    unfolding hoist_one
    written_t i st wr = sim_bind T {R = λ v. Vals v.w} (function_t F S set' i i st (env_top F S set' {d = []} {d' = []} (record { keeps = λ g e. e }))) (λ v l x y h. write_var_t F S set' (at_site i) (at_site i) (env_top F S set' {d = []} {d' = []} (record { keeps = λ g e. e })) wr h)

    one_bound : {w : W} → Loaded w → (i : ℕ) (r : Ref) (f : ℕ) → BindsT K (at None 0) r f → StandI F (at None 0) f f → Whole T Loaded (Nothing T) w (hoist_one checked top (fun_decl i r f)) (hoist_one checked top (fun_decl i r f))
    one_bound lo i r f (bound_by_write wr) st = whole_of T exact (loaded_on lo) (written_t i st wr)
    one_bound lo i r f (bound_alone h) st = binds_t lo i st h

    none_bound : {w : W} → Loaded w → (s : Stmt) → declares_function s ≡ false → Whole T Loaded (Nothing T) w (hoist_one checked top s) (hoist_one checked top s)
    none_bound lo s e = rw (hoists_nothing checked top s e) (whole_of T exact (loaded_on lo) (sim_ret T tt tt tt))

    module _ (Stands : Standing Ctx) where
      statement_bound : {w : W} → Loaded w → (s : Stmt) → FineStmt Ctx (R.allowed K Stands) (at None 0) [] s → Whole T Loaded (Nothing T) w (hoist_one checked top s) (hoist_one checked top s)
      unfolding FineStmt declares_function
      statement_bound lo (fun_decl i r f) o = one_bound lo i r f o.0 o.1
      statement_bound lo s o = none_bound lo s refl

      -- the functions of a chunk's own list
      pub list_bound : {w : W} → Loaded w → (ss : Stmts) → FineStmts Ctx (R.allowed K Stands) (at None 0) [] ss → Whole T Loaded (Nothing T) w (hoist checked top ss) (hoist checked top ss)
      unfolding hoist FineStmt
      list_bound lo no_stmts o = whole_of T exact (loaded_on lo) (sim_ret T tt tt tt)
      list_bound lo (more_stmts s ss) o = whole_bind T {R = Nothing T} (statement_bound lo s o.1) (λ v l lo2 _ _ _. list_bound lo2 ss o.2)
