-- A flat path that is written to, on the left, and its global on the right: both are read and written alike from then on.
use Rattle.std.proofs.Common.{◌≡◌, ℕ, true, [], Some, None, refl, sym, ap, subst, ◌∙◌, arith}
use Rattle.cc_ast.specs.Syntax.{Prim, undefined, Expr, to_var, to_member}
use Rattle.cc_ast.specs.declared.tree.Ref.{Ref}
use Rattle.cc_tied.proofs.Sim.{broken_t}
use Rattle.cc_tied.proofs.Parts.{Done}
use Rattle.cc_meaning.specs.Values.{Val, prim, obj, at_site}
use Rattle.cc_meaning.specs.Builtins.{or_undefined}
use Rattle.cc_meaning.specs.State.{Env, State, Tables}
use Rattle.cc_meaning.specs.Monad.{M, Res, ok, ret, skip, after, ◌>>=◌, with_tables}
use Rattle.cc_meaning.specs.Store.{Access, dotted, kind_by, kind_for, flat_of, find_slot}
use Rattle.cc_meaning.specs.SlotRules.{write_rule}
use Rattle.cc_meaning.specs.Judge.{writes, least_broken}
use Rattle.cc_meaning.specs.Acts.{is_loaded, global_value, read_var, write_var}
use Rattle.cc_meaning.specs.Calls.{Reference, Bodies, get, put_on, put_to, keep_path, declares_on}
use Rattle.cc_meaning.specs.Meaning.{Place, variable_place, slot_place, reference, get_place, put_place, ev_target}
use Rattle.cc_meaning.specs.Shapes.{longer, path_of}
use Rattle.cc_meaning.specs.FlatPaths.{extended}
use Rattle.cc_meaning.specs.Script.{checked}
use Rattle.cc_meaning.specs.Alike.{In, here}
use Rattle.cc_tied.specs.Facts.{Facts}
use Rattle.cc_tied.proofs.Parts.{Below}
use Rattle.cc_tied.proofs.Expressions as E
use Rattle.cc_tied.proofs.Laws.{said_none, bind_ret}
use Rattle.cc_tied.proofs.Sim.{ResT, ok_t, Sim, fine}
use Rattle.cc_tied.proofs.Injection.Frames.{undefined_tied}
use Rattle.cc_tied.proofs.Injection.Acts.{with_begun, ext_begun, begun_now}
use Rattle.cc_tied.proofs.Injection.World.{Vals}
use Rattle.cc_collapse.proofs.FlatRider.{Plan, once, flat_other, name}
use Rattle.cc_collapse.proofs.FlatHolders.{HolderAt, way_on, refer, get_at, holder_value, value_runs}
use Rattle.cc_collapse.proofs.FlatReads.{Stops, T, W, Tied, HomeT, home_loaded, plain_of, as_left, left_any, holder_then, slot_then, undeclared_then, right_value}
use Rattle.cc_collapse.proofs.FlatPairs.{K}
use Rattle.cc_collapse.proofs.FlatWrites.{Globals, written, path_keeps, slot_put}

module _ (F : Facts) (S : Tables) (P : Plan S) (G : Globals F S P) (h p : ℕ) (is : P.Child h p) (single : (i : ℕ) → P.Inner h p i → ⊥) where
  abbrev key : Access
  key = dotted p

  -- what the left writes to, on this value
  abbrev refer_to : (site : ℕ) → Val → Reference
  refer_to i o = record { site = i; on = o; key = key; path = Some ((P.path h).0, P.number h p); casts = [] }

  refers : (i : ℕ) (o : Val) (s : State) → s.tables ≡ S → refer S P i h p o s ≡ ok [] (refer_to i o) s
  unfolding reference with_tables ret
  refers i o s e = ap (λ z. ok [] (record { site = i; on = o; key = key; path = z; casts = [] }) s) (ap (λ z. flat_of z (Some (extended (P.path h) p))) e ∙ P.is_flat h p is)

  refer_get : (B : Bodies) (i : ℕ) (o : Val) (s : State) → s.tables ≡ S → get checked B (refer_to i o) s ≡ (get_at S P B i h p o >>= ret) s
  unfolding ◌>>=◌ after
  refer_get B i o s e = sym (ap (λ z. z s) (bind_ret (get_at S P B i h p o)) ∙ ap (λ z. after z (λ x. get checked B x)) (refers i o s e) ∙ said_none _)

  -- ---- where the holder is declared

  module _ (u : W F S P) (m n : ℕ) (at : In (once h m n) u.w.stage) (loaded : (s : State) (t : State) → Tied F S P u.w s t → is_loaded t (P.home h p) ≡ true) where
    held_gets : (B : Bodies) (i i' : ℕ) (g' : Env) → Sim (T F S P) (λ v. Vals v.w) u (get checked B (refer_to i (obj m))) (read_var checked (at_site i') g' (Ref.Global (P.fresh h p)))
    unfolding ret global_value
    held_gets B i i' g' s t ti le le' =
        let d = ti.extra.held h m n at in
        as_left F S P (refer_get B i (obj m) s ti.tables)
        (slot_then F S P B h p is i ret s t d ti.tables (λ r.
        subst (λ z. ResT (T F S P) (λ v. Vals v.w) u (ok [] (or_undefined (find_slot d.object.slots (name S P p))) s) z) (sym (right_value F S P B h p is single (at_site i') g' ti d (loaded s t ti) r))
        (fine (T F S P) _ _ (undefined_tied (plain_of F S P single (d.cells p is))) ti le le')))

    held_puts : (i i' : ℕ) (g g' : Env) {x y : Val} → Vals u.w x y → Sim (T F S P) (λ v a b. Unit {0}) u (put_to checked g (refer_to i (obj m)) x) (write_var checked (at_site i') g' (Ref.Global (P.fresh h p)) y)
    unfolding put_to ◌>>=◌ write_var
    held_puts i i' g g' {x = x} {y = y} v s t ti le le' =
        let d = ti.extra.held h m n at in
        slot_put F S P G h p (λ z. ResT (T F S P) (λ v a b. Unit {0}) u z (write_var checked (at_site i') g' (Ref.Global (P.fresh h p)) y t)) (λ l r j. broken_t tt) (at_site i) m (kind_by key) x (declares_on s g.declares (obj m)) (λ _. keep_path checked (at_site i) (Some ((P.path h).0, P.number h p)) x) s d.object d.stands d.plain ti.tables
        (path_keeps F S P G h p is single (at_site i) (at_site i') _ t v (written F S P G h p is single ti at d (kind_for S (name S P p) (kind_by key)) v) ti.tables' le le')

  -- ---- where it isn't, the left breaks a rule at the read and at the write

  free_gets : {C : Type 0} {Q : W F S P → Val → C → Type 0} (u : W F S P) (B : Bodies) (i : ℕ) (s : State) {y : Res C} → s.tables ≡ S → ResT (T F S P) Q u (get checked B (refer_to i (prim undefined)) s) y
  free_gets {Q = Q} u B i s e = as_left F S P (refer_get B i (prim undefined) s e) (undeclared_then F S P B h p is i ret s e)

  none_some : {A : Type 0} {r : ℕ} → Some r ≡ None → A
  none_some d = absurd (cc)

  pub free_any : (G : Res (Unit {0}) → Type 0) → Stops G → (i : ℕ) (g : Env) (x : Val) (s : State) → s.tables ≡ S → G (put_to checked g (refer_to i (prim undefined)) x s)
  unfolding put_to put_on least_broken write_rule ◌>>=◌
  free_any G stops i g x s e = left_any G stops S (at_site i) (writes (prim undefined) key x (declares_on s g.declares (prim undefined))) skip (λ _. keep_path checked (at_site i) (Some ((P.path h).0, P.number h p)) x) s e (λ d. none_some d)

  -- ---- the pair

  module _ (X : Below (K F S P)) (c : (K F S P).Ctx) (e : Expr) (a : HolderAt S P h e) (home : (v : (K F S P).World) → (K F S P).Later X.w v → (g g' : Env) → (K F S P).EnvT c v g g' → HomeT F S P v.w h p) (i i' : ℕ) where
    served : (v : (K F S P).World) → (K F S P).Later X.w v → (m n : ℕ) → In (once h m n) v.w.stage → In (P.top h) v.w.begun → E.Served (K F S P) X c v (slot_place (refer_to i (obj m))) (variable_place i' (Ref.Global (P.fresh h p)))
    unfolding get_place put_place is_loaded
    served v l m n at b = record {
      gets = λ u k g g' en. held_gets u m n (stays u k) (near u k g g' en) X.B i i' g';
      puts = λ u k g g' en x y q. held_puts u m n (stays u k) (near u k g g' en) i i' g g' q;
    }
      where
        stays : (u : (K F S P).World) → (K F S P).Later v u → In (once h m n) u.w.stage
        stays u k = subst (λ z. In (once h m n) z) k.2.stage at

        near : (u : (K F S P).World) → (K F S P).Later v u → (g g' : Env) → (K F S P).EnvT c u g g' → (s t : State) → Tied F S P u.w s t → is_loaded t (P.home h p) ≡ true
        near u k g g' en s t ti = home_loaded F S P (home u ((K F S P).later l k) g g' en) ti (ti.extra.held h m n (stays u k)) (ti.begun (P.top h) (k.2.ext.begun (P.top h) b))

    free_served : (v : (K F S P).World) → E.Served (K F S P) X c v (slot_place (refer_to i (prim undefined))) (variable_place i' (Ref.Global (P.fresh h p)))
    unfolding get_place put_place
    free_served v = record {
      gets = λ u k g g' en s t ti le le'. free_gets u X.B i s ti.tables;
      puts = λ u k g g' en x y q s t ti le le'. free_any (λ z. ResT (T F S P) (Done (K F S P)) u z (write_var checked (at_site i') g' (Ref.Global (P.fresh h p)) y t)) (λ l r j. broken_t tt) i g x s ti.tables;
    }

    abbrev to_slot : Val → M Place
    to_slot o = refer S P i h p o >>= λ r. ret (slot_place r)

    slots : (o : Val) (s : State) → s.tables ≡ S → to_slot o s ≡ ok [] (slot_place (refer_to i o)) s
    unfolding ◌>>=◌ after ret
    slots o s q = ap (λ z. after z (λ r. ret (slot_place r))) (refers i o s q) ∙ said_none _

    target_runs : (g : Env) (s : State) → s.tables ≡ S → ev_target checked X.B g (to_member i e p) s ≡ (holder_value S P X.B a >>= to_slot) s
    unfolding ev_target ◌>>=◌ after
    target_runs g s q =
        ap (λ z. after z (λ o. reference i (longer (path_of e) p) o key >>= λ r. ret (slot_place r))) (value_runs S P X.B g s q a None)
        ∙ ap (λ z. (holder_value S P X.B a >>= λ o. reference i z o key >>= λ r. ret (slot_place r)) s) (way_on S P a p)

    pub flat_target : (Reads : Ref → Ref → Type 0) → E.FollowsTarget (K F S P) X c Reads (to_member i e p) (to_var i' (Ref.Global (P.fresh h p)))
    unfolding ev_target ret is_loaded
    flat_target Reads = record {
      by = λ v l g g' en s t ti le le'.
          as_left F S P (target_runs g s ti.tables)
          (holder_then F S P X.B Place Place (E.PlaceS (K F S P) X c Reads) v s t (ok [] (variable_place i' (Ref.Global (P.fresh h p))) t) ti a to_slot (record {
            declared = λ m n at d ld.
                let w2 : (K F S P).World = record { l = v.l; r = v.r; w = with_begun F S (flat_other S P) v.w (P.top h) } in
                let more : (K F S P).Later v w2 = (omega arith, omega arith, record { ext = ext_begun F S (flat_other S P) v.w (P.top h); still = refl; stage = refl }) in
                as_left F S P (slots (obj m) s ti.tables)
                (ok_t refl w2 more tt (E.served_t (served w2 ((K F S P).later l more) m n at here)) (begun_now F S (flat_other S P) ti (P.top h) ld) le le');
            undeclared = λ u. as_left F S P (slots (prim undefined) s ti.tables) (fine (T F S P) _ _ (E.served_t (free_served v)) ti le le');
          }));
    }
