-- A property of a holder is set to an empty literal, and is a holder itself: on the right its global is.
use Rattle.std.proofs.Common.{◌≡◌, ℕ, [], ◌∷◌, ◌++◌, length, Option, Some, None, sym, ap, subst, ◌∙◌, arith}
use Rattle.std.specs.Prelude.{slice_get, slice_set}
use Rattle.cc_ast.specs.Syntax.{Prim, undefined, Expr, object, no_fields, to_member}
use Rattle.cc_ast.specs.declared.tree.Ref.{Ref}
use Rattle.cc_meaning.specs.Values.{Val, prim, obj, Spot, at_site}
use Rattle.cc_meaning.specs.State.{bare, Env, Path, State, Tables}
use Rattle.cc_meaning.specs.Monad.{M, Res, ok, ret, skip, after, ◌>>=◌, with_tables}
use Rattle.cc_meaning.specs.Store.{Access, dotted, kind_by, kind_for, flat_of}
use Rattle.cc_meaning.specs.Typed.{global, flat}
use Rattle.cc_meaning.specs.SlotRules.{write_rule}
use Rattle.cc_meaning.specs.Judge.{writes, least_broken}
use Rattle.cc_meaning.specs.Acts.{set_global, write_var}
use Rattle.cc_meaning.specs.Calls.{Reference, Bodies, put_on, put_to, keep_path, value, declares_on}
use Rattle.cc_meaning.specs.Meaning.{Place, slot_place, reference, put_place, ev, ev_target}
use Rattle.cc_meaning.specs.Shapes.{longer, path_of}
use Rattle.cc_meaning.specs.FlatPaths.{extended}
use Rattle.cc_meaning.specs.Script.{checked}
use Rattle.cc_meaning.specs.Alike.{In}
use Rattle.cc_tied.specs.Facts.{Facts}
use Rattle.cc_tied.proofs.Lists.{get_old, get_new, get_set_other}
use Rattle.cc_tied.proofs.Laws.{said_none, bind_assoc}
use Rattle.cc_tied.proofs.Whole.{WholeT, Whole}
use Rattle.cc_tied.proofs.Injection.Table.{get_range}
use Rattle.cc_tied.proofs.Injection.Tie.{view}
use Rattle.cc_collapse.proofs.FlatRider.{Plan, HeldT, Undeclared, name}
use Rattle.cc_collapse.proofs.FlatHolders.{HolderAt, way_on, refer, holder_value, value_runs}
use Rattle.cc_collapse.proofs.FlatSlots.{with_slot}
use Rattle.cc_collapse.proofs.FlatReads.{Stops, as_any, left_any, T, W, holder_any}
use Rattle.cc_collapse.proofs.FlatWrites.{Globals, put_state, slot_put}
use Rattle.cc_collapse.proofs.FlatDeclared.{with_bare, makes_then, Never, keeps_two, next, inner_tied}

module _ (F : Facts) (S : Tables) (P : Plan S) (G : Globals F S P) (q p h : ℕ) (inner : P.Inner q p h) where
  abbrev is : P.Child q p
  is = (P.inner_is q p h inner).0

  abbrev key : Access
  key = dotted p

  abbrev refer_to : (site : ℕ) → Val → Reference
  refer_to i o = record { site = i; on = o; key = key; path = Some ((P.path q).0, P.number q p); casts = [] }

  abbrev to_slot : (site : ℕ) → Val → M Place
  to_slot i o = refer S P i q p o >>= λ r. ret (slot_place r)

  slots : (i : ℕ) (o : Val) (s : State) → s.tables ≡ S → to_slot i o s ≡ ok [] (slot_place (refer_to i o)) s
  unfolding reference with_tables ret ◌>>=◌ after
  slots i o s e = said_none _ ∙ ap (λ z. ok [] (slot_place (record { site = i; on = o; key = key; path = z; casts = [] })) s) (ap (λ z. flat_of z (Some (extended (P.path q) p))) e ∙ P.is_flat q p is)

  module _ (B : Bodies) (g : Env) (way : Option Path) (j k : ℕ) where
    -- the literal, and then the write
    abbrev sets : Place → M (Unit {0})
    sets l = value checked B (ev checked B g way (object j no_fields)) >>= λ v. put_place checked g l v

    target_runs : {e : Expr} (a : HolderAt S P q e) (s : State) → s.tables ≡ S → (ev_target checked B g (to_member k e p) >>= sets) s ≡ (holder_value S P B a >>= λ o. to_slot k o >>= sets) s
    unfolding ev_target ◌>>=◌ after
    target_runs {e = e} a s z =
        ap (λ y. after (after y (λ o. reference k (longer (path_of e) p) o key >>= λ r. ret (slot_place r))) sets) (value_runs S P B g s z a None)
        ∙ ap (λ y. ((holder_value S P B a >>= λ o. reference k y o key >>= λ r. ret (slot_place r)) >>= sets) s) (way_on S P a p)
        ∙ ap (λ y. y s) (bind_assoc (holder_value S P B a) (to_slot k) sets)

    slot_sets : (o : Val) (s : State) → s.tables ≡ S → (to_slot k o >>= sets) s ≡ put_to checked g (refer_to k o) (obj (length s.objs)) (with_bare s)
    unfolding ◌>>=◌ after put_place
    slot_sets o s z = ap (λ y. after y sets) (slots k o s z) ∙ said_none _ ∙ makes_then B g way j s (λ v. put_to checked g (refer_to k o) v)

    none_some : {A : Type 0} {r : ℕ} → Some r ≡ None → A
    none_some d = absurd (cc)

    free_put : (E : Res (Unit {0}) → Type 0) → Stops E → (x : Val) (s : State) → s.tables ≡ S → E (put_to checked g (refer_to k (prim undefined)) x s)
    unfolding put_to put_on least_broken write_rule ◌>>=◌
    free_put E stops x s z = left_any E stops S (at_site k) (writes (prim undefined) key x (declares_on s g.declares (prim undefined))) skip (λ _. keep_path checked (at_site k) (Some ((P.path q).0, P.number q p)) x) s z (λ d. none_some d)

    pub inner_set : {I : W F S P → Type 0} (w : W F S P) → Undeclared w.w.stage h → ((c : ℕ) → P.Near h c → In c w.w.begun) → ((m n : ℕ) → I (next F S P G w h m n)) → {e : Expr} (a : HolderAt S P q e) → (B' : Bodies) (g' : Env) (way' : Option Path) (i' : Spot) (j' : ℕ) → Whole (T F S P) I (λ u a b. Unit {0}) w (ev_target checked B g (to_member k e p) >>= sets) (value checked B' (ev checked B' g' way' (object j' no_fields)) >>= λ v. write_var checked i' g' (Ref.Global (P.fresh q p)) v)
    unfolding put_to ◌>>=◌ write_var set_global keep_path
    inner_set {I = I} w u near ready {e = e} a B' g' way' i' j' s t ti le le' =
        subst (λ z. WholeT (T F S P) I (λ u a b. Unit {0}) w ((ev_target checked B g (to_member k e p) >>= sets) s) z) (sym (makes_then B' g' way' j' t (λ v. write_var checked i' g' (Ref.Global (P.fresh q p)) v)))
        (as_any E (target_runs a s ti.tables)
        (holder_any F S P B (Unit {0}) E (Never F S P G) w s t ti a (λ o. to_slot k o >>= sets) (record {
          declared = λ m n at d l. as_any E (slot_sets (obj m) s ti.tables)
              (slot_put F S P G q p E (Never F S P G) (at_site k) m (kind_by key) (obj (length s.objs)) (declares_on (with_bare s) g.declares (obj m)) (λ _. keep_path checked (at_site k) (Some ((P.path q).0, P.number q p)) (obj (length s.objs))) (with_bare s) d.object (get_old s.objs (bare ∷ []) m d.object d.stands) d.plain ti.tables
              (keeps_two F S P G (at_site k) i' (flat (P.path q).0 (P.number q p)) (global (P.fresh q p)) (P.fresh_type q p is) (length s.objs) (length t.objs) (λ s. s) (set_global (P.fresh q p) (obj (length t.objs))) (put_state F S P G m p d.object (kind_for S (name S P p) (kind_by key)) (obj (length s.objs)) (with_bare s)) (with_bare t) ti.tables ti.tables' (beside m d) (get_new t.objs bare) (beside m d) (get_new t.objs bare)
              (next F S P G w h (length s.objs) (length t.objs)) (omega arith, omega arith) (ready (length s.objs) (length t.objs)) (inner_tied F S P G ti h u near q p m n at inner d (kind_for S (name S P p) (kind_by key))) le le'));
          undeclared = λ y. as_any E (slot_sets (prim undefined) s ti.tables) (free_put E (Never F S P G) (obj (length s.objs)) (with_bare s) ti.tables);
        })))
      where
        E : Res (Unit {0}) → Type 0
        E z = WholeT (T F S P) I (λ u a b. Unit {0}) w z (write_var checked i' g' (Ref.Global (P.fresh q p)) (obj (length t.objs)) (with_bare t))

        beside : (m : ℕ) {n : ℕ} (d : HeldT S P (view w.w s t) q m n) → slice_get (slice_set (s.objs ++ bare ∷ []) m (with_slot S P d.object p (kind_for S (name S P p) (kind_by key)) (obj (length s.objs)))) (length s.objs) ≡ Some bare
        beside m d = get_set_other (s.objs ++ bare ∷ []) m (length s.objs) (with_slot S P d.object p (kind_for S (name S P p) (kind_by key)) (obj (length s.objs))) (λ z. let r = get_range s.objs m d.object d.stands in omega arith) ∙ get_new s.objs bare
