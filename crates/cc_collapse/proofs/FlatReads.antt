-- A property of a holder, read on the left, is its global read on the right.
use Rattle.std.proofs.Common.{◌≡◌, ℕ, Bool, true, false, List, [], Option, Some, None, is_some, refl, sym, ap, subst, ◌∙◌}
use Rattle.std.specs.Prelude.{nat_eq}
use Rattle.std.specs.List.{list_any}
use Rattle.cc_ast.specs.Syntax.{Prim, undefined, Expr, member}
use Rattle.cc_ast.specs.declared.tree.Ref.{Ref}
use Rattle.std.specs.Prelude.{slice_get}
use Rattle.cc_meaning.specs.Values.{Val, prim, obj, Spot, at_site}
use Rattle.cc_meaning.specs.Builtins.{or_undefined}
use Rattle.cc_meaning.specs.State.{Obj, Env, Path, State, Tables}
use Rattle.cc_meaning.specs.Monad.{Said, M, Res, ok, over, broken, ret, skip, after, said, ◌>>=◌, with_tables}
use Rattle.cc_meaning.specs.Store.{Access, dotted, name_of, of_chunk, global_kind, flat_of, find_slot, look_up, value_found, is_found_value, has_name}
use Rattle.cc_meaning.specs.Typed.{global, flat, is_settled}
use Rattle.cc_meaning.specs.Rules.{take_rule}
use Rattle.cc_meaning.specs.SlotRules.{fields_reached, read_rule, prim_read}
use Rattle.cc_meaning.specs.Judge.{Act, reads, takes, least_broken}
use Rattle.cc_meaning.specs.Acts.{judged, allowed, refused, is_fatal, reading, receive_all, is_loaded, global_value, read_global, read_var, read_slot, is_there}
use Rattle.cc_meaning.specs.Calls.{Bodies, get_on, take_path, cast_all, get, value, prim_member}
use Rattle.cc_meaning.specs.Meaning.{reference, ev}
use Rattle.cc_meaning.specs.FlatPaths.{extended}
use Rattle.cc_meaning.specs.Script.{checked}
use Rattle.cc_meaning.specs.Alike.{In}
use Rattle.cc_tied.specs.Facts.{Facts}
use Rattle.cc_tied.specs.Tied.{OptT, none_t, some_t, ValT}
use Rattle.cc_tied.proofs.Laws.{said_none, bind_assoc, bind_ret, bind_alike}
use Rattle.cc_tied.proofs.Sim.{Tie, World, ResT, broken_t, Sim, fine}
use Rattle.cc_tied.proofs.Injection.Tie.{View, TiedI, inject, view, with_set}
use Rattle.cc_tied.proofs.Injection.Rules.{least_none, unless_none}
use Rattle.cc_tied.proofs.Injection.Frames.{undefined_tied}
use Rattle.cc_tied.proofs.Injection.World.{Once, Tabs, Vals}
use Rattle.cc_collapse.proofs.FlatRider.{Plan, CellT, plain_cell, free_cell, held_cell, HeldT, Undeclared, once, flat_other, name, IsRoot, Paired}
use Rattle.cc_collapse.proofs.FlatHolders.{by_slot, look_held, value_by_slot, there_by_slot, class_none, HolderAt, at_root, at_inner, get_at, holder_value, member_value}

pub same_some : {V : Val → Val → Type 0} {x y : Option Val} → OptT V x y → is_some x ≡ is_some y
same_some none_t = refl
same_some (some_t h) = refl

-- ---- what is said of a run of the left, so that it holds where that breaks a rule

abbrev pub Stops : {A : Type 0} → (Res A → Type 0) → Type 0
Stops G = (u : List Said) (r : ℕ) (i : Spot) → G (over u (broken r i))

pub as_any : {A : Type 0} (G : Res A → Type 0) {x x' : Res A} → x ≡ x' → G x' → G x
as_any G e h = subst G (sym e) h

-- an act of the left alone: it breaks a rule, or happens
pub left_any : {A B : Type 0} (G : Res B → Type 0) → Stops G → (S : Tables) (i : Spot) (a : Act) (m : M A) (k : A → M B) (s : State) → s.tables ≡ S → (least_broken S s a ≡ None → G ((m >>= k) s)) → G ((judged checked i a m >>= k) s)
unfolding judged allowed refused Rattle.cc_meaning.specs.Monad.stop after ◌>>=◌
left_any G stops S i a m k s e h = by_rule (least_broken s.tables s a) refl
  where
    refused_then : (b : Bool) (r : ℕ) → G (after (refused checked i b r m s) k)
    refused_then true r = stops [] r i
    refused_then false r = stops [] r i

    by_rule : (o : Option ℕ) → least_broken s.tables s a ≡ o → G (after (allowed checked i a o m s) k)
    by_rule None d = h (sym (ap (λ z. least_broken z s a) e) ∙ d)
    by_rule (Some r) d = refused_then (is_fatal a r) r

module _ (F : Facts) (S : Tables) (P : Plan S) where
  abbrev pub R : Tables
  R = with_set S (flat_other S P)

  abbrev pub T : Tie
  T = inject F S (flat_other S P)

  abbrev pub W : Type 0
  W = World T

  abbrev pub Tied : Tabs → State → State → Type 0
  Tied = TiedI F S (flat_other S P)

  pub as_left : {A B : Type 0} {Q : W → A → B → Type 0} {w : W} {x x' : Res A} {y : Res B} → x ≡ x' → ResT T Q w x' y → ResT T Q w x y
  as_left {Q = Q} {w = w} {y = y} e h = subst (λ z. ResT T Q w z y) (sym e) h

  none_some : {A : Type 0} {r : ℕ} → Some r ≡ None → A
  none_some d = absurd (cc)

  -- the right reads the global
  pub right_reads : (i : Spot) (t : State) (n c : ℕ) → t.tables ≡ R → is_loaded t c ≡ true → take_rule R (global n) true (is_some (global_value t n)) ≡ None → read_global checked i n (of_chunk c) t ≡ ok [] (or_undefined (global_value t n)) t
  unfolding read_global judged allowed ret least_broken
  right_reads i t n c e l d =
      ap (λ z. allowed checked i (takes (global n) z (is_some (global_value t n))) (take_rule t.tables (global n) z (is_some (global_value t n))) (ret (or_undefined (global_value t n))) t) l
      ∙ ap (λ z. allowed checked i (takes (global n) true (is_some (global_value t n))) (take_rule z (global n) true (is_some (global_value t n))) (ret (or_undefined (global_value t n))) t) e
      ∙ ap (λ z. allowed checked i (takes (global n) true (is_some (global_value t n))) z (ret (or_undefined (global_value t n))) t) d

  -- ---- a property that becomes a global, from the holder's value on

  module _ (B : Bodies) (h p : ℕ) (is : P.Child h p) where
    abbrev key : Access
    key = dotted p

    abbrev Way : Option Path
    Way = Some (extended (P.path h) p)

    abbrev tail : (i : ℕ) → Val → Val → M Val
    tail i o v = take_path checked (at_site i) (Some ((P.path h).0, P.number h p)) o key >>= λ _. cast_all checked [] v >>= λ _. ret v

    get_runs : (i : ℕ) (o : Val) (s : State) → s.tables ≡ S → get_at S P B i h p o s ≡ (get_on checked B (at_site i) o key >>= tail i o) s
    unfolding reference with_tables ret ◌>>=◌ after get
    get_runs i o s e = said_none _ ∙ ap (λ z. (get_on checked B (at_site i) o key >>= λ v. take_path checked (at_site i) z o key >>= λ _. cast_all checked [] v >>= λ _. ret v) s) (ap (λ z. flat_of z Way) e ∙ P.is_flat h p is)

    -- the value there is, where the path may be taken
    abbrev Then : {A : Type 0} → (G : Res A → Type 0) → (Val → M A) → State → Obj → Type 0
    Then G k s a = take_rule S (flat (P.path h).0 (P.number h p)) true (is_some (find_slot a.slots (name S P p))) ≡ None → G (k (or_undefined (find_slot a.slots (name S P p))) s)

    taken_any : {A : Type 0} (G : Res A → Type 0) → Stops G → (i : ℕ) {m n : ℕ} (k : Val → M A) (s : State) {v : View} (d : HeldT S P v h m n) → v.left ≡ s.objs → s.tables ≡ S → Then G k s d.object → G ((tail i (obj m) (value_found (look_up s.objs m (name_of s.tables key))) >>= k) s)
    unfolding take_path cast_all ◌>>=◌ least_broken is_there has_name ret
    taken_any G stops i {m = m} k s d el e f =
        let look : look_up s.objs m (name_of s.tables key) ≡ by_slot (find_slot d.object.slots (name S P p)) = ap (λ z. look_up s.objs m (name_of z key)) e ∙ look_held s.objs m (name S P p) d.object (ap (λ z. slice_get z m) (sym el) ∙ d.stands) d.plain (P.no_method h p is) in
        as_any G (ap (λ z. z s) (bind_assoc (judged checked (at_site i) (takes (flat (P.path h).0 (P.number h p)) true (is_there s (obj m) (name_of s.tables key))) skip) (λ _. cast_all checked [] (value_found (look_up s.objs m (name_of s.tables key))) >>= λ _. ret (value_found (look_up s.objs m (name_of s.tables key)))) k))
        (left_any G stops S (at_site i) (takes (flat (P.path h).0 (P.number h p)) true (is_there s (obj m) (name_of s.tables key))) skip (λ _. (cast_all checked [] (value_found (look_up s.objs m (name_of s.tables key))) >>= λ _. ret (value_found (look_up s.objs m (name_of s.tables key)))) >>= k) s e (λ r.
        as_any G (said_none _ ∙ said_none _ ∙ ap (λ z. k z s) (ap value_found look ∙ value_by_slot (find_slot d.object.slots (name S P p))))
        (f (sym (ap (λ z. take_rule S (flat (P.path h).0 (P.number h p)) true z) (ap is_found_value look ∙ there_by_slot (find_slot d.object.slots (name S P p)))) ∙ r))))

    abbrev rest_of : (o : ℕ) → Val → M Val
    rest_of o v = (λ s. receive_all (fields_reached s.tables s.objs o key) v s) >>= λ _. ret v

    rest_none : (o : ℕ) (v : Val) (s : State) → fields_reached s.tables s.objs o key ≡ [] → rest_of o v s ≡ ok [] v s
    unfolding ◌>>=◌ after receive_all ret said
    rest_none o v s e = ap (λ z. after (receive_all z v s) (λ _. ret v)) e

    rest_then : {A : Type 0} (o : ℕ) (v : Val) (s : State) (k : Val → M A) → fields_reached s.tables s.objs o key ≡ [] → (rest_of o v >>= k) s ≡ k v s
    unfolding ◌>>=◌ after
    rest_then o v s k e = ap (λ z. after z k) (rest_none o v s e) ∙ said_none (k v s)

    get_then : {A : Type 0} (i : ℕ) (o : Val) (s : State) (k : Val → M A) → s.tables ≡ S → (get_at S P B i h p o >>= k) s ≡ (get_on checked B (at_site i) o key >>= λ v. tail i o v >>= k) s
    unfolding ◌>>=◌
    get_then i o s k e = ap (λ z. after z k) (get_runs i o s e) ∙ ap (λ z. z s) (bind_assoc (get_on checked B (at_site i) o key) (tail i o) k)

    pub slot_any : {A : Type 0} (G : Res A → Type 0) → Stops G → (i : ℕ) {m n : ℕ} (k : Val → M A) (s : State) {v : View} (d : HeldT S P v h m n) → v.left ≡ s.objs → s.tables ≡ S → Then G k s d.object → G ((get_at S P B i h p (obj m) >>= k) s)
    unfolding get_on read_slot reading ret ◌>>=◌ after
    slot_any G stops i {m = m} k s d el e f =
        as_any G (get_then i (obj m) s k e ∙ ap (λ z. z s) (bind_assoc (judged checked (at_site i) (reads (obj m) key) (reading (λ s. value_found (look_up s.objs m (name_of s.tables key))))) (rest_of m) (λ v. tail i (obj m) v >>= k)))
        (left_any G stops S (at_site i) (reads (obj m) key) (reading (λ s. value_found (look_up s.objs m (name_of s.tables key)))) (λ v. rest_of m v >>= λ x. tail i (obj m) x >>= k) s e (λ r.
        as_any G (said_none _ ∙ rest_then m (value_found (look_up s.objs m (name_of s.tables key))) s (λ x. tail i (obj m) x >>= k) (class_none s.tables s.objs m d.object key (ap (λ z. slice_get z m) (sym el) ∙ d.stands) d.plain.klass))
        (taken_any G stops i k s d el e f)))

    pub undeclared_any : {A : Type 0} (G : Res A → Type 0) → Stops G → (i : ℕ) (k : Val → M A) (s : State) → s.tables ≡ S → G ((get_at S P B i h p (prim undefined) >>= k) s)
    unfolding get_on least_broken read_rule prim_read
    undeclared_any G stops i k s e =
        as_any G (get_then i (prim undefined) s k e)
        (left_any G stops S (at_site i) (reads (prim undefined) key) (with_tables (λ T. ret (prim_member undefined (name_of T key)))) (λ v. tail i (prim undefined) v >>= k) s e (λ d. none_some d))

    pub slot_then : {A C : Type 0} {Q : W → A → C → Type 0} {w : W} (i : ℕ) {m n : ℕ} (k : Val → M A) (s t : State) {y : Res C} (d : HeldT S P (view w.w s t) h m n) → s.tables ≡ S → Then (λ z. ResT T Q w z y) k s d.object → ResT T Q w ((get_at S P B i h p (obj m) >>= k) s) y
    slot_then {Q = Q} {w = w} i k s t {y = y} d e f = slot_any (λ z. ResT T Q w z y) (λ u r i. broken_t tt) i k s d refl e f

    pub undeclared_then : {A C : Type 0} {Q : W → A → C → Type 0} {w : W} (i : ℕ) (k : Val → M A) (s : State) {y : Res C} → s.tables ≡ S → ResT T Q w ((get_at S P B i h p (prim undefined) >>= k) s) y
    undeclared_then {Q = Q} {w = w} i k s {y = y} e = undeclared_any (λ z. ResT T Q w z y) (λ u r i. broken_t tt) i k s e

  -- ---- the value of a holder: its object, or nothing yet

  pub loaded_by : (s : State) (x : Rattle.cc_meaning.specs.Typed.Variable) (c : ℕ) (b : Bool) → take_rule S x (is_loaded s c) b ≡ None → is_loaded s c ≡ true
  unfolding take_rule
  loaded_by s x c b d = unless_none (is_loaded s c) 3 (least_none _ _ d).0

  module _ (B : Bodies) (A : Type 0) (G : Res A → Type 0) (stops : Stops G) (w : W) (s t : State) (ti : Tied w.w s t) where
    -- what is owed where the holder is declared, and where it isn't
    pub record Goes (h : ℕ) (k : Val → M A) : Type 0 where
      pub declared : (m n : ℕ) → In (once h m n) w.w.stage → HeldT S P (view w.w s t) h m n → is_loaded s (P.top h) ≡ true → G (k (obj m) s)
      pub undeclared : Undeclared w.w.stage h → G (k (prim undefined) s)

    root_cell : {h : ℕ} (k : Val → M A) → Goes h k → is_loaded s (P.top h) ≡ true → P.Root h → {x x' : Option Val} → CellT w.w.objs w.w.stage (IsRoot S P h) x x' → global_value s (P.var h) ≡ x → G (k (or_undefined (global_value s (P.var h))) s)
    unfolding or_undefined
    root_cell {h = h} k g l r (plain_cell n q) e = absurd (n h (r, refl))
    root_cell {h = h} k g l r (free_cell i u) e = as_any G (ap (λ z. k (or_undefined z) s) e) (g.undeclared (subst (λ z. Undeclared w.w.stage z) i.1 u))
    root_cell {h = h} k g l r (held_cell {m = m} {n = n} i q) e = let at : In (once h m n) w.w.stage = subst (λ z. In (once z m n) w.w.stage) i.1 q in as_any G (ap (λ z. k (or_undefined z) s) e) (g.declared m n at (ti.extra.held h m n at) l)

    root_then : {h : ℕ} (i : ℕ) (k : Val → M A) → Goes h k → P.Root h → G ((read_global checked (at_site i) (P.var h) (of_chunk (P.top h)) >>= k) s)
    unfolding read_global ◌>>=◌ ret after least_broken global_value
    root_then {h = h} i k g r =
        left_any G stops S (at_site i) (takes (global (P.var h)) (is_loaded s (P.top h)) (is_some (global_value s (P.var h)))) (ret (or_undefined (global_value s (P.var h)))) k s ti.tables (λ d.
        as_any G (said_none _) (root_cell k g (loaded_by s (global (P.var h)) (P.top h) (is_some (global_value s (P.var h))) d) r (ti.extra.roots h r) refl))

    inner_cell : {h p c : ℕ} (k : Val → M A) → Goes c k → is_loaded s (P.top c) ≡ true → P.Inner h p c → {x x' : Option Val} → CellT w.w.objs w.w.stage (P.Inner h p) x x' → G (k (or_undefined x) s)
    unfolding or_undefined
    inner_cell {c = c} k g l i (plain_cell n q) = absurd (n c i)
    inner_cell {h = h} {p = p} {c = c} k g l i (free_cell {i = j} x u) = g.undeclared (subst (λ z. Undeclared w.w.stage z) (P.inner_one h p j c x i) u)
    inner_cell {h = h} {p = p} {c = c} k g l i (held_cell {i = j} {m = m} {n = n} x q) = let at : In (once c m n) w.w.stage = subst (λ z. In (once z m n) w.w.stage) (P.inner_one h p j c x i) q in g.declared m n at (ti.extra.held c m n at) l

    pub holder_any : {h : ℕ} {e : Expr} (a : HolderAt S P h e) (k : Val → M A) → Goes h k → G ((holder_value S P B a >>= k) s)
    unfolding holder_value
    holder_any (at_root {i = i} r) k g = root_then i k g r
    holder_any (at_inner {h = h} {p = p} {k = c} {i = i} a n) k g =
        as_any G (ap (λ z. z s) (bind_assoc (holder_value S P B a) (get_at S P B i h p) k))
        (holder_any a (λ o. get_at S P B i h p o >>= k) (record {
          declared = λ m n2 at d l. slot_any B h p (P.inner_is h p c n).0 G stops i k s d refl ti.tables (λ r. inner_cell k g (subst (λ z. is_loaded s z ≡ true) (sym (P.inner_is h p c n).1.1.1) l) n (d.cells p (P.inner_is h p c n).0));
          undeclared = λ u. undeclared_any B h p (P.inner_is h p c n).0 G stops i k s ti.tables;
        }))

  pub holder_then : (B : Bodies) (A C : Type 0) (Q : W → A → C → Type 0) (w : W) (s t : State) (y : Res C) (ti : Tied w.w s t) {h : ℕ} {e : Expr} (a : HolderAt S P h e) (k : Val → M A) → Goes B A (λ z. ResT T Q w z y) (λ u r i. broken_t tt) w s t ti h k → ResT T Q w ((holder_value S P B a >>= k) s) y
  holder_then B A C Q w s t y ti a k g = holder_any B A (λ z. ResT T Q w z y) (λ u r i. broken_t tt) w s t ti a k g

  -- ---- where a global that was a property is declared: in a chunk that is loaded by then

  pub data HomeT (w : Tabs) (h p : ℕ) : Type 0 where
    top_home : P.home h p ≡ P.top h → HomeT w h p
    near_home : P.Near h (P.home h p) → HomeT w h p
    late_home : ((s t : State) → Tied w s t → is_loaded s (P.home h p) ≡ true) → HomeT w h p

  pub loaded_too : {w : Tabs} {s t : State} → Tied w s t → (c : ℕ) → is_loaded s c ≡ true → is_loaded t c ≡ true
  unfolding is_loaded
  loaded_too ti c e = sym (ap (λ z. list_any (λ d. nat_eq d c) z) ti.loaded) ∙ e

  pub home_loaded : {w : Tabs} {s t : State} {h p m n : ℕ} → HomeT w h p → Tied w s t → HeldT S P (view w s t) h m n → is_loaded s (P.top h) ≡ true → is_loaded t (P.home h p) ≡ true
  unfolding is_loaded
  home_loaded {s = s} {h = h} {p = p} (top_home e) ti d l = loaded_too ti (P.home h p) (subst (λ z. is_loaded s z ≡ true) (sym e) l)
  home_loaded {h = h} {p = p} (near_home q) ti d l = loaded_too ti (P.home h p) (d.near (P.home h p) q)
  home_loaded {s = s} {t = t} {h = h} {p = p} (late_home f) ti d l = loaded_too ti (P.home h p) (f s t ti)

  pub plain_of : {ps : List (Rattle.cc_tied.specs.Injection.Pair (Option Rattle.cc_meaning.specs.State.Code))} {st : List Once} {H : ℕ → Type 0} {x y : Option Val} → ((i : ℕ) → H i → ⊥) → CellT ps st H x y → OptT (ValT (Paired ps)) x y
  plain_of n (plain_cell m q) = q
  plain_of n (free_cell i u) = absurd (n _ i)
  plain_of n (held_cell i q) = absurd (n _ i)

  module _ (B : Bodies) (h p : ℕ) (is : P.Child h p) (plain : (i : ℕ) → P.Inner h p i → ⊥) where
    taken : {b b' : Bool} → b ≡ b' → take_rule S (flat (P.path h).0 (P.number h p)) true b ≡ None → take_rule R (global (P.fresh h p)) true b' ≡ None
    unfolding take_rule
    taken e d = rw (← e, ← P.fresh_settled h p is) d

    -- the right reads what the left has
    pub right_value : {w : Tabs} {s t : State} {m n : ℕ} (i' : Spot) (g' : Env) → Tied w s t → (d : HeldT S P (view w s t) h m n) → is_loaded t (P.home h p) ≡ true → take_rule S (flat (P.path h).0 (P.number h p)) true (is_some (find_slot d.object.slots (name S P p))) ≡ None → read_var checked i' g' (Ref.Global (P.fresh h p)) t ≡ ok [] (or_undefined (global_value t (P.fresh h p))) t
    unfolding read_var global_value
    right_value {t = t} i' g' ti d l r =
        ap (λ z. read_global checked i' (P.fresh h p) z t) (ap (λ z. global_kind z (P.fresh h p)) ti.tables' ∙ P.fresh_kind h p is)
        ∙ right_reads i' t (P.fresh h p) (P.home h p) ti.tables' l (taken (same_some (plain_of plain (d.cells p is))) r)

    pub flat_read : {w : W} {e : Expr} (a : HolderAt S P h e) → HomeT w.w h p → (i : ℕ) (i' : Spot) (g g' : Env) (q : Option Path) → Sim T (λ v. Vals v.w) w (value checked B (ev checked B g q (member i e p))) (read_var checked i' g' (Ref.Global (P.fresh h p)))
    unfolding ret global_value
    flat_read {w = w} a home i i' g g' q s t ti le le' =
        as_left (member_value S P B g s ti.tables a i p q ∙ ap (λ z. z s) (sym (bind_alike (holder_value S P B a) (λ o. get_at S P B i h p o >>= ret) (get_at S P B i h p) (λ o. bind_ret (get_at S P B i h p o)))))
        (holder_then B Val Val (λ v. Vals v.w) w s t (read_var checked i' g' (Ref.Global (P.fresh h p)) t) ti a (λ o. get_at S P B i h p o >>= ret) (record {
          declared = λ m n at d l. slot_then B h p is i ret s t d ti.tables (λ r.
              subst (λ z. ResT T (λ v. Vals v.w) w (ok [] (or_undefined (find_slot d.object.slots (name S P p))) s) z) (sym (right_value i' g' ti d (home_loaded home ti d l) r))
              (fine T _ _ (undefined_tied (plain_of plain (d.cells p is))) ti le le'));
          undeclared = λ u. undeclared_then B h p is i ret s ti.tables;
        }))
