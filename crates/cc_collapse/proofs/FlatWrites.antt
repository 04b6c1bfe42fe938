-- A write to a property of a holder, on the left, is a write to its global on the right.
use Rattle.std.proofs.Common.{◌≡◌, ◌≢◌, ◌⊎◌, inl, inr, ℕ, ◌≤◌, Bool, List, [], Option, Some, None, refl, sym, ap, subst, ◌∙◌}
use Rattle.std.specs.Prelude.{slice_get, slice_set}
use Rattle.cc_collapse.proofs.FlatRider.{IsBare}
use Rattle.cc_meaning.specs.Values.{Val, obj, Spot}
use Rattle.cc_meaning.specs.State.{Kind, Obj, State, Tables}
use Rattle.cc_meaning.specs.Monad.{M, Res, ret, after, ◌>>=◌, with_tables}
use Rattle.cc_meaning.specs.Store.{Access, dotted, name_of, kind_for, flat_option, set_slot, put_own, put_by, changed_at, change}
use Rattle.cc_meaning.specs.Typed.{global, flat, variable_type, of_opt_type}
use Rattle.cc_meaning.specs.Rules.{keep_rule}
use Rattle.cc_meaning.specs.SlotRules.{fields_reached, prototype_of_function}
use Rattle.cc_meaning.specs.Judge.{writes, keeps, least_broken}
use Rattle.cc_meaning.specs.Acts.{judged, changing, receive, receive_all, set_global, keep, write_slot}
use Rattle.cc_meaning.specs.Calls.{keep_path, put_on}
use Rattle.cc_meaning.specs.Script.{checked}
use Rattle.cc_meaning.specs.Alike.{In}
use Rattle.cc_tied.specs.Tied.{OptT}
use Rattle.cc_tied.specs.Facts.{Held, Facts}
use Rattle.cc_tied.specs.Injection.{Pair, Lone, Table}
use Rattle.cc_tied.proofs.Lists.{place_cases, get_set_same, get_set_other}
use Rattle.cc_tied.proofs.Laws.{said_none, bind_assoc}
use Rattle.cc_tied.proofs.Sim.{ResT, Sim, fine, after_t, sim_tables}
use Rattle.cc_tied.proofs.Injection.Places.{Places}
use Rattle.cc_tied.proofs.Injection.Left.{owned_any}
use Rattle.cc_tied.proofs.Injection.Rules.{none_unless, unless_none}
use Rattle.cc_tied.proofs.Injection.Types.{of_opt_type_same}
use Rattle.cc_tied.proofs.Injection.Acts.{judged_at, at_of, receive_t}
use Rattle.cc_tied.proofs.Injection.World.{Tabs, Vals, val_more}
use Rattle.cc_tied.proofs.Injection.Tie.{view}
use Rattle.cc_collapse.proofs.FlatRider.{Plan, HeldT, flat_other, name, once, set_there}
use Rattle.cc_collapse.proofs.FlatHolders.{class_none}
use Rattle.cc_collapse.proofs.FlatSlots.{with_slot, slot_rides}
use Rattle.cc_collapse.proofs.FlatReads.{Stops, as_any, left_any, R, T, W, Tied}

-- the left run changes an entry that stands in no pair and isn't listed
pub set_apart : {X Y A : Type 0} {R : X → A → A → Type 0} {Z : Y → A → Type 0} {w : List (Pair X)} {z : List (Lone Y)} {xs ys : List A} → Table R Z w z xs ys → (n : ℕ) → ((p : Pair X) → In p w → p.left ≢ n) → ((l : Lone Y) → In l z → l.place ≢ n) → (a : A) → Table R Z w z (slice_set xs n a) ys
set_apart {xs = xs} t n no_pair no_lone a = record {
  tied = λ p h. rw (get_set_other xs n p.left a (λ e. no_pair p h (sym e))) (t.tied p h);
  left_one = t.left_one;
  right_one = t.right_one;
  lone = λ l h. rw (get_set_other xs n l.place a (λ e. no_lone l h (sym e))) (t.lone l h);
  apart = t.apart;
}

pub no_owner : (a : Obj) → a.code ≡ None → prototype_of_function (Some a) ≡ None
unfolding prototype_of_function
no_owner a e = rw e refl

-- the right run sets a place that is apart
pub places_right : {V : Val → Val → Type 0} {D : ℕ → Type 0} {xs ys : List (Option Val)} (n : ℕ) → D n → Places V D xs ys → (y : Val) → Places V D xs (slice_set ys n (Some y))
places_right {V = V} {D = D} {xs = xs} {ys = ys} n r h y = record { count = λ m d. h.count m d ∙ sym (set_there ys n m (Some y)); each = λ m d. by_case m d (place_cases n m) }
  where
    by_case : (m : ℕ) → (D m → ⊥) → (n ≡ m) ⊎ (n ≢ m) → OptT V (flat_option (slice_get xs m)) (flat_option (slice_get (slice_set ys n (Some y)) m))
    by_case m d (inl e) = absurd (d (subst (λ z. D z) e r))
    by_case m d (inr e) = rw (get_set_other ys n m (Some y) e) (h.each m d)

-- what the plan owes of the globals: those that are new are never read as such, and they are there
pub record Globals (F : Facts) (S : Tables) (P : Plan S) : Type 0 where
  pub unread : (h p : ℕ) → P.Child h p → F.Unread (P.fresh h p)
  pub unread_root : (h : ℕ) → P.Root h → F.Unread (P.var h)
  pub unknown : (g : ℕ) (k : Held) → F.Known g k → ⊥

module _ (F : Facts) (S : Tables) (P : Plan S) (G : Globals F S P) where
  abbrev pub put_state : (m p : ℕ) → Obj → Kind → Val → State → State
  put_state m p o k x s = record s { objs = slice_set s.objs m (with_slot S P o p k x) }

  module _ (h p : ℕ) (is : P.Child h p) (single : (i : ℕ) → P.Inner h p i → ⊥) where
    -- both set it to tied values
    pub written : {w : Tabs} {s t : State} → Tied F S P w s t → {m n : ℕ} → In (once h m n) w.stage → (d : HeldT S P (view w s t) h m n) → (k : Kind) {x y : Val} → Vals w x y → Tied F S P w (put_state m p d.object k x s) (set_global (P.fresh h p) y t)
    unfolding set_global
    written {w = w} {s = s} {t = t} ti {m = m} {n = n} at d k {x = x} {y = y} v = record {
      tables = ti.tables;
      tables' = ti.tables';
      objs = set_apart ti.objs m d.no_pair d.no_spare (with_slot S P d.object p k x);
      owned = owned_any w.objs s.objs ti.owned m d.object (with_slot S P d.object p k x) d.stands (no_owner (with_slot S P d.object p k x) d.plain.code ∙ sym (no_owner d.object d.plain.code));
      mated = ti.mated;
      frames = ti.frames;
      globals = places_right (P.fresh h p) (G.unread h p is) ti.globals y;
      known = ti.known;
      loaded = ti.loaded;
      begun = ti.begun;
      failed = ti.failed;
      constructed = ti.constructed;
      handles = ti.handles;
      replies = ti.replies;
      budget = ti.budget;
      extra = slot_rides S P (view w s t) ti.extra h p m n at is single d.object d.stands k x y v;
    }

    -- ---- the path keeps the value, and the global does

    keep_type : {w : Tabs} {s t : State} → Tied F S P w s t → (t' : State) → t'.objs ≡ t.objs → {x y : Val} → Vals w x y → keep_rule S s (flat (P.path h).0 (P.number h p)) x ≡ None → keep_rule (R F S P) t' (global (P.fresh h p)) y ≡ None
    unfolding keep_rule
    keep_type {w = w} {s = s} {t = t} ti t' e {x = x} {y = y} v q =
        none_unless 6 (ap (λ z. of_opt_type (R F S P) z (variable_type (R F S P) (global (P.fresh h p))) y) e
        ∙ ap (λ z. of_opt_type (R F S P) t.objs z y) (sym (P.fresh_type h p is))
        ∙ sym (of_opt_type_same S (flat_other S P) F w s.objs t.objs (at_of F S (flat_other S P) ti) (variable_type S (flat (P.path h).0 (P.number h p))) v)
        ∙ unless_none _ 6 q)

    received : {w : W F S P} {x y : Val} → Vals w.w x y → Sim (T F S P) (λ v a b. Unit {0}) w (with_tables (λ T. receive (variable_type T (flat (P.path h).0 (P.number h p))) x)) (with_tables (λ T. receive (variable_type T (global (P.fresh h p))) y))
    received {w = w} {x = x} {y = y} v = sim_tables (T F S P) _ _ (subst (λ z. Sim (T F S P) (λ v a b. Unit {0}) w (receive (variable_type S (flat (P.path h).0 (P.number h p))) x) (receive z y)) (P.fresh_type h p is) (receive_t F S (flat_other S P) (variable_type S (flat (P.path h).0 (P.number h p))) v))

    pub path_keeps : {w : W F S P} (i i' : Spot) (s t : State) {x y : Val} → Vals w.w x y → Tied F S P w.w s (set_global (P.fresh h p) y t) → t.tables ≡ R F S P → s.budget ≤ w.l → t.budget ≤ w.r → ResT (T F S P) (λ v a b. Unit {0}) w (keep_path checked i (Some ((P.path h).0, P.number h p)) x s) (keep checked i' (global (P.fresh h p)) y (set_global (P.fresh h p) y) t)
    unfolding keep_path keep changing ret ◌>>=◌ least_broken set_global
    path_keeps i i' s t {x = x} {y = y} v ti e le le' =
        after_t (T F S P) {R = λ v a b. Unit {0}} (λ z l _ _ _. received (val_more l.2.ext _ _ v))
        (judged_at F S (flat_other S P) i i' (keeps (flat (P.path h).0 (P.number h p)) x) (keeps (global (P.fresh h p)) y) (changing (λ s. s)) (changing (set_global (P.fresh h p) y)) s t (λ q. (
          ap (λ z. keep_rule z t (global (P.fresh h p)) y) e ∙ keep_type ti t refl v (ap (λ z. keep_rule z s (flat (P.path h).0 (P.number h p)) x) (sym ti.tables) ∙ q),
          fine (T F S P) tt tt tt ti le le',
        )))

  -- ---- the write of the slot, and what is left of it

  module _ (h p : ℕ) where
    abbrev key : Access
    key = dotted p

    changed_is : (s : State) (m : ℕ) (o : Obj) (n : List ℕ) (k : Kind) (x : Val) → slice_get s.objs m ≡ Some o → o.elements ≡ None → n ≡ name S P p → change m (put_own n k x) s ≡ put_state m p o k x s
    unfolding change changed_at put_own put_by
    changed_is s m o n k x e el d = ap (λ z. record s { objs = changed_at s.objs m z (put_own n k x) }) e ∙ ap (λ z. record s { objs = slice_set s.objs m (put_by z o n k x) }) el ∙ ap (λ z. record s { objs = slice_set s.objs m (record o { slots = set_slot o.slots z k x }) }) d

    got_none : {A : Type 0} (T : Tables) (os : List Obj) (m : ℕ) (x : Val) (s : State) (k : Unit {0} → M A) → fields_reached T os m key ≡ [] → after (receive_all (fields_reached T os m key) x s) k ≡ k tt s
    unfolding receive_all ret after
    got_none T os m x s k e = ap (λ z. after (receive_all z x s) k) e ∙ said_none (k tt s)

    pub slot_put : {A : Type 0} (G : Res A → Type 0) → Stops G → (i : Spot) (m : ℕ) (made : Kind) (x : Val) (b : Bool) (k : Unit {0} → M A) (s : State) (o : Obj) → slice_get s.objs m ≡ Some o → IsBare o → s.tables ≡ S → G (k tt (put_state m p o (kind_for S (name S P p) made) x s)) → G ((put_on checked i (obj m) key made x b >>= k) s)
    unfolding put_on write_slot changing ret ◌>>=◌ after
    slot_put G stops i m made x b k s o stands plain e f =
        let nm : name_of s.tables key ≡ name S P p = ap (λ z. name_of z key) e in
        let kd : kind_for s.tables (name_of s.tables key) made ≡ kind_for S (name S P p) made = ap (λ z. kind_for z (name_of z key) made) e in
        let next : State = change m (put_own (name_of s.tables key) (kind_for s.tables (name_of s.tables key) made) x) s in
        let is_next : next ≡ put_state m p o (kind_for S (name S P p) made) x s = changed_is s m o (name_of s.tables key) (kind_for s.tables (name_of s.tables key) made) x stands plain.elements nm ∙ ap (λ z. put_state m p o z x s) kd in
        as_any G (ap (λ z. z s) (bind_assoc (judged checked i (writes (obj m) key x b) (λ s. changing (change m (put_own (name_of s.tables key) (kind_for s.tables (name_of s.tables key) made) x)) s)) (λ _ s. receive_all (fields_reached s.tables s.objs m key) x s) k))
        (left_any G stops S i (writes (obj m) key x b) (λ s. changing (change m (put_own (name_of s.tables key) (kind_for s.tables (name_of s.tables key) made) x)) s) (λ _. (λ s. receive_all (fields_reached s.tables s.objs m key) x s) >>= k) s e (λ r.
        as_any G (said_none _ ∙ ap (λ z. after (receive_all (fields_reached z.tables z.objs m key) x z) k) is_next ∙ got_none s.tables (slice_set s.objs m (with_slot S P o p (kind_for S (name S P p) made) x)) m x (put_state m p o (kind_for S (name S P p) made) x s) k (class_none s.tables (slice_set s.objs m (with_slot S P o p (kind_for S (name S P p) made) x)) m (with_slot S P o p (kind_for S (name S P p) made) x) key (get_set_same s.objs m o (with_slot S P o p (kind_for S (name S P p) made) x) stands) plain.klass))
        f))
