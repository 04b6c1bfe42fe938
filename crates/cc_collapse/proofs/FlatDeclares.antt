-- Where a holder is declared: both runs make an object, to which no value leads, and set the holder to it.
use Rattle.std.proofs.Common.{◌≡◌, ◌≢◌, ◌⊎◌, inl, inr, ℕ, ◌<◌, Bool, true, false, List, [], ◌∷◌, ◌++◌, length, Option, Some, None, refl, sym, ap, subst, ◌∙◌, arith}
use Rattle.std.specs.Prelude.{slice_get, slice_set, nat_eq}
use Rattle.std.specs.List.{list_any}
use Rattle.cc_meaning.specs.Values.{Val, obj}
use Rattle.cc_meaning.specs.Operators.{list_eq}
use Rattle.cc_meaning.specs.State.{Obj, bare, Code, Kind, Tables}
use Rattle.cc_meaning.specs.Store.{flat_option, find_slot, set_slot}
use Rattle.cc_meaning.specs.Alike.{In, here, there}
use Rattle.cc_tied.specs.Tied.{nil_t, ListT}
use Rattle.cc_tied.specs.Injection.{Pair, Lone}
use Rattle.cc_tied.proofs.Lists.{place_cases, get_old, get_new, get_set_same, get_set_other}
use Rattle.cc_tied.proofs.Injection.Table.{get_range, in_cases}
use Rattle.cc_tied.proofs.Injection.World.{Once, SlotT}
use Rattle.cc_tied.proofs.Injection.Tie.{View}
use Rattle.cc_collapse.proofs.FlatRider.{Plan, CellT, plain_cell, free_cell, held_cell, HeldT, IsBare, RidesT, Undeclared, once, name, others, Paired, IsRoot, kept_value, set_there}
use Rattle.cc_collapse.proofs.FlatSlots.{set_value, find_same, find_other, left_set, with_slot, bare_with}

pub bare_is : IsBare bare
bare_is = record { klass = refl; code = refl; chain = refl; elements = refl }

-- one more holder is declared, and it isn't this one
pub cell_later : {ps : List (Pair (Option Code))} {st : List Once} {H : ℕ → Type 0} (e : Once) → ((i : ℕ) → H i → i ≢ e.mark) → {x y : Option Val} → CellT ps st H x y → CellT ps (e ∷ st) H x y
cell_later e d (plain_cell n q) = plain_cell n q
cell_later {st = st} e d (free_cell {i = i} h u) = free_cell h (λ m n k. later (in_cases k))
  where
    later : {m n : ℕ} → (once i m n ≡ e) ⊎ In (once i m n) st → ⊥
    later (inl q) = d i h (ap (λ z. z.mark) q)
    later {m = m} {n = n} (inr k) = u m n k
cell_later e d (held_cell h k) = held_cell h (there k)

module _ (S : Tables) (P : Plan S) where
  module _ (v : View) (r : RidesT S P v) (h : ℕ) (undeclared : Undeclared v.stage h)
      (fresh_pair : (p : Pair (Option Code)) → In p v.pairs → p.left ≢ length v.left)
      (fresh_right : (p : Pair (Option Code)) → In p v.pairs → p.right ≢ length v.right)
      (fresh_spare : (l : Lone (Unit {0})) → In l v.spare → l.place ≢ length v.left)
      (near : (c : ℕ) → P.Near h c → list_any (λ d. nat_eq d c) v.loaded ≡ true) where
    abbrev m : ℕ
    m = length v.left

    abbrev n : ℕ
    n = length v.right

    one_now : (i a b p q : ℕ) → (once i a b ≡ once h m n) ⊎ In (once i a b) v.stage → (once i p q ≡ once h m n) ⊎ In (once i p q) v.stage → (a ≡ p) × (b ≡ q)
    one_now i a b p q (inl e) (inl f) = (ap (λ z. z.left) e ∙ sym (ap (λ z. z.left) f), ap (λ z. z.right) e ∙ sym (ap (λ z. z.right) f))
    one_now i a b p q (inl e) (inr k) = absurd (undeclared p q (subst (λ z. In (once z p q) v.stage) (ap (λ z. z.mark) e) k))
    one_now i a b p q (inr k) (inl f) = absurd (undeclared a b (subst (λ z. In (once z a b) v.stage) (ap (λ z. z.mark) f) k))
    one_now i a b p q (inr j) (inr k) = r.one i a b p q j k

    below : (i a b : ℕ) → In (once i a b) v.stage → (a < m) × (b < n)
    below i a b k = let d = r.held i a b k in (get_range v.left a d.object d.stands, get_range v.right b d.object' d.stands')

    apart_now : (i a b j p q : ℕ) → (once i a b ≡ once h m n) ⊎ In (once i a b) v.stage → (once j p q ≡ once h m n) ⊎ In (once j p q) v.stage → i ≢ j → (a ≢ p) × (b ≢ q)
    apart_now i a b j p q (inl e) (inl f) d = absurd (d (ap (λ z. z.mark) e ∙ sym (ap (λ z. z.mark) f)))
    apart_now i a b j p q (inl e) (inr k) d = let l = below j p q k in let x : a ≡ m = ap (λ z. z.left) e in let y : b ≡ n = ap (λ z. z.right) e in let l0 = l.0 in let l1 = l.1 in (λ z. omega arith, λ z. omega arith)
    apart_now i a b j p q (inr k) (inl f) d = let l = below i a b k in let x : p ≡ m = ap (λ z. z.left) f in let y : q ≡ n = ap (λ z. z.right) f in let l0 = l.0 in let l1 = l.1 in (λ z. omega arith, λ z. omega arith)
    apart_now i a b j p q (inr k) (inr l) d = r.apart i a b j p q k l d

    -- ---- a global is the holder

    module _ (root : P.Root h) where
      abbrev pub root_declared : View
      root_declared = record v { left = v.left ++ bare ∷ []; right = v.right ++ bare ∷ []; values = slice_set v.values (P.var h) (Some (obj m)); values' = slice_set v.values' (P.var h) (Some (obj n)); stage = once h m n ∷ v.stage }

      -- no property is the holder itself
      not_inner : (i p j : ℕ) → P.Inner i p j → j ≢ h
      not_inner i p j k e = P.inner_root i p j k (subst (λ z. P.Root z) (sym e) root)

      fresh_same : (i p : ℕ) → P.Child i p → flat_option (slice_get (slice_set v.values' (P.var h) (Some (obj n))) (P.fresh i p)) ≡ flat_option (slice_get v.values' (P.fresh i p))
      fresh_same i p c = kept_value S P v.values' (P.var h) (P.fresh i p) (Some (obj n)) (λ e. P.fresh_root i p h c root (sym e))

      root_cell : (i : ℕ) → P.Root i → (h ≡ i) ⊎ (h ≢ i) → CellT v.pairs (once h m n ∷ v.stage) (IsRoot S P i) (flat_option (slice_get (slice_set v.values (P.var h) (Some (obj m))) (P.var i))) (flat_option (slice_get (slice_set v.values' (P.var h) (Some (obj n))) (P.var i)))
      root_cell i k (inl e) = subst (λ z. CellT v.pairs (once h m n ∷ v.stage) (IsRoot S P z) (flat_option (slice_get (slice_set v.values (P.var h) (Some (obj m))) (P.var z))) (flat_option (slice_get (slice_set v.values' (P.var h) (Some (obj n))) (P.var z)))) e
          (rw (set_value v.values (P.var h) (obj m) (r.root_there h root), set_value v.values' (P.var h) (obj n) (r.foreign_there (P.var h) (P.root_foreign h root))) (held_cell {i = h} (root, refl) here))
      root_cell i k (inr e) =
          let d : P.var h ≢ P.var i = λ z. e (P.root_one h i root k z) in
          rw (kept_value S P v.values (P.var h) (P.var i) (Some (obj m)) d, kept_value S P v.values' (P.var h) (P.var i) (Some (obj n)) d)
          (cell_later (once h m n) (λ j q z. e (sym (sym q.1 ∙ z))) (r.roots i k))

      still : (i a b : ℕ) → HeldT S P v i a b → HeldT S P root_declared i a b
      still i a b d = record {
        object = d.object;
        object' = d.object';
        stands = get_old v.left (bare ∷ []) a d.object d.stands;
        stands' = get_old v.right (bare ∷ []) b d.object' d.stands';
        plain = d.plain;
        plain' = d.plain';
        no_pair = d.no_pair;
        no_pair' = d.no_pair';
        no_spare = d.no_spare;
        cells = λ p c. rw (fresh_same i p c) (cell_later (once h m n) (λ j q. not_inner i p j q) (d.cells p c));
        rest = d.rest;
        near = d.near;
      }

      new : HeldT S P root_declared h m n
      unfolding find_slot
      new = record {
        object = bare;
        object' = bare;
        stands = get_new v.left bare;
        stands' = get_new v.right bare;
        plain = bare_is;
        plain' = bare_is;
        no_pair = fresh_pair;
        no_pair' = fresh_right;
        no_spare = fresh_spare;
        cells = λ p c. rw (fresh_same h p c) (cell_later (once h m n) (λ j q. not_inner h p j q) (r.unset h p undeclared c));
        rest = nil_t;
        near = near;
      }

      held_now : (i a b : ℕ) → (once i a b ≡ once h m n) ⊎ In (once i a b) v.stage → HeldT S P root_declared i a b
      held_now i a b (inl e) = let x : i ≡ h = ap (λ z. z.mark) e in let y : a ≡ m = ap (λ z. z.left) e in let w : b ≡ n = ap (λ z. z.right) e in
          subst (λ z. HeldT S P root_declared z a b) (sym x) (subst (λ z. HeldT S P root_declared h z b) (sym y) (subst (λ z. HeldT S P root_declared h m z) (sym w) new))
      held_now i a b (inr k) = still i a b (r.held i a b k)

      unset_now : (i p : ℕ) → Undeclared (once h m n ∷ v.stage) i → P.Child i p → CellT v.pairs (once h m n ∷ v.stage) (P.Inner i p) None (flat_option (slice_get (slice_set v.values' (P.var h) (Some (obj n))) (P.fresh i p)))
      unset_now i p u c = rw (fresh_same i p c) (cell_later (once h m n) (λ j q. not_inner i p j q) (r.unset i p (λ a b k. u a b (there k)) c))

      pub root_rides : RidesT S P root_declared
      root_rides = record {
        roots = λ i k. root_cell i k (place_cases h i);
        held = λ i a b k. held_now i a b (in_cases k);
        one = λ i a b p q j k. one_now i a b p q (in_cases j) (in_cases k);
        apart = λ i a b j p q k l d. apart_now i a b j p q (in_cases k) (in_cases l) d;
        root_there = λ i k. set_there v.values (P.var h) (P.var i) (Some (obj m)) ∙ r.root_there i k;
        foreign_there = λ k g. set_there v.values' (P.var h) k (Some (obj n)) ∙ r.foreign_there k g;
        unset = unset_now;
      }

    -- ---- a property of a holder that is declared is the holder

    module _ (q p a b : ℕ) (at : In (once q a b) v.stage) (inner : P.Inner q p h) (o : Obj) (stands : slice_get v.left a ≡ Some o) (k : Kind) where
      abbrev is : P.Child q p
      is = (P.inner_is q p h inner).0

      abbrev pub inner_declared : View
      inner_declared = record v { left = slice_set (v.left ++ bare ∷ []) a (with_slot S P o p k (obj m)); right = v.right ++ bare ∷ []; values' = slice_set v.values' (P.fresh q p) (Some (obj n)); stage = once h m n ∷ v.stage }

      there_a : slice_get (v.left ++ bare ∷ []) a ≡ Some o
      there_a = get_old v.left (bare ∷ []) a o stands

      m_apart : a ≢ m
      m_apart e = let l = (below q a b at).0 in omega arith

      -- no other property is the holder
      inner_apart : (i u j : ℕ) → P.Inner i u j → (q ≢ i) ⊎ (p ≢ u) → j ≢ h
      inner_apart i u j c (inl d) e = d (P.inner_once q p i u h inner (subst (λ z. P.Inner i u z) e c)).0
      inner_apart i u j c (inr d) e = d (P.inner_once q p i u h inner (subst (λ z. P.Inner i u z) e c)).1

      fresh_apart : (i u : ℕ) → P.Child i u → (q ≢ i) ⊎ (p ≢ u) → P.fresh q p ≢ P.fresh i u
      fresh_apart i u c (inl d) e = d (P.fresh_one q p i u is c e).0
      fresh_apart i u c (inr d) e = d (P.fresh_one q p i u is c e).1

      fresh_kept : (i u : ℕ) → P.Child i u → (q ≢ i) ⊎ (p ≢ u) → flat_option (slice_get inner_declared.values' (P.fresh i u)) ≡ flat_option (slice_get v.values' (P.fresh i u))
      fresh_kept i u c d = kept_value S P v.values' (P.fresh q p) (P.fresh i u) (Some (obj n)) (fresh_apart i u c d)

      cell_kept : (i u : ℕ) → (q ≢ i) ⊎ (p ≢ u) → {x y : Option Val} → CellT v.pairs v.stage (P.Inner i u) x y → CellT v.pairs (once h m n ∷ v.stage) (P.Inner i u) x y
      cell_kept i u d c = cell_later (once h m n) (λ j e. inner_apart i u j e d) c

      root_kept : (i : ℕ) → P.Root i → CellT v.pairs (once h m n ∷ v.stage) (IsRoot S P i) (flat_option (slice_get v.values (P.var i))) (flat_option (slice_get inner_declared.values' (P.var i)))
      root_kept i c = rw (kept_value S P v.values' (P.fresh q p) (P.var i) (Some (obj n)) (P.fresh_root q p i is c)) (cell_later (once h m n) (λ j e z. P.inner_root q p h inner (subst (λ u. P.Root u) (sym e.1 ∙ z) e.0)) (r.roots i c))

      others_still : (i c d : ℕ) → In (once i c d) v.stage → q ≢ i → HeldT S P v i c d → HeldT S P inner_declared i c d
      others_still i c d l z e = record {
        object = e.object;
        object' = e.object';
        stands = get_set_other (v.left ++ bare ∷ []) a c (with_slot S P o p k (obj m)) (r.apart q a b i c d at l z).0 ∙ get_old v.left (bare ∷ []) c e.object e.stands;
        stands' = get_old v.right (bare ∷ []) d e.object' e.stands';
        plain = e.plain;
        plain' = e.plain';
        no_pair = e.no_pair;
        no_pair' = e.no_pair';
        no_spare = e.no_spare;
        cells = λ u x. rw (fresh_kept i u x (inl z)) (cell_kept i u (inl z) (e.cells u x));
        rest = e.rest;
        near = e.near;
      }

      cell_at : (u : ℕ) → P.Child q u → (e : HeldT S P v q a b) → e.object ≡ o → (p ≡ u) ⊎ (p ≢ u) → CellT v.pairs (once h m n ∷ v.stage) (P.Inner q u) (find_slot (set_slot o.slots (name S P p) k (obj m)) (name S P u)) (flat_option (slice_get inner_declared.values' (P.fresh q u)))
      cell_at u c e f (inl z) =
          subst (λ u. CellT v.pairs (once h m n ∷ v.stage) (P.Inner q u) (find_slot (set_slot o.slots (name S P p) k (obj m)) (name S P u)) (flat_option (slice_get inner_declared.values' (P.fresh q u)))) z
          (rw (find_same o.slots (name S P p) k (obj m), set_value v.values' (P.fresh q p) (obj n) (r.foreign_there (P.fresh q p) (P.fresh_foreign q p is))) (held_cell inner here))
      cell_at u c e f (inr z) =
          rw (find_other o.slots (name S P p) (name S P u) k (obj m) (not_one u c z (list_eq (name S P p) (name S P u)) refl), fresh_kept q u c (inr z))
          (cell_kept q u (inr z) (subst (λ x. CellT v.pairs v.stage (P.Inner q u) (find_slot x.slots (name S P u)) (flat_option (slice_get v.values' (P.fresh q u)))) f (e.cells u c)))
        where
          not_one : (u : ℕ) → P.Child q u → p ≢ u → (x : Bool) → list_eq (name S P p) (name S P u) ≡ x → x ≡ false
          not_one u c d true y = absurd (d (P.names_one q p u is c y))
          not_one u c d false y = refl

      holder_still : (e : HeldT S P v q a b) → HeldT S P inner_declared q a b
      holder_still e =
          let both : Some e.object ≡ Some o = sym e.stands ∙ stands in
          let f : e.object ≡ o = cc in record {
            object = with_slot S P o p k (obj m);
            object' = e.object';
            stands = get_set_same (v.left ++ bare ∷ []) a o (with_slot S P o p k (obj m)) there_a;
            stands' = get_old v.right (bare ∷ []) b e.object' e.stands';
            plain = bare_with S P p k (obj m) e.object o f e.plain;
            plain' = e.plain';
            no_pair = e.no_pair;
            no_pair' = e.no_pair';
            no_spare = e.no_spare;
            cells = λ u c. cell_at u c e f (place_cases p u);
            rest = subst (λ z. ListT (SlotT (Paired v.pairs)) z e.object'.slots) (ap (λ z. others S P q z.slots) f ∙ sym (left_set (P.flat_name q) o.slots (name S P p) k (obj m) (P.child_name q p is))) e.rest;
            near = e.near;
          }

      new_inner : HeldT S P inner_declared h m n
      unfolding find_slot
      new_inner = record {
        object = bare;
        object' = bare;
        stands = get_set_other (v.left ++ bare ∷ []) a m (with_slot S P o p k (obj m)) m_apart ∙ get_new v.left bare;
        stands' = get_new v.right bare;
        plain = bare_is;
        plain' = bare_is;
        no_pair = fresh_pair;
        no_pair' = fresh_right;
        no_spare = fresh_spare;
        cells = λ u c. rw (fresh_kept h u c (inl (P.inner_other q p h inner))) (cell_kept h u (inl (P.inner_other q p h inner)) (r.unset h u undeclared c));
        rest = nil_t;
        near = near;
      }

      held_old : (i c d : ℕ) → In (once i c d) v.stage → (q ≡ i) ⊎ (q ≢ i) → HeldT S P inner_declared i c d
      held_old i c d l (inr z) = others_still i c d l z (r.held i c d l)
      held_old i c d l (inl z) =
          let l2 : In (once q c d) v.stage = subst (λ u. In (once u c d) v.stage) (sym z) l in
          let f = r.one q a b c d at l2 in
          subst (λ u. HeldT S P inner_declared u c d) z (subst (λ u. HeldT S P inner_declared q u d) f.0 (subst (λ u. HeldT S P inner_declared q a u) f.1 (holder_still (r.held q a b at))))

      held_inner : (i c d : ℕ) → (once i c d ≡ once h m n) ⊎ In (once i c d) v.stage → HeldT S P inner_declared i c d
      held_inner i c d (inl e) = let x : i ≡ h = ap (λ z. z.mark) e in let y : c ≡ m = ap (λ z. z.left) e in let w : d ≡ n = ap (λ z. z.right) e in
          subst (λ z. HeldT S P inner_declared z c d) (sym x) (subst (λ z. HeldT S P inner_declared h z d) (sym y) (subst (λ z. HeldT S P inner_declared h m z) (sym w) new_inner))
      held_inner i c d (inr l) = held_old i c d l (place_cases q i)

      unset_inner : (i u : ℕ) → Undeclared (once h m n ∷ v.stage) i → P.Child i u → (q ≡ i) ⊎ (q ≢ i) → CellT v.pairs (once h m n ∷ v.stage) (P.Inner i u) None (flat_option (slice_get inner_declared.values' (P.fresh i u)))
      unset_inner i u f c (inl z) = absurd (f a b (there (subst (λ x. In (once x a b) v.stage) z at)))
      unset_inner i u f c (inr z) = rw (fresh_kept i u c (inl z)) (cell_kept i u (inl z) (r.unset i u (λ x y l. f x y (there l)) c))

      pub inner_rides : RidesT S P inner_declared
      inner_rides = record {
        roots = root_kept;
        held = λ i c d l. held_inner i c d (in_cases l);
        one = λ i c d x y j l. one_now i c d x y (in_cases j) (in_cases l);
        apart = λ i c d j x y l e z. apart_now i c d j x y (in_cases l) (in_cases e) z;
        root_there = r.root_there;
        foreign_there = λ x g. set_there v.values' (P.fresh q p) x (Some (obj n)) ∙ r.foreign_there x g;
        unset = λ i u f c. unset_inner i u f c (place_cases q i);
      }
