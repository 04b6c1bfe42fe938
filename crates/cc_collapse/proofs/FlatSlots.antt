-- What is tied, where a property of a holder is set on the left and its global on the right.
use Rattle.std.proofs.Common.{◌≡◌, ◌≢◌, ◌⊎◌, inl, inr, ℕ, zero, suc, Bool, true, false, List, [], ◌∷◌, Option, Some, None, is_some, refl, sym, ap, subst, ◌∙◌}
use Rattle.std.specs.Prelude.{slice_get, slice_set, not}
use Rattle.std.specs.List.{filter}
use Rattle.std.proofs.lemmas.Bool.{eq-eqb}
use Rattle.cc_meaning.specs.Values.{Val}
use Rattle.cc_meaning.specs.Operators.{list_eq}
use Rattle.cc_meaning.specs.State.{Kind, Slot, Obj, Tables}
use Rattle.cc_meaning.specs.Monad.{pick}
use Rattle.cc_meaning.specs.Store.{flat_option, find_slot, set_slot}
use Rattle.cc_meaning.specs.Alike.{In}
use Rattle.cc_tied.specs.Tied.{some_t, ListT, ValT}
use Rattle.cc_tied.proofs.Lists.{place_cases, get_set_same, get_set_other}
use Rattle.cc_tied.proofs.Injection.Rules.{texts_one}
use Rattle.cc_tied.proofs.Injection.World.{SlotT}
use Rattle.cc_tied.proofs.Injection.Tie.{View}
use Rattle.cc_collapse.proofs.FlatRider.{Plan, CellT, plain_cell, HeldT, IsBare, RidesT, Undeclared, Paired, once, name, others, kept_value, set_there}

-- ---- slots by their names

pub same_text : (n : List ℕ) → list_eq n n ≡ true
unfolding list_eq
same_text [] = refl
same_text (x ∷ xs) = rw (eq-eqb x x refl, same_text xs) refl

pub find_same : (xs : List Slot) (n : List ℕ) (k : Kind) (v : Val) → find_slot (set_slot xs n k v) n ≡ Some v
unfolding find_slot set_slot
find_same [] n k v = rw (same_text n) refl
find_same (x ∷ xs) n k v = by_case (list_eq x.name n) refl (find_same xs n k v)
  where
    by_case : (b : Bool) → list_eq x.name n ≡ b → find_slot (set_slot xs n k v) n ≡ Some v → find_slot (pick b ((record x { value = v }) ∷ xs) (x ∷ set_slot xs n k v)) n ≡ Some v
    by_case true e m = rw e refl
    by_case false e m = rw e m

pub find_other : (xs : List Slot) (n m : List ℕ) (k : Kind) (v : Val) → list_eq n m ≡ false → find_slot (set_slot xs n k v) m ≡ find_slot xs m
unfolding find_slot set_slot
find_other [] n m k v d = rw d refl
find_other (x ∷ xs) n m k v d = by_case (list_eq x.name n) refl (find_other xs n m k v d)
  where
    by_case : (b : Bool) → list_eq x.name n ≡ b → find_slot (set_slot xs n k v) m ≡ find_slot xs m → find_slot (pick b ((record x { value = v }) ∷ xs) (x ∷ set_slot xs n k v)) m ≡ pick (list_eq x.name m) (Some x.value) (find_slot xs m)
    by_case true e r = let q : list_eq x.name m ≡ false = ap (λ z. list_eq z m) (texts_one x.name n e) ∙ d in rw q refl
    by_case false e r = ap (λ z. pick (list_eq x.name m) (Some x.value) z) r

pub set_value : (xs : List (Option Val)) (n : ℕ) (v : Val) → is_some (slice_get xs n) ≡ true → flat_option (slice_get (slice_set xs n (Some v)) n) ≡ Some v
unfolding flat_option
set_value [] n v e = absurd (cc)
set_value (x ∷ xs) zero v e = refl
set_value (x ∷ xs) (suc n) v e = set_value xs n v e

-- slots that a test leaves out
module _ (test : List ℕ → Bool) where
  abbrev left : List Slot → List Slot
  left xs = filter (λ x. not (test x.name)) xs

  none_added : (n : List ℕ) (k : Kind) (v : Val) → test n ≡ true → left ((record { name = n; kind = k; value = v }) ∷ []) ≡ []
  none_added n k v e = rw e refl

  same_rest : (x : Slot) (v : Val) (xs : List Slot) → test x.name ≡ true → left ((record x { value = v }) ∷ xs) ≡ left (x ∷ xs)
  same_rest x v xs e = rw e refl

  same_first : (x : Slot) (xs ys : List Slot) → left xs ≡ left ys → left (x ∷ xs) ≡ left (x ∷ ys)
  same_first x xs ys e = by_case (test x.name) refl
    where
      by_case : (b : Bool) → test x.name ≡ b → left (x ∷ xs) ≡ left (x ∷ ys)
      by_case true d = rw d e
      by_case false d = rw d (ap (λ z. x ∷ z) e)

  pub left_set : (xs : List Slot) (n : List ℕ) (k : Kind) (v : Val) → test n ≡ true → left (set_slot xs n k v) ≡ left xs
  unfolding set_slot
  left_set [] n k v e = none_added n k v e
  left_set (x ∷ xs) n k v e = by_case (list_eq x.name n) refl (left_set xs n k v e)
    where
      by_case : (b : Bool) → list_eq x.name n ≡ b → left (set_slot xs n k v) ≡ left xs → left (pick b ((record x { value = v }) ∷ xs) (x ∷ set_slot xs n k v)) ≡ left (x ∷ xs)
      by_case true d m = same_rest x v xs (ap test (texts_one x.name n d) ∙ e)
      by_case false d m = same_first x (set_slot xs n k v) xs m

-- ---- the relation of the two states

module _ (S : Tables) (P : Plan S) where
  abbrev pub with_slot : Obj → (prop : ℕ) → Kind → Val → Obj
  with_slot o p k x = record o { slots = set_slot o.slots (name S P p) k x }

  pub bare_with : (p : ℕ) (k : Kind) (x : Val) (a b : Obj) → a ≡ b → IsBare a → IsBare (with_slot b p k x)
  bare_with p k x a b e d = record { klass = ap (λ z. z.class) (sym e) ∙ d.klass; code = ap (λ z. z.code) (sym e) ∙ d.code; chain = ap (λ z. z.chain) (sym e) ∙ d.chain; elements = ap (λ z. z.elements) (sym e) ∙ d.elements }

  abbrev pub slot_set : View → (h p m : ℕ) → Obj → Kind → Val → Val → View
  slot_set v h p m o k x y = record v { left = slice_set v.left m (with_slot o p k x); values' = slice_set v.values' (P.fresh h p) (Some y) }

  -- a property that is no holder is set to tied values
  module _ (v : View) (r : RidesT S P v) (h p m n : ℕ) (at : In (once h m n) v.stage) (is : P.Child h p) (single : (i : ℕ) → P.Inner h p i → ⊥) (o : Obj) (stands : slice_get v.left m ≡ Some o) (k : Kind) (x y : Val) (tied : ValT (Paired v.pairs) x y) where
    abbrev V : View
    V = slot_set v h p m o k x y

    other_fresh : (i q : ℕ) → P.Child i q → (h ≢ i) ⊎ (p ≢ q) → P.fresh h p ≢ P.fresh i q
    other_fresh i q c (inl d) e = d (P.fresh_one h p i q is c e).0
    other_fresh i q c (inr d) e = d (P.fresh_one h p i q is c e).1

    same_fresh : (i q : ℕ) → P.Child i q → (h ≢ i) ⊎ (p ≢ q) → flat_option (slice_get V.values' (P.fresh i q)) ≡ flat_option (slice_get v.values' (P.fresh i q))
    same_fresh i q c d = kept_value S P v.values' (P.fresh h p) (P.fresh i q) (Some y) (other_fresh i q c d)

    not_one : (q : ℕ) → P.Child h q → p ≢ q → (b : Bool) → list_eq (name S P p) (name S P q) ≡ b → b ≡ false
    not_one q c d true e = absurd (d (P.names_one h p q is c e))
    not_one q c d false e = refl

    cell_here : (q : ℕ) → P.Child h q → (d : HeldT S P v h m n) → d.object ≡ o → (p ≡ q) ⊎ (p ≢ q) → CellT v.pairs v.stage (P.Inner h q) (find_slot (set_slot o.slots (name S P p) k x) (name S P q)) (flat_option (slice_get V.values' (P.fresh h q)))
    cell_here q c d e (inl z) =
        subst (λ q. CellT v.pairs v.stage (P.Inner h q) (find_slot (set_slot o.slots (name S P p) k x) (name S P q)) (flat_option (slice_get V.values' (P.fresh h q)))) z
        (rw (find_same o.slots (name S P p) k x, set_value v.values' (P.fresh h p) y (r.foreign_there (P.fresh h p) (P.fresh_foreign h p is))) (plain_cell single (some_t tied)))
    cell_here q c d e (inr z) =
        rw (find_other o.slots (name S P p) (name S P q) k x (not_one q c z (list_eq (name S P p) (name S P q)) refl), same_fresh h q c (inr z))
        (subst (λ u. CellT v.pairs v.stage (P.Inner h q) (find_slot u.slots (name S P q)) (flat_option (slice_get v.values' (P.fresh h q)))) e (d.cells q c))

    held_here : (d : HeldT S P v h m n) → HeldT S P V h m n
    held_here d =
        let both : Some d.object ≡ Some o = sym d.stands ∙ stands in
        let e : d.object ≡ o = cc in record {
          object = with_slot o p k x;
          object' = d.object';
          stands = get_set_same v.left m o (with_slot o p k x) stands;
          stands' = d.stands';
          plain = bare_with p k x d.object o e d.plain;
          plain' = d.plain';
          no_pair = d.no_pair;
          no_pair' = d.no_pair';
          no_spare = d.no_spare;
          cells = λ q c. cell_here q c d e (place_cases p q);
          rest = subst (λ z. ListT (SlotT (Paired v.pairs)) z d.object'.slots) (ap (λ z. others S P h z.slots) e ∙ sym (left_set (P.flat_name h) o.slots (name S P p) k x (P.child_name h p is))) d.rest;
          near = d.near;
        }

    held_other : (i j l : ℕ) → In (once i j l) v.stage → h ≢ i → HeldT S P v i j l → HeldT S P V i j l
    held_other i j l q z d = record {
      object = d.object;
      object' = d.object';
      stands = get_set_other v.left m j (with_slot o p k x) (r.apart h m n i j l at q z).0 ∙ d.stands;
      stands' = d.stands';
      plain = d.plain;
      plain' = d.plain';
      no_pair = d.no_pair;
      no_pair' = d.no_pair';
      no_spare = d.no_spare;
      cells = λ u c. rw (same_fresh i u c (inl z)) (d.cells u c);
      rest = d.rest;
      near = d.near;
    }

    held_any : (i j l : ℕ) → In (once i j l) v.stage → (h ≡ i) ⊎ (h ≢ i) → HeldT S P V i j l
    held_any i j l q (inr z) = held_other i j l q z (r.held i j l q)
    held_any i j l q (inl z) =
        let q2 : In (once h j l) v.stage = subst (λ u. In (once u j l) v.stage) (sym z) q in
        let f = r.one h m n j l at q2 in
        subst (λ u. HeldT S P V u j l) z (subst (λ u. HeldT S P V h u l) f.0 (subst (λ u. HeldT S P V h m u) f.1 (held_here (r.held h m n at))))

    unset_other : (i q : ℕ) → Undeclared v.stage i → P.Child i q → (h ≡ i) ⊎ (h ≢ i) → CellT v.pairs v.stage (P.Inner i q) None (flat_option (slice_get V.values' (P.fresh i q)))
    unset_other i q u c (inl z) = absurd (u m n (subst (λ w. In (once w m n) v.stage) z at))
    unset_other i q u c (inr z) = rw (same_fresh i q c (inl z)) (r.unset i q u c)

    pub slot_rides : RidesT S P V
    slot_rides = record {
      roots = λ i c. rw (kept_value S P v.values' (P.fresh h p) (P.var i) (Some y) (P.fresh_root h p i is c)) (r.roots i c);
      held = λ i j l q. held_any i j l q (place_cases h i);
      one = r.one;
      apart = r.apart;
      root_there = r.root_there;
      foreign_there = λ m g. set_there v.values' (P.fresh h p) m (Some y) ∙ r.foreign_there m g;
      unset = λ i q u c. unset_other i q u c (place_cases h i);
    }
