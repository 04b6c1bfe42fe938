-- What a change of one slot is to the state.
use Rattle.std.proofs.Common.{◌≡◌, ℕ, zero, suc, ◌+◌, ◌<◌, ◌≤◌, List, [], ◌∷◌, length, Bool, true, false, not, Option, Some, None, cond, slice_get, slice_set, refl, sym, ap, ◌∙◌, subst, arith, position, ltb, one-add, slice_index_or, ◌^◌, take, ◌++◌, length-append}
use Rattle.std.proofs.lemmas.Bool.{ltb-true, not-false}
use Rattle.std.proofs.lemmas.Option.{slice_get_within}
use Rattle.std.proofs.lemmas.List.{take_all}
use Rattle.std.specs.List.{prefix_len, position_or_len}
use Rattle.cc_core.specs.State as core
use Rattle.cc_core.specs.Events as act
use Rattle.cc_ast.specs.Syntax.{Scope}
use Rattle.cc_core.specs.State.{is_pending, is_claimed, places, with_if}
use Rattle.cc_core.specs.Events.{at_place, at_found}
use Rattle.cc_core.specs.declared.slots.Mark.TheVariants.{Pending, Claimed, Done, Held}
use Rattle.cc_core.specs.declared.slots.Slot.{Slot}
use Rattle.cc_core.specs.SlotState.{mark_of, slot_of, slots_of, no_scope, is_pending_inside, is_claimed_inside}

-- one slot changed
pub slots_of_set : (h : core.Slot → core.Slot) (xs : List Scope) (ss : List Slot) (k : ℕ) (s t : Slot)
    → slice_get ss k ≡ Some s → ((x : Scope) → slot_of x t ≡ h (slot_of x s)) → slots_of xs (slice_set ss k t) ≡ at_place h k (slots_of xs ss)
slots_of_set h xs [] k s t is to = absurd (let e : None ≡ Some s = is in (cc))
slots_of_set h [] (r ∷ ss) zero s t is to = let e : r ≡ s = (cc) in ap (λ u. u ∷ slots_of [] ss) (to no_scope ∙ ap (λ r. h (slot_of no_scope r)) (sym e))
slots_of_set h [] (r ∷ ss) (suc k) s t is to = ap (λ u. slot_of no_scope r ∷ u) (slots_of_set h [] ss k s t is to)
slots_of_set h (x ∷ xs) (r ∷ ss) zero s t is to = let e : r ≡ s = (cc) in ap (λ u. u ∷ slots_of xs ss) (to x ∙ ap (λ r. h (slot_of x r)) (sym e))
slots_of_set h (x ∷ xs) (r ∷ ss) (suc k) s t is to = ap (λ u. slot_of x r ∷ u) (slots_of_set h xs ss k s t is to)

pub length_slots_of : (xs : List Scope) (ss : List Slot) → length (slots_of xs ss) ≡ length ss
length_slots_of xs [] = refl
length_slots_of [] (s ∷ ss) = ap suc (length_slots_of [] ss)
length_slots_of (x ∷ xs) (s ∷ ss) = ap suc (length_slots_of xs ss)

is_pending_of : (x : Scope) (s : Slot) → is_pending (slot_of x s) ≡ is_pending_inside s
is_pending_of x s = elim (s.mark) as (λ m. is_pending (record { mark = mark_of x m; out = s.out }) ≡ is_pending_inside (record { mark = m; out = s.out })) [ Pending ↦ refl | Claimed ↦ refl | Done ↦ refl | Held y ↦ refl ]

is_claimed_of : (x : Scope) (s : Slot) → is_claimed (slot_of x s) ≡ is_claimed_inside s
is_claimed_of x s = elim (s.mark) as (λ m. is_claimed (record { mark = mark_of x m; out = s.out }) ≡ is_claimed_inside (record { mark = m; out = s.out })) [ Pending ↦ refl | Claimed ↦ refl | Done ↦ refl | Held y ↦ refl ]

-- a test of the state's slots that is a test of these
module _ (p : core.Slot → Bool) (q : Slot → Bool) (is : (x : Scope) (s : Slot) → p (slot_of x s) ≡ q s) where
  prefix_is : (xs : List Scope) (ss : List Slot) → prefix_len (λ s. not (p s)) (slots_of xs ss) ≡ prefix_len (λ s. not (q s)) ss
  prefix_is xs [] = refl
  prefix_is [] (s ∷ ss) = let e = is no_scope s in let f = prefix_is [] ss in cc
  prefix_is (x ∷ xs) (s ∷ ss) = let e = is x s in let f = prefix_is xs ss in cc

  position_is : (xs : List Scope) (ss : List Slot) → position p (slots_of xs ss) ≡ position q ss
  position_is xs ss = let e = prefix_is xs ss in let f = length_slots_of xs ss in cc

  places_is : (k : ℕ) (xs : List Scope) (ss : List Slot) → places p k (slots_of xs ss) ≡ places q k ss
  places_is k xs [] = refl
  places_is k [] (s ∷ ss) = let e = is no_scope s in let f = places_is (suc k) [] ss in cc
  places_is k (x ∷ xs) (s ∷ ss) = let e = is x s in let f = places_is (suc k) xs ss in cc

pub places_pending : (xs : List Scope) (ss : List Slot) → places is_pending 0 (slots_of xs ss) ≡ places is_pending_inside 0 ss
places_pending xs ss = places_is is_pending is_pending_inside is_pending_of 0 xs ss

with_if_append : (b : Bool) (k : ℕ) (xs ys : List ℕ) → with_if b k (xs ++ ys) ≡ with_if b k xs ++ ys
with_if_append true k xs ys = refl
with_if_append false k xs ys = refl

-- one more is looked at
more_places : {A : Type 0} (p : A → Bool) (j i : ℕ) (ss : List A) (s : A) → i < length ss → s ≡ slice_index_or ss i s
    → places p j (take (suc i) ss) ≡ places p j (take i ss) ++ with_if (p s) (j + i) []
more_places p j i [] s lt is = absurd (omega (arith, lt))
more_places p j zero (x ∷ xs) s lt is = let e : x ≡ s = sym is in let z : j + 0 ≡ j = omega arith in ap (λ y. with_if (p y) j []) e ∙ ap (λ n. with_if (p s) n []) (sym z)
more_places p j (suc i) (x ∷ xs) s lt is =
    let h : places p (suc j) (take (suc i) xs) ≡ places p (suc j) (take i xs) ++ with_if (p s) (suc j + i) [] = more_places p (suc j) i xs s (omega (arith, lt)) is in
    let z : suc j + i ≡ j + suc i = omega arith in
    ap (with_if (p x) j) (h ∙ ap (λ n. places p (suc j) (take i xs) ++ with_if (p s) n []) z) ∙ with_if_append (p x) j (places p (suc j) (take i xs)) (with_if (p s) (j + suc i) [])

pub places_more : {A : Type 0} (p : A → Bool) (i : ℕ) (ss : List A) (s : A) (b : Bool) → i < length ss → s ≡ slice_index_or ss i s → b ≡ p s
    → places p 0 (take (i + 1) ss) ≡ places p 0 (take i ss) ++ with_if b i []
places_more p i ss s b lt is e =
    let z : 0 + i ≡ i = omega arith in
    let y : i + 1 ≡ suc i = omega arith in
    ap (λ n. places p 0 (take n ss)) y ∙ (more_places p 0 i ss s lt is ∙ (ap (λ n. places p 0 (take i ss) ++ with_if (p s) n []) z ∙ ap (λ c. places p 0 (take i ss) ++ with_if c i []) (sym e)))

pub all_places : {A : Type 0} (p : A → Bool) (i : ℕ) (ss : List A) → length ss ≤ i → places p 0 (take i ss) ≡ places p 0 ss
all_places p i ss le = ap (places p 0) (take_all i ss le)

found_at : {A : Type 0} (q : A → Bool) (ss : List A) → prefix_len q ss < length ss → (s : A) × ((slice_get ss (prefix_len q ss) ≡ Some s) × (q s ≡ false))
found_at q [] h = absurd (omega (arith, h))
found_at {A} q (x ∷ xs) h =
    elim (q x) as (λ b. q x ≡ b → cond b (1 + prefix_len q xs) 0 < suc (length xs) → (s : A) × ((slice_get (x ∷ xs) (cond b (1 + prefix_len q xs) 0) ≡ Some s) × (q s ≡ false))) [
      | true ↦ λ is h. let r = found_at q xs (omega (arith, h)) in (r.0, (ap (slice_get (x ∷ xs)) (one-add (prefix_len q xs)) ∙ r.1.0, r.1.1))
      | false ↦ λ is h. (x, (refl, is))
    ] refl h

-- where a test is first met
pub position_get : {A : Type 0} (p : A → Bool) (ss : List A) (k : ℕ) → position p ss ≡ Some k → (s : A) × ((slice_get ss k ≡ Some s) × (p s ≡ true))
position_get {A} p ss k e =
    elim (ltb (position_or_len p ss) (length ss)) as (λ b. ltb (position_or_len p ss) (length ss) ≡ b → cond b (Some (position_or_len p ss)) None ≡ Some k → (s : A) × ((slice_get ss k ≡ Some s) × (p s ≡ true))) [
      | true ↦ λ lt e.
          let same : position_or_len p ss ≡ k = (cc) in
          let r = found_at (λ x. not (p x)) ss (ltb-true _ _ lt) in
          (r.0, (ap (slice_get ss) (sym same) ∙ r.1.0, not-false (p r.0) r.1.1))
      | false ↦ λ lt e. absurd (cc)
    ] refl e

pub found_pending : (xs : List Scope) (ss : List Slot) → position is_pending (slots_of xs ss) ≡ position is_pending_inside ss
found_pending xs ss = position_is is_pending is_pending_inside is_pending_of xs ss

pub found_claimed : (xs : List Scope) (ss : List Slot) → position is_claimed (slots_of xs ss) ≡ position is_claimed_inside ss
found_claimed xs ss = position_is is_claimed is_claimed_inside is_claimed_of xs ss

-- what an index reads stands there
pub get_here : {A : Type 0} (ss : List A) (k : ℕ) (s : A) → k < length ss → s ≡ slice_index_or ss k s → slice_get ss k ≡ Some s
get_here [] k s lt is = absurd (omega (arith, lt))
get_here (r ∷ ss) zero s lt is = ap Some (sym is)
get_here (r ∷ ss) (suc k) s lt is = get_here ss k s (omega (arith, lt)) is

pub slots_of_changed : (h : core.Slot → core.Slot) (xs : List Scope) (ss : List Slot) (k : ℕ) (t s : Slot)
    → k < length ss → s ≡ slice_index_or ss k s → ((x : Scope) → slot_of x t ≡ h (slot_of x s)) → slots_of xs (slice_set ss k t) ≡ at_place h k (slots_of xs ss)
slots_of_changed h xs ss k t s lt is to = slots_of_set h xs ss k s t (get_here ss k s lt is) to

-- the place at which a test is first met
pub position_within : {A : Type 0} (p : A → Bool) (ss : List A) (k : ℕ) → position p ss ≡ Some k → k < length ss
position_within p ss k e = slice_get_within _ _ _ (position_get p ss k e).1.0

pub found_here : {A : Type 0} (p : A → Bool) (ss : List A) (k : ℕ) (s : A) → position p ss ≡ Some k → s ≡ slice_index_or ss k s → p s ≡ true
found_here p ss k s e is =
    let r = position_get p ss k e in
    let at = get_here ss k s (position_within p ss k e) is in
    let f = r.1.0 in
    let same : r.0 ≡ s = cc in
    ap p (sym same) ∙ r.1.1

-- the slot that is found is changed
pub slots_of_found : (h : core.Slot → core.Slot) (o : Option ℕ) (xs : List Scope) (ss : List Slot) (k : ℕ) (t s : Slot)
    → o ≡ Some k → k < length ss → s ≡ slice_index_or ss k s → ((x : Scope) → slot_of x t ≡ h (slot_of x s)) → slots_of xs (slice_set ss k t) ≡ at_found h o (slots_of xs ss)
slots_of_found h o xs ss k t s at lt is to = slots_of_changed h xs ss k t s lt is to ∙ ap (λ o. at_found h o (slots_of xs ss)) (sym at)

slots_of_put_at : (y : Scope) (xs : List Scope) (ss : List Slot) (k : ℕ) (t s : Slot)
    → slice_get ss k ≡ Some s → k < length xs → ((x : Scope) → slot_of y t ≡ act.put_in y (slot_of x s)) → slots_of (slice_set xs k y) (slice_set ss k t) ≡ at_place (act.put_in y) k (slots_of xs ss)
slots_of_put_at y xs [] k t s get in_range to = absurd (let e : None ≡ Some s = get in (cc))
slots_of_put_at y [] (r ∷ ss) k t s get in_range to = absurd (omega (arith, in_range))
slots_of_put_at y (x ∷ xs) (r ∷ ss) zero t s get in_range to = let e : r ≡ s = (cc) in ap (λ u. u ∷ slots_of xs ss) (to x ∙ ap (λ r. act.put_in y (slot_of x r)) (sym e))
slots_of_put_at y (x ∷ xs) (r ∷ ss) (suc k) t s get in_range to = ap (λ u. slot_of x r ∷ u) (slots_of_put_at y xs ss k t s get (omega (arith, in_range)) to)

pub slots_of_put : (y : Scope) (xs : List Scope) (ss : List Slot) (k : ℕ) (t s : Slot)
    → k < length ss → s ≡ slice_index_or ss k s → k < length xs → ((x : Scope) → slot_of y t ≡ act.put_in y (slot_of x s)) → slots_of (slice_set xs k y) (slice_set ss k t) ≡ at_place (act.put_in y) k (slots_of xs ss)
slots_of_put y xs ss k t s lt is in_range to = slots_of_put_at y xs ss k t s (get_here ss k s lt is) in_range to

is_done_of_at : (b : Bool) (xs : List Scope) (ss : List Slot) (k : ℕ) (s : Slot) → slice_get ss k ≡ Some s → ((x : Scope) → core.is_done (slot_of x s) ≡ b) → core.is_done_at k (slots_of xs ss) ≡ b
is_done_of_at b xs [] k s get is = absurd (let e : None ≡ Some s = get in (cc))
is_done_of_at b [] (r ∷ ss) zero s get is = let e : r ≡ s = (cc) in ap (λ r. core.is_done (slot_of no_scope r)) e ∙ is no_scope
is_done_of_at b [] (r ∷ ss) (suc k) s get is = is_done_of_at b [] ss k s get is
is_done_of_at b (x ∷ xs) (r ∷ ss) zero s get is = let e : r ≡ s = (cc) in ap (λ r. core.is_done (slot_of x r)) e ∙ is x
is_done_of_at b (x ∷ xs) (r ∷ ss) (suc k) s get is = is_done_of_at b xs ss k s get is

pub is_done_of : (b : Bool) (xs : List Scope) (ss : List Slot) (k : ℕ) (s : Slot) → k < length ss → s ≡ slice_index_or ss k s → ((x : Scope) → core.is_done (slot_of x s) ≡ b) → core.is_done_at k (slots_of xs ss) ≡ b
is_done_of b xs ss k s lt at is = is_done_of_at b xs ss k s (get_here ss k s lt at) is

-- a slot as the state has it
pub get_slots_of : (xs : List Scope) (ss : List Slot) (k : ℕ) (s : Slot) → slice_get ss k ≡ Some s → (x : Scope) × (slice_get (slots_of xs ss) k ≡ Some (slot_of x s))
get_slots_of xs [] k s get = absurd (let e : None ≡ Some s = get in (cc))
get_slots_of [] (r ∷ ss) zero s get = let e : r ≡ s = (cc) in (no_scope, ap (λ r. Some (slot_of no_scope r)) e)
get_slots_of [] (r ∷ ss) (suc k) s get = get_slots_of [] ss k s get
get_slots_of (x ∷ xs) (r ∷ ss) zero s get = let e : r ≡ s = (cc) in (x, ap (λ r. Some (slot_of x r)) e)
get_slots_of (x ∷ xs) (r ∷ ss) (suc k) s get = get_slots_of xs ss k s get

pub room_inside : (xs : List Scope) (ss : List Slot) → ((k : ℕ) (s : core.Slot) → position is_claimed (slots_of xs ss) ≡ Some k → slice_get (slots_of xs ss) k ≡ Some s → s.out + 1 < 2 ^ 32)
    → (k : ℕ) (s : Slot) → position is_claimed_inside ss ≡ Some k → slice_get ss k ≡ Some s → s.out + 1 < 2 ^ 32
room_inside xs ss room k s at get = let r = get_slots_of xs ss k s get in room k (slot_of r.0 s) (found_claimed xs ss ∙ at) r.1

length_if : (b : Bool) (i : ℕ) (ks : List ℕ) → b ≡ true → length (ks ++ with_if b i []) ≡ length ks + 1
length_if true i ks e = omega (arith, length-append ks (i ∷ []))
length_if false i ks e = absurd (cc)

length_else : (b : Bool) (i : ℕ) (ks : List ℕ) → b ≡ false → length (ks ++ with_if b i []) ≡ length ks
length_else true i ks e = absurd (cc)
length_else false i ks e = omega (arith, length-append ks [])

pub more_yes : {A : Type 0} (p : A → Bool) (i : ℕ) (ss : List A) (s : A) → i < length ss → s ≡ slice_index_or ss i s → true ≡ p s → length (places p 0 (take (i + 1) ss)) ≡ length (places p 0 (take i ss)) + 1
more_yes p i ss s lt is e = ap length (places_more p i ss s (p s) lt is refl) ∙ length_if (p s) i (places p 0 (take i ss)) (sym e)

pub more_not : {A : Type 0} (p : A → Bool) (i : ℕ) (ss : List A) (s : A) → i < length ss → s ≡ slice_index_or ss i s → false ≡ p s → length (places p 0 (take (i + 1) ss)) ≡ length (places p 0 (take i ss))
more_not p i ss s lt is e = ap length (places_more p i ss s (p s) lt is refl) ∙ length_else (p s) i (places p 0 (take i ss)) (sym e)

get_if : (b : Bool) (j n : ℕ) (ks ls : List ℕ) → slice_get ks (length ls) ≡ Some n → slice_get (with_if b j ks) (length (with_if b j ls)) ≡ Some n
get_if true j n ks ls e = e
get_if false j n ks ls e = e

found_place : {A : Type 0} (p : A → Bool) (j i : ℕ) (ss : List A) (s : A) → i < length ss → s ≡ slice_index_or ss i s → true ≡ p s → slice_get (places p j ss) (length (places p j (take i ss))) ≡ Some (j + i)
found_place p j i [] s lt is e = absurd (omega (arith, lt))
found_place p j zero (x ∷ xs) s lt is e = let z : j + 0 ≡ j = omega arith in
    ap (λ b. slice_get (with_if b j (places p (suc j) xs)) 0) (ap p (sym is) ∙ sym e) ∙ ap Some (sym z)
found_place p j (suc i) (x ∷ xs) s lt is e = let z : suc j + i ≡ j + suc i = omega arith in
    get_if (p x) j (j + suc i) (places p (suc j) xs) (places p (suc j) (take i xs)) (found_place p (suc j) i xs s (omega (arith, lt)) is e ∙ ap Some z)

pub place_found : {A : Type 0} (p : A → Bool) (i : ℕ) (ss : List A) (s : A) (k : ℕ) → i < length ss → s ≡ slice_index_or ss i s → true ≡ p s → length (places p 0 (take i ss)) ≡ k → slice_get (places p 0 ss) k ≡ Some i
place_found p i ss s k lt is e n = let z : 0 + i ≡ i = omega arith in ap (slice_get (places p 0 ss)) (sym n) ∙ (found_place p 0 i ss s lt is e ∙ ap Some z)

get_none : {A : Type 0} (xs : List A) (k : ℕ) → length xs ≤ k → slice_get xs k ≡ None
get_none [] k le = refl
get_none (x ∷ xs) zero le = absurd (omega (arith, le))
get_none (x ∷ xs) (suc k) le = get_none xs k (omega (arith, le))

pub none_left : {A : Type 0} (p : A → Bool) (i : ℕ) (ss : List A) (k : ℕ) → length ss ≤ i → length (places p 0 (take i ss)) ≤ k → slice_get (places p 0 ss) k ≡ None
none_left p i ss k le few = get_none (places p 0 ss) k (subst (λ (ks : List ℕ). length ks ≤ k) (all_places p i ss le) few)

few_with : (b : Bool) (j n : ℕ) (ks : List ℕ) → length ks ≤ n → length (with_if b j ks) ≤ suc n
few_with true j n ks le = omega arith
few_with false j n ks le = omega arith

few_places : {A : Type 0} (p : A → Bool) (j i : ℕ) (ss : List A) → length (places p j (take i ss)) ≤ length ss
few_places p j i [] = ap_le i
  where
    ap_le : (i : ℕ) → length (places p j (take i [])) ≤ 0
    ap_le zero = omega arith
    ap_le (suc i) = omega arith
few_places p j zero (x ∷ xs) = omega arith
few_places p j (suc i) (x ∷ xs) = few_with (p x) j (length xs) (places p (suc j) (take i xs)) (few_places p (suc j) i xs)

pub few_taken : {A : Type 0} (p : A → Bool) (i : ℕ) (ss : List A) → length (places p 0 (take i ss)) ≤ length ss
few_taken p i ss = few_places p 0 i ss
