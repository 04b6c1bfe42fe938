-- Tables that are tied by a partial injection stay tied: both runs add an entry or change one, or the left one alone does.
use Rattle.std.proofs.Common.{◌≡◌, ◌≢◌, ◌⊎◌, inl, inr, ℕ, zero, suc, ◌<◌, List, [], ◌∷◌, ◌++◌, length, Option, Some, None, refl, sym, ap, subst, ◌∙◌, arith}
use Rattle.std.specs.Prelude.{slice_get, slice_set}
use Rattle.cc_meaning.specs.Alike.{In, here, there}
use Rattle.cc_tied.specs.Injection.{Pair, Lone, Holds, holds, Both, both, Table}
use Rattle.cc_tied.proofs.Lists.{place_cases, get_old, get_new, get_set_same, get_set_other}

pub get_end : {A : Type 0} (xs : List A) → slice_get xs (length xs) ≡ None
get_end [] = refl
get_end (x ∷ xs) = get_end xs

pub get_range : {A : Type 0} (xs : List A) (i : ℕ) (a : A) → slice_get xs i ≡ Some a → i < length xs
get_range [] i a e = absurd (cc)
get_range (x ∷ xs) zero a e = omega arith
get_range (x ∷ xs) (suc i) a e = let h = get_range xs i a e in omega arith

pub in_cases : {A : Type 0} {x y : A} {xs : List A} → In x (y ∷ xs) → (x ≡ y) ⊎ In x xs
in_cases here = inl refl
in_cases (there h) = inr h

pub none_in : {A : Type 0} {x : A} → In x [] → ⊥
none_in h = elim h [ ]

-- ---- entries that are there

pub holds_old : {A : Type 0} {Z : A → Type 0} (xs xs' : List A) (m : ℕ) (x : Option A) → slice_get xs m ≡ x → Holds Z x → Holds Z (slice_get (xs ++ xs') m)
holds_old xs xs' m _ e (holds {a = a} h) = rw (get_old xs xs' m a e) (holds h)

out_holds : {A : Type 0} {Z : A → Type 0} (xs : List A) (x : Option A) → slice_get xs (length xs) ≡ x → Holds Z x → ⊥
out_holds xs _ e (holds h) = let k = get_end xs in absurd (cc)

is_held : {A : Type 0} {Z : A → Type 0} {x : Option A} (a : A) → x ≡ Some a → Z a → Holds Z x
is_held a e h = rw e (holds h)

pub holds_more : {A : Type 0} {Y Z : A → Type 0} → ((a : A) → Y a → Z a) → {x : Option A} → Holds Y x → Holds Z x
holds_more f (holds {a = a} h) = holds (f a h)

module _ {A : Type 0} {R : A → A → Type 0} where
  pub both_more : {S : A → A → Type 0} → ((a b : A) → R a b → S a b) → {x y : Option A} → Both R x y → Both S x y
  both_more f (both {a = a} {b = b} h) = both (f a b h)

  both_old : (xs ys xs' ys' : List A) (m n : ℕ) (x y : Option A) → slice_get xs m ≡ x → slice_get ys n ≡ y → Both R x y → Both R (slice_get (xs ++ xs') m) (slice_get (ys ++ ys') n)
  both_old xs ys xs' ys' m n _ _ e f (both {a = a} {b = b} h) = rw (get_old xs xs' m a e, get_old ys ys' n b f) (both h)

  both_left : (xs xs' : List A) (m : ℕ) (x y : Option A) → slice_get xs m ≡ x → Both R x y → Both R (slice_get (xs ++ xs') m) y
  both_left xs xs' m _ y e (both {a = a} h) = rw (get_old xs xs' m a e) (both h)

  both_right : (ys ys' : List A) (n : ℕ) (x y : Option A) → slice_get ys n ≡ y → Both R x y → Both R x (slice_get (ys ++ ys') n)
  both_right ys ys' n x _ e (both {b = b} h) = rw (get_old ys ys' n b e) (both h)

  -- a tied place is in both lists
  out_left : (xs : List A) (x y : Option A) → slice_get xs (length xs) ≡ x → Both R x y → ⊥
  out_left xs _ y e (both h) = let k = get_end xs in absurd (cc)

  out_right : (ys : List A) (x y : Option A) → slice_get ys (length ys) ≡ y → Both R x y → ⊥
  out_right ys x _ e (both h) = let k = get_end ys in absurd (cc)

  is_both : {x y : Option A} (a b : A) → x ≡ Some a → y ≡ Some b → R a b → Both R x y
  is_both a b e f h = rw (e, f) (both h)

  in_left : (xs : List A) (m : ℕ) (x y : Option A) → slice_get xs m ≡ x → Both R x y → m < length xs
  in_left xs m _ y e (both {a = a} h) = get_range xs m a e

-- nothing is tied to nothing
pub none_tied : {X Y A : Type 0} {R : X → A → A → Type 0} {Z : Y → A → Type 0} {xs ys : List A} → Table R Z [] [] xs ys
none_tied = record { tied = λ p h. absurd (none_in h); left_one = λ p q h k. absurd (none_in h); right_one = λ p q h k. absurd (none_in h); lone = λ a h. absurd (none_in h); apart = λ a p h k. absurd (none_in h) }

module _ {X Y A : Type 0} {R : X → A → A → Type 0} {Z : Y → A → Type 0} {w : List (Pair X)} {z : List (Lone Y)} {xs ys : List A} (t : Table R Z w z xs ys) where
  -- ---- what is new is in no pair

  pub fresh_left : (p : Pair X) → In p w → p.left ≢ length xs
  fresh_left p h e = out_left xs _ _ (ap (λ i. slice_get xs i) (sym e)) (t.tied p h)

  pub fresh_right : (p : Pair X) → In p w → p.right ≢ length ys
  fresh_right p h e = out_right ys _ _ (ap (λ i. slice_get ys i) (sym e)) (t.tied p h)

  pub fresh_lone : (a : Lone Y) → In a z → a.place ≢ length xs
  fresh_lone a h e = out_holds xs _ (ap (λ i. slice_get xs i) (sym e)) (t.lone a h)

  pub left_range : (p : Pair X) → In p w → p.left < length xs
  left_range p h = in_left xs p.left _ _ refl (t.tied p h)

  -- the same table at a weaker relation
  pub table_more : {S : X → A → A → Type 0} → ((x : X) (a b : A) → R x a b → S x a b) → Table S Z w z xs ys
  table_more f = record { tied = λ p h. both_more (f p.label) (t.tied p h); left_one = t.left_one; right_one = t.right_one; lone = t.lone; apart = t.apart }

  -- ---- both runs make an entry

  module _ (x : X) (a b : A) (r : R x a b) where
    abbrev pub newest : Pair X
    newest = record { label = x; left = length xs; right = length ys }

    abbrev New : Pair X → Type 0
    New p = (p ≡ newest) ⊎ In p w

    tied_new : (p : Pair X) → New p → Both (R p.label) (slice_get (xs ++ a ∷ []) p.left) (slice_get (ys ++ b ∷ []) p.right)
    tied_new p (inl e) = rw (e, get_new xs a, get_new ys b) (both r)
    tied_new p (inr h) = both_old xs ys (a ∷ []) (b ∷ []) p.left p.right _ _ refl refl (t.tied p h)

    left_new : (p q : Pair X) → New p → New q → p.left ≡ q.left → p ≡ q
    left_new p q (inl e) (inl f) i = e ∙ sym f
    left_new p q (inl e) (inr k) i = absurd (fresh_left q k (sym i ∙ ap (λ y. y.left) e))
    left_new p q (inr h) (inl f) i = absurd (fresh_left p h (i ∙ ap (λ y. y.left) f))
    left_new p q (inr h) (inr k) i = t.left_one p q h k i

    right_new : (p q : Pair X) → New p → New q → p.right ≡ q.right → p ≡ q
    right_new p q (inl e) (inl f) i = e ∙ sym f
    right_new p q (inl e) (inr k) i = absurd (fresh_right q k (sym i ∙ ap (λ y. y.right) e))
    right_new p q (inr h) (inl f) i = absurd (fresh_right p h (i ∙ ap (λ y. y.right) f))
    right_new p q (inr h) (inr k) i = t.right_one p q h k i

    apart_new : (l : Lone Y) (p : Pair X) → In l z → New p → l.place ≢ p.left
    apart_new l p h (inl e) i = fresh_lone l h (i ∙ ap (λ y. y.left) e)
    apart_new l p h (inr k) i = t.apart l p h k i

    pub add_both : Table R Z (newest ∷ w) z (xs ++ a ∷ []) (ys ++ b ∷ [])
    add_both = record {
      tied = λ p h. tied_new p (in_cases h);
      left_one = λ p q h k. left_new p q (in_cases h) (in_cases k);
      right_one = λ p q h k. right_new p q (in_cases h) (in_cases k);
      lone = λ l h. holds_old xs (a ∷ []) l.place _ refl (t.lone l h);
      apart = λ l p h k. apart_new l p h (in_cases k);
    }

  -- ---- one run alone makes an entry, of which nothing is kept

  pub add_left : (a : A) → Table R Z w z (xs ++ a ∷ []) ys
  add_left a = record {
    tied = λ p h. both_left xs (a ∷ []) p.left _ _ refl (t.tied p h);
    left_one = t.left_one;
    right_one = t.right_one;
    lone = λ l h. holds_old xs (a ∷ []) l.place _ refl (t.lone l h);
    apart = t.apart;
  }

  pub add_right : (b : A) → Table R Z w z xs (ys ++ b ∷ [])
  add_right b = record {
    tied = λ p h. both_right ys (b ∷ []) p.right _ _ refl (t.tied p h);
    left_one = t.left_one;
    right_one = t.right_one;
    lone = t.lone;
    apart = t.apart;
  }

  -- .. or the left one makes an entry of which something is kept
  module _ (y : Y) (a : A) (za : Z y a) where
    abbrev pub newest_lone : Lone Y
    newest_lone = record { place = length xs; entry = y }

    lone_held : (l : Lone Y) → (l ≡ newest_lone) ⊎ In l z → Holds (Z l.entry) (slice_get (xs ++ a ∷ []) l.place)
    lone_held l (inl e) = rw (e, get_new xs a) (holds za)
    lone_held l (inr h) = holds_old xs (a ∷ []) l.place _ refl (t.lone l h)

    lone_apart : (l : Lone Y) → (l ≡ newest_lone) ⊎ In l z → (p : Pair X) → In p w → l.place ≢ p.left
    lone_apart l (inl e) p k i = fresh_left p k (sym i ∙ ap (λ y. y.place) e)
    lone_apart l (inr h) p k i = t.apart l p h k i

    pub add_lone : Table R Z w (newest_lone ∷ z) (xs ++ a ∷ []) ys
    add_lone = record {
      tied = λ p h. both_left xs (a ∷ []) p.left _ _ refl (t.tied p h);
      left_one = t.left_one;
      right_one = t.right_one;
      lone = λ l h. lone_held l (in_cases h);
      apart = λ l p h k. lone_apart l (in_cases h) p k;
    }

  -- ---- the left run changes an entry of its own

  module _ (l : Lone Y) (h : In l z) (a : A) (za : (y : Y) → Z y a) where
    lone_tied : (o : A) → slice_get xs l.place ≡ Some o → (q : Pair X) → In q w → Both (R q.label) (slice_get (slice_set xs l.place a) q.left) (slice_get ys q.right)
    lone_tied o e q k = rw (get_set_other xs l.place q.left a (t.apart l q h k)) (t.tied q k)

    lone_put : (o : A) → slice_get xs l.place ≡ Some o → (m : Lone Y) → In m z → (l.place ≡ m.place) ⊎ (l.place ≢ m.place) → Holds (Z m.entry) (slice_get (slice_set xs l.place a) m.place)
    lone_put o e m k (inl i) = rw (← i) (is_held a (get_set_same xs l.place o a e) (za m.entry))
    lone_put o e m k (inr i) = rw (get_set_other xs l.place m.place a i) (t.lone m k)

    pub set_lone : (o : A) → slice_get xs l.place ≡ Some o → Table R Z w z (slice_set xs l.place a) ys
    set_lone o e = record {
      tied = lone_tied o e;
      left_one = t.left_one;
      right_one = t.right_one;
      lone = λ m k. lone_put o e m k (place_cases l.place m.place);
      apart = t.apart;
    }

  -- ---- both runs change a tied entry, or the left one alone does

  module _ (p : Pair X) (h : In p w) (a b : A) (r : R p.label a b) where
    still_held : (l : Lone Y) → In l z → Holds (Z l.entry) (slice_get (slice_set xs p.left a) l.place)
    still_held l k = rw (get_set_other xs p.left l.place a (λ i. t.apart l p k h (sym i))) (t.lone l k)

    set_tied : (o o' : A) → slice_get xs p.left ≡ Some o → slice_get ys p.right ≡ Some o' → (q : Pair X) → In q w → (p.left ≡ q.left) ⊎ (p.left ≢ q.left) → (p.right ≡ q.right) ⊎ (p.right ≢ q.right) → Both (R q.label) (slice_get (slice_set xs p.left a) q.left) (slice_get (slice_set ys p.right b) q.right)
    set_tied o o' e e' q k (inl i) j = rw (← t.left_one p q h k i) (is_both a b (get_set_same xs p.left o a e) (get_set_same ys p.right o' b e') r)
    set_tied o o' e e' q k (inr i) (inl j) = absurd (i (ap (λ y. y.left) (t.right_one p q h k j)))
    set_tied o o' e e' q k (inr i) (inr j) = rw (get_set_other xs p.left q.left a i, get_set_other ys p.right q.right b j) (t.tied q k)

    pub set_both : (o o' : A) → slice_get xs p.left ≡ Some o → slice_get ys p.right ≡ Some o' → Table R Z w z (slice_set xs p.left a) (slice_set ys p.right b)
    set_both o o' e e' = record {
      tied = λ q k. set_tied o o' e e' q k (place_cases p.left q.left) (place_cases p.right q.right);
      left_one = t.left_one;
      right_one = t.right_one;
      lone = still_held;
      apart = t.apart;
    }

    left_tied : (o : A) → slice_get xs p.left ≡ Some o → slice_get ys p.right ≡ Some b → (q : Pair X) → In q w → (p.left ≡ q.left) ⊎ (p.left ≢ q.left) → Both (R q.label) (slice_get (slice_set xs p.left a) q.left) (slice_get ys q.right)
    left_tied o e e' q k (inl i) = rw (← t.left_one p q h k i) (is_both a b (get_set_same xs p.left o a e) e' r)
    left_tied o e e' q k (inr i) = rw (get_set_other xs p.left q.left a i) (t.tied q k)

    pub set_left : (o : A) → slice_get xs p.left ≡ Some o → slice_get ys p.right ≡ Some b → Table R Z w z (slice_set xs p.left a) ys
    set_left o e e' = record {
      tied = λ q k. left_tied o e e' q k (place_cases p.left q.left);
      left_one = t.left_one;
      right_one = t.right_one;
      lone = still_held;
      apart = t.apart;
    }

  -- ---- the left run changes whichever entry, in a way that keeps what it is tied to and what is known of it

  module _ (n : ℕ) (o a : A) (there_o : slice_get xs n ≡ Some o) (keep : (x : X) (b : A) → R x o b → R x a b) (keep' : (y : Y) → Z y o → Z y a) where
    as_left : (x : X) (u v : Option A) → u ≡ Some o → Both (R x) u v → Both (R x) (Some a) v
    as_left x _ _ e (both {a = c} {b = b} h) = let d : c ≡ o = cc in both (keep x b (subst (λ z. R x z b) d h))

    as_held : (y : Y) (u : Option A) → u ≡ Some o → Holds (Z y) u → Holds (Z y) (Some a)
    as_held y _ e (holds {a = c} h) = let d : c ≡ o = cc in holds (keep' y (subst (λ z. Z y z) d h))

    any_tied : (q : Pair X) → In q w → (n ≡ q.left) ⊎ (n ≢ q.left) → Both (R q.label) (slice_get (slice_set xs n a) q.left) (slice_get ys q.right)
    any_tied q k (inl i) = rw (← i, get_set_same xs n o a there_o) (as_left q.label _ _ (ap (λ z. slice_get xs z) (sym i) ∙ there_o) (t.tied q k))
    any_tied q k (inr i) = rw (get_set_other xs n q.left a i) (t.tied q k)

    any_held : (l : Lone Y) → In l z → (n ≡ l.place) ⊎ (n ≢ l.place) → Holds (Z l.entry) (slice_get (slice_set xs n a) l.place)
    any_held l k (inl i) = rw (← i, get_set_same xs n o a there_o) (as_held l.entry _ (ap (λ z. slice_get xs z) (sym i) ∙ there_o) (t.lone l k))
    any_held l k (inr i) = rw (get_set_other xs n l.place a i) (t.lone l k)

    pub set_any : Table R Z w z (slice_set xs n a) ys
    set_any = record {
      tied = λ q k. any_tied q k (place_cases n q.left);
      left_one = t.left_one;
      right_one = t.right_one;
      lone = λ l k. any_held l k (place_cases n l.place);
      apart = t.apart;
    }
