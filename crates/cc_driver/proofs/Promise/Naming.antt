-- The law of namings.
use Rattle.std.proofs.Common.{◌≡◌, ℕ, zero, suc, ◌<◌, ◌≤◌, Bool, true, false, not, ◌||◌, List, [], ◌∷◌, ◌++◌, length, refl, sym, ap, ◌∙◌, subst, ◌⊎◌, inl, inr, arith, Option, Some, None, slice_get}
use Rattle.std.specs.Str.{bytes_eq}
use Rattle.std.proofs.lemmas.List.Folds.{list_any-append}
use Rattle.std.proofs.lemmas.Option.{slice_get_within}
use Rattle.cc_ast.specs.declared.tables.GlobalInfo.{GlobalInfo}
use Rattle.cc_ast.specs.Syntax as S
use Rattle.cc_meaning.specs.Alike.{In, here, there}
use Rattle.cc_driver.specs.Names.{is_in, reserved_words, strict_words, built_in_names, special_names, IsName}
use Rattle.cc_driver.specs.Naming.{NameNumber, IsNaming, is_passed, other_names, own_globals, if_other, Outranks}
use Rattle.cc_driver.specs.declared.spelling.Piece.{Piece}
use Rattle.cc_driver.proofs.NumberLaws.{SameOrNot, same_or_not}
use Rattle.cc_driver.proofs.RankLaws.{times, times-permutation, times_here, times_apart, times_own_of, once_if, own_within}
use Rattle.cc_driver.proofs.FreshLaws.{fresh_at}
use Rattle.cc_driver.proofs.NamingLaws.{fresh_place, own_name_kept, own_names_apart}
use Rattle.cc_driver.specs.NamingLaw.{IsGiven, IsKept, NamingLaw}
use Rattle.cc_driver.proofs.Promise.Lists.{names_same, same_names}
use Rattle.cc_driver.proofs.Promise.Characters.{number_starts, number_parts}
use Rattle.cc_driver.proofs.Promise.FreshOrder.{fresh_rises, fresh_leaves_none, GivenOrPassed}
use Rattle.cc_driver.proofs.Promise.RankOrder.{ranked_places}

-- ---- tests of a name in a list

or_both : (a b : Bool) → (a || b) ≡ false → (a ≡ false) × (b ≡ false)
or_both true b e = absurd (cc)
or_both false b e = (refl, e)

or_neither : (a b : Bool) → a ≡ false → b ≡ false → (a || b) ≡ false
or_neither a b e d = ap (λ c. c || b) e ∙ d

pub neither_from : (n : List ℕ) (xs ys : List (List ℕ)) → is_in n (xs ++ ys) ≡ false → (is_in n xs ≡ false) × (is_in n ys ≡ false)
neither_from n xs ys e = or_both (is_in n xs) (is_in n ys) (sym (list_any-append (bytes_eq n) xs ys) ∙ e)

pub in_neither : (n : List ℕ) (xs ys : List (List ℕ)) → is_in n xs ≡ false → is_in n ys ≡ false → is_in n (xs ++ ys) ≡ false
in_neither n xs ys e d = list_any-append (bytes_eq n) xs ys ∙ or_neither (is_in n xs) (is_in n ys) e d

pub not_in : (n : List ℕ) (xs : List (List ℕ)) → is_in n xs ≡ false → In n xs → ⊥
not_in n [] e h = elim h [ ]
not_in n (x ∷ xs) e here = let t = same_names n n refl in let w = or_both (bytes_eq n n) (is_in n xs) e in cc (w.0, t)
not_in n (x ∷ xs) e (there h) = not_in n xs (or_both (bytes_eq n x) (is_in n xs) e).1 h

pub in_none : (n : List ℕ) (xs : List (List ℕ)) → (In n xs → ⊥) → is_in n xs ≡ false
in_none n [] h = refl
in_none n (x ∷ xs) h = or_neither (bytes_eq n x) (is_in n xs) (by (bytes_eq n x) refl) (in_none n xs (λ k. h (there k)))
  where
    by : (b : Bool) → bytes_eq n x ≡ b → bytes_eq n x ≡ false
    by true e = absurd (h (subst (λ z. In z (x ∷ xs)) (sym (names_same n x e)) here))
    by false e = e

-- ---- names that are passed over

pub record IsFree (program : S.Program) (name : List ℕ) : Type 0 where
  pub reserved : is_in name reserved_words ≡ false
  pub special : is_in name special_names ≡ false
  pub others : is_in name (other_names program.globals) ≡ false

pub free_from : (program : S.Program) (name : List ℕ) → is_passed program name ≡ false → IsFree program name
free_from program name e =
    let w = neither_from name (reserved_words ++ strict_words ++ special_names) (other_names program.globals) e in
    let v = neither_from name (reserved_words ++ strict_words) special_names w.0 in
    let u = neither_from name reserved_words strict_words v.0 in
    record { reserved = u.0; special = v.1; others = w.1 }

pub valid_from : (name : List ℕ) (k : ℕ) → NameNumber k name → is_in name reserved_words ≡ false → is_in name built_in_names ≡ false → is_in name special_names ≡ false → IsName name
valid_from name k number reserved built special = record {
  starts = number_starts number;
  parts = number_parts number;
  free = ap not (in_neither name (reserved_words ++ built_in_names) special_names (in_neither name reserved_words built_in_names reserved built) special);
}

same_global : {g h : GlobalInfo} → Some g ≡ Some h → g ≡ h
same_global e = cc

other_first : (c : Option ℕ) (x : List ℕ) (xs : List (List ℕ)) → c ≡ None → In x (if_other c x xs)
other_first None x xs e = here
other_first (Some c) x xs e = absurd (cc)

other_later : (c : Option ℕ) (x y : List ℕ) (xs : List (List ℕ)) → In y xs → In y (if_other c x xs)
other_later None x y xs h = there h
other_later (Some c) x y xs h = h

-- the name of a global of no chunk is among the others
pub other_in : (gs : List GlobalInfo) (k : ℕ) (g : GlobalInfo) → slice_get gs k ≡ Some g → g.chunk ≡ None → In g.name (other_names gs)
other_in [] k g e n = absurd (cc)
other_in (x ∷ gs) zero g e n =
    let same : x ≡ g = same_global e in
    subst (λ z. In z.name (other_names (x ∷ gs))) same (other_first x.chunk x.name (other_names gs) (ap (λ z. z.chunk) same ∙ n))
other_in (x ∷ gs) (suc k) g e n = other_later x.chunk x.name g.name (other_names gs) (other_in gs k g e n)

-- what stands at a place within a list
pub item_at : {A : Type 0} (xs : List A) (k : ℕ) → k < length xs → (x : A) × (slice_get xs k ≡ Some x)
item_at [] k l = absurd (omega arith)
item_at (x ∷ xs) zero l = (x, refl)
item_at (x ∷ xs) (suc k) l = item_at xs k (omega arith)

times_at : (xs : List ℕ) (k g : ℕ) → slice_get xs k ≡ Some g → 1 ≤ times g xs
times_at [] k g e = absurd (cc)
times_at (x ∷ xs) zero g e =
    let same : x ≡ g = cc in
    omega (arith, times_here x xs, ap (λ z. times z (x ∷ xs)) same)
times_at (x ∷ xs) (suc k) g e = by (same_or_not g x) (times_at xs k g e)
  where
    by : SameOrNot g x → 1 ≤ times g xs → 1 ≤ times g (x ∷ xs)
    by (inl s) rest = omega (arith, times_here x xs, ap (λ z. times z (x ∷ xs)) s)
    by (inr n) rest = omega (arith, times_apart g x xs n, rest)

chunk_from : (o : Option ℕ) → 1 ≤ once_if o → (c : ℕ) × (o ≡ Some c)
chunk_from None l = absurd (omega arith)
chunk_from (Some c) l = (c, refl)

module _ (program : S.Program) (pieces : List Piece) (names : List (List ℕ)) (n : IsNaming program pieces names) where
  passed_not : (g : ℕ) (x : List ℕ) → IsGiven program names g x → is_passed program x ≡ false
  passed_not g x a = own_name_kept program pieces names n g a.info a.chunk x a.stands a.own a.named

  kept_is : (g : ℕ) (x : List ℕ) (k : IsKept program names g x) → x ≡ k.info.name
  kept_is g x k = let e = n.others_keep g k.info k.stands k.outer in let d = k.named in cc

  apart_from_kept : (g h : ℕ) (x : List ℕ) → IsGiven program names g x → IsKept program names h x → ⊥
  apart_from_kept g h x a k =
      let free = free_from program x (passed_not g x a) in
      not_in x (other_names program.globals) free.others
      (subst (λ z. In z (other_names program.globals)) (sym (kept_is h x k)) (other_in program.globals h k.info k.stands k.outer))

  -- where a given name stands among the fresh ones
  place_of : (g : ℕ) (x : List ℕ) → IsGiven program names g x → (i : ℕ) × (slice_get n.ranking i ≡ Some g) × (slice_get n.fresh i ≡ Some x)
  place_of g x a = fresh_place program pieces names n g a.info a.chunk x a.stands a.own a.named

  valid_given : ((b : List ℕ) → In b built_in_names → In b (other_names program.globals)) → (g : ℕ) (x : List ℕ) → IsGiven program names g x → IsName x
  valid_given built g x a =
      let free = free_from program x (passed_not g x a) in
      let place = place_of g x a in
      let fresh = fresh_at (is_passed program) 0 n.fresh n.in_order place.0 x place.2 in
      valid_from x fresh.number fresh.named free.reserved (in_none x built_in_names (λ h. not_in x (other_names program.globals) free.others (built x h))) free.special

  given_in_order : (g h : ℕ) (x y : List ℕ) (i j : ℕ) → IsGiven program names g x → IsGiven program names h y → Outranks pieces g h → NameNumber i x → NameNumber j y → i < j
  given_in_order g h x y i j a b o c d =
      let p = place_of g x a in
      let q = place_of h y b in
      fresh_rises (is_passed program) 0 n.fresh n.in_order p.0 q.0 x y i j (ranked_places pieces n.ranking n.ranked p.0 q.0 g h p.1 q.1 o) p.2 q.2 c d

  -- a name that stands among the fresh ones is given
  given_by_place : (i : ℕ) (y : List ℕ) → slice_get n.fresh i ≡ Some y → (h : ℕ) × IsGiven program names h y
  given_by_place i y e =
      let within : i < length n.fresh = slice_get_within n.fresh i y e in
      let ranked : i < length n.ranking = omega (arith, n.one_each) in
      let at = item_at n.ranking i ranked in
      let once : 1 ≤ times at.0 (own_globals 0 program.globals) = omega (arith, times_at n.ranking i at.0 at.1, times-permutation at.0 (own_globals 0 program.globals) n.ranking n.all_ranked) in
      let global = item_at program.globals at.0 (own_within at.0 program.globals once) in
      let own = chunk_from global.0.chunk (omega (arith, once, times_own_of program.globals at.0 global.0 global.1)) in
      (at.0, record { info = global.0; chunk = own.0; stands = global.1; own = own.1; named = n.given i at.0 at.1 ∙ e })

  none_left : (g : ℕ) (x y : List ℕ) (i j : ℕ) → IsGiven program names g x → NameNumber i x → NameNumber j y → j < i → GivenOrPassed (is_passed program) n.fresh y
  none_left g x y i j a c d l = let p = place_of g x a in fresh_leaves_none (is_passed program) 0 n.fresh n.in_order p.0 x y i j p.2 c d (omega arith) l

  left_or_given : (y : List ℕ) → GivenOrPassed (is_passed program) n.fresh y → (is_passed program y ≡ true) ⊎ ((h : ℕ) × IsGiven program names h y)
  left_or_given y (inl e) = inl e
  left_or_given y (inr p) = inr (given_by_place p.0 y p.1)

  pub naming_law : ((b : List ℕ) → In b built_in_names → In b (other_names program.globals)) → NamingLaw program pieces names
  naming_law built = record {
    apart = λ g h x a b. own_names_apart program pieces names n g h a.info b.info a.chunk b.chunk x a.stands a.own b.stands b.own a.named b.named;
    new = apart_from_kept;
    valid = valid_given built;
    not_passed = passed_not;
    outer_kept = kept_is;
    in_order = given_in_order;
    none_left_out = λ g x y i j a c d l. left_or_given y (none_left g x y i j a c d l);
  }
