-- Laws of the numbers of globals, which are the places of their names.
use Rattle.std.proofs.Common.{◌≡◌, ℕ, suc, ◌+◌, ◌<◌, true, false, not, cond, List, [], ◌∷◌, ◌++◌, length, map, refl, sym, ap, subst, ◌∙◌, ◌⊎◌, inl, inr, arith, Some, slice_get, one-add}
use Rattle.std.specs.Str.{bytes_eq}
use Rattle.std.proofs.lemmas.Bool.{cases_Bool}
use Rattle.cc_meaning.specs.Alike.{In, here, there}
use Rattle.cc_driver.specs.Source.{number_of}
use Rattle.cc_driver.proofs.Promise.Lists.{names_same, same_names, names_differ}

pub number_head : (x : List ℕ) (xs : List (List ℕ)) (n : List ℕ) → bytes_eq n x ≡ true → number_of (x ∷ xs) n ≡ 0
number_head x xs n e = ap (λ b. cond (not b) (1 + number_of xs n) 0) e

pub number_tail : (x : List ℕ) (xs : List (List ℕ)) (n : List ℕ) → bytes_eq n x ≡ false → number_of (x ∷ xs) n ≡ suc (number_of xs n)
number_tail x xs n e = ap (λ b. cond (not b) (1 + number_of xs n) 0) e ∙ one-add (number_of xs n)

-- an element behind a different one
pub behind : (n x : List ℕ) (xs : List (List ℕ)) → In n (x ∷ xs) → bytes_eq n x ≡ false → In n xs
behind n x xs here e = let t = same_names n n refl in absurd (cc)
behind n x xs (there h) e = h

-- what stands at the number of a name, in a list made from the names
pub left_at : {A : Type 0} (u : List ℕ → A) (xs ys : List (List ℕ)) (zs : List A) (n : List ℕ) → In n xs → slice_get (map u xs ++ zs) (number_of (xs ++ ys) n) ≡ Some (u n)
left_at u [] ys zs n h = elim h [ ]
left_at u (x ∷ xs) ys zs n h = by (cases_Bool (bytes_eq n x)) (λ k. left_at u xs ys zs n k)
  where
    by : (bytes_eq n x ≡ true) ⊎ (bytes_eq n x ≡ false) → (In n xs → slice_get (map u xs ++ zs) (number_of (xs ++ ys) n) ≡ Some (u n)) → slice_get (map u (x ∷ xs) ++ zs) (number_of (x ∷ xs ++ ys) n) ≡ Some (u n)
    by (inl e) again = ap (slice_get (map u (x ∷ xs) ++ zs)) (number_head x (xs ++ ys) n e) ∙ ap (λ m. Some (u m)) (sym (names_same n x e))
    by (inr e) again = ap (slice_get (map u (x ∷ xs) ++ zs)) (number_tail x (xs ++ ys) n e) ∙ again (behind n x xs h e)

pub mapped_at : {A : Type 0} (u : List ℕ → A) (xs : List (List ℕ)) (n : List ℕ) → In n xs → slice_get (map u xs) (number_of xs n) ≡ Some (u n)
mapped_at u [] n h = elim h [ ]
mapped_at u (x ∷ xs) n h = by (cases_Bool (bytes_eq n x)) (λ k. mapped_at u xs n k)
  where
    by : (bytes_eq n x ≡ true) ⊎ (bytes_eq n x ≡ false) → (In n xs → slice_get (map u xs) (number_of xs n) ≡ Some (u n)) → slice_get (map u (x ∷ xs)) (number_of (x ∷ xs) n) ≡ Some (u n)
    by (inl e) again = ap (slice_get (map u (x ∷ xs))) (number_head x xs n e) ∙ ap (λ m. Some (u m)) (sym (names_same n x e))
    by (inr e) again = ap (slice_get (map u (x ∷ xs))) (number_tail x xs n e) ∙ again (behind n x xs h e)

pub right_at : {A : Type 0} (u v : List ℕ → A) (xs ys : List (List ℕ)) (n : List ℕ) → (In n xs → ⊥) → In n ys → slice_get (map u xs ++ map v ys) (number_of (xs ++ ys) n) ≡ Some (v n)
right_at u v [] ys n none h = mapped_at v ys n h
right_at u v (x ∷ xs) ys n none h =
    ap (slice_get (map u (x ∷ xs) ++ map v ys)) (number_tail x (xs ++ ys) n (names_differ n x (λ e. none (subst (λ z. In z (x ∷ xs)) (sym e) here))))
    ∙ right_at u v xs ys n (λ k. none (there k)) h

pub number_at : (xs : List (List ℕ)) (n : List ℕ) → In n xs → slice_get xs (number_of xs n) ≡ Some n
number_at [] n h = elim h [ ]
number_at (x ∷ xs) n h = by (cases_Bool (bytes_eq n x)) (λ k. number_at xs n k)
  where
    by : (bytes_eq n x ≡ true) ⊎ (bytes_eq n x ≡ false) → (In n xs → slice_get xs (number_of xs n) ≡ Some n) → slice_get (x ∷ xs) (number_of (x ∷ xs) n) ≡ Some n
    by (inl e) again = ap (slice_get (x ∷ xs)) (number_head x xs n e) ∙ ap Some (sym (names_same n x e))
    by (inr e) again = ap (slice_get (x ∷ xs)) (number_tail x xs n e) ∙ again (behind n x xs h e)

pub number_within : (xs : List (List ℕ)) (n : List ℕ) → In n xs → number_of xs n < length xs
number_within [] n h = elim h [ ]
number_within (x ∷ xs) n h = by (cases_Bool (bytes_eq n x)) (λ k. number_within xs n k)
  where
    by : (bytes_eq n x ≡ true) ⊎ (bytes_eq n x ≡ false) → (In n xs → number_of xs n < length xs) → number_of (x ∷ xs) n < suc (length xs)
    by (inl e) again = subst (λ k. k < suc (length xs)) (sym (number_head x xs n e)) (omega arith)
    by (inr e) again = let less : number_of xs n < length xs = again (behind n x xs h e) in subst (λ k. k < suc (length xs)) (sym (number_tail x xs n e)) (omega arith)

-- a map that keeps a name apart from the others keeps its number
pub number_again : (f : List ℕ → List ℕ) (xs : List (List ℕ)) (n : List ℕ) → ((y : List ℕ) → In y xs → f n ≡ f y → n ≡ y) → number_of (map f xs) (f n) ≡ number_of xs n
number_again f [] n apart = refl
number_again f (x ∷ xs) n apart = by (cases_Bool (bytes_eq n x)) (number_again f xs n (λ y h. apart y (there h)))
  where
    by : (bytes_eq n x ≡ true) ⊎ (bytes_eq n x ≡ false) → number_of (map f xs) (f n) ≡ number_of xs n → number_of (f x ∷ map f xs) (f n) ≡ number_of (x ∷ xs) n
    by (inl e) again = number_head (f x) (map f xs) (f n) (same_names (f n) (f x) (ap f (names_same n x e))) ∙ sym (number_head x xs n e)
    by (inr e) again =
        let differ : bytes_eq (f n) (f x) ≡ false = names_differ (f n) (f x) (λ k. let t = same_names n x (apart x here k) in cc) in
        number_tail (f x) (map f xs) (f n) differ ∙ ap suc again ∙ sym (number_tail x xs n e)
