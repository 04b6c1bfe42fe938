-- A walk along a list that ends at the first element that a test refuses, for an answer that is defined by
-- the rest of the list.
use Rattle.std.proofs.Common.{◌≡◌, ◌∙◌, ℕ, ◌+◌, ◌<◌, ◌≤◌, Bool, true, false, ◌&&◌, List, [], ◌∷◌, length, get_or, drop, ap, sym}
use Rattle.std.proofs.lemmas.List.{at_drop_more, at_drop_all}

module _ {X : Type 0} (test : X → Bool) (all : List X → Bool) (none : all [] ≡ true) (more : (x : X) (xs : List X) → all (x ∷ xs) ≡ (test x && all xs)) (xs : List X) (i : ℕ) (before : all (drop i xs) ≡ all xs) where
  here : (x : X) → i < length xs → x ≡ get_or xs i x → all xs ≡ (test x && all (drop (i + 1) xs))
  here x h e = sym before ∙ at_drop_more all xs i x h ∙ ap (λ y. all (y ∷ drop (i + 1) xs)) (sym e) ∙ more x (drop (i + 1) xs)

  pub refused : (x : X) → i < length xs → x ≡ get_or xs i x → test x ≡ false → false ≡ all xs
  refused x h e k = sym (here x h e ∙ ap (λ b. b && all (drop (i + 1) xs)) k)

  pub goes_on : (x : X) → i < length xs → x ≡ get_or xs i x → test x ≡ true → all (drop (i + 1) xs) ≡ all xs
  goes_on x h e k = sym (here x h e ∙ ap (λ b. b && all (drop (i + 1) xs)) k)

  pub ended : length xs ≤ i → true ≡ all xs
  ended h = sym (sym before ∙ at_drop_all all xs i h ∙ none)
