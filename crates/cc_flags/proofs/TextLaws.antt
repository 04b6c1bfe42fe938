-- Texts cut at a byte, and the places of a marker.
use Rattle.std.proofs.Common.{◌≡◌, ◌≢◌, ◌==◌, ℕ, suc, ◌+◌, ◌-◌, ◌<◌, ◌≤◌, Bool, true, false, List, [], ◌∷◌, ◌++◌, length, get_or, take, drop, Some, None, nat_eq, sym, ap, ◌∙◌, refl, arith, cond}
use Rattle.std.specs.List.{starts_with}
use Rattle.std.proofs.lemmas.Bool.{ne_eqb, false_from_ne_true}
use Rattle.std.proofs.lemmas.Bool.Decides.{Decides-eqb}
use Rattle.std.proofs.lemmas.Slice.Eq.{starts_is}
use Rattle.std.proofs.lemmas.List.{at_drop_more, at_drop_all, take_rest}
use Rattle.std.specs.Option.{MatchOption}
use Rattle.std.specs.declared.option.Option.{Option}
use denote.Ref.{Bor}
use Rattle.cc_flags.specs.Texts.{before, behind, pieces, begun_with, places}

-- a byte that isn't c at the head of a text without c
other_head : (c x : ℕ) (xs : List ℕ) → ((i : ℕ) → i < length (x ∷ xs) → get_or (x ∷ xs) i 0 ≢ c) → (x == c) ≡ false
other_head c x xs none = ne_eqb x c (none 0 (omega arith))

others : (c x : ℕ) (xs : List ℕ) → ((i : ℕ) → i < length (x ∷ xs) → get_or (x ∷ xs) i 0 ≢ c) → (i : ℕ) → i < length xs → get_or xs i 0 ≢ c
others c x xs none i h = none (suc i) (omega arith)

pub before-none : (c : ℕ) (xs : List ℕ) → ((i : ℕ) → i < length xs → get_or xs i 0 ≢ c) → before c xs ≡ xs
unfolding before
before-none c [] none = refl
before-none c (x ∷ xs) none = rw (other_head c x xs none) (ap (λ ys. x ∷ ys) (before-none c xs (others c x xs none)))

pub behind-none : (c : ℕ) (xs : List ℕ) → ((i : ℕ) → i < length xs → get_or xs i 0 ≢ c) → behind c xs ≡ None
unfolding behind
behind-none c [] none = refl
behind-none c (x ∷ xs) none = rw (other_head c x xs none) (behind-none c xs (others c x xs none))

pub before-first : (c : ℕ) (xs ys : List ℕ) → ((i : ℕ) → i < length xs → get_or xs i 0 ≢ c) → before c (xs ++ c ∷ ys) ≡ xs
unfolding before
before-first c [] ys none = let here : (c == c) ≡ true = search arith in rw here refl
before-first c (x ∷ xs) ys none = rw (other_head c x xs none) (ap (λ zs. x ∷ zs) (before-first c xs ys (others c x xs none)))

pub behind-first : (c : ℕ) (xs ys : List ℕ) → ((i : ℕ) → i < length xs → get_or xs i 0 ≢ c) → behind c (xs ++ c ∷ ys) ≡ Some ys
unfolding behind
behind-first c [] ys none = let here : (c == c) ≡ true = search arith in rw here refl
behind-first c (x ∷ xs) ys none = rw (other_head c x xs none) (behind-first c xs ys (others c x xs none))

-- ---- pieces

one_step : (here : Bool) (x : ℕ) (xs front : List ℕ) (rest : Option (List ℕ)) (ps : List (List ℕ)) → (rest ≡ None → ps ≡ front ∷ [])
    → cond here (Some xs) rest ≡ None → cond here ([] ∷ ps) (begun_with x ps) ≡ cond here [] (x ∷ front) ∷ []
one_step true x xs front rest ps more e = cc
one_step false x xs front rest ps more e = ap (begun_with x) (more e)

pub pieces-one : (c : ℕ) (xs : List ℕ) → behind c xs ≡ None → pieces c xs ≡ before c xs ∷ []
unfolding before behind pieces
pieces-one c [] e = refl
pieces-one c (x ∷ xs) e = one_step (x == c) x xs (before c xs) (behind c xs) (pieces c xs) (pieces-one c xs) e

more_step : (here : Bool) (x : ℕ) (xs front ys : List ℕ) (rest : Option (List ℕ)) (ps qs : List (List ℕ)) → (rest ≡ Some ys → ps ≡ front ∷ qs)
    → (xs ≡ ys → ps ≡ qs) → cond here (Some xs) rest ≡ Some ys → cond here ([] ∷ ps) (begun_with x ps) ≡ cond here [] (x ∷ front) ∷ qs
more_step true x xs front ys rest ps qs more same e = ap (λ zs. [] ∷ zs) (same (let k : xs ≡ ys = cc in k))
more_step false x xs front ys rest ps qs more same e = ap (begun_with x) (more e)

pub pieces-more : (c : ℕ) (xs ys : List ℕ) → behind c xs ≡ Some ys → pieces c xs ≡ before c xs ∷ pieces c ys
unfolding before behind pieces
pieces-more c [] ys e = cc
pieces-more c (x ∷ xs) ys e = more_step (x == c) x xs (before c xs) ys (behind c xs) (pieces c xs) (pieces c ys) (pieces-more c xs ys) (ap (pieces c)) e

shorter_step : (here : Bool) (xs ys : List ℕ) (rest : Option (List ℕ)) → (rest ≡ Some ys → length ys < length xs) → cond here (Some xs) rest ≡ Some ys → length ys < length xs + 1
shorter_step true xs ys rest more e = let same : xs ≡ ys = cc in omega (arith, ap length same)
shorter_step false xs ys rest more e = omega (arith, more e)

pub behind-shorter : (c : ℕ) (xs ys : List ℕ) → behind c xs ≡ Some ys → length ys < length xs
unfolding behind
behind-shorter c [] ys e = cc
behind-shorter c (x ∷ xs) ys e = omega (arith, shorter_step (x == c) xs ys (behind c xs) (behind-shorter c xs ys) e)

-- ---- the places of a marker

-- the marker begins at the head of a text or not, and then there are those behind the head
pub places-head : (marker : List ℕ) (x : ℕ) (xs : List ℕ) → places marker (x ∷ xs) ≡ cond (starts_with nat_eq (x ∷ xs) marker) 1 0 + places marker xs
unfolding places
places-head marker x xs = refl

pub places-at : (marker xs : List ℕ) (i : ℕ) → i < length xs
    → places marker (drop i xs) ≡ cond (starts_with nat_eq (drop i xs) marker) 1 0 + places marker (drop (i + 1) xs)
places-at marker xs i h =
    at_drop_more (places marker) xs i 0 h
    ∙ places-head marker (get_or xs i 0) (drop (i + 1) xs)
    ∙ ap (λ ys. cond (starts_with nat_eq ys marker) 1 0 + places marker (drop (i + 1) xs)) (sym (at_drop_more (λ ys. ys) xs i 0 h))

pub places-here : (marker xs : List ℕ) (i : ℕ) → i < length xs → (here : Bool) → here ≡ starts_with nat_eq (take (length xs - i) (drop i xs)) marker
    → places marker (drop i xs) ≡ cond here 1 0 + places marker (drop (i + 1) xs)
places-here marker xs i h here e =
    places-at marker xs i h
    ∙ ap (λ b. cond b 1 0 + places marker (drop (i + 1) xs)) (ap (λ ys. starts_with nat_eq ys marker) (sym (take_rest xs i)) ∙ sym e)

pub places-end : (marker xs : List ℕ) (i : ℕ) → length xs ≤ i → places marker (drop i xs) ≡ 0
unfolding places
places-end marker xs i h = at_drop_all (places marker) xs i h

-- a text in which the marker nowhere stands
pub places-nowhere : (marker xs : List ℕ) → ((ys zs : List ℕ) → xs ≢ ys ++ (marker ++ zs)) → places marker xs ≡ 0
unfolding places
places-nowhere marker [] none = refl
places-nowhere marker (x ∷ xs) none =
    let here : starts_with nat_eq (x ∷ xs) marker ≡ false = false_from_ne_true (starts_with nat_eq (x ∷ xs) marker) (λ e. none [] (drop (length marker) (x ∷ xs)) ((starts_is Decides-eqb (x ∷ xs) marker (starts_with nat_eq (x ∷ xs) marker) refl).0 e)) in
    rw here (rw (places-nowhere marker xs (λ ys zs e. none (x ∷ ys) zs (ap (λ ws. x ∷ ws) e))) refl)

-- the sides of a marker that stands at one place
pub around-by : (marker text : List ℕ) (sides : Option (Bor (List ℕ) × Bor (List ℕ))) → places marker text ≡ 1
    → MatchOption sides ((ys zs : List ℕ) → text ≢ ys ++ (marker ++ zs)) (λ s. text ≡ s.0.now ++ (marker ++ s.1.now))
    → MatchOption sides (¬ (places marker text ≡ 1)) (λ s. (places marker text ≡ 1) × (text ≡ s.0.now ++ (marker ++ s.1.now)))
around-by marker text None one nowhere = absurd (let none = places-nowhere marker text nowhere in omega arith)
around-by marker text (Some s) one split = (one, split)
