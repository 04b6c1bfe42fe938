-- The first of the specs with a name.
use Rattle.std.proofs.Common.{◌≡◌, ℕ, zero, suc, ◌+◌, ◌<◌, Bool, true, false, cond, List, [], ◌∷◌, ◌++◌, length, map, get_or, take, Option, None, Some, is_some, refl, sym, ap, subst, ◌∙◌, inl, inr, arith, add-one, true≢false}
use Rattle.std.specs.Option.{option_map}
use Rattle.std.specs.Str.{bytes_eq}
use Rattle.std.proofs.lemmas.Bool.{cases_Bool}
use Rattle.std.proofs.lemmas.Slice.Eq.{bytes_eq-Decides}
use Rattle.std.specs.String.{string_bytes}
use Rattle.std.proofs.lemmas.List.{length-map, length-take-le}
use Rattle.cc_chunks.specs.declared.spec.ChunkSpec.{ChunkSpec}
use Rattle.cc_chunks.specs.Faults.{first_of, names_of}
use Rattle.cc_chunks.specs.Numbers.{number_after}

-- ---- one element more

pub map-more : {X Y : Type 0} (f : X → Y) (xs : List X) (i : ℕ) (x : X) → i < length xs → x ≡ get_or xs i x → take (suc i) (map f xs) ≡ take i (map f xs) ++ f x ∷ []
map-more f [] i x h at = absurd (omega (arith, h))
map-more f (y ∷ ys) zero x h at = ap (λ z. f z ∷ []) (sym at)
map-more f (y ∷ ys) (suc i) x h at = ap (λ l. f y ∷ l) (map-more f ys i x (omega (arith, h)) at)

-- ---- one name more

abbrev or_first : Option ℕ → Option ℕ → Option ℕ
or_first None o = o
or_first (Some i) o = Some i

map-or : (o : Option ℕ) (b : Bool) (n : ℕ) → option_map (λ i. i + 1) (or_first o (cond b (Some n) None)) ≡ or_first (option_map (λ i. i + 1) o) (cond b (Some (suc n)) None)
map-or None true n = ap Some (add-one n)
map-or None false n = refl
map-or (Some i) b n = refl

first_of-push : (xs : List (List ℕ)) (y q : List ℕ) → first_of (xs ++ y ∷ []) q ≡ or_first (first_of xs q) (cond (bytes_eq y q) (Some (length xs)) None)
unfolding first_of
first_of-push [] y q = refl
first_of-push (n ∷ ns) y q =
    elim (cases_Bool (bytes_eq n q)) [
      | inl e ↦ rw (e) refl
      | inr e ↦ rw (e) (ap (option_map (λ i. i + 1)) (first_of-push ns y q) ∙ map-or (first_of ns q) (bytes_eq y q) (length ns))
    ]

or-none : (o : Option ℕ) → or_first o None ≡ o
or-none None = refl
or-none (Some i) = refl

or-some : (o p : Option ℕ) → is_some o ≡ true → or_first o p ≡ o
or-some None p h = absurd (true≢false (sym h))
or-some (Some i) p h = refl

pub first_of-known : (xs : List (List ℕ)) (y q : List ℕ) → is_some (first_of xs y) ≡ true → first_of (xs ++ y ∷ []) q ≡ first_of xs q
first_of-known xs y q known =
    first_of-push xs y q
    ∙ elim (cases_Bool (bytes_eq y q)) [
      | inl e ↦ or-some (first_of xs q) (cond (bytes_eq y q) (Some (length xs)) None) (subst (λ z. is_some (first_of xs z) ≡ true) ((bytes_eq-Decides y q).0 e) known)
      | inr e ↦ ap (λ b. or_first (first_of xs q) (cond b (Some (length xs)) None)) e ∙ or-none (first_of xs q)
    ]

pub first_of-new : (xs : List (List ℕ)) (y q : List ℕ) → first_of xs y ≡ None → first_of (xs ++ y ∷ []) q ≡ cond (bytes_eq y q) (Some (length xs)) (first_of xs q)
first_of-new xs y q new =
    first_of-push xs y q
    ∙ elim (cases_Bool (bytes_eq y q)) [
      | inl e ↦ rw (sym ((bytes_eq-Decides y q).0 e), new) refl
      | inr e ↦ rw (e) (or-none (first_of xs q))
    ]

pub none-of : (o : Option ℕ) → is_some o ≡ false → o ≡ None
none-of None h = refl
none-of (Some i) h = absurd (true≢false h)

-- ---- the table of the numbers

module _ (specs : List ChunkSpec) (i : ℕ) (spec : ChunkSpec) (name : List ℕ) (within : i < length specs) (at : spec ≡ get_or specs i spec) (is : name ≡ string_bytes spec.name) where
  names-more : take (i + 1) (names_of specs) ≡ take i (names_of specs) ++ name ∷ []
  names-more = rw add-one (map-more (λ s. string_bytes s.name) specs i spec within at ∙ ap (λ n. take i (names_of specs) ++ n ∷ []) (sym is))

  length-names : length (take i (names_of specs)) ≡ i
  length-names = length-take-le i (names_of specs) (omega (arith, length-map specs (λ s. string_bytes s.name), within))

  module _ (f : List ℕ → Option ℕ) (first : (q : List ℕ) → f q ≡ first_of (take i (names_of specs)) q) where
    pub numbers-known : is_some (f name) ≡ true → (q : List ℕ) → f q ≡ first_of (take (i + 1) (names_of specs)) q
    numbers-known known q =
        first q
        ∙ sym (first_of-known (take i (names_of specs)) name q (ap is_some (sym (first name)) ∙ known))
        ∙ ap (λ ns. first_of ns q) (sym names-more)

    pub numbers-new : f name ≡ None → (g : List ℕ → Option ℕ) → ((q : List ℕ) → g q ≡ cond (bytes_eq name q) (Some i) (f q)) → (q : List ℕ) → g q ≡ first_of (take (i + 1) (names_of specs)) q
    numbers-new new g put q =
        put q
        ∙ (λ t. cond (bytes_eq name q) (Some (sym length-names t)) (first q t))
        ∙ sym (first_of-new (take i (names_of specs)) name q (sym (first name) ∙ new))
        ∙ ap (λ ns. first_of ns q) (sym names-more)

    pub numbers-entered : (g : List ℕ → Option ℕ) → ((q : List ℕ) → g q ≡ number_after f name i q) → (q : List ℕ) → g q ≡ first_of (take (i + 1) (names_of specs)) q
    numbers-entered g after = elim (cases_Bool (is_some (f name))) [
      | inl known ↦ λ q. after q ∙ ap (λ b. cond b (f q) (cond (bytes_eq name q) (Some i) (f q))) known ∙ numbers-known known q
      | inr new ↦ numbers-new (none-of (f name) new) g (λ q. after q ∙ ap (λ b. cond b (f q) (cond (bytes_eq name q) (Some i) (f q))) new)
    ]
