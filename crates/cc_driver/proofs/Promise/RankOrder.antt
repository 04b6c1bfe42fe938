-- The order of the globals by their printed occurrences.
use Rattle.std.proofs.Common.{◌≡◌, ℕ, zero, suc, ◌<◌, List, [], ◌∷◌, sym, ◌∙◌, subst, ◌⊎◌, inl, inr, arith, Some, slice_get}
use Rattle.cc_meaning.specs.Alike.{In, here, there}
use Rattle.cc_driver.specs.Naming.{IsRanked, Outranks, occurrences}
use Rattle.cc_driver.specs.Naming as naming
use Rattle.cc_driver.specs.declared.spelling.Piece.{Piece}
use Rattle.cc_driver.proofs.Promise.Lists.{in_got}

-- an order by a count, falling, and then by number
abbrev Before : (a b g h : ℕ) → Type 0
Before a b g h = (b < a) ⊎ ((a ≡ b) × (g < h))

before_itself : (a g : ℕ) → Before a a g g → ⊥
before_itself a g (inl l) = omega arith
before_itself a g (inr h) = let l : g < g = h.1 in omega arith

before_both : (a b g h : ℕ) → Before a b g h → Before b a h g → ⊥
before_both a b g h (inl l) (inl k) = omega arith
before_both a b g h (inl l) (inr k) = let e : b ≡ a = k.0 in omega arith
before_both a b g h (inr l) (inl k) = let e : a ≡ b = l.0 in omega arith
before_both a b g h (inr l) (inr k) = let m : g < h = l.1 in let n : h < g = k.1 in omega arith

before_again : (a b c g h i : ℕ) → Before a b g h → Before b c h i → Before a c g i
before_again a b c g h i (inl l) (inl k) = inl (omega arith)
before_again a b c g h i (inl l) (inr k) = let e : b ≡ c = k.0 in inl (omega arith)
before_again a b c g h i (inr l) (inl k) = let e : a ≡ b = l.0 in inl (omega arith)
before_again a b c g h i (inr l) (inr k) = let m : g < h = l.1 in let n : h < i = k.1 in inr (l.0 ∙ k.0, omega arith)

module _ (pieces : List Piece) where
  ranked_first : (g : ℕ) (gs : List ℕ) → IsRanked pieces (g ∷ gs) → (h : ℕ) → In h gs → Outranks pieces g h
  ranked_first g [] r h k = elim k [ ]
  ranked_first g (i ∷ gs) (naming.more_ranked o r) h here = o
  ranked_first g (i ∷ gs) (naming.more_ranked o r) h (there k) =
      before_again (occurrences pieces g) (occurrences pieces i) (occurrences pieces h) g i h o (ranked_first i gs r h k)

  ranked_rest : (g : ℕ) (gs : List ℕ) → IsRanked pieces (g ∷ gs) → IsRanked pieces gs
  ranked_rest g [] r = naming.none_ranked
  ranked_rest g (h ∷ gs) (naming.more_ranked o r) = r

  -- the one that outranks the other stands before it
  pub ranked_places : (rs : List ℕ) → IsRanked pieces rs → (p q g h : ℕ) → slice_get rs p ≡ Some g → slice_get rs q ≡ Some h → Outranks pieces g h → p < q
  ranked_places [] r p q g h e d o = absurd (cc)
  ranked_places (x ∷ rs) r zero zero g h e d o =
      let same : g ≡ h = cc in
      absurd (before_itself (occurrences pieces g) g (subst (λ i. Outranks pieces g i) (sym same) o))
  ranked_places (x ∷ rs) r zero (suc q) g h e d o = omega arith
  ranked_places (x ∷ rs) r (suc p) zero g h e d o =
      let same : x ≡ h = cc in
      let first : Outranks pieces h g = subst (λ i. Outranks pieces i g) same (ranked_first x rs r g (in_got rs p g e)) in
      absurd (before_both (occurrences pieces g) (occurrences pieces h) g h o first)
  ranked_places (x ∷ rs) r (suc p) (suc q) g h e d o = let l : p < q = ranked_places rs (ranked_rest x rs r) p q g h e d o in omega arith
