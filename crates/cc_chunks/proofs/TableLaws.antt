-- The table as it is read.
use Rattle.std.proofs.Common.{◌≡◌, ◌≢◌, ℕ, zero, suc, ◌+◌, ◌-◌, ◌/◌, ◌%◌, ◌^◌, ◌++◌, ◌<◌, ◌⊎◌, ◌↔◌, Bool, true, false, List, [], ◌∷◌, length, length-append, take, get_or, slice_get, None, Some, IsTrue, refl, sym, ap, subst, ◌∙◌, inl, inr, arith}
use Rattle.std.proofs.lemmas.Bool.{false≢true, cases_eq, and_parts, and_from}
use Rattle.std.proofs.Math.ListN.{get_or-append}
use Rattle.std.proofs.lemmas.Grind.{take_at_read}
use Rattle.std.proofs.lemmas.List.{get_or_push}
use Rattle.std.proofs.lemmas.List.Elements.{All-more}
use Rattle.std.specs.List.{All}
use Rattle.std.specs.Prelude.{bit_and}
use Rattle.cc_ast.specs.declared.tables.ChunkInfo.{ChunkInfo}
use Rattle.cc_chunks.specs.declared.reach.Reach.{Reach}
use Rattle.cc_chunks.specs.Graph.{Depends, IsCommon}
use Rattle.cc_chunks.specs.Sets.{has, has_bit}
use Rattle.cc_chunks.specs.Tables.{IsTable, IsReach, IsCommonWord}
use Rattle.cc_chunks.proofs.SetLaws.{has-word, has_bit-all, has_bit-both, same_place}
use Rattle.cc_chunks.proofs.GraphLaws.{depends-within}

some-within : {X : Type 0} (xs : List X) (a : ℕ) → None ≡ slice_get xs a → a < length xs → ⊥
some-within [] a e h = omega (arith, h)
some-within (x ∷ xs) zero e h = cc
some-within (x ∷ xs) (suc a) e h = some-within xs a e (omega (arith, h))

module _ (chunks : List ChunkInfo) (table : List Reach) (is : IsTable chunks table) (a b : ℕ) where
  pub depends-read : (reach : Reach) → Some reach ≡ slice_get table a → (answer : Bool) → answer ≡ has reach.set.words.items b → IsTrue answer ↔ Depends chunks a b
  depends-read reach at answer e =
      let entry : IsReach chunks a reach = is.reaches.right a reach (sym at) in
      (λ h. (entry.set b).0 (sym e ∙ h), λ d. e ∙ (entry.set b).1 d)

  pub depends-nowhere : None ≡ slice_get table a → IsTrue false ↔ Depends chunks a b
  depends-nowhere at = (λ h. absurd (false≢true h), λ d. absurd (some-within table a at (omega (arith, depends-within chunks a b d, is.all))))

-- ---- the words of the table

module _ (chunks : List ChunkInfo) (table : List Reach) (is : IsTable chunks table) (k at w : ℕ) (reach : Reach)
    (stands : slice_get table k ≡ Some reach) (word : w ≡ get_or reach.set.words.items at 0) where
  entry : IsReach chunks k reach
  entry = is.reaches.right k reach stands

  bit-depends : (c : ℕ) → c / 64 ≡ at → IsTrue (has_bit w c) ↔ Depends chunks k c
  bit-depends c place =
      let same : has_bit w c ≡ has reach.set.words.items c = has-word reach.set.words.items at c w place word in
      (λ h. (entry.set c).0 (sym same ∙ h), λ d. same ∙ (entry.set c).1 d)

  pub reached-elsewhere : k / 64 ≢ at → (c : ℕ) → c / 64 ≡ at → IsTrue (has_bit w c) ↔ ((k ≡ c) ⊎ Depends chunks k c)
  reached-elsewhere apart c place = (λ h. inr ((bit-depends c place).0 h), back)
    where
      back : (k ≡ c) ⊎ Depends chunks k c → IsTrue (has_bit w c)
      back (inl e) = absurd (apart (ap (λ n. n / 64) e ∙ place))
      back (inr d) = (bit-depends c place).1 d

  pub reached-here : k / 64 ≡ at → (v : ℕ) → has_bit v k ≡ true → ((j : ℕ) → j % 64 ≢ k % 64 → has_bit v j ≡ has_bit w j)
      → (c : ℕ) → c / 64 ≡ at → IsTrue (has_bit v c) ↔ ((k ≡ c) ⊎ Depends chunks k c)
  reached-here here v same others c place =
      elim (cases_eq k c) [
        | inl e ↦ (λ h. inl e, λ r. subst (λ n. has_bit v n ≡ true) e same)
        | inr apart ↦
            let bit : has_bit v c ≡ has_bit w c = others c (λ l. apart (sym (same_place c k (place ∙ sym here) l))) in
            (λ h. inr ((bit-depends c place).0 (sym bit ∙ h)), λ r. bit ∙ (bit-depends c place).1 (one apart r))
      ]
    where
      one : (k ≡ c → ⊥) → (k ≡ c) ⊎ Depends chunks k c → Depends chunks k c
      one apart (inl e) = absurd (apart e)
      one apart (inr d) = d

-- ---- the common chunks of a word

All-front : (P : ℕ → Type 0) (xs : List ℕ) (x : ℕ) → All P (xs ++ x ∷ []) → All P xs × P x
All-front P xs x all = (
  λ k d h. subst P (get_or-append xs (x ∷ []) d k h) (all k d (omega (arith, h, length-append xs (x ∷ [])))),
  subst P (get_or_push xs x x (length xs) refl) (all (length xs) x (omega (arith, length-append xs (x ∷ [])))),
)

module _ (chunks : List ChunkInfo) where
  pub common-none : (at : ℕ) → IsCommonWord chunks [] at (2 ^ 64 - 1)
  common-none at = λ c place. (λ h k d within. absurd (omega (arith, within)), λ common. has_bit-all c)

  pub common-more : (list : List ℕ) (i at v w : ℕ) → i < length list → IsCommonWord chunks (take i list) at v
      → ((c : ℕ) → c / 64 ≡ at → IsTrue (has_bit w c) ↔ ((get_or list i 0 ≡ c) ⊎ Depends chunks (get_or list i 0) c))
      → IsCommonWord chunks (take (i + 1) list) at (bit_and v w)
  common-more list i at v w within before one = λ c place. (there c place, back c place)
    where
      there : (c : ℕ) → c / 64 ≡ at → IsTrue (has_bit (bit_and v w) c) → IsCommon chunks (take (i + 1) list) c
      there c place h =
          let both = and_parts (has_bit v c) (has_bit w c) (sym (has_bit-both v w c) ∙ h) in
          All-more (λ k. (k ≡ c) ⊎ Depends chunks k c) list i 0 within ((before c place).0 both.0) ((one c place).0 both.1)

      back : (c : ℕ) → c / 64 ≡ at → IsCommon chunks (take (i + 1) list) c → IsTrue (has_bit (bit_and v w) c)
      back c place common =
          let all = All-front (λ k. (k ≡ c) ⊎ Depends chunks k c) (take i list) (get_or list i 0) (subst (λ ks. IsCommon chunks ks c) (take_at_read list i 0 within).1 common) in
          has_bit-both v w c ∙ and_from (has_bit v c) (has_bit w c) ((before c place).1 all.0) ((one c place).1 all.1)
