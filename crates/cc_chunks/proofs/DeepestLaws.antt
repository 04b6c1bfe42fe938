-- The search for the deepest common chunk.
use Rattle.std.proofs.Common.{◌≡◌, ℕ, ◌+◌, ◌<◌, ◌≤◌, ◌⊎◌, List, length, get_or, Option, None, Some, sym, subst, inl, inr, arith}
use Rattle.std.specs.Prelude.{MatchOption, IfSome}
use Rattle.std.proofs.lemmas.Bool.{cases_order}
use Rattle.cc_ast.specs.declared.tables.ChunkInfo.{ChunkInfo}
use Rattle.cc_chunks.specs.Graph.{DependsDown, IsCommon, GoesBefore, IsDeepestCommon}
use Rattle.cc_chunks.proofs.GraphLaws.{depends-down, before-through}

module _ (chunks : List ChunkInfo) (list : List ℕ) where
  -- the one of the first n chunks that is common and goes before the others that are, if there is one
  pub data BestBelow : Option ℕ → ℕ → Type 0 where
    no_best : {n : ℕ} → ((d : ℕ) → d < n → ¬ IsCommon chunks list d) → BestBelow None n
    best : {e n : ℕ} → e < n → IsCommon chunks list e → ((d : ℕ) → d < n → IsCommon chunks list d → GoesBefore chunks e d) → BestBelow (Some e) n

  pub best-start : BestBelow None 0
  best-start = no_best (λ d h. absurd (omega (arith, h)))

  pub best-within : (o : Option ℕ) (n d : ℕ) → BestBelow o n → o ≡ Some d → d < n
  best-within None n d (no_best none) e = cc
  best-within (Some x) n d (best h common first) e = let same : x ≡ d = cc in omega (arith, same, h)

  more_below : (P : ℕ → Type 0) (n : ℕ) → ((d : ℕ) → d < n → P d) → P n → (d : ℕ) → d < n + 1 → P d
  more_below P n below here d h =
      elim (cases_order d n) [
        | inl e ↦ subst P (sym e) here
        | inr either ↦ elim either [ inl low ↦ below d low | inr high ↦ absurd (omega (arith, h, high)) ]
      ]

  pub best-skip : (o : Option ℕ) (n : ℕ) → BestBelow o n → ¬ IsCommon chunks list n → BestBelow o (n + 1)
  best-skip None n (no_best none) not = no_best (more_below (λ d. ¬ IsCommon chunks list d) n none not)
  best-skip (Some e) n (best h common first) not =
      best (omega (arith, h)) common (more_below (λ d. IsCommon chunks list d → GoesBefore chunks e d) n first (λ c. absurd (not c)))

  pub best-take : (o : Option ℕ) (n r : ℕ) → BestBelow o n → IsCommon chunks list n → (r ≡ n) ⊎ (Some r ≡ o) → GoesBefore chunks r n → IfSome o (GoesBefore chunks r) → BestBelow (Some r) (n + 1)
  best-take None n r (no_best none) common (inl e) before earlier =
      best (omega (arith, e)) (subst (IsCommon chunks list) (sym e) common)
      (more_below (λ d. IsCommon chunks list d → GoesBefore chunks r d) n (λ d h c. absurd (none d h c)) (λ c. before))
  best-take None n r (no_best none) common (inr e) before earlier = cc
  best-take (Some x) n r (best h was first) common (inl e) before earlier =
      best (omega (arith, e)) (subst (IsCommon chunks list) (sym e) common)
      (more_below (λ d. IsCommon chunks list d → GoesBefore chunks r d) n (λ d low c. before-through chunks r x d earlier (first d low c)) (λ c. before))
  best-take (Some x) n r (best h was first) common (inr e) before earlier =
      let same : x ≡ r = cc in
      best (omega (arith, same, h)) (subst (IsCommon chunks list) same was)
      (more_below (λ d. IsCommon chunks list d → GoesBefore chunks r d) n (λ d low c. before-through chunks r x d earlier (first d low c)) (λ c. before))

  -- a common chunk is no later than the first of the list
  common-within : DependsDown chunks → 0 < length list → (c : ℕ) → IsCommon chunks list c → c ≤ get_or list 0 0
  common-within down some c common =
      elim (common 0 0 some) [
        | inl e ↦ omega (arith, e)
        | inr d ↦ omega (arith, depends-down chunks down (get_or list 0 0) c d)
      ]

  pub best-end : (o : Option ℕ) (n : ℕ) → DependsDown chunks → 0 < length list → n ≡ get_or list 0 0 + 1 → BestBelow o n → MatchOption o ((c : ℕ) → ¬ IsCommon chunks list c) (IsDeepestCommon chunks list)
  best-end None n down some end (no_best none) = λ c common. none c (omega (arith, end, common-within down some c common)) common
  best-end (Some e) n down some end (best h common first) = record {
    common = common;
    deepest = λ d other. first d (omega (arith, end, common-within down some d other)) other;
  }
