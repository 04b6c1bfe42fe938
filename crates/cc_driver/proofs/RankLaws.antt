-- Laws of rankings: how often a number stands in a list, that there is one ranking, and that a sort gives it.
use Rattle.std.proofs.Common.{◌≡◌, ◌≢◌, ℕ, zero, suc, ◌+◌, ◌-◌, ◌^◌, ◌<◌, ◌≤◌, Bool, true, false, cond, nat_eq, List, [], ◌∷◌, map, length, get_or, refl, sym, ap, ap₂, ◌∙◌, subst, inl, inr, ◌⊎◌, arith, eqb, eq-eqb, eqb-true, ltb, ltb-true, ltb-false, IsPermutation, IsSorted, All, Option, Some, None, slice_get}
use Rattle.std.proofs.lemmas.List.Recursion.{is_sum_by}
use Rattle.std.proofs.lemmas.List.Sorted.{sum_by-IsPermutation, IsPermutation-map, All-permutation}
use Rattle.std.proofs.lemmas.List.Sums.{count_by-le-length}
use Rattle.std.proofs.lemmas.Bool.Decides.{nat_tests}
use Rattle.std.specs.Ordering.{nat_cmp, ordering_then, is_lt}
use Rattle.std.specs.declared.cmp.Ordering.{Ordering}
use Rattle.cc_ast.specs.declared.tables.GlobalInfo.{GlobalInfo}
use Rattle.cc_driver.specs.declared.naming.rank.Rank.{Rank}
use Rattle.cc_driver.specs.declared.spelling.Piece.{Piece}
use Rattle.cc_driver.specs.Naming.{occurrences, is_global, Outranks, IsRanked, if_own, own_globals}
use Rattle.cc_driver.specs.Naming as naming
use Rattle.cc_driver.specs.NamingSteps.{rank_of, global_of}
use Rattle.cc_driver.proofs.NumberLaws.{SameOrNot, same_or_not}

-- how often a number stands in a list
abbrev pub times : ℕ → List ℕ → ℕ
times g [] = 0
times g (x ∷ xs) = cond (nat_eq g x) 1 0 + times g xs

pub times-permutation : (g : ℕ) (xs ys : List ℕ) → IsPermutation xs ys → times g ys ≡ times g xs
times-permutation g xs ys h =
    let as_sum = is_sum_by (times g) (λ x. cond (nat_eq g x) 1 0) refl (λ _ _. refl) in
    as_sum ys ∙ sum_by-IsPermutation (λ x. cond (nat_eq g x) 1 0) xs ys h ∙ sym (as_sum xs)

pub times_here : (x : ℕ) (xs : List ℕ) → times x (x ∷ xs) ≡ 1 + times x xs
times_here x xs = ap (λ b. cond b 1 0 + times x xs) (eq-eqb x x refl)

pub times_apart : (g x : ℕ) (xs : List ℕ) → g ≢ x → times g (x ∷ xs) ≡ times g xs
times_apart g x xs n = by (eqb g x) refl
  where
    by : (b : Bool) → eqb g x ≡ b → times g (x ∷ xs) ≡ times g xs
    by true e = absurd (n (eqb-true g x e))
    by false e = ap (λ b. cond b 1 0 + times g xs) e ∙ omega arith

module _ (pieces : List Piece) where
  not_both : (g h : ℕ) → Outranks pieces g h → Outranks pieces h g → ⊥
  not_both g h (inl a) (inl b) = omega arith
  not_both g h (inl a) (inr b) = omega arith
  not_both g h (inr a) (inl b) = omega arith
  not_both g h (inr a) (inr b) = omega arith

  outranks_on : (g h i : ℕ) → Outranks pieces g h → Outranks pieces h i → Outranks pieces g i
  outranks_on g h i (inl a) (inl b) = inl (omega arith)
  outranks_on g h i (inl a) (inr b) = inl (omega arith)
  outranks_on g h i (inr a) (inl b) = inl (omega arith)
  outranks_on g h i (inr a) (inr b) = inr (omega arith, omega arith)

  tail_ranked : (x : ℕ) (xs : List ℕ) → IsRanked pieces (x ∷ xs) → IsRanked pieces xs
  tail_ranked x [] r = naming.none_ranked
  tail_ranked x (y ∷ ys) (naming.more_ranked o r) = r

  head_outranks : (y : ℕ) (ys : List ℕ) (x : ℕ) → IsRanked pieces (y ∷ ys) → 1 ≤ times x ys → Outranks pieces y x
  head_outranks y [] x r h = absurd (omega arith)
  head_outranks y (z ∷ zs) x (naming.more_ranked o r) h = by (same_or_not x z) (head_outranks z zs x r)
    where
      by : SameOrNot x z → (1 ≤ times x zs → Outranks pieces z x) → Outranks pieces y x
      by (inl e) behind = subst (Outranks pieces y) (sym e) o
      by (inr n) behind = outranks_on y z x o (behind (omega (arith, times_apart x z zs n)))

  pub ranking_once : (xs ys : List ℕ) → IsRanked pieces xs → IsRanked pieces ys → ((g : ℕ) → times g xs ≡ times g ys) → xs ≡ ys
  ranking_once [] [] r s e = refl
  ranking_once [] (y ∷ ys) r s e = absurd (omega (arith, e y, times_here y ys))
  ranking_once (x ∷ xs) [] r s e = absurd (omega (arith, e x, times_here x xs))
  ranking_once (x ∷ xs) (y ∷ ys) r s e = by (same_or_not x y) (ranking_once xs ys (tail_ranked x xs r) (tail_ranked y ys s))
    where
      rest : x ≡ y → (g : ℕ) → times g xs ≡ times g ys
      rest p g =
          let same : times g (x ∷ xs) ≡ times g (x ∷ ys) = e g ∙ ap (λ z. times g (z ∷ ys)) (sym p) in
          omega (arith, same)

      by : SameOrNot x y → (((g : ℕ) → times g xs ≡ times g ys) → xs ≡ ys) → (x ∷ xs) ≡ (y ∷ ys)
      by (inl p) tails = ap₂ (λ a b. a ∷ b) p (tails (rest p))
      by (inr n) tails =
          let x_behind : 1 ≤ times x ys = omega (arith, e x, times_here x xs, times_apart x y ys n) in
          let y_behind : 1 ≤ times y xs = omega (arith, e y, times_here y ys, times_apart y x xs (λ p. n (sym p))) in
          absurd (not_both x y (head_outranks x xs y r y_behind) (head_outranks y ys x s x_behind))

-- the order of ranks
abbrev pub rank_cmp : Rank → Rank → Ordering
rank_cmp a b = ordering_then (nat_cmp a.falling b.falling) (nat_cmp a.global b.global)

not_less : (a b x y : ℕ) → is_lt (ordering_then (nat_cmp a b) (nat_cmp x y)) ≡ false → (b < a) ⊎ ((a ≡ b) × (y ≤ x))
not_less a b x y h = by (eqb a b) refl (ltb a b) refl
  where
    by : (e : Bool) → eqb a b ≡ e → (l : Bool) → ltb a b ≡ l → (b < a) ⊎ ((a ≡ b) × (y ≤ x))
    by true p l q = inr (eqb-true a b p, grind (arith, nat_tests))
    by false p true q = absurd (grind (arith, nat_tests))
    by false p false q = inl (grind (arith, nat_tests))

-- each rank tells its global's occurrences
abbrev pub TellsOccurrences : List Piece → Rank → Type 0
TellsOccurrences pieces rank = rank.falling + occurrences pieces rank.global ≡ 2 ^ 64 - 1

sorted_tail : (r : Rank) (rs : List Rank) → IsSorted rank_cmp (r ∷ rs) → IsSorted rank_cmp rs
sorted_tail r rs s k d l h =
    let e : suc k + 1 ≡ suc (k + 1) = omega arith in
    subst (λ n. is_lt (rank_cmp (get_or (r ∷ rs) n d) (get_or rs k d)) ≡ false) e (s (suc k) d (omega arith) (omega arith))

tells_tail : (pieces : List Piece) (r : Rank) (rs : List Rank) → All (TellsOccurrences pieces) (r ∷ rs) → All (TellsOccurrences pieces) rs
tells_tail pieces r rs t k d h = t (suc k) d (omega arith)

pub ranked_from_sorted : (pieces : List Piece) (rs : List Rank) → IsSorted rank_cmp rs → All (TellsOccurrences pieces) rs
    → ((g : ℕ) → times g (map global_of rs) ≤ 1) → IsRanked pieces (map global_of rs)
ranked_from_sorted pieces [] s t one = naming.none_ranked
ranked_from_sorted pieces (r ∷ []) s t one = naming.last_ranked
ranked_from_sorted pieces (r ∷ q ∷ rs) s t one =
    naming.more_ranked (outranks (not_less q.falling r.falling q.global r.global (s 0 r (omega arith) (omega arith))))
    (ranked_from_sorted pieces (q ∷ rs) (sorted_tail r (q ∷ rs) s) (tells_tail pieces r (q ∷ rs) t) (λ g. omega (arith, one g)))
  where
    apart : r.global ≢ q.global
    apart e =
        let twice : times r.global (map global_of (r ∷ q ∷ rs)) ≡ 1 + times r.global (q.global ∷ map global_of rs) = times_here r.global (q.global ∷ map global_of rs) in
        let there : times q.global (q.global ∷ map global_of rs) ≡ 1 + times q.global (map global_of rs) = times_here q.global (map global_of rs) in
        let same : times r.global (q.global ∷ map global_of rs) ≡ times q.global (q.global ∷ map global_of rs) = ap (λ g. times g (q.global ∷ map global_of rs)) e in
        omega (arith, twice, there, same, one r.global)

    first : r.falling + occurrences pieces r.global ≡ 2 ^ 64 - 1
    first = t 0 r (omega arith)

    second : q.falling + occurrences pieces q.global ≡ 2 ^ 64 - 1
    second = t 1 r (omega arith)

    outranks : (r.falling < q.falling) ⊎ ((q.falling ≡ r.falling) × (r.global ≤ q.global)) → Outranks pieces r.global q.global
    outranks (inl l) = inl (omega (arith, first, second))
    outranks (inr p) = inr (omega (arith, first, second, p.0), omega (arith, p.1, apart))

-- how often a number stands among the globals that the chunks declare
pub times_own_before : (g k : ℕ) (gs : List GlobalInfo) → g < k → times g (own_globals k gs) ≡ 0
times_own_before g k [] l = refl
times_own_before g k (info ∷ gs) l = by info.chunk (times_own_before g (k + 1) gs (omega arith))
  where
    by : (o : Option ℕ) → times g (own_globals (k + 1) gs) ≡ 0 → times g (if_own o k (own_globals (k + 1) gs)) ≡ 0
    by None rest = rest
    by (Some c) rest = times_apart g k (own_globals (k + 1) gs) (omega arith) ∙ rest

pub times_own_past : (g k : ℕ) (gs : List GlobalInfo) → k + length gs ≤ g → times g (own_globals k gs) ≡ 0
times_own_past g k [] l = refl
times_own_past g k (info ∷ gs) l = by info.chunk (times_own_past g (k + 1) gs (omega arith))
  where
    by : (o : Option ℕ) → times g (own_globals (k + 1) gs) ≡ 0 → times g (if_own o k (own_globals (k + 1) gs)) ≡ 0
    by None rest = rest
    by (Some c) rest = times_apart g k (own_globals (k + 1) gs) (omega arith) ∙ rest

pub times_own_once : (g k : ℕ) (gs : List GlobalInfo) → times g (own_globals k gs) ≤ 1
times_own_once g k [] = omega arith
times_own_once g k (info ∷ gs) = by info.chunk (times_own_once g (k + 1) gs)
  where
    at : SameOrNot g k → times g (own_globals (k + 1) gs) ≤ 1 → times g (k ∷ own_globals (k + 1) gs) ≤ 1
    at (inl e) rest = subst (λ x. times x (k ∷ own_globals (k + 1) gs) ≤ 1) (sym e) (omega (arith, times_here k (own_globals (k + 1) gs), times_own_before k (k + 1) gs (omega arith)))
    at (inr n) rest = omega (arith, times_apart g k (own_globals (k + 1) gs) n)

    by : (o : Option ℕ) → times g (own_globals (k + 1) gs) ≤ 1 → times g (if_own o k (own_globals (k + 1) gs)) ≤ 1
    by None rest = rest
    by (Some c) rest = at (same_or_not g k) rest

-- a number among them is a global's
pub own_within : (g : ℕ) (gs : List GlobalInfo) → 1 ≤ times g (own_globals 0 gs) → g < length gs
own_within g gs l = by (ltb g (length gs)) refl
  where
    by : (b : Bool) → ltb g (length gs) ≡ b → g < length gs
    by true e = ltb-true g (length gs) e
    by false e = let past : length gs ≤ g = ltb-false g (length gs) e in absurd (omega (arith, times_own_past g 0 gs (omega arith)))

-- 1 where the global has a chunk, and 0 where it has none
abbrev pub once_if : Option ℕ → ℕ
once_if None = 0
once_if (Some c) = 1

pub times_own_at : (gs : List GlobalInfo) (k i : ℕ) (info : GlobalInfo) → slice_get gs i ≡ Some info → times (k + i) (own_globals k gs) ≡ once_if info.chunk
times_own_at [] k i info e = absurd (cc)
times_own_at (x ∷ gs) k zero info e =
    let same : x ≡ info = cc in
    let here : k + 0 ≡ k = omega arith in
    subst (λ n. times n (own_globals k (x ∷ gs)) ≡ once_if info.chunk) (sym here) (by x.chunk ∙ ap (λ z. once_if z.chunk) same)
  where
    by : (o : Option ℕ) → times k (if_own o k (own_globals (k + 1) gs)) ≡ once_if o
    by None = times_own_before k (k + 1) gs (omega arith)
    by (Some c) = times_here k (own_globals (k + 1) gs) ∙ ap (λ n. 1 + n) (times_own_before k (k + 1) gs (omega arith))
times_own_at (x ∷ gs) k (suc i) info e =
    let later : k + suc i ≡ (k + 1) + i = omega arith in
    by x.chunk ∙ ap (λ n. times n (own_globals (k + 1) gs)) later ∙ times_own_at gs (k + 1) i info e
  where
    by : (o : Option ℕ) → times (k + suc i) (if_own o k (own_globals (k + 1) gs)) ≡ times (k + suc i) (own_globals (k + 1) gs)
    by None = refl
    by (Some c) = times_apart (k + suc i) k (own_globals (k + 1) gs) (omega arith)

pub times_own_of : (gs : List GlobalInfo) (g : ℕ) (info : GlobalInfo) → slice_get gs g ≡ Some info → times g (own_globals 0 gs) ≡ once_if info.chunk
times_own_of gs g info e =
    let same : 0 + g ≡ g = omega arith in
    subst (λ n. times n (own_globals 0 gs) ≡ once_if info.chunk) same (times_own_at gs 0 g info e)

globals-ranks : (pieces : List Piece) (xs : List ℕ) → map global_of (map (rank_of pieces) xs) ≡ xs
globals-ranks pieces [] = refl
globals-ranks pieces (x ∷ xs) = ap (λ ys. x ∷ ys) (globals-ranks pieces xs)

all_ranks : (pieces : List Piece) → length pieces < 2 ^ 64 → (xs : List ℕ) → All (TellsOccurrences pieces) (map (rank_of pieces) xs)
all_ranks pieces short [] k d l = absurd (omega arith)
all_ranks pieces short (x ∷ xs) zero d l = omega (arith, count_by-le-length (is_global x) pieces)
all_ranks pieces short (x ∷ xs) (suc k) d l = all_ranks pieces short xs k d (omega arith)

-- ranks that a sort made
pub ranks_all : (pieces : List Piece) (globals : List GlobalInfo) (before after : List Rank) → before ≡ map (rank_of pieces) (own_globals 0 globals)
    → IsPermutation before after → IsPermutation (own_globals 0 globals) (map global_of after)
ranks_all pieces globals before after e p =
    subst (λ xs. IsPermutation xs (map global_of after)) (ap (map global_of) e ∙ globals-ranks pieces (own_globals 0 globals)) (IsPermutation-map global_of before after p)

pub ranks_ranked : (pieces : List Piece) (globals : List GlobalInfo) (before after : List Rank) → length pieces < 2 ^ 64 → before ≡ map (rank_of pieces) (own_globals 0 globals)
    → IsPermutation before after → IsSorted rank_cmp after → IsRanked pieces (map global_of after)
ranks_ranked pieces globals before after short e p sorted =
    let tells : All (TellsOccurrences pieces) before = subst (All (TellsOccurrences pieces)) (sym e) (all_ranks pieces short (own_globals 0 globals)) in
    ranked_from_sorted pieces after sorted (All-permutation (TellsOccurrences pieces) before after p tells)
    (λ g. omega (arith, times_own_once g 0 globals, times-permutation g (own_globals 0 globals) (map global_of after) (ranks_all pieces globals before after e p)))
