-- Laws of namings: there is one, its names are ASCII where the kept ones are, and the globals that
-- the chunks declare get different names, none of them passed over.
use Rattle.std.proofs.Common.{◌≡◌, ℕ, zero, suc, ◌≤◌, false, List, [], ◌∷◌, length, get_or, refl, sym, ap, ap₂, ◌∙◌, subst, inl, inr, ◌⊎◌, arith, Option, Some, None, slice_get, All, IsAscii}
use Rattle.std.proofs.lemmas.Option.{slice_get-get_or, slice_get_past, slice_get_within}
use Rattle.cc_ast.specs.declared.tables.GlobalInfo.{GlobalInfo}
use Rattle.cc_ast.specs.Syntax as S
use Rattle.cc_driver.specs.declared.spelling.Piece.{Piece}
use Rattle.cc_driver.specs.Naming.{IsNaming, own_globals, is_passed}
use Rattle.cc_driver.proofs.RankLaws.{times, times-permutation, times_apart, times_own_of, once_if, ranking_once}
use Rattle.cc_driver.proofs.NumberLaws.{SameOrNot, same_or_not}
use Rattle.cc_driver.proofs.FreshLaws.{fresh_once, fresh_at, fresh_apart, fresh-ASCII}

-- a place of a number that stands in a list
abbrev PlaceOf : List ℕ → ℕ → Type 0
PlaceOf xs g = (i : ℕ) × (slice_get xs i ≡ Some g)

place_from_times : (xs : List ℕ) (g : ℕ) → 1 ≤ times g xs → PlaceOf xs g
place_from_times [] g l = absurd (omega arith)
place_from_times (x ∷ xs) g l = by (same_or_not g x) (place_from_times xs g)
  where
    later : PlaceOf xs g → PlaceOf (x ∷ xs) g
    later p = (suc p.0, p.1)

    by : SameOrNot g x → (1 ≤ times g xs → PlaceOf xs g) → PlaceOf (x ∷ xs) g
    by (inl e) rest = (0, ap Some (sym e))
    by (inr n) rest = later (rest (omega (arith, times_apart g x xs n)))

same_by_get : {X : Type 0} (xs ys : List X) → ((k : ℕ) → slice_get xs k ≡ slice_get ys k) → xs ≡ ys
same_by_get [] [] h = refl
same_by_get [] (y ∷ ys) h = let first = h 0 in absurd (cc)
same_by_get (x ∷ xs) [] h = let first = h 0 in absurd (cc)
same_by_get (x ∷ xs) (y ∷ ys) h =
    let first = h 0 in
    let same : x ≡ y = cc in
    ap₂ (λ a b. a ∷ b) same (same_by_get xs ys (λ k. h (suc k)))

-- an element, or past the end
abbrev GetCases : {X : Type 0} → List X → ℕ → Type 0
GetCases {X} xs k = ((x : X) × (slice_get xs k ≡ Some x)) ⊎ (length xs ≤ k)

get_cases : {X : Type 0} (xs : List X) (k : ℕ) → GetCases xs k
get_cases [] k = inr (omega arith)
get_cases (x ∷ xs) zero = inl (x, refl)
get_cases (x ∷ xs) (suc k) = by (get_cases xs k)
  where
    by : GetCases xs k → GetCases (x ∷ xs) (suc k)
    by (inl h) = inl h
    by (inr l) = inr (omega arith)

module _ (program : S.Program) (pieces : List Piece) where
  counted : (names : List (List ℕ)) (n : IsNaming program pieces names) (g : ℕ) → times g n.ranking ≡ times g (own_globals 0 program.globals)
  counted names n g = times-permutation g (own_globals 0 program.globals) n.ranking n.all_ranked

  -- the rank of a global that a chunk declares
  ranked_place : (names : List (List ℕ)) (n : IsNaming program pieces names) (g : ℕ) (info : GlobalInfo) (c : ℕ)
      → slice_get program.globals g ≡ Some info → info.chunk ≡ Some c → PlaceOf n.ranking g
  ranked_place names n g info c at own =
      place_from_times n.ranking g (omega (arith, counted names n g, times_own_of program.globals g info at, ap once_if own))

  same_ranking : (names others : List (List ℕ)) (n : IsNaming program pieces names) (o : IsNaming program pieces others) → n.ranking ≡ o.ranking
  same_ranking names others n o = ranking_once pieces n.ranking o.ranking n.ranked o.ranked (λ g. counted names n g ∙ sym (counted others o g))

  same_fresh : (names others : List (List ℕ)) (n : IsNaming program pieces names) (o : IsNaming program pieces others) → n.fresh ≡ o.fresh
  same_fresh names others n o =
      fresh_once (is_passed program) 0 0 n.fresh o.fresh n.in_order o.in_order refl (n.one_each ∙ ap length (same_ranking names others n o) ∙ sym o.one_each)

  pub naming_once : (names others : List (List ℕ)) → IsNaming program pieces names → IsNaming program pieces others → names ≡ others
  naming_once names others n o = same_by_get names others (λ k. by k (get_cases program.globals k))
    where
      own : (k : ℕ) (info : GlobalInfo) (chunk : Option ℕ) → slice_get program.globals k ≡ Some info → info.chunk ≡ chunk → slice_get names k ≡ slice_get others k
      own k info None at e = n.others_keep k info at e ∙ sym (o.others_keep k info at e)
      own k info (Some c) at e =
          let place = ranked_place names n k info c at e in
          let there : slice_get o.ranking place.0 ≡ Some k = ap (λ r. slice_get r place.0) (sym (same_ranking names others n o)) ∙ place.1 in
          n.given place.0 k place.1 ∙ ap (λ f. slice_get f place.0) (same_fresh names others n o) ∙ sym (o.given place.0 k there)

      by : (k : ℕ) → GetCases program.globals k → slice_get names k ≡ slice_get others k
      by k (inl h) = own k h.0 h.0.chunk h.1 refl
      by k (inr l) = slice_get_past names k (omega (arith, l, n.complete)) ∙ sym (slice_get_past others k (omega (arith, l, o.complete)))

  -- the name of a global that a chunk declares is fresh
  pub fresh_place : (names : List (List ℕ)) (n : IsNaming program pieces names) (g : ℕ) (info : GlobalInfo) (c : ℕ) (name : List ℕ)
      → slice_get program.globals g ≡ Some info → info.chunk ≡ Some c → slice_get names g ≡ Some name
      → (i : ℕ) × (slice_get n.ranking i ≡ Some g) × (slice_get n.fresh i ≡ Some name)
  fresh_place names n g info c name at own named =
      let place = ranked_place names n g info c at own in
      (place.0, place.1, sym (n.given place.0 g place.1) ∙ named)

  pub own_name_kept : (names : List (List ℕ)) → IsNaming program pieces names → (g : ℕ) (info : GlobalInfo) (c : ℕ) (name : List ℕ)
      → slice_get program.globals g ≡ Some info → info.chunk ≡ Some c → slice_get names g ≡ Some name → is_passed program name ≡ false
  own_name_kept names n g info c name at own named =
      let place = fresh_place names n g info c name at own named in
      (fresh_at (is_passed program) 0 n.fresh n.in_order place.0 name place.2).kept

  pub own_names_apart : (names : List (List ℕ)) → IsNaming program pieces names → (g h : ℕ) (info other : GlobalInfo) (c d : ℕ) (name : List ℕ)
      → slice_get program.globals g ≡ Some info → info.chunk ≡ Some c → slice_get program.globals h ≡ Some other → other.chunk ≡ Some d
      → slice_get names g ≡ Some name → slice_get names h ≡ Some name → g ≡ h
  own_names_apart names n g h info other c d name at own there declared named same =
      let place = fresh_place names n g info c name at own named in
      let second = fresh_place names n h other d name there declared same in
      let one : place.0 ≡ second.0 = fresh_apart (is_passed program) 0 n.fresh n.in_order place.0 second.0 name place.2 second.2 in
      let both : Some g ≡ Some h = sym place.1 ∙ ap (slice_get n.ranking) one ∙ second.1 in
      cc

  pub names-ASCII : (names : List (List ℕ)) → IsNaming program pieces names → All (λ info. IsAscii info.name) program.globals → All IsAscii names
  names-ASCII names n kept k d l = by (get_cases program.globals k)
    where
      named : slice_get names k ≡ Some (get_or names k d)
      named = slice_get-get_or names k d l

      at : (info : GlobalInfo) (chunk : Option ℕ) → slice_get program.globals k ≡ Some info → info.chunk ≡ chunk → IsAscii (get_or names k d)
      at info None there e =
          let same : get_or names k d ≡ info.name = let kept_name = n.others_keep k info there e in let here = named in cc in
          let found : get_or program.globals k info ≡ info = let read = slice_get-get_or program.globals k info (slice_get_within program.globals k info there) in cc in
          subst IsAscii (sym same) (subst (λ z. IsAscii z.name) found (kept k info (slice_get_within program.globals k info there)))
      at info (Some c) there e =
          let place = fresh_place names n k info c (get_or names k d) there e named in
          fresh-ASCII (is_passed program) 0 n.fresh n.in_order place.0 (get_or names k d) place.2

      by : GetCases program.globals k → IsAscii (get_or names k d)
      by (inl h) = at h.0 h.0.chunk h.1 refl
      by (inr p) = absurd (omega (arith, n.complete))
