-- The first fault, and the graph as it grows.
use Rattle.std.proofs.Common.{◌≡◌, ◌≢◌, ℕ, ◌+◌, ◌*◌, ◌<◌, ◌≤◌, List, [], ◌∷◌, ◌++◌, length, map, sum, get_or, take, slice_get, Some, Contains, refl, sym, ap, subst, ◌∙◌, inl, inr, arith, add-one, length-append}
use Rattle.std.specs.String.{string_bytes}
use Rattle.std.proofs.lemmas.Bool.{cases_eq, cases_order}
use Rattle.std.proofs.lemmas.List.{map-append}
use Rattle.std.proofs.lemmas.List.Sums.{sum_by_push}
use Rattle.std.proofs.lemmas.Option.{slice_get_within}
use Rattle.cc_ast.specs.declared.tables.ChunkInfo.{ChunkInfo}
use Rattle.cc_chunks.specs.declared.spec.ChunkSpec.{ChunkSpec}
use Rattle.cc_chunks.specs.declared.spec.ChunkFault.{ChunkFault}
use Rattle.cc_chunks.specs.declared.spec.ChunkFault.TheVariants.{DoubleName, UnknownDep, LaterDep, FileCount, Memory}
use Rattle.cc_chunks.specs.Graph.{deps_at, deps_of, DependsDown}
use Rattle.cc_chunks.specs.Faults.{names_of, dep_names, counts_of, IsDouble, HasUnknown, HasLater, TakesTooMany, LeavesFiles, HasFault, double_name, unknown_dep, later_dep, too_many, left_over, rank, IsFirstFault, IsChunkAt, IsFaultAt, IsCountFaultAt}
use Rattle.cc_chunks.specs.Built.{NoneBelow, Built}
use Rattle.cc_chunks.proofs.GraphLaws.{deps_at-read, deps_at-past}
use Rattle.cc_chunks.proofs.ReachLaws.{get-low, get-last}
use Rattle.cc_chunks.proofs.NameLaws.{map-more}

module _ (specs : List ChunkSpec) (files : ℕ) where
  pub none-start : NoneBelow specs files 0
  none-start = record { each = λ f s. omega arith }

  module _ (i : ℕ) where
    pub past-double : NoneBelow specs files (4 * i) → ¬ IsDouble specs i → NoneBelow specs files (4 * i + 1)
    unfolding rank
    past-double none not = record { each = by }
      where
        by : (f : ChunkFault) → HasFault specs files f → 4 * i + 1 ≤ rank f
        by (DoubleName j) (double_name s) = elim (cases_eq j i) [ inl e ↦ absurd (not (subst (IsDouble specs) e s)) | inr apart ↦ omega (arith, none.each (DoubleName j) (double_name s)) ]
        by (UnknownDep j) (unknown_dep s) = omega (arith, none.each (UnknownDep j) (unknown_dep s))
        by (LaterDep j) (later_dep s) = omega (arith, none.each (LaterDep j) (later_dep s))
        by (FileCount j) (too_many s) = omega (arith, none.each (FileCount j) (too_many s))
        by (FileCount j) (left_over s) = omega (arith, none.each (FileCount j) (left_over s))
        by Memory s = elim s [ ]

    pub past-unknown : NoneBelow specs files (4 * i + 1) → ¬ HasUnknown specs i → NoneBelow specs files (4 * i + 2)
    unfolding rank
    past-unknown none not = record { each = by }
      where
        by : (f : ChunkFault) → HasFault specs files f → 4 * i + 2 ≤ rank f
        by (DoubleName j) (double_name s) = omega (arith, none.each (DoubleName j) (double_name s))
        by (UnknownDep j) (unknown_dep s) = elim (cases_eq j i) [ inl e ↦ absurd (not (subst (HasUnknown specs) e s)) | inr apart ↦ omega (arith, none.each (UnknownDep j) (unknown_dep s)) ]
        by (LaterDep j) (later_dep s) = omega (arith, none.each (LaterDep j) (later_dep s))
        by (FileCount j) (too_many s) = omega (arith, none.each (FileCount j) (too_many s))
        by (FileCount j) (left_over s) = omega (arith, none.each (FileCount j) (left_over s))
        by Memory s = elim s [ ]

    pub past-later : NoneBelow specs files (4 * i + 2) → ¬ HasLater specs i → NoneBelow specs files (4 * i + 3)
    unfolding rank
    past-later none not = record { each = by }
      where
        by : (f : ChunkFault) → HasFault specs files f → 4 * i + 3 ≤ rank f
        by (DoubleName j) (double_name s) = omega (arith, none.each (DoubleName j) (double_name s))
        by (UnknownDep j) (unknown_dep s) = omega (arith, none.each (UnknownDep j) (unknown_dep s))
        by (LaterDep j) (later_dep s) = elim (cases_eq j i) [ inl e ↦ absurd (not (subst (HasLater specs) e s)) | inr apart ↦ omega (arith, none.each (LaterDep j) (later_dep s)) ]
        by (FileCount j) (too_many s) = omega (arith, none.each (FileCount j) (too_many s))
        by (FileCount j) (left_over s) = omega (arith, none.each (FileCount j) (left_over s))
        by Memory s = elim s [ ]

    pub past-count : NoneBelow specs files (4 * i + 3) → ¬ TakesTooMany specs files i → ¬ LeavesFiles specs files i → NoneBelow specs files (4 * (i + 1))
    unfolding rank
    past-count none not neither = record { each = by }
      where
        by : (f : ChunkFault) → HasFault specs files f → 4 * (i + 1) ≤ rank f
        by (DoubleName j) (double_name s) = omega (arith, none.each (DoubleName j) (double_name s))
        by (UnknownDep j) (unknown_dep s) = omega (arith, none.each (UnknownDep j) (unknown_dep s))
        by (LaterDep j) (later_dep s) = omega (arith, none.each (LaterDep j) (later_dep s))
        by (FileCount j) (too_many s) = elim (cases_eq j i) [ inl e ↦ absurd (not (subst (TakesTooMany specs files) e s)) | inr apart ↦ omega (arith, none.each (FileCount j) (too_many s)) ]
        by (FileCount j) (left_over s) = elim (cases_eq j i) [ inl e ↦ absurd (neither (subst (LeavesFiles specs files) e s)) | inr apart ↦ omega (arith, none.each (FileCount j) (left_over s)) ]
        by Memory s = elim s [ ]

    -- the first fault of this spec is the first of all
    pub first-at : NoneBelow specs files (4 * i) → (f : ChunkFault) → IsFaultAt specs i f → f ≢ Memory → IsFirstFault specs files f
    unfolding rank
    first-at none (DoubleName j) h apart = record {
      stands = double_name (subst (IsDouble specs) (sym h.0) h.1);
      first = λ other s. omega (arith, h.0, none.each other s);
    }
    first-at none (UnknownDep j) h apart = record {
      stands = unknown_dep (subst (HasUnknown specs) (sym h.0) h.2);
      first = λ other s. omega (arith, h.0, (past-double none h.1).each other s);
    }
    first-at none (LaterDep j) h apart = record {
      stands = later_dep (subst (HasLater specs) (sym h.0) h.3);
      first = λ other s. omega (arith, h.0, (past-unknown (past-double none h.1) h.2).each other s);
    }
    first-at none (FileCount j) h apart = absurd h
    first-at none Memory h apart = absurd (apart refl)

    pub first-count : NoneBelow specs files (4 * i + 3) → (f : ChunkFault) → IsCountFaultAt specs files i f → IsFirstFault specs files f
    unfolding rank
    first-count none (FileCount j) h = record {
      stands = elim h.1 [
        | inl many ↦ too_many (subst (TakesTooMany specs files) (sym h.0) many)
        | inr left ↦ left_over (subst (LeavesFiles specs files) (sym h.0) left)
      ];
      first = λ other s. omega (arith, h.0, none.each other s);
    }
    first-count none (DoubleName j) h = absurd h
    first-count none (UnknownDep j) h = absurd h
    first-count none (LaterDep j) h = absurd h
    first-count none Memory h = absurd h

  -- a fault is one of a spec that is there
  stands-within : (f : ChunkFault) → HasFault specs files f → rank f < 4 * length specs
  unfolding rank
  stands-within (DoubleName j) (double_name s) = omega (arith, slice_get_within specs j s.spec s.at)
  stands-within (UnknownDep j) (unknown_dep s) = omega (arith, slice_get_within specs j s.spec s.at)
  stands-within (LaterDep j) (later_dep s) = omega (arith, slice_get_within specs j s.spec s.at)
  stands-within (FileCount j) (too_many s) = omega (arith, s.within)
  stands-within (FileCount j) (left_over s) = omega (arith, s.last)
  stands-within Memory s = elim s [ ]

  pub none-at_all : NoneBelow specs files (4 * length specs) → (f : ChunkFault) → HasFault specs files f → ⊥
  none-at_all none f s = omega (arith, none.each f s, stands-within f s)

-- ---- one chunk more

deps_at-low : (chunks : List ChunkInfo) (c : ChunkInfo) (a : ℕ) → a < length chunks → deps_at (chunks ++ c ∷ []) a ≡ deps_at chunks a
unfolding deps_at
deps_at-low chunks c a h = ap deps_of (get-low chunks (c ∷ []) a h)

pub down-more : (chunks : List ChunkInfo) (c : ChunkInfo) → DependsDown chunks → ((d : ℕ) → Contains c.deps d → d < length chunks) → DependsDown (chunks ++ c ∷ [])
down-more chunks c down new a b one =
    elim (cases_order a (length chunks)) [
      | inl last ↦
          let is : deps_at (chunks ++ c ∷ []) a ≡ c.deps = deps_at-read (chunks ++ c ∷ []) a c (ap (slice_get (chunks ++ c ∷ [])) last ∙ get-last chunks c) in
          subst (λ n. b < n) (sym last) (new b (subst (λ ds. Contains ds b) is one))
      | inr either ↦ elim either [
        | inl low ↦ down a b (subst (λ ds. Contains ds b) (deps_at-low chunks c a low) one)
        | inr high ↦ absurd (omega (arith, one.1, ap length (deps_at-past (chunks ++ c ∷ []) a (omega (arith, length-append chunks (c ∷ []), high)))))
      ]
    ]

pub down-none : DependsDown []
unfolding deps_at deps_of
down-none a b one = absurd (omega (arith, one.1))

pub built-none : (specs : List ChunkSpec) (files : ℕ) → Built specs files 0 [] [] 0
built-none specs files = record {
  size = refl;
  names = refl;
  deps = refl;
  counted = refl;
  summed = refl;
  enough = omega arith;
  down = down-none;
  none = record { each = λ f s. omega arith };
}

module _ (specs : List ChunkSpec) (i : ℕ) (spec : ChunkSpec) (within : i < length specs) (read : spec ≡ get_or specs i spec) where
  take-more : {Y : Type 0} (f : ChunkSpec → Y) → take (i + 1) (map f specs) ≡ take i (map f specs) ++ f spec ∷ []
  take-more f = rw add-one (map-more f specs i spec within read)

  pub summed-more : (taken count : ℕ) → taken ≡ sum (take i (counts_of specs)) → count ≡ spec.count → taken + count ≡ sum (take (i + 1) (counts_of specs))
  summed-more taken count is e =
      omega (arith, is, e, ap sum (take-more (λ s. s.count)), sum_by_push (λ x. x) (take i (counts_of specs)) spec.count)

  module _ (files : ℕ) (chunks : List ChunkInfo) (counts : List ℕ) (taken : ℕ) (built : Built specs files i chunks counts taken) where
    pub none-before_count : (chunk : ChunkInfo) → IsChunkAt specs i spec chunk → NoneBelow specs files (4 * i + 3)
    none-before_count chunk is = past-later specs files i (past-unknown specs files i (past-double specs files i built.none is.single) is.known) is.not_later

    pub built-more : (chunk : ChunkInfo) → IsChunkAt specs i spec chunk → (count : ℕ) → count ≡ spec.count → taken + count ≤ files → (¬ TakesTooMany specs files i) × (¬ LeavesFiles specs files i)
        → Built specs files (i + 1) (chunks ++ chunk ∷ []) (counts ++ spec.count ∷ []) (taken + count)
    built-more chunk is count e enough sound = record {
      size = omega (arith, built.size, length-append chunks (chunk ∷ []));
      names = map-append (λ c. c.name) chunks (chunk ∷ []) ∙ (λ t. built.names t ++ is.name t ∷ []) ∙ sym (take-more (λ s. string_bytes s.name));
      deps = map-append (λ c. map (slice_get (names_of specs)) c.deps) chunks (chunk ∷ []) ∙ (λ t. built.deps t ++ is.deps t ∷ []) ∙ sym (take-more (λ s. map Some (dep_names s)));
      counted = (λ t. built.counted t ++ spec.count ∷ []) ∙ sym (take-more (λ s. s.count));
      summed = summed-more taken count built.summed e;
      enough = enough;
      down = down-more chunks chunk built.down (λ d one. omega (arith, built.size, is.down d one));
      none = past-count specs files i (none-before_count chunk is) sound.0 sound.1;
    }

-- the chunks of all specs
pub sound-end : (specs : List ChunkSpec) (files i : ℕ) (chunks : List ChunkInfo) (counts : List ℕ) (taken : ℕ) → Built specs files i chunks counts taken → i ≡ length specs → (f : ChunkFault) → ¬ HasFault specs files f
sound-end specs files i chunks counts taken built end = none-at_all specs files (subst (λ n. NoneBelow specs files (4 * n)) end built.none)
