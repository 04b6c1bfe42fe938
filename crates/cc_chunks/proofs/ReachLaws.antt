-- The set of all that a chunk depends on, one direct dependency after the other.
use Rattle.std.proofs.Common.{◌≡◌, ℕ, zero, suc, ◌*◌, ◌<◌, ◌≤◌, ◌⊎◌, ◌↔◌, true, false, ◌||◌, List, [], ◌∷◌, ◌++◌, length, get_or, slice_get, Option, None, Some, Contains, IsTrue, refl, sym, ap, subst, ◌∙◌, inl, inr, arith, true≢false, length-append}
use Rattle.std.proofs.lemmas.Bool.{cases_lt, cases_order, or_cases, or_left, or_right, eqb-true, eq-eqb}
use Rattle.std.proofs.lemmas.List.Elements.{Contains-get_or, Contains-push_cases, Contains-append_left, Contains-push}
use Rattle.std.proofs.lemmas.Option.{slice_get-get_or, slice_get_within}
use Rattle.std.proofs.Math.Dec.{eqb}
use Rattle.cc_ast.specs.declared.tables.ChunkInfo.{ChunkInfo}
use Rattle.cc_chunks.specs.Graph.{deps_at, Depends, DependsDown, CountBelow, DependsOnCount}
use Rattle.cc_chunks.specs.Sets.{has}
use Rattle.cc_chunks.specs.Tables.{IsReach, AreReaches}
use Rattle.cc_chunks.specs.declared.reach.Reach.{Reach}
use Rattle.cc_chunks.proofs.CountLaws.{count-moved, count-same}
use Rattle.cc_chunks.proofs.SetLaws.{has-beyond}
use Rattle.cc_chunks.proofs.GraphLaws.{ReachedBy, depends-down, deps_at-read}

module _ (chunks : List ChunkInfo) where
  reached-none : (b : ℕ) → ReachedBy chunks [] b → ⊥
  reached-none b r = omega (arith, r.one.1)

  reached-push : (ds : List ℕ) (d b : ℕ) → ReachedBy chunks (ds ++ d ∷ []) b → ReachedBy chunks ds b ⊎ ((d ≡ b) ⊎ Depends chunks d b)
  reached-push ds d b r =
      elim (Contains-push_cases ds d r.first r.one) [
        | inl early ↦ inl (record { first = r.first; one = early; reaches = r.reaches })
        | inr last ↦ inr (subst (λ c. (c ≡ b) ⊎ Depends chunks c b) (sym last) r.reaches)
      ]

  reached-early : (ds : List ℕ) (d b : ℕ) → ReachedBy chunks ds b → ReachedBy chunks (ds ++ d ∷ []) b
  reached-early ds d b r = record { first = r.first; one = Contains-append_left ds (d ∷ []) r.first r.one; reaches = r.reaches }

  reached-last : (ds : List ℕ) (d b : ℕ) → (d ≡ b) ⊎ Depends chunks d b → ReachedBy chunks (ds ++ d ∷ []) b
  reached-last ds d b h = record { first = d; one = Contains-push ds d; reaches = h }

  -- the set has exactly the chunks that the first dependencies are or depend on
  pub record Gathers (ds ws : List ℕ) : Type 0 where
    pub right : (b : ℕ) → IsTrue (has ws b) ↔ ReachedBy chunks ds b

  pub gathers-none : (ws : List ℕ) → ((b : ℕ) → has ws b ≡ false) → Gathers [] ws
  gathers-none ws empty = record { right = λ b. (λ h. absurd (true≢false (sym h ∙ empty b)), λ r. absurd (reached-none b r)) }

  module _ (down : DependsDown chunks) (ds old more both new : List ℕ) (d n : ℕ) (within : d < n) (room : n ≤ 64 * length old)
      (same_room : length both ≡ length old) (gathers : Gathers ds old)
      (reach : (b : ℕ) → IsTrue (has more b) ↔ Depends chunks d b)
      (united : (j : ℕ) → j < 64 * length old → has both j ≡ (has old j || has more j))
      (inserted : (j : ℕ) → has new j ≡ (eqb j d || has both j)) where
    has-new : (b : ℕ) → IsTrue (has new b) → ReachedBy chunks (ds ++ d ∷ []) b
    has-new b h =
        elim (or_cases (eqb b d) (has both b) (sym (inserted b) ∙ h)) [
          | inl here ↦ reached-last ds d b (inl (sym (eqb-true b d here)))
          | inr there ↦ elim (cases_lt b (64 * length old)) [
            | inl low ↦ elim (or_cases (has old b) (has more b) (sym (united b low) ∙ there)) [
              | inl early ↦ reached-early ds d b ((gathers.right b).0 early)
              | inr late ↦ reached-last ds d b (inr ((reach b).0 late))
            ]
            | inr high ↦ absurd (true≢false (sym there ∙ has-beyond both b (omega (arith, same_room, high))))
          ]
        ]

    low_old : (b : ℕ) → has old b ≡ true → b < 64 * length old
    low_old b h = elim (cases_lt b (64 * length old)) [ inl low ↦ low | inr high ↦ absurd (true≢false (sym h ∙ has-beyond old b high)) ]

    low_far : (b : ℕ) → Depends chunks d b → b < 64 * length old
    low_far b far = let below = depends-down chunks down d b far in omega arith

    new-has : (b : ℕ) → ReachedBy chunks (ds ++ d ∷ []) b → IsTrue (has new b)
    new-has b r =
        elim (reached-push ds d b r) [
          | inl early ↦
              let there : has old b ≡ true = (gathers.right b).1 early in
              inserted b ∙ or_right (eqb b d) (has both b) (united b (low_old b there) ∙ or_left (has old b) (has more b) there)
          | inr late ↦ elim late [
            | inl here ↦ inserted b ∙ or_left (eqb b d) (has both b) (eq-eqb b d (sym here))
            | inr far ↦ inserted b ∙ or_right (eqb b d) (has both b) (united b (low_far b far) ∙ or_right (has old b) (has more b) ((reach b).1 far))
          ]
        ]

    pub gathers-more : Gathers (ds ++ d ∷ []) new
    gathers-more = record { right = λ b. (has-new b, new-has b) }

-- the dependencies as the code reads them
pub deps-are : (chunks : List ChunkInfo) (n : ℕ) (e : ChunkInfo) (ds : List ℕ) → n < length chunks → ds ≡ (get_or chunks n e).deps → ds ≡ deps_at chunks n
deps-are chunks n e ds h is = is ∙ sym (deps_at-read chunks n (get_or chunks n e) (slice_get-get_or chunks n e h))

pub dep-below : (chunks : List ChunkInfo) (n : ℕ) (ds : List ℕ) (i : ℕ) → DependsDown chunks → ds ≡ deps_at chunks n → i < length ds → get_or ds i 0 < n
dep-below chunks n ds i down are h = down n (get_or ds i 0) (subst (λ xs. Contains xs (get_or ds i 0)) are (Contains-get_or ds i 0 h))

-- the count of a set that is right
pub counted : (chunks : List ChunkInfo) (n k : ℕ) (ws : List ℕ) (room : ℕ) → DependsDown chunks → n < length chunks → n ≤ room → ((b : ℕ) → IsTrue (has ws b) ↔ Depends chunks n b) → CountBelow (λ b. IsTrue (has ws b)) room k → DependsOnCount chunks n k
counted chunks n k ws room down within fits right count =
    count-moved (Depends chunks n) n room (length chunks) k (λ b d. depends-down chunks down n b d) fits (omega (arith, within))
    (count-same (λ b. IsTrue (has ws b)) (Depends chunks n) room k (λ b low. right b) count)

-- ---- the table

pub get-low : {X : Type 0} (xs ys : List X) (a : ℕ) → a < length xs → slice_get (xs ++ ys) a ≡ slice_get xs a
get-low [] ys a h = absurd (omega (arith, h))
get-low (x ∷ xs) ys zero h = refl
get-low (x ∷ xs) ys (suc a) h = get-low xs ys a (omega (arith, h))

pub get-last : {X : Type 0} (xs : List X) (x : X) → slice_get (xs ++ x ∷ []) (length xs) ≡ Some x
get-last [] x = refl
get-last (y ∷ xs) x = get-last xs x

pub are-none : (chunks : List ChunkInfo) → AreReaches chunks []
are-none chunks = record { within = omega arith; right = λ a reach at. absurd (some-nowhere reach at) }
  where
    some-nowhere : (reach : Reach) → ◌≡◌ {A = Option Reach} None (Some reach) → ⊥
    some-nowhere reach e = cc

pub are-more : (chunks : List ChunkInfo) (table : List Reach) (next : Reach) → length table < length chunks → AreReaches chunks table → IsReach chunks (length table) next → AreReaches chunks (table ++ next ∷ [])
are-more chunks table next room are new = record { within = omega (arith, length-append table (next ∷ []), room); right = each }
  where
    each : (a : ℕ) (reach : Reach) → slice_get (table ++ next ∷ []) a ≡ Some reach → IsReach chunks a reach
    each a reach at =
        elim (cases_order a (length table)) [
          | inl last ↦
              let is : Some next ≡ Some reach = sym (get-last table next) ∙ ap (slice_get (table ++ next ∷ [])) (sym last) ∙ at in
              let same : next ≡ reach = cc in
              subst (λ n. IsReach chunks n reach) (sym last) (subst (IsReach chunks (length table)) same new)
          | inr either ↦ elim either [
            | inl low ↦ are.right a reach (sym (get-low table (next ∷ []) a low) ∙ at)
            | inr high ↦ absurd (omega (arith, length-append table (next ∷ []), slice_get_within (table ++ next ∷ []) a reach at, high))
          ]
        ]
