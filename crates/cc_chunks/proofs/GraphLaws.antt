-- Dependencies.
use Rattle.std.proofs.Common.{◌≡◌, ℕ, ◌<◌, ◌≤◌, ◌⊎◌, List, [], length, slice_get, Some, Contains, refl, ap, subst, inl, inr, arith}
use Rattle.cc_ast.specs.declared.tables.ChunkInfo.{ChunkInfo}
use Rattle.cc_chunks.specs.Graph.{deps_at, deps_of, Depends, directly, through, DependsDown, DependsOnCount, GoesBefore}
use Rattle.std.proofs.lemmas.Bool.{cases_lt, cases_order}
use Rattle.std.proofs.lemmas.Option.{slice_get_past}
use Rattle.cc_chunks.proofs.CountLaws.{count-one}

-- the dependencies of a chunk that stands in the table
pub deps_at-read : (chunks : List ChunkInfo) (a : ℕ) (chunk : ChunkInfo) → slice_get chunks a ≡ Some chunk → deps_at chunks a ≡ chunk.deps
unfolding deps_at
deps_at-read chunks a chunk at = ap deps_of at

module _ (chunks : List ChunkInfo) where
  -- one of these is b or depends on it
  pub record ReachedBy (ds : List ℕ) (b : ℕ) : Type 0 where
    pub first : ℕ
    pub one : Contains ds first
    pub reaches : (first ≡ b) ⊎ Depends chunks first b

  pub reached-from : (a b : ℕ) → ReachedBy (deps_at chunks a) b → Depends chunks a b
  reached-from a b r =
      elim r.reaches [
        | inl e ↦ subst (λ c. Depends chunks a c) e (directly r.one)
        | inr d ↦ through r.one d
      ]

  pub reached-to : (a b : ℕ) → Depends chunks a b → ReachedBy (deps_at chunks a) b
  reached-to a b (directly one) = record { first = b; one = one; reaches = inl refl }
  reached-to a b (through {c = c} one d) = record { first = c; one = one; reaches = inr d }

  -- where chunks depend on lesser ones alone, they do so through others too
  pub depends-down : DependsDown chunks → (a b : ℕ) → Depends chunks a b → b < a
  depends-down down a b (directly one) = down a b one
  depends-down down a b (through {c = c} one d) = let near = down a c one in let far = depends-down down c b d in omega arith

pub deps_at-past : (chunks : List ChunkInfo) (a : ℕ) → length chunks ≤ a → deps_at chunks a ≡ []
unfolding deps_at deps_of
deps_at-past chunks a high = ap deps_of (slice_get_past chunks a high)

-- a chunk that depends on one stands in the table
pub depends-within : (chunks : List ChunkInfo) (a b : ℕ) → Depends chunks a b → a < length chunks
depends-within chunks a b d = elim (cases_lt a (length chunks)) [ inl low ↦ low | inr high ↦ absurd (none high (reached-to chunks a b d)) ]
  where
    none : length chunks ≤ a → ReachedBy chunks (deps_at chunks a) b → ⊥
    none high r = omega (arith, r.one.1, ap length (deps_at-past chunks a high))

-- ---- which goes before

module _ (chunks : List ChunkInfo) where
  pub before-itself : (c n : ℕ) → DependsOnCount chunks c n → GoesBefore chunks c c
  before-itself c n count = record { count_of_c = n; count_of_d = n; c_counted = count; d_counted = count; order = inr (refl, omega arith) }

  pub before-more : (c d m n : ℕ) → DependsOnCount chunks c m → DependsOnCount chunks d n → n < m → GoesBefore chunks c d
  before-more c d m n counted other more = record { count_of_c = m; count_of_d = n; c_counted = counted; d_counted = other; order = inl more }

  pub before-first : (c d m n : ℕ) → DependsOnCount chunks c m → DependsOnCount chunks d n → n ≤ m → c ≤ d → GoesBefore chunks c d
  before-first c d m n counted other more first = record { count_of_c = m; count_of_d = n; c_counted = counted; d_counted = other; order = by (cases_order n m) }
    where
      by : (n ≡ m) ⊎ ((n < m) ⊎ (m < n)) → (n < m) ⊎ ((n ≡ m) × (c ≤ d))
      by (inl e) = inr (e, first)
      by (inr (inl less)) = inl less
      by (inr (inr above)) = absurd (omega (arith, above, more))

  pub before-through : (c d e : ℕ) → GoesBefore chunks c d → GoesBefore chunks d e → GoesBefore chunks c e
  before-through c d e p q = record { count_of_c = p.count_of_c; count_of_d = q.count_of_d; c_counted = p.c_counted; d_counted = q.d_counted; order = by p.order q.order }
    where
      same : p.count_of_d ≡ q.count_of_c
      same = count-one (Depends chunks d) (length chunks) p.count_of_d q.count_of_c p.d_counted q.c_counted

      by : (p.count_of_d < p.count_of_c) ⊎ ((p.count_of_d ≡ p.count_of_c) × (c ≤ d)) → (q.count_of_d < q.count_of_c) ⊎ ((q.count_of_d ≡ q.count_of_c) × (d ≤ e)) → (q.count_of_d < p.count_of_c) ⊎ ((q.count_of_d ≡ p.count_of_c) × (c ≤ e))
      by (inl h) (inl l) = inl (omega (arith, same, h, l))
      by (inl h) (inr l) = inl (omega (arith, same, h, l.0))
      by (inr h) (inl l) = inl (omega (arith, same, h.0, l))
      by (inr h) (inr l) = inr (omega (arith, same, h.0, l.0), omega (arith, h.1, l.1))
