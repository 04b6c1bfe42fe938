-- The states and the numbers that they give.
use Rattle.std.proofs.Common.{◌≡◌, ℕ, ◌+◌, ◌*◌, ◌/◌, ◌%◌, ◌^◌, refl, sym, ap, ◌∙◌, add-one}
use Rattle.std.proofs.Math.Nat.{mod-add-mod}
use Rattle.cc_gen.specs.Draws.{next, state, number_below, draw}

-- one step of the code, which wraps twice
pub next-wrapped : (s : ℕ) → ((s * 6364136223846793005) % 2 ^ 64 + 1442695040888963407) % 2 ^ 64 ≡ next s
unfolding next
next-wrapped s = mod-add-mod (s * 6364136223846793005) (2 ^ 64) 1442695040888963407

pub state-one : (seed n : ℕ) → state seed (n + 1) ≡ next (state seed n)
unfolding state
state-one seed n = rw add-one refl

pub draw-next : (seed n k : ℕ) → draw seed n k ≡ number_below k (next (state seed n))
unfolding draw
draw-next seed n k = ap (number_below k) (state-one seed n)

-- what the code computes from the state after n draws
module _ (s seed n : ℕ) (at : s ≡ state seed n) where
  pub next-state : ((s * 6364136223846793005) % 2 ^ 64 + 1442695040888963407) % 2 ^ 64 ≡ state seed (n + 1)
  next-state = next-wrapped s ∙ ap next at ∙ sym (state-one seed n)

  pub next-draw : (k : ℕ) → ((s * 6364136223846793005) % 2 ^ 64 + 1442695040888963407) % 2 ^ 64 / 2 ^ 33 % k ≡ draw seed n k
  unfolding number_below
  next-draw k = ap (λ t. t / 2 ^ 33 % k) (next-wrapped s ∙ ap next at) ∙ sym (draw-next seed n k)
