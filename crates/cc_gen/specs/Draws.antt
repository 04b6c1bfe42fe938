-- Pseudorandom numbers: a linear congruential sequence (Knuth, The Art of Computer Programming,
-- volume 2, 3.2.1) with the constants of MMIX, of which the upper 31 bits are used.
use Rattle.std.specs.Prelude.{ℕ, zero, suc, ◌+◌, ◌*◌, ◌/◌, ◌%◌, ◌^◌}

-- the state after this one
unfoldable pub next : ℕ → ℕ
next state = (state * 6364136223846793005 + 1442695040888963407) % 2 ^ 64

-- the state after n draws, where the first state is the seed
unfoldable pub state : ℕ → ℕ → ℕ
unfolding next
state seed zero = seed
state seed (suc n) = next (state seed n)

-- the number below k that a state gives
unfoldable pub number_below : ℕ → ℕ → ℕ
number_below k state = state / 2 ^ 33 % k

-- draw number n of a seed, counted from 0, as a number below k
unfoldable pub draw : ℕ → ℕ → ℕ → ℕ
unfolding number_below state
draw seed n k = number_below k (state seed (n + 1))
