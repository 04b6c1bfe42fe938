-- Sets of numbers as words of 64 bits.
use Rattle.std.specs.Prelude.{◌==◌, ℕ, ◌/◌, ◌%◌, Bool, List, slice_index}
use Rattle.std.specs.Int.{bit_at}

-- the word has the bit of k, at its place among 64
unfoldable pub has_bit : ℕ → ℕ → Bool
has_bit word k = bit_at word (k % 64) == 1

-- the set has k
unfoldable pub has : List ℕ → ℕ → Bool
unfolding has_bit
has words k = has_bit (slice_index words (k / 64)) k
