-- Counts of faults, and when one rises.
use Rattle.std.specs.Prelude.{◌≡◌, ℕ, ◌+◌, ◌-◌, ◌^◌, ◌<◌, ◌⊎◌, min, Result, Ok, Err}
use Rattle.cc_host.specs.declared.HostFault.{HostFault}
use Rattle.cc_host.specs.declared.HostFault.TheVariants.{Failed, Memory}

-- what a call of a host answers
abbrev pub Answer : Type 0
Answer = Result (Unit {0}) HostFault

-- a count rose: it is greater than before, or stands at the end of its type
abbrev pub Rose : ℕ → ℕ → Type 0
Rose before after = (before < after) ⊎ (after ≡ 2 ^ 64 - 1)

-- one more, where a number stays at 2^64-1 once it is there
abbrev pub one_more : ℕ → ℕ
one_more n = min (n + 1) (2 ^ 64 - 1)

-- a count after a call with this answer: `Failed` alone is counted
abbrev pub count_after : Answer → ℕ → ℕ
count_after (Ok done) n = n
count_after (Err Failed) n = one_more n
count_after (Err Memory) n = n
