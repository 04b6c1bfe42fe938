use Rattle.std.proofs.Common.{◌≡◌, ℕ, List, take}
use Rattle.cc_chunks.specs.Faults.{first_of, names_of}
use Rattle.cc_chunks.specs.Numbers.{number_in}
use Rattle.cc_chunks.proofs.names.first_numbers.Given as goal

abbrev pub invariant-loop-i : goal.invariant-loop-i
invariant-loop-i l = (name : List ℕ) → number_in l.numbers name ≡ first_of (take l.i (names_of l.specs)) name
