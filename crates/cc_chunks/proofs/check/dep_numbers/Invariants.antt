use Rattle.std.proofs.Common.{◌≡◌, Some, map, take}
use Rattle.std.specs.String.{string_bytes}
use Rattle.cc_chunks.specs.Numbers.{number_in}
use Rattle.cc_chunks.proofs.check.dep_numbers.Given as goal

abbrev pub invariant-loop-name : goal.invariant-loop-name
invariant-loop-name l = map (λ d. Some d) l.deps ≡ map (λ name. number_in l.numbers (string_bytes name)) (take l.name-index l.name-items)
