use Rattle.std.proofs.Common.{◌≡◌, drop}
use Rattle.cc_stmt.specs.Notes as spec
use Rattle.cc_stmt.proofs.note.starts_with.Given as goal

abbrev pub invariant-loop-byte : goal.invariant-loop-byte
invariant-loop-byte l = spec.starts_with (drop l.byte-index l.text) l.rest ≡ spec.starts_with l.text l.units
