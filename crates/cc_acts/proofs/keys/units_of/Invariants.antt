use Rattle.std.proofs.Common.{◌≡◌, take}
use Rattle.cc_acts.proofs.keys.units_of.Given as goal

abbrev pub invariant-loop-byte : goal.invariant-loop-byte
invariant-loop-byte l = l.list.items ≡ take l.byte-index l.bytes
