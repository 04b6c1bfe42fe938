use Rattle.std.proofs.Common.{◌≡◌, ◌+◌, ◌≤◌, drop}
use Rattle.cc_flags.specs.Texts.{places}
use Rattle.cc_flags.proofs.text.places.Given as goal

abbrev pub invariant-loop-i : goal.invariant-loop-i
invariant-loop-i l = record {
  few : l.count ≤ l.i;
  counted : l.count + places l.marker (drop l.i l.bytes) ≡ places l.marker l.text;
}
