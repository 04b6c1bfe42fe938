use Rattle.std.proofs.Common.{◌≡◌, ◌++◌, take}
use Rattle.cc_driver.proofs.spelling.parts.push_name.Given as goal

abbrev pub invariant-loop-unit : goal.invariant-loop-unit
invariant-loop-unit l = l.bytes.items ≡ l.initial.bytes.items ++ take l.unit-index l.unit-items
