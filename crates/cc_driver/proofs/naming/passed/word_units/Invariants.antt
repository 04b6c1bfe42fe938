use Rattle.std.proofs.Common.{◌≡◌, take}
use Rattle.cc_driver.proofs.naming.passed.word_units.Given as goal

abbrev pub invariant-loop-c : goal.invariant-loop-c
invariant-loop-c l = l.name.items ≡ take l.c-index l.word
