use Rattle.cc_value.proofs.TextLemmas.{SameBelow}
use Rattle.cc_value.proofs.texts.is_less.Given as goal

abbrev pub invariant-loop-i : goal.invariant-loop-i
invariant-loop-i l = SameBelow l.s l.t l.i
