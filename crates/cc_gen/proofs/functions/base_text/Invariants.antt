use Rattle.std.proofs.Common.{◌≡◌}
use Rattle.std.specs.String.{string_bytes}
use Rattle.cc_gen.specs.Draws.{state}
use Rattle.cc_gen.specs.Texts.{draws_before, base_text}
use Rattle.cc_gen.proofs.functions.base_text.Given as goal

abbrev pub invariant-loop-i : goal.invariant-loop-i
invariant-loop-i l = record {
  text : string_bytes l.text ≡ base_text l.initial.draws.state l.i;
  draws : l.draws.state ≡ state l.initial.draws.state (draws_before l.i);
}
