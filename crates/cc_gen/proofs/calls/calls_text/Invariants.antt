use Rattle.std.proofs.Common.{◌≡◌, ◌+◌, ℕ}
use Rattle.std.specs.String.{string_bytes}
use Rattle.cc_gen.specs.Draws.{state}
use Rattle.cc_gen.specs.Texts.{calls_text}
use Rattle.cc_gen.proofs.calls.calls_text.Given as goal

abbrev pub invariant-loop : goal.invariant-loop
invariant-loop l = record {
  text : (seed first : ℕ) → l.initial.draws.state ≡ state seed first → string_bytes l.text ≡ calls_text seed l.size l.argument first l.counter;
  draws : (seed first : ℕ) → l.initial.draws.state ≡ state seed first → l.draws.state ≡ state seed (first + l.counter);
}
