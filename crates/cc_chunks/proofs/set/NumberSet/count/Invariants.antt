use Rattle.std.proofs.Common.{◌*◌, ◌≤◌, IsTrue}
use Rattle.cc_chunks.specs.Graph.{CountBelow}
use Rattle.cc_chunks.specs.Sets.{has}
use Rattle.cc_chunks.proofs.set.NumberSet.count.Given as goal

abbrev pub invariant-loop-word : goal.invariant-loop-word
invariant-loop-word l = record {
  counted : CountBelow (λ k. IsTrue (has l.self.words.items k)) (64 * l.word-index) l.count;
  few : l.count ≤ 64 * l.word-index;
}
