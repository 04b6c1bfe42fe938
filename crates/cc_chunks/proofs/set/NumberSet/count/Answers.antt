use Rattle.std.proofs.Common.{◌≤◌, ◌<◌, ◌*◌, ◌^◌, get_or, IsTrue, ap, arith}
use Rattle.std.proofs.lemmas.Nat.{ones-le}
use Rattle.std.specs.Int.Count.{ones}
use Rattle.cc_chunks.specs.Graph.{nothing}
use Rattle.cc_chunks.specs.Sets.{has}
use Rattle.cc_chunks.proofs.CountLaws.{count-to}
use Rattle.cc_chunks.proofs.BitCounts.{count-word}
use Rattle.cc_chunks.proofs.set.NumberSet.count.Goals as goal

pub loop-word-init : goal.loop-word-init
loop-word-init c = record { counted = nothing; few = omega arith }

pub overflow_add-count : goal.overflow_add-count
overflow_add-count c =
    let w = get_or c.as_slice-word-items.result.now c.loop-word.word-index 0 in
    let fits : w < 2 ^ 64 = search (arith, c.type_inv.word-items c.loop-word.word-index) in
    let few : ones w ≤ 64 = ones-le 64 w fits in
    omega (arith, few, c.loop-word.invariant.few, c.as_slice-word-items.ensures.len, c.requires)

pub loop-word-preserved : goal.loop-word-preserved
loop-word-preserved c =
    let w = get_or c.as_slice-word-items.result.now c.loop-word.word-index 0 in
    let fits : w < 2 ^ 64 = search (arith, c.type_inv.word-items c.loop-word.word-index) in
    let few : ones w ≤ 64 = ones-le 64 w fits in
    record {
      counted = count-word c.args.self.now.words.items c.loop-word.word-index c.loop-word.count w fits
          (ap (λ ws. get_or ws c.loop-word.word-index 0) c.as_slice-word-items.ensures.value) c.loop-word.invariant.counted;
      few = omega (arith, few, c.loop-word.invariant.few);
    }

pub returns : goal.returns
returns c = count-to (λ k. IsTrue (has c.args.self.now.words.items k)) (64 * c.loop-word.word-index) (64 * c.args.self.now.words.len) c.loop-word.count (omega (arith, c.as_slice-word-items.ensures.len)) c.loop-word.invariant.counted
