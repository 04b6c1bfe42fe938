use Rattle.std.proofs.Common.{◌≡◌, replicate, rules}
use Rattle.cc_chunks.proofs.SetLaws.{has-none}
use Rattle.cc_chunks.proofs.set.NumberSet.with_room.Goals as goal

pub returns-clause-empty : goal.returns-clause-empty
returns-clause-empty c =
    let zeros : c.in_ok-words.words.items ≡ replicate c.div_ceil.result 0 = search rules in
    λ k. rw zeros (has-none c.div_ceil.result k)
