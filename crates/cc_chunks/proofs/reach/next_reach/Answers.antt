use Rattle.std.proofs.Common.{length}
use Rattle.cc_chunks.proofs.ReachLaws.{counted}
use Rattle.cc_chunks.proofs.reach.next_reach.Goals as goal

pub returns : goal.returns
returns c = record {
  set = c.in_ok-set.ensures.right;
  count = counted c.args.chunks.now (length c.args.table.now) c.count-count.result c.in_ok-set.set.words.items _ c.requires.down c.requires.next c.in_ok-set.ensures.room c.in_ok-set.ensures.right c.count-count.ensures;
}
