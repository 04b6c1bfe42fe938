use Rattle.cc_chunks.proofs.TableLaws.{common-none, common-more}
use Rattle.cc_chunks.proofs.graph.ChunkGraph.common_word.Goals as goal

pub loop-k-init : goal.loop-k-init
loop-k-init c = common-none c.args.self.now.chunks c.args.at

pub loop-k-preserved : goal.loop-k-preserved
loop-k-preserved c =
    common-more c.args.self.now.chunks c.args.chunks.now c.loop-k.k-index c.args.at c.loop-k.common c.reached_word-common.result c.loop-k-test.true c.loop-k.invariant c.reached_word-common.ensures
