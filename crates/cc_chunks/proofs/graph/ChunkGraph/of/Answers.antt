use Rattle.std.proofs.Common.{refl}
use Rattle.cc_chunks.proofs.FaultLaws.{sound-end}
use Rattle.cc_chunks.proofs.graph.ChunkGraph.of.Goals as goal

pub returns-clause-sound : goal.returns-clause-sound
returns-clause-sound c = sound-end c.args.specs.now c.args.files _ c.in_ok-gathered.gathered.chunks c.in_ok-gathered.gathered.counts c.in_ok-gathered.gathered.taken c.in_ok-gathered.ensures.built refl
