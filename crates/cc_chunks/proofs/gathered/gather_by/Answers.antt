use Rattle.cc_chunks.proofs.FaultLaws.{built-none}
use Rattle.cc_chunks.proofs.gathered.gather_by.Goals as goal

pub loop-i-init : goal.loop-i-init
loop-i-init c = rw (c.new.ensures, c.new-2.ensures) (built-none c.args.specs.now c.args.files)
