use Rattle.std.proofs.Common.{arith}
use Rattle.std.proofs.lemmas.Grind.{common_steps}
use Rattle.cc_host.proofs.MemoryHostLemmas.{file_is}
use Rattle.cc_host.proofs.memory_host.MemoryHost.file.Goals as goal

pub returns : goal.returns
returns c = rw (file_is c.args.self.now.files c.args.name.now) (grind (arith, common_steps))
