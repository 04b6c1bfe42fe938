use Rattle.std.proofs.Common.{arith}
use Rattle.cc_flags.specs.Words.{settings_of}
use Rattle.cc_flags.proofs.JobLaws.{names-few}
use Rattle.cc_flags.proofs.read.job_of.Goals as goal

pub or_main-requires : goal.or_main-requires
or_main-requires c = let few = names-few c.in_ok-sources.sources.items (settings_of c.args.items.now) c.in_ok-sources.ensures c.requires.few in omega arith
