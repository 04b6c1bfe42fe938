use Rattle.std.proofs.Common.{Some}
use Rattle.cc_meaning.specs.Shapes.{tables_of}
use Rattle.cc_conform.specs.Bridge.{with_store}
use Rattle.cc_conform.proofs.CallLemmas.{named-others}
use Rattle.cc_conform.proofs.host.name_fits.Goals as goal

pub returns-in_default : goal.returns-in_default
returns-in_default c = λ s. named-others (tables_of c.args.program.now) (with_store s c.args.heap.now) c.args.on.now (Some c.args.name.now) c.in_default.not-Object
