use Rattle.std.proofs.Common.{sym}
use Rattle.cc_flags.specs.Steps.{source, output}
use Rattle.cc_flags.proofs.missing.check_missing.Goals as goal

pub returns-then-lacks_source-clause-fault : goal.returns-then-lacks_source-clause-fault
returns-then-lacks_source-clause-fault c = source c.if-lacks_source.ensures

pub returns-then-not-has_output-clause-fault : goal.returns-then-not-has_output-clause-fault
returns-then-not-has_output-clause-fault c = output c.if-lacks_source.ensures (sym c.if-not-has_output.ensures)
