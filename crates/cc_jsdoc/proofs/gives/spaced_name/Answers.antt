use Rattle.std.proofs.Common.{sym}
use Rattle.cc_jsdoc.specs.Tags.{next}
use Rattle.cc_jsdoc.proofs.gives.spaced_name.Goals as goal

pub returns-in-Some-clause-value : goal.returns-in-Some-clause-value
returns-in-Some-clause-value c = next (sym c.if-not-begins_with_blank.ensures) c.in-Some.ensures.value
