use Rattle.cc_jsdoc.specs.Tags.{typed, untyped}
use Rattle.cc_jsdoc.proofs.gives.split_type.Goals as goal

pub returns-in_ok-type_of-in-Some-clause-value : goal.returns-in_ok-type_of-in-Some-clause-value
returns-in_ok-type_of-in-Some-clause-value c = typed c.in-Some.ensures.value c.in_ok-type_of-in-Some.ensures

pub returns-in-None-clause-value : goal.returns-in-None-clause-value
returns-in-None-clause-value c = untyped c.in-None.ensures.value
