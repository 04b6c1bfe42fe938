use Rattle.std.specs.Str.{chars}
use Rattle.cc_jsdoc.specs.Tags.{no_class}
use Rattle.cc_jsdoc.proofs.GivesLemmas.{class_given}
use Rattle.cc_jsdoc.proofs.gives.own_class.Goals as goal

pub returns-in-Some : goal.returns-in-Some
returns-in-Some c = class_given (chars c.args.text.now) (chars c.in-Some.inside.now) (chars c.in-Some.field-0-1.now) c.class_name.result c.in-Some.ensures.value c.class_name.ensures

pub returns-in-None : goal.returns-in-None
returns-in-None c = no_class (λ inside rest ws b. absurd (c.in-None.ensures.value inside rest b))
