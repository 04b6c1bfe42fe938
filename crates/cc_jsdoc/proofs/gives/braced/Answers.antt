use Rattle.std.specs.Str.{chars}
use Rattle.cc_jsdoc.specs.Tags.{braces}
use Rattle.cc_jsdoc.proofs.GivesLemmas.{not_braced, no_brace}
use Rattle.cc_jsdoc.proofs.StepLemmas.{either_way}
use Rattle.cc_jsdoc.proofs.gives.braced.Goals as goal

pub returns-in-Some-clause-value : goal.returns-in-Some-clause-value
returns-in-Some-clause-value c =
    either_way c.close.result _ _ _ _ c.close.ensures.value (λ f inside rest. not_braced (chars c.args.text.now) (chars c.in-Some.inside.now) inside rest c.in-Some.ensures.value f)
    (λ r k. braces c.in-Some.ensures.value k)

pub returns-in-None-clause-value : goal.returns-in-None-clause-value
returns-in-None-clause-value c inside rest = no_brace (chars c.args.text.now) inside rest c.in-None.ensures.value
