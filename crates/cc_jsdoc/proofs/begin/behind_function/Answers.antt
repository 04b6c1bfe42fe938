use Rattle.std.proofs.Common.{refl}
use Rattle.std.specs.Prelude.{codes}
use Rattle.cc_jsdoc.proofs.StepLemmas.{either_way}
use Rattle.cc_jsdoc.proofs.WordLemmas.{is_word, not_plain}
use Rattle.cc_jsdoc.proofs.begin.behind_function.Goals as goal

pub returns-in-function-clause-value : goal.returns-in-function-clause-value
returns-in-function-clause-value c =
    either_way c.behind_mark.result _ _ _ _ c.behind_mark.ensures.value (λ f a e. f a) (λ r m. (is_word c.args.word.now (codes "function") refl c.in-function.is, m))

pub returns-in_default-clause-value : goal.returns-in_default-clause-value
returns-in_default-clause-value c a e m = not_plain c.args.word.now (codes "function") c.utf8.word refl c.in_default.not-function e
