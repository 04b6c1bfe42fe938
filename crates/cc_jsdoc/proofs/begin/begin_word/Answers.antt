use Rattle.std.proofs.Common.{◌≡◌, ◌++◌, ◌∷◌, [], ◌∙◌, ap, reverse, length, arith}
use Rattle.std.specs.Str.{chars}
use Rattle.cc_jsdoc.specs.declared.reading.Open.TheVariants as o
use Rattle.cc_jsdoc.proofs.FunctionLemmas.{at_array}
use Rattle.cc_jsdoc.proofs.StepLemmas.{from_step, opened_is}
use Rattle.cc_jsdoc.proofs.begin.begin_word.Goals as goal

pub returns-in-Some-behind_array-clause-keeps : goal.returns-in-Some-behind_array-clause-keeps
returns-in-Some-behind_array-clause-keeps c =
    let old = c.args.reading.now in let new = c.opened.new.reading in
    let us = old.alternatives.items in
    let text = chars c.args.text.now in let end = chars c.in-Some-behind_array.element.now in
    let count : c.len-before.result ≡ length us = omega (arith, c.len-before.ensures, old.alternatives.ok.0) in
    from_step c.opened.result _ _ _ _ c.opened.ensures.step c.opened.ensures.stack c.opened.ensures.alternatives (λ st al ts.
    opened_is old.stack.items new.stack.items us new.alternatives.items ts end (o.Element (length us))
    (st ∙ ap (λ n. old.stack.items ++ o.Element n ∷ []) count) al
    (at_array (reverse old.stack.items) us ts (chars c.args.word.now) text (chars c.args.rest.now) c.requires.word end (c.in-Some-behind_array.ensures.value text c.requires.word)))
