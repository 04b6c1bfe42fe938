use Rattle.std.proofs.Common.{◌≡◌, ◌++◌, ◌∷◌, [], ◌∙◌, ap, subst, refl, reverse, length, arith}
use Rattle.std.specs.Str.{chars}
use Rattle.cc_jsdoc.specs.declared.reading.Open.TheVariants as o
use Rattle.cc_jsdoc.specs.Symbols.{Mark}
use Rattle.cc_jsdoc.proofs.SymbolLemmas.{mark_once}
use Rattle.cc_jsdoc.proofs.MarkLemmas.{at_variadic, at_no_dots}
use Rattle.cc_jsdoc.proofs.StepLemmas.{from_step, opened_is}
use Rattle.cc_jsdoc.proofs.begin.variadic.Goals as goal

pub returns-in_default-clause-keeps : goal.returns-in_default-clause-keeps
returns-in_default-clause-keeps c whole m ts =
    let old = c.args.reading.now in
    at_no_dots (reverse old.stack.items) old.alternatives.items ts 46 whole (chars c.args.text.now) m refl (λ b d k l. c.in_default.ensures.value b k)

pub returns-in_default-behind_mark-clause-keeps : goal.returns-in_default-behind_mark-clause-keeps
returns-in_default-behind_mark-clause-keeps c whole m ts =
    let old = c.args.reading.now in
    let text = chars c.args.text.now in
    at_no_dots (reverse old.stack.items) old.alternatives.items ts 46 whole text m refl (λ b d k l.
    c.in_default-behind_mark.ensures.value d (subst (λ x. Mark 46 x d) (mark_once text 46 46 b (chars c.in-Some.second.now) k c.in-Some.ensures.value).1 l))

pub returns-clause-keeps : goal.returns-clause-keeps
returns-clause-keeps c =
    let old = c.args.reading.now in let new = c.opened.new.reading in
    let us = old.alternatives.items in
    let count : c.len-before.result ≡ length us = omega (arith, c.len-before.ensures, old.alternatives.ok.0) in
    from_step c.opened.result _ _ _ _ c.opened.ensures.step c.opened.ensures.stack c.opened.ensures.alternatives (λ st al whole m ts.
    opened_is old.stack.items new.stack.items us new.alternatives.items ts (chars c.in-Some-behind_mark.third.now) (o.Variadic (length us))
    (st ∙ ap (λ n. old.stack.items ++ o.Variadic n ∷ []) count) al
    (at_variadic (reverse old.stack.items) us ts 46 whole (chars c.args.text.now) m (chars c.in-Some.second.now) (chars c.in-Some-behind_mark.third.now) refl c.in-Some.ensures.value c.in-Some-behind_mark.ensures.value))
