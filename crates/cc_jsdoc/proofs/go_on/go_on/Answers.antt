use Rattle.std.proofs.Common.{◌≡◌, ◌++◌, ◌∷◌, [], ◌∙◌, ap, reverse, length, arith}
use Rattle.std.specs.Str.{chars}
use Rattle.std.proofs.lemmas.List.{nil_from_length}
use Rattle.cc_jsdoc.specs.declared.reading.Open.TheVariants as o
use Rattle.cc_jsdoc.proofs.GoOnLemmas.{at_equals, at_variadic_end, at_result_end, popped, ended_is}
use Rattle.cc_jsdoc.proofs.StepLemmas.{from_step, done_is}
use Rattle.cc_jsdoc.proofs.go_on.go_on.Goals as goal

pub returns-in-Some-clause-keeps : goal.returns-in-Some-clause-keeps
returns-in-Some-clause-keeps c ts =
    let old = c.args.reading.now in
    at_equals (reverse old.stack.items) old.alternatives.items ts (chars c.args.text.now) (chars c.in-Some.rest.now) c.in-Some.ensures.value

pub returns-in-None-clause-keeps : goal.returns-in-None-clause-keeps
returns-in-None-clause-keeps c ts =
    let old = c.args.reading.now in
    let none : length old.stack.items ≡ 0 = omega (arith, c.in-None.ensures.cases.0, old.stack.ok.0) in
    ended_is c.ended.result old.stack.items (reverse c.pop.new.self.items) old.alternatives.items ts (chars c.args.text.now) c.in_default.ensures.value c.ended.ensures.step c.ended.ensures.whole
    (nil_from_length old.stack.items none)

pub returns-in-Some-Variadic-clause-keeps : goal.returns-in-Some-Variadic-clause-keeps
returns-in-Some-Variadic-clause-keeps c =
    let old = c.args.reading.now in let new = c.replaced.new.reading in let text = chars c.args.text.now in
    let rest = c.pop.new.self.items in let us = old.alternatives.items in let n = c.in-Some-Variadic.before in
    let last : old.stack.items ≡ rest ++ o.Variadic n ∷ [] = c.in-Some-Variadic.ensures.items ∙ ap (λ x. rest ++ x ∷ []) c.in-Some-Variadic.field-0-is in
    from_step c.replaced.result _ _ _ _ c.replaced.ensures.step c.replaced.ensures.stack c.replaced.ensures.alternatives (λ st al ts.
    done_is rest new.stack.items _ new.alternatives.items ts text st al
    (popped old.stack.items rest (o.Variadic n) us ts text last (at_variadic_end (reverse rest) us ts text c.in_default.ensures.value n)))

pub returns-in-Some-Result-clause-keeps : goal.returns-in-Some-Result-clause-keeps
returns-in-Some-Result-clause-keeps c =
    let r = c.replaced-in-Some-Result in
    let old = c.args.reading.now in let new = r.new.reading in let text = chars c.args.text.now in
    let rest = c.pop.new.self.items in let us = old.alternatives.items in let n = c.in-Some-Result.before in
    let last : old.stack.items ≡ rest ++ o.Result n ∷ [] = c.in-Some-Result.ensures.items ∙ ap (λ x. rest ++ x ∷ []) c.in-Some-Result.field-0-is in
    from_step r.result _ _ _ _ r.ensures.step r.ensures.stack r.ensures.alternatives (λ st al ts.
    done_is rest new.stack.items _ new.alternatives.items ts text st al
    (popped old.stack.items rest (o.Result n) us ts text last (at_result_end (reverse rest) us ts text c.in_default.ensures.value n)))
