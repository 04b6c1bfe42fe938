use Rattle.std.proofs.Common.{◌≡◌, ◌++◌, ◌∷◌, [], ◌∙◌, ap, reverse, take, drop, min, length, arith}
use Rattle.std.specs.Str.{chars}
use Rattle.std.proofs.lemmas.List.{take_min, drop_min}
use Rattle.cc_jsdoc.specs.Types.{array_of}
use Rattle.cc_jsdoc.proofs.GoOnLemmas.{at_element}
use Rattle.cc_jsdoc.proofs.StepLemmas.{from_step, done_is}
use Rattle.cc_jsdoc.proofs.go_on.element.Goals as goal

pub returns-clause-keeps : goal.returns-clause-keeps
returns-clause-keeps c =
    let old = c.args.reading.now in let new = c.done.new.reading in let rest = chars c.in-Some.rest.now in
    let us = old.alternatives.items in let n = c.args.before in
    let at : c.min-at.result ≡ min n (length us) = omega (arith, c.min-at.ensures, c.len.ensures, old.alternatives.ok.0) in
    let front : c.split_off.new.self.items ≡ take n us = c.in_ok-elements.ensures.items ∙ ap (λ m. take m us) at ∙ take_min n us in
    let back : c.in_ok-elements.elements.items ≡ drop n us = c.in_ok-elements.ensures.tail ∙ ap (λ m. drop m us) at ∙ drop_min n us in
    let array : c.in_ok-array.array ≡ array_of (drop n us) = c.in_ok-array.ensures ∙ ap array_of back in
    from_step c.done.result _ _ _ _ c.done.ensures.step c.done.ensures.stack c.done.ensures.alternatives (λ st al ts.
    done_is old.stack.items new.stack.items (take n us ++ array_of (drop n us) ∷ []) new.alternatives.items ts rest st (al ∙ ap (λ x. x ++ c.in_ok-array.array ∷ []) front ∙ ap (λ x. take n us ++ x ∷ []) array)
    (at_element (reverse old.stack.items) us ts (chars c.args.text.now) c.requires n rest c.in-Some.ensures.value))
