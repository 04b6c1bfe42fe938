use Rattle.cc_lexer.proofs.ItemLemmas.{begins_later, later_ends, later_shorter}
use Rattle.cc_lexer.proofs.LexLemmas.{found_gap, found_next, found_note, found_stop, found_end}
use Rattle.cc_lexer.proofs.lexing.tokens_of.Goals as goal

pub returns-in-Ok-Nothing : goal.returns-in-Ok-Nothing
returns-in-Ok-Nothing c =
    let b = rw c.in-Ok-Nothing.field-0-is at c.in-Ok-Nothing.ensures in
    found_stop _ _ _ _ _ _ _ _ c.loop-c.invariant.found b c.refusal.ensures

pub moved-place-requires-clause-ends : goal.moved-place-requires-clause-ends
moved-place-requires-clause-ends c =
    let b = rw c.in-Ok-Blank.field-0-is at c.in-Ok-Blank.ensures in
    later_ends _ _ (begins_later b.0)

pub loop-c-smaller-in-Ok-Blank : goal.loop-c-smaller-in-Ok-Blank
loop-c-smaller-in-Ok-Blank c =
    let b = rw c.in-Ok-Blank.field-0-is at c.in-Ok-Blank.ensures in
    later_shorter _ _ (begins_later b.0)

pub loop-c-preserved-in-Ok-Blank : goal.loop-c-preserved-in-Ok-Blank
loop-c-preserved-in-Ok-Blank c =
    let b = rw c.in-Ok-Blank.field-0-is at c.in-Ok-Blank.ensures in
    record { utf8 = b.1; room = c.moved-place.ensures.room; found = found_gap _ _ _ _ _ _ _ _ _ c.loop-c.invariant.found b.0 c.moved-place.ensures.passed }

pub moved-place-requires-in-Ok-Token-clause-ends : goal.moved-place-requires-in-Ok-Token-clause-ends
moved-place-requires-in-Ok-Token-clause-ends c =
    let b = rw c.in-Ok-Token.field-0-is at c.in-Ok-Token.ensures in
    later_ends _ _ (begins_later b.0)

pub loop-c-smaller-in-Ok-Token : goal.loop-c-smaller-in-Ok-Token
loop-c-smaller-in-Ok-Token c =
    let b = rw c.in-Ok-Token.field-0-is at c.in-Ok-Token.ensures in
    later_shorter _ _ (begins_later b.0)

pub loop-c-preserved-in-Ok-Token : goal.loop-c-preserved-in-Ok-Token
loop-c-preserved-in-Ok-Token c =
    let b = rw c.in-Ok-Token.field-0-is at c.in-Ok-Token.ensures in
    record { utf8 = b.1; room = c.moved-place-in-Ok-Token.ensures.room; found = found_next _ _ _ _ _ _ _ _ _ _ c.loop-c.invariant.found b.0 c.moved-place-in-Ok-Token.ensures.passed c.in_ok-push-in-Ok-Token.ensures.items }

pub moved-place-requires-in-Ok-Annotation-clause-ends : goal.moved-place-requires-in-Ok-Annotation-clause-ends
moved-place-requires-in-Ok-Annotation-clause-ends c =
    let b = rw c.in-Ok-Annotation.field-0-is at c.in-Ok-Annotation.ensures in
    later_ends _ _ (begins_later b.0)

pub loop-c-smaller : goal.loop-c-smaller
loop-c-smaller c =
    let b = rw c.in-Ok-Annotation.field-0-is at c.in-Ok-Annotation.ensures in
    later_shorter _ _ (begins_later b.0)

pub loop-c-preserved : goal.loop-c-preserved
loop-c-preserved c =
    let b = rw c.in-Ok-Annotation.field-0-is at c.in-Ok-Annotation.ensures in
    record { utf8 = b.1; room = c.moved-place-in-Ok-Annotation.ensures.room; found = found_note _ _ _ _ _ _ _ _ _ _ _ c.loop-c.invariant.found b.0 c.moved-place-in-Ok-Annotation.ensures.passed c.in_ok-push-in-Ok-Annotation.ensures.items }

pub returns : goal.returns
returns c = found_end _ _ _ _ _ _ _ c.loop-c.invariant.found c.in_default.ensures.characters c.in_ok-push.ensures.items
