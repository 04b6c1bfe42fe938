use Rattle.std.proofs.Common.{◌∙◌, refl, arith}
use Rattle.cc_stmt.proofs.NoteLemmas.{note_before, token_before, one_more}
use Rattle.cc_stmt.proofs.note.notes_of.Goals as goal

pub loop-at-preserved-in-Continue-branch-3 : goal.loop-at-preserved-in-Continue-branch-3
loop-at-preserved-in-Continue-branch-3 c =
    let split = one_more c.args.tokens.now c.loop-at.at c.index-tokens-at.result c.loop-at-test.true c.loop-at.invariant.0 c.index-tokens-at.is in
    (omega arith, c.loop-at.invariant.1 ∙ note_before c.loop-at.next _ _ c.index-tokens-at.result _ _ c.loop-at.found.items _ split (c.in_ok-text.ensures.doc c.in-Some.text c.in-Some.is) refl c.in_ok-push-in-Some.ensures.items)

pub loop-at-preserved : goal.loop-at-preserved
loop-at-preserved c =
    let split = one_more c.args.tokens.now c.loop-at.at c.index-tokens-at.result c.loop-at-test.true c.loop-at.invariant.0 c.index-tokens-at.is in
    (omega arith, c.loop-at.invariant.1 ∙ token_before c.loop-at.next _ _ c.index-tokens-at.result c.loop-at.found.items split (c.in_ok-text.ensures.other c.in-None.is))
