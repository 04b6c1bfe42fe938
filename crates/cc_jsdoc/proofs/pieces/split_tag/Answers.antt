use Rattle.std.proofs.Common.{sym, ◌∙◌, subst, arith}
use Rattle.std.specs.Str.{chars}
use Rattle.cc_jsdoc.proofs.PieceLemmas.{Passed, passed_none, passed_more, piece_ends, last_piece}
use Rattle.cc_jsdoc.proofs.pieces.split_tag.Goals as goal

pub loop-c-init : goal.loop-c-init
loop-c-init c = record { utf8 = c.utf8.text; shorter = omega arith; passed = passed_none c.args.free (chars c.args.text.now) }

pub loop-c-preserved : goal.loop-c-preserved
loop-c-preserved c =
    let text = chars c.args.text.now in let behind = chars c.in-Some.behind.now in
    record {
      utf8 = c.in-Some.ensures.text;
      shorter = omega (arith, c.in-Some.ensures.shorter, c.loop-c.invariant.shorter);
      passed = subst (Passed c.args.free text behind) (sym c.contains-may_begin.ensures)
          (passed_more c.args.free c.loop-c.may_begin text (chars c.loop-c.rest.now) behind c.in-Some.c c.loop-c.invariant.passed c.in-Some.ensures.characters (sym c.begins_tag.ensures ∙ c.if-begins_tag.false));
    }

pub returns-then-begins_tag-clause-pieces : goal.returns-then-begins_tag-clause-pieces
returns-then-begins_tag-clause-pieces c =
    piece_ends c.args.free c.loop-c.may_begin (chars c.args.text.now) (chars c.loop-c.rest.now) (chars c.in-Some.behind.now) (chars c.front.result.now) c.in-Some.c c.loop-c.invariant.passed
    c.in-Some.ensures.characters (sym c.begins_tag.ensures ∙ c.if-begins_tag.true) c.front.ensures

pub returns-clause-pieces : goal.returns-clause-pieces
returns-clause-pieces c = last_piece c.args.free c.loop-c.may_begin (chars c.args.text.now) (chars c.loop-c.rest.now) c.loop-c.invariant.passed c.in_default.ensures.characters
