use Rattle.std.proofs.Common.{length, subst, arith}
use Rattle.std.specs.Str.{chars}
use Rattle.cc_lexer.specs.Lexes.{Passed, HasRoom, here}
use Rattle.cc_lexer.proofs.PlaceLemmas.{ends_behind, room_is, passed_on, same_end, shorter_end}
use Rattle.cc_lexer.proofs.place.walked.Goals as goal

pub beyond-current-requires : goal.beyond-current-requires
beyond-current-requires c = room_is _ _ _ _ c.in-Some.ensures.bytes c.loop-c.invariant.room

pub loop-c-preserved : goal.loop-c-preserved
loop-c-preserved c = record {
  utf8 = c.in-Some.ensures.text;
  ends = ends_behind _ _ _ _ c.loop-c.invariant.utf8 c.utf8.rest c.in-Some.ensures.characters c.loop-c.invariant.ends (omega arith);
  room = c.beyond-current.ensures.room;
  passed = passed_on _ _ _ _ _ _ _ c.loop-c.invariant.passed c.in-Some.ensures.characters c.beyond-current.ensures.place;
}

pub loop-c-init : goal.loop-c-init
loop-c-init c = record { utf8 = c.utf8.text; ends = c.requires.ends; room = c.requires.room; passed = here }

pub returns-then-left-rest-clause-passed : goal.returns-then-left-rest-clause-passed
returns-then-left-rest-clause-passed c =
    let same = same_end _ _ c.loop-c.invariant.utf8 c.utf8.rest c.loop-c.invariant.ends c.if-left-rest.true in
    subst (λ b. Passed c.args.place (chars c.args.text.now) c.loop-c.current (chars b)) same c.loop-c.invariant.passed

pub returns-then-left-rest-clause-room : goal.returns-then-left-rest-clause-room
returns-then-left-rest-clause-room c =
    let same = same_end _ _ c.loop-c.invariant.utf8 c.utf8.rest c.loop-c.invariant.ends c.if-left-rest.true in
    subst (λ b. HasRoom c.loop-c.current (length b)) same c.loop-c.invariant.room

pub returns-in_default-clause-room : goal.returns-in_default-clause-room
returns-in_default-clause-room c =
    let small = shorter_end _ _ c.loop-c.invariant.utf8 c.utf8.rest c.loop-c.invariant.ends in
    let none = c.in_default.ensures.shorter in
    let same = same_end _ _ c.loop-c.invariant.utf8 c.utf8.rest c.loop-c.invariant.ends (omega arith) in
    subst (λ b. HasRoom c.loop-c.current (length b)) same c.loop-c.invariant.room
