use Rattle.std.proofs.Common.{subst, sym, refl}
use Rattle.std.specs.Str.{chars}
use Rattle.cc_text.specs.Ends.{Ends}
use Rattle.cc_lexer.proofs.PlaceLemmas.{gone, arrived, gone_on, shorter_end}
use Rattle.cc_lexer.proofs.place.moved.Goals as goal

pub overflow_sub-length : goal.overflow_sub-length
overflow_sub-length c = shorter_end c.args.text.now c.args.rest.now c.utf8.text c.utf8.rest c.requires.ends

pub returns-then-plain-length : goal.returns-then-plain-length
returns-then-plain-length c =
    let g = gone c.args.place _ c.args.text.now c.args.rest.now c.plain_length-plain.result c.utf8.text c.utf8.rest c.requires.ends c.plain_length-plain.ensures.within c.plain_length-plain.ensures.plain c.requires.room (refl, refl, refl, refl) in
    let a = arrived _ _ _ _ _ c.utf8.rest g c.if-plain-length.true (shorter_end c.args.text.now c.args.rest.now c.utf8.text c.utf8.rest c.requires.ends) in
    record { passed = a.passed; room = a.room }

pub range_from-requires : goal.range_from-requires
range_from-requires c =
    let g = gone c.args.place _ c.args.text.now c.args.rest.now c.plain_length-plain.result c.utf8.text c.utf8.rest c.requires.ends c.plain_length-plain.ensures.within c.plain_length-plain.ensures.plain c.requires.room (refl, refl, refl, refl) in
    λ _. g.boundary

pub walked-requires-clause-ends : goal.walked-requires-clause-ends
walked-requires-clause-ends c =
    let g = gone c.args.place _ c.args.text.now c.args.rest.now c.plain_length-plain.result c.utf8.text c.utf8.rest c.requires.ends c.plain_length-plain.ensures.within c.plain_length-plain.ensures.plain c.requires.room (refl, refl, refl, refl) in
    subst (λ bs. Ends (chars bs) (chars c.args.rest.now)) (sym c.range_from.ensures.value) g.ends

pub returns-clause-passed : goal.returns-clause-passed
returns-clause-passed c =
    let g = gone c.args.place _ c.args.text.now c.args.rest.now c.plain_length-plain.result c.utf8.text c.utf8.rest c.requires.ends c.plain_length-plain.ensures.within c.plain_length-plain.ensures.plain c.requires.room (refl, refl, refl, refl) in
    gone_on _ _ _ _ _ _ _ g c.range_from.ensures.value c.walked.ensures.passed
