use Rattle.std.proofs.Common.{reverse}
use Rattle.std.specs.Str.{chars}
use Rattle.cc_jsdoc.specs.declared.reading.Open.TheVariants as o
use Rattle.cc_jsdoc.proofs.GoOnLemmas.{at_next_part, at_union_end}
use Rattle.cc_jsdoc.proofs.StepLemmas.{from_step, opened_is}
use Rattle.cc_jsdoc.proofs.go_on.union.Goals as goal

pub returns-in-Some-clause-keeps : goal.returns-in-Some-clause-keeps
returns-in-Some-clause-keeps c =
    let old = c.args.reading.now in let new = c.opened.new.reading in let rest = chars c.in-Some.rest.now in
    from_step c.opened.result _ _ _ _ c.opened.ensures.step c.opened.ensures.stack c.opened.ensures.alternatives (λ st al ts.
    opened_is old.stack.items new.stack.items old.alternatives.items new.alternatives.items ts rest o.Union st al
    (at_next_part (reverse old.stack.items) old.alternatives.items ts (chars c.args.text.now) rest c.in-Some.ensures.value))

pub returns-in-Some-behind_mark-clause-keeps : goal.returns-in-Some-behind_mark-clause-keeps
returns-in-Some-behind_mark-clause-keeps c ts =
    let old = c.args.reading.now in
    at_union_end (reverse old.stack.items) old.alternatives.items ts (chars c.args.text.now) (chars c.in-Some-behind_mark.rest.now) c.in-Some-behind_mark.ensures.value
