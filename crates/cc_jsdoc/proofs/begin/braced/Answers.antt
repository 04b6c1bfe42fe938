use Rattle.std.proofs.Common.{refl, reverse}
use Rattle.std.specs.Str.{chars}
use Rattle.cc_jsdoc.proofs.MarkLemmas.{at_braced, at_no_brace}
use Rattle.cc_jsdoc.proofs.StepLemmas.{from_step, done_is}
use Rattle.cc_jsdoc.proofs.begin.braced.Goals as goal

pub returns-in-Some-clause-keeps : goal.returns-in-Some-clause-keeps
returns-in-Some-clause-keeps c =
    let old = c.args.reading.now in let new = c.done.new.reading in
    from_step c.done.result _ _ _ _ c.done.ensures.step c.done.ensures.stack c.done.ensures.alternatives (λ st al whole m ts.
    done_is old.stack.items new.stack.items _ new.alternatives.items ts (chars c.in-Some.rest.now) st al
    (at_braced (reverse old.stack.items) old.alternatives.items ts 123 whole (chars c.args.inside.now) m (chars c.in-Some.field-0-0.now) (chars c.in-Some.rest.now) refl c.in-Some.ensures.value))

pub returns-in-None-clause-keeps : goal.returns-in-None-clause-keeps
returns-in-None-clause-keeps c whole m ts =
    let old = c.args.reading.now in
    at_no_brace (reverse old.stack.items) old.alternatives.items ts 123 whole (chars c.args.inside.now) m refl c.in-None.ensures.value
