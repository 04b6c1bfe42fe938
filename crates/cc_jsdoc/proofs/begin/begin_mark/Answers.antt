use Rattle.std.proofs.Common.{sym, ◌∙◌, reverse, arith}
use Rattle.std.specs.Str.{chars}
use Rattle.cc_jsdoc.specs.declared.reading.Open.TheVariants as o
use Rattle.cc_jsdoc.proofs.MarkLemmas.{at_all, at_any, at_nullable, at_not_null, at_union, at_none}
use Rattle.cc_jsdoc.proofs.StepLemmas.{from_step, done_is, opened_is}
use Rattle.cc_jsdoc.proofs.begin.begin_mark.Goals as goal

pub returns-in-42-clause-keeps : goal.returns-in-42-clause-keeps
returns-in-42-clause-keeps c =
    let old = c.args.reading.now in let new = c.done.new.reading in let rest = chars c.args.rest.now in
    from_step c.done.result _ _ _ _ c.done.ensures.step c.done.ensures.stack c.done.ensures.alternatives (λ st al whole m ts.
    done_is old.stack.items new.stack.items _ new.alternatives.items ts rest st al
    (at_all (reverse old.stack.items) old.alternatives.items ts c.args.mark whole rest m c.in-42.is))

pub returns-then-may_end_before-clause-keeps : goal.returns-then-may_end_before-clause-keeps
returns-then-may_end_before-clause-keeps c =
    let old = c.args.reading.now in let new = c.done-then-may_end_before.new.reading in let rest = chars c.args.rest.now in
    let d = c.done-then-may_end_before in
    from_step d.result _ _ _ _ d.ensures.step d.ensures.stack d.ensures.alternatives (λ st al whole m ts.
    done_is old.stack.items new.stack.items _ new.alternatives.items ts rest st al
    (at_any (reverse old.stack.items) old.alternatives.items ts c.args.mark whole rest m c.in-63.is (sym c.may_end_before.ensures ∙ c.if-may_end_before.true)))

pub returns-else-may_end_before-clause-keeps : goal.returns-else-may_end_before-clause-keeps
returns-else-may_end_before-clause-keeps c whole m ts =
    let old = c.args.reading.now in
    at_nullable (reverse old.stack.items) old.alternatives.items ts c.args.mark whole (chars c.args.rest.now) m c.in-63.is (sym c.may_end_before.ensures ∙ c.if-may_end_before.false)

pub returns-in-33-clause-keeps : goal.returns-in-33-clause-keeps
returns-in-33-clause-keeps c whole m ts =
    let old = c.args.reading.now in at_not_null (reverse old.stack.items) old.alternatives.items ts c.args.mark whole (chars c.args.rest.now) m c.in-33.is

pub returns-in-40-clause-keeps : goal.returns-in-40-clause-keeps
returns-in-40-clause-keeps c =
    let old = c.args.reading.now in let new = c.opened.new.reading in let rest = chars c.args.rest.now in
    from_step c.opened.result _ _ _ _ c.opened.ensures.step c.opened.ensures.stack c.opened.ensures.alternatives (λ st al whole m ts.
    opened_is old.stack.items new.stack.items old.alternatives.items new.alternatives.items ts rest o.Union st al
    (at_union (reverse old.stack.items) old.alternatives.items ts c.args.mark whole rest m c.in-40.is))

pub returns-in_default-clause-keeps : goal.returns-in_default-clause-keeps
returns-in_default-clause-keeps c whole m ts =
    let old = c.args.reading.now in
    at_none (reverse old.stack.items) old.alternatives.items ts c.args.mark whole (chars c.args.rest.now) m
    (λ e. omega arith) (λ e. omega arith) (λ e. omega arith) (λ e. omega arith) (λ e. omega arith) (λ e. omega arith)
