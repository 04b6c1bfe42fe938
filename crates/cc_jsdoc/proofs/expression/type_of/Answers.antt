use Rattle.std.proofs.Common.{refl}
use Rattle.std.specs.Str.{chars}
use Rattle.cc_jsdoc.proofs.GoOnLemmas.{whole_is, means_unknown, means_read}
use Rattle.cc_jsdoc.proofs.expression.type_of.Goals as goal

pub loop-step-init : goal.loop-step-init
loop-step-init c = record { text = c.utf8.text; keeps = λ ts. whole_is c.new.result.items c.new-2.result.items ts (chars c.args.text.now) c.new.ensures.items c.new-2.ensures.items }

pub returns-in-Outside : goal.returns-in-Outside
returns-in-Outside c =
    let none = rw c.in-Outside.is at c.loop-step.invariant.keeps in
    means_unknown (chars c.args.text.now) c.type_of_one.result (λ ts h. (none ts).0 h) c.type_of_one.ensures

pub returns : goal.returns
returns c =
    let all = rw c.in-Whole.is at c.loop-step.invariant.keeps in
    let us = c.loop-step.reading.alternatives.items in
    means_read (chars c.args.text.now) us c.from_vec.result ((all us).1 refl) c.from_vec.ensures
