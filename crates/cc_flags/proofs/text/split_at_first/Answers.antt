use Rattle.std.proofs.Common.{Some, None, ap, ◌∙◌, sym}
use Rattle.std.proofs.lemmas.Str.Pattern.{split_parts}
use Rattle.cc_flags.specs.Texts.{before, behind}
use Rattle.cc_flags.proofs.TextLaws.{before-none, behind-none, before-first, behind-first}
use Rattle.cc_flags.proofs.text.split_at_first.Goals as goal

pub returns-in-Some-clause-before : goal.returns-in-Some-clause-before
returns-in-Some-clause-before c =
    let parts = split_parts c.args.mark c.args.text.now (Some (c.in-Some.before, c.in-Some.behind)) c.in-Some.ensures.cases c.requires in
    sym (ap (before c.args.mark) parts.0 ∙ before-first c.args.mark c.in-Some.before.now c.in-Some.behind.now parts.1)

pub returns-in-Some-clause-behind : goal.returns-in-Some-clause-behind
returns-in-Some-clause-behind c =
    let parts = split_parts c.args.mark c.args.text.now (Some (c.in-Some.before, c.in-Some.behind)) c.in-Some.ensures.cases c.requires in
    sym (ap (behind c.args.mark) parts.0 ∙ behind-first c.args.mark c.in-Some.before.now c.in-Some.behind.now parts.1)

pub returns-in-None-clause-before : goal.returns-in-None-clause-before
returns-in-None-clause-before c = sym (before-none c.args.mark c.args.text.now (split_parts c.args.mark c.args.text.now None c.in-None.ensures.cases c.requires))

pub returns-in-None-clause-behind : goal.returns-in-None-clause-behind
returns-in-None-clause-behind c = sym (behind-none c.args.mark c.args.text.now (split_parts c.args.mark c.args.text.now None c.in-None.ensures.cases c.requires))
