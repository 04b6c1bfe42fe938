use Rattle.std.proofs.Common.{◌≡◌, ◌-◌, sym, ap, ◌∙◌, ◌++◌, take, length, arith}
use Rattle.std.specs.Str.{chars}
use Rattle.cc_lexer.proofs.Runs.{cut}
use Rattle.cc_jsdoc.proofs.span.front.Goals as goal

pub overflow_sub-text : goal.overflow_sub-text
overflow_sub-text c = (cut c.args.text.now c.args.rest.now c.utf8.text c.utf8.rest c.requires).within

pub range-requires-clause-end_boundary : goal.range-requires-clause-end_boundary
range-requires-clause-end_boundary c = (cut c.args.text.now c.args.rest.now c.utf8.text c.utf8.rest c.requires).boundary

pub returns : goal.returns
returns c = let k = cut c.args.text.now c.args.rest.now c.utf8.text c.utf8.rest c.requires in
    let e : c.range.result.now ≡ take (length c.args.text.now - length c.args.rest.now) c.args.text.now = grind (arith, c.range.ensures.value) in
    k.parts ∙ ap (λ x. chars x ++ chars c.args.rest.now) (sym e)
