use Rattle.std.proofs.Common.{sym, ap, ◌∙◌, arith}
use Rattle.cc_flags.specs.Numbers.{within}
use Rattle.cc_flags.proofs.NumberLaws.{decimal-isnt, within-beyond, within-some, within-inside, within-outside}
use Rattle.cc_flags.proofs.number.decimal_within.Goals as goal

pub returns-then-not-is_decimal : goal.returns-then-not-is_decimal
returns-then-not-is_decimal c = sym (ap (within c.args.least c.args.most) (decimal-isnt c.args.text.now (sym c.is_decimal.ensures ∙ c.if-not-is_decimal.true)))

pub returns-in_err-number : goal.returns-in_err-number
returns-in_err-number c =
    c.from_residual.ensures
    ∙ sym (within-beyond c.args.text.now c.parse.result c.args.least c.args.most c.parse.ensures.value.0 (sym c.is_decimal.ensures ∙ c.if-not-is_decimal.false) (sym c.ok.ensures.value ∙ c.in_err-number.was) (omega arith))

pub returns-then-number-most : goal.returns-then-number-most
returns-then-number-most c =
    let n = c.in_ok-number.number in
    sym (within-some c.args.text.now c.parse.result c.args.least c.args.most n c.parse.ensures.value.0 (sym c.is_decimal.ensures ∙ c.if-not-is_decimal.false) (sym c.ok.ensures.value ∙ c.in_ok-number.was)
    ∙ within-inside c.args.least c.args.most n c.if-least-number.true c.if-number-most.true)

pub returns-else-least-number : goal.returns-else-least-number
returns-else-least-number c =
    let n = c.in_ok-number.number in
    sym (within-some c.args.text.now c.parse.result c.args.least c.args.most n c.parse.ensures.value.0 (sym c.is_decimal.ensures ∙ c.if-not-is_decimal.false) (sym c.ok.ensures.value ∙ c.in_ok-number.was)
    ∙ within-outside c.args.least c.args.most n c.else-least-number.either)
