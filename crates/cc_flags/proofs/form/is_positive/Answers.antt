use Rattle.std.proofs.Common.{is_none, sym, ap, ◌∙◌}
use Rattle.cc_flags.proofs.FormLaws.{positive-no, positive-by, flipped}
use Rattle.cc_flags.proofs.form.is_positive.Goals as goal

pub returns-then-not-is_decimal : goal.returns-then-not-is_decimal
returns-then-not-is_decimal c = positive-no c.args.text.now (sym c.is_decimal.ensures ∙ c.if-not-is_decimal.true)

pub returns : goal.returns
returns c = positive-by c.args.text.now c.is_none.result (sym c.is_decimal.ensures ∙ c.if-not-is_decimal.false) (flipped c.is_none.result _ (sym c.is_none.ensures) ∙ ap is_none c.decimal_within.ensures)
