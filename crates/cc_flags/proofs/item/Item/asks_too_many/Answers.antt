use Rattle.std.proofs.Common.{is_none, sym, ap, ◌∙◌}
use Rattle.cc_flags.specs.Words.{setting_of}
use Rattle.cc_flags.proofs.FormLaws.{flipped}
use Rattle.cc_flags.proofs.LimitLaws.{many-no, many-by}
use Rattle.cc_flags.proofs.item.Item.asks_too_many.Goals as goal

pub returns-then-not-is_decimal : goal.returns-then-not-is_decimal
returns-then-not-is_decimal c = many-no (setting_of c.args.self.now) c.in-Some.value.now c.in-Some.ensures (sym c.is_decimal.ensures ∙ c.if-not-is_decimal.true)

pub returns : goal.returns
returns c =
    many-by (setting_of c.args.self.now) c.in-Some.value.now c.is_none.result c.in-Some.ensures (sym c.is_decimal.ensures ∙ c.if-not-is_decimal.false)
    (flipped c.is_none.result _ (sym c.is_none.ensures) ∙ ap is_none c.decimal_within.ensures)
