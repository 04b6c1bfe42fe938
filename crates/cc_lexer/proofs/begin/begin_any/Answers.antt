use Rattle.std.proofs.Common.{sym, ◌∙◌}
use Rattle.std.proofs.lemmas.Result.{IfOk-weaker}
use Rattle.cc_lexer.proofs.ItemLemmas.{begins_string, begins_other}
use Rattle.cc_lexer.proofs.begin.begin_any.Goals as goal

pub returns-then-is_quote : goal.returns-then-is_quote
returns-then-is_quote c = IfOk-weaker _ _ _ (λ i. begins_string _ _ _ i c.requires (sym c.is_quote.ensures ∙ c.if-is_quote.true)) c.string.ensures

pub returns-else-is_quote : goal.returns-else-is_quote
returns-else-is_quote c = begins_other _ _ _ _ c.requires (sym c.is_quote.ensures ∙ c.if-is_quote.false) c.item.ensures
