use Rattle.std.proofs.Common.{refl, sym, ◌∙◌, arith}
use Rattle.std.specs.Str.{chars}
use Rattle.cc_jsdoc.proofs.SymbolLemmas.{symbol-end, symbol-word, symbol-mark, behind_word}
use Rattle.cc_jsdoc.proofs.symbol.next_symbol.Goals as goal

pub returns-then-is_start-clause-value : goal.returns-then-is_start-clause-value
returns-then-is_start-clause-value c =
    symbol-word (chars c.args.text.now) (chars c.behind-begin.result.now) c.behind-begin.ensures.value c.in-Some.first (chars c.in-Some.rest.now) c.in-Some.ensures.characters
    _ _ (sym c.is_start.ensures ∙ c.if-is_start.true) c.split.ensures.front c.split.ensures.rest

pub returns-then-is_start-clause-shorter : goal.returns-then-is_start-clause-shorter
returns-then-is_start-clause-shorter c =
    let less = behind_word c.behind-begin.result.now c.in-Some.rest.now c.split.result.1.now c.in-Some.first c.in-Some.ensures.text c.split.ensures.rest_text
    c.in-Some.ensures.characters (sym c.is_start.ensures ∙ c.if-is_start.true) c.split.ensures.rest in
    omega (arith, c.in-Some.ensures.shorter)

pub returns-else-is_start-clause-value : goal.returns-else-is_start-clause-value
returns-else-is_start-clause-value c =
    symbol-mark (chars c.args.text.now) (chars c.behind-begin.result.now) c.behind-begin.ensures.value c.in-Some.first (chars c.in-Some.rest.now) c.in-Some.ensures.characters
    _ (sym c.is_start.ensures ∙ c.if-is_start.false) refl

pub returns-in_default-clause-value : goal.returns-in_default-clause-value
returns-in_default-clause-value c = symbol-end (chars c.args.text.now) (chars c.behind-begin.result.now) c.behind-begin.ensures.value c.in_default.ensures.characters
