use Rattle.std.proofs.Common.{◌≡◌, ◌∙◌, sym, ap, false, arith}
use Rattle.std.proofs.lemmas.Bool.Decides.{nat_tests}
use Rattle.cc_lexer.specs.Words.{spelling, words, word_of}
use Rattle.cc_lexer.proofs.WordLemmas.{by_first, is_first, no_word}
use Rattle.cc_lexer.proofs.word.beginning.Goals as goal

pub returns-in-98 : goal.returns-in-98
unfolding spelling words
returns-in-98 c text e = by_first text 98 (e ∙ c.in-98.is)

pub returns-in-99 : goal.returns-in-99
unfolding spelling words
returns-in-99 c text e = by_first text 99 (e ∙ c.in-99.is)

pub returns-in-100 : goal.returns-in-100
unfolding spelling words
returns-in-100 c text e = by_first text 100 (e ∙ c.in-100.is)

pub returns-in-101 : goal.returns-in-101
unfolding spelling words
returns-in-101 c text e = by_first text 101 (e ∙ c.in-101.is)

pub returns-in-102 : goal.returns-in-102
unfolding spelling words
returns-in-102 c text e = by_first text 102 (e ∙ c.in-102.is)

pub returns-in-105 : goal.returns-in-105
unfolding spelling words
returns-in-105 c text e = by_first text 105 (e ∙ c.in-105.is)

pub returns-in-110 : goal.returns-in-110
unfolding spelling words
returns-in-110 c text e = by_first text 110 (e ∙ c.in-110.is)

pub returns-in-114 : goal.returns-in-114
unfolding spelling words
returns-in-114 c text e = by_first text 114 (e ∙ c.in-114.is)

pub returns-in-115 : goal.returns-in-115
unfolding spelling words
returns-in-115 c text e = by_first text 115 (e ∙ c.in-115.is)

pub returns-in-116 : goal.returns-in-116
unfolding spelling words
returns-in-116 c text e = by_first text 116 (e ∙ c.in-116.is)

pub returns-in-118 : goal.returns-in-118
unfolding spelling words
returns-in-118 c text e = by_first text 118 (e ∙ c.in-118.is)

pub returns-in-119 : goal.returns-in-119
unfolding spelling words
returns-in-119 c text e = by_first text 119 (e ∙ c.in-119.is)

pub returns-in_default : goal.returns-in_default
returns-in_default c text e =
    let none : is_first c.args.first ≡ false = grind (arith, nat_tests) in
    sym (no_word text (ap is_first e ∙ none))
