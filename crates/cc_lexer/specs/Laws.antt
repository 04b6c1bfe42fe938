-- Laws of the tokens of a text.
use Rattle.std.specs.Prelude.{◌≡◌, ℕ, List, Option}
use Rattle.cc_ast.specs.declared.reading.Refusal.{Refusal}
use Rattle.cc_lexer.specs.declared.token.Token.{Token}
use Rattle.cc_lexer.specs.Covers.{IsCovered}
use Rattle.cc_lexer.specs.Lexes.{Lexed, first_place}

-- a text has one list of tokens, and one refusal where no token begins
abbrev pub OneList : Type 0
OneList = (text : List ℕ) (file : ℕ) (ts us : List Token) (s r : Option Refusal)
    → Lexed text file ts s → Lexed text file us r → (ts ≡ us) × (s ≡ r)

-- The text up to the stop is the tokens' own texts, each the longest, with white space, comments and
-- line ends between them.
abbrev pub IsTheirTexts : Type 0
IsTheirTexts = (text : List ℕ) (file : ℕ) (ts : List Token) (s : Option Refusal)
    → Lexed text file ts s → IsCovered (first_place file) text ts s
