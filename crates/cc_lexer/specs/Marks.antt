-- Punctuators (ECMA-262 5.1, 7.7).
use Rattle.std.specs.Prelude.{ℕ, List, [], ◌∷◌, ◌==◌, if◌then◌else◌, Option, Some, None}
use Rattle.cc_lexer.specs.declared.token.Mark.{Mark}
use Rattle.cc_lexer.specs.declared.token.Mark.TheVariants as m

abbrev pub spelling : Mark → List ℕ
spelling m.OpenBrace = 123 ∷ []
spelling m.CloseBrace = 125 ∷ []
spelling m.OpenParen = 40 ∷ []
spelling m.CloseParen = 41 ∷ []
spelling m.OpenBracket = 91 ∷ []
spelling m.CloseBracket = 93 ∷ []
spelling m.Dot = 46 ∷ []
spelling m.Semicolon = 59 ∷ []
spelling m.Comma = 44 ∷ []
spelling m.Less = 60 ∷ []
spelling m.Greater = 62 ∷ []
spelling m.LessEqual = 60 ∷ 61 ∷ []
spelling m.GreaterEqual = 62 ∷ 61 ∷ []
spelling m.EqualEqual = 61 ∷ 61 ∷ []
spelling m.BangEqual = 33 ∷ 61 ∷ []
spelling m.EqualEqualEqual = 61 ∷ 61 ∷ 61 ∷ []
spelling m.BangEqualEqual = 33 ∷ 61 ∷ 61 ∷ []
spelling m.Plus = 43 ∷ []
spelling m.Minus = 45 ∷ []
spelling m.Star = 42 ∷ []
spelling m.Percent = 37 ∷ []
spelling m.PlusPlus = 43 ∷ 43 ∷ []
spelling m.MinusMinus = 45 ∷ 45 ∷ []
spelling m.LessLess = 60 ∷ 60 ∷ []
spelling m.GreaterGreater = 62 ∷ 62 ∷ []
spelling m.GreaterGreaterGreater = 62 ∷ 62 ∷ 62 ∷ []
spelling m.Ampersand = 38 ∷ []
spelling m.Bar = 124 ∷ []
spelling m.Caret = 94 ∷ []
spelling m.Bang = 33 ∷ []
spelling m.Tilde = 126 ∷ []
spelling m.AmpersandAmpersand = 38 ∷ 38 ∷ []
spelling m.BarBar = 124 ∷ 124 ∷ []
spelling m.Question = 63 ∷ []
spelling m.Colon = 58 ∷ []
spelling m.Equal = 61 ∷ []
spelling m.PlusEqual = 43 ∷ 61 ∷ []
spelling m.MinusEqual = 45 ∷ 61 ∷ []
spelling m.StarEqual = 42 ∷ 61 ∷ []
spelling m.PercentEqual = 37 ∷ 61 ∷ []
spelling m.LessLessEqual = 60 ∷ 60 ∷ 61 ∷ []
spelling m.GreaterGreaterEqual = 62 ∷ 62 ∷ 61 ∷ []
spelling m.GreaterGreaterGreaterEqual = 62 ∷ 62 ∷ 62 ∷ 61 ∷ []
spelling m.AmpersandEqual = 38 ∷ 61 ∷ []
spelling m.BarEqual = 124 ∷ 61 ∷ []
spelling m.CaretEqual = 94 ∷ 61 ∷ []
spelling m.Slash = 47 ∷ []
spelling m.SlashEqual = 47 ∷ 61 ∷ []

-- the mark that is one character
abbrev pub single : ℕ → Option Mark
single c = if c == 123 then Some m.OpenBrace else (
    if c == 125 then Some m.CloseBrace else (
    if c == 40 then Some m.OpenParen else (
    if c == 41 then Some m.CloseParen else (
    if c == 91 then Some m.OpenBracket else (
    if c == 93 then Some m.CloseBracket else (
    if c == 46 then Some m.Dot else (
    if c == 59 then Some m.Semicolon else (
    if c == 44 then Some m.Comma else (
    if c == 60 then Some m.Less else (
    if c == 62 then Some m.Greater else (
    if c == 43 then Some m.Plus else (
    if c == 45 then Some m.Minus else (
    if c == 42 then Some m.Star else (
    if c == 37 then Some m.Percent else (
    if c == 38 then Some m.Ampersand else (
    if c == 124 then Some m.Bar else (
    if c == 94 then Some m.Caret else (
    if c == 33 then Some m.Bang else (
    if c == 126 then Some m.Tilde else (
    if c == 63 then Some m.Question else (
    if c == 58 then Some m.Colon else (
    if c == 61 then Some m.Equal else (
    if c == 47 then Some m.Slash else (None))))))))))))))))))))))))

-- the mark that a mark and one more character spell
abbrev pub longer : Mark → ℕ → Option Mark
longer m.Less c = if c == 61 then Some m.LessEqual else (if c == 60 then Some m.LessLess else (None))
longer m.Greater c = if c == 61 then Some m.GreaterEqual else (if c == 62 then Some m.GreaterGreater else (None))
longer m.EqualEqual c = if c == 61 then Some m.EqualEqualEqual else (None)
longer m.BangEqual c = if c == 61 then Some m.BangEqualEqual else (None)
longer m.Plus c = if c == 43 then Some m.PlusPlus else (if c == 61 then Some m.PlusEqual else (None))
longer m.Minus c = if c == 45 then Some m.MinusMinus else (if c == 61 then Some m.MinusEqual else (None))
longer m.Star c = if c == 61 then Some m.StarEqual else (None)
longer m.Percent c = if c == 61 then Some m.PercentEqual else (None)
longer m.LessLess c = if c == 61 then Some m.LessLessEqual else (None)
longer m.GreaterGreater c = if c == 62 then Some m.GreaterGreaterGreater else (if c == 61 then Some m.GreaterGreaterEqual else (None))
longer m.GreaterGreaterGreater c = if c == 61 then Some m.GreaterGreaterGreaterEqual else (None)
longer m.Ampersand c = if c == 38 then Some m.AmpersandAmpersand else (if c == 61 then Some m.AmpersandEqual else (None))
longer m.Bar c = if c == 124 then Some m.BarBar else (if c == 61 then Some m.BarEqual else (None))
longer m.Caret c = if c == 61 then Some m.CaretEqual else (None)
longer m.Bang c = if c == 61 then Some m.BangEqual else (None)
longer m.Equal c = if c == 61 then Some m.EqualEqual else (None)
longer m.Slash c = if c == 61 then Some m.SlashEqual else (None)
longer _ c = None
