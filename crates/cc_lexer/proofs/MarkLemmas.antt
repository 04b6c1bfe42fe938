-- What marks spell.
use Rattle.std.specs.Prelude.{◌≡◌, ℕ, List, [], ◌∷◌, ◌++◌, Bool, true, false, ◌==◌, if◌then◌else◌, Option, Some, None}
use Rattle.std.proofs.Common.{refl, sym, ◌∙◌, ap, arith}
use Rattle.std.proofs.lemmas.Bool.Decides.{nat_tests}
use Rattle.cc_lexer.specs.declared.token.Mark.{Mark}
use Rattle.cc_lexer.specs.declared.token.Mark.TheVariants as m
use Rattle.cc_lexer.specs.Marks.{spelling, single, longer}

same_number : (c k : ℕ) → c == k ≡ true → c ≡ k
same_number c k e = grind (arith, nat_tests)

chosen : (b : Bool) (p n : Mark) (o : Option Mark) (A : Type 0) → (b ≡ true → p ≡ n → A) → (o ≡ Some n → A) → (if b then Some p else o) ≡ Some n → A
chosen true p n o A h k e = let same : p ≡ n = cc in h refl same
chosen false p n o A h k e = k e

-- one test of a table: at this character this mark
at : (front : List ℕ) (c k : ℕ) (p n : Mark) (o : Option Mark) → spelling p ≡ front ++ k ∷ [] → (o ≡ Some n → spelling n ≡ front ++ c ∷ [])
    → (if c == k then Some p else o) ≡ Some n → spelling n ≡ front ++ c ∷ []
at front c k p n o s h e = chosen (c == k) p n o (spelling n ≡ front ++ c ∷ []) (λ t same. ap spelling (sym same) ∙ s ∙ ap (λ x. front ++ x ∷ []) (sym (same_number c k t))) h e

pub longer_spells : (p : Mark) (c : ℕ) (n : Mark) → longer p c ≡ Some n → spelling n ≡ spelling p ++ c ∷ []
longer_spells m.Less c n e = (at (spelling m.Less) c 61 m.LessEqual n (if c == 60 then Some m.LessLess else (None)) refl (at (spelling m.Less) c 60 m.LessLess n (None) refl (λ h. cc))) e
longer_spells m.Greater c n e = (at (spelling m.Greater) c 61 m.GreaterEqual n (if c == 62 then Some m.GreaterGreater else (None)) refl (at (spelling m.Greater) c 62 m.GreaterGreater n (None) refl (λ h. cc))) e
longer_spells m.EqualEqual c n e = (at (spelling m.EqualEqual) c 61 m.EqualEqualEqual n (None) refl (λ h. cc)) e
longer_spells m.BangEqual c n e = (at (spelling m.BangEqual) c 61 m.BangEqualEqual n (None) refl (λ h. cc)) e
longer_spells m.Plus c n e = (at (spelling m.Plus) c 43 m.PlusPlus n (if c == 61 then Some m.PlusEqual else (None)) refl (at (spelling m.Plus) c 61 m.PlusEqual n (None) refl (λ h. cc))) e
longer_spells m.Minus c n e = (at (spelling m.Minus) c 45 m.MinusMinus n (if c == 61 then Some m.MinusEqual else (None)) refl (at (spelling m.Minus) c 61 m.MinusEqual n (None) refl (λ h. cc))) e
longer_spells m.Star c n e = (at (spelling m.Star) c 61 m.StarEqual n (None) refl (λ h. cc)) e
longer_spells m.Percent c n e = (at (spelling m.Percent) c 61 m.PercentEqual n (None) refl (λ h. cc)) e
longer_spells m.LessLess c n e = (at (spelling m.LessLess) c 61 m.LessLessEqual n (None) refl (λ h. cc)) e
longer_spells m.GreaterGreater c n e = (at (spelling m.GreaterGreater) c 62 m.GreaterGreaterGreater n (if c == 61 then Some m.GreaterGreaterEqual else (None)) refl (at (spelling m.GreaterGreater) c 61 m.GreaterGreaterEqual n (None) refl (λ h. cc))) e
longer_spells m.GreaterGreaterGreater c n e = (at (spelling m.GreaterGreaterGreater) c 61 m.GreaterGreaterGreaterEqual n (None) refl (λ h. cc)) e
longer_spells m.Ampersand c n e = (at (spelling m.Ampersand) c 38 m.AmpersandAmpersand n (if c == 61 then Some m.AmpersandEqual else (None)) refl (at (spelling m.Ampersand) c 61 m.AmpersandEqual n (None) refl (λ h. cc))) e
longer_spells m.Bar c n e = (at (spelling m.Bar) c 124 m.BarBar n (if c == 61 then Some m.BarEqual else (None)) refl (at (spelling m.Bar) c 61 m.BarEqual n (None) refl (λ h. cc))) e
longer_spells m.Caret c n e = (at (spelling m.Caret) c 61 m.CaretEqual n (None) refl (λ h. cc)) e
longer_spells m.Bang c n e = (at (spelling m.Bang) c 61 m.BangEqual n (None) refl (λ h. cc)) e
longer_spells m.Equal c n e = (at (spelling m.Equal) c 61 m.EqualEqual n (None) refl (λ h. cc)) e
longer_spells m.Slash c n e = (at (spelling m.Slash) c 61 m.SlashEqual n (None) refl (λ h. cc)) e
longer_spells _ c n e = cc

pub single_spells : (c : ℕ) (n : Mark) → single c ≡ Some n → spelling n ≡ c ∷ []
single_spells c n e = (at [] c 123 m.OpenBrace n (if c == 125 then Some m.CloseBrace else (if c == 40 then Some m.OpenParen else (if c == 41 then Some m.CloseParen else (if c == 91 then Some m.OpenBracket else (if c == 93 then Some m.CloseBracket else (if c == 46 then Some m.Dot else (if c == 59 then Some m.Semicolon else (if c == 44 then Some m.Comma else (if c == 60 then Some m.Less else (if c == 62 then Some m.Greater else (if c == 43 then Some m.Plus else (if c == 45 then Some m.Minus else (if c == 42 then Some m.Star else (if c == 37 then Some m.Percent else (if c == 38 then Some m.Ampersand else (if c == 124 then Some m.Bar else (if c == 94 then Some m.Caret else (if c == 33 then Some m.Bang else (if c == 126 then Some m.Tilde else (if c == 63 then Some m.Question else (if c == 58 then Some m.Colon else (if c == 61 then Some m.Equal else (if c == 47 then Some m.Slash else (None)))))))))))))))))))))))) refl (at [] c 125 m.CloseBrace n (if c == 40 then Some m.OpenParen else (if c == 41 then Some m.CloseParen else (if c == 91 then Some m.OpenBracket else (if c == 93 then Some m.CloseBracket else (if c == 46 then Some m.Dot else (if c == 59 then Some m.Semicolon else (if c == 44 then Some m.Comma else (if c == 60 then Some m.Less else (if c == 62 then Some m.Greater else (if c == 43 then Some m.Plus else (if c == 45 then Some m.Minus else (if c == 42 then Some m.Star else (if c == 37 then Some m.Percent else (if c == 38 then Some m.Ampersand else (if c == 124 then Some m.Bar else (if c == 94 then Some m.Caret else (if c == 33 then Some m.Bang else (if c == 126 then Some m.Tilde else (if c == 63 then Some m.Question else (if c == 58 then Some m.Colon else (if c == 61 then Some m.Equal else (if c == 47 then Some m.Slash else (None))))))))))))))))))))))) refl (at [] c 40 m.OpenParen n (if c == 41 then Some m.CloseParen else (if c == 91 then Some m.OpenBracket else (if c == 93 then Some m.CloseBracket else (if c == 46 then Some m.Dot else (if c == 59 then Some m.Semicolon else (if c == 44 then Some m.Comma else (if c == 60 then Some m.Less else (if c == 62 then Some m.Greater else (if c == 43 then Some m.Plus else (if c == 45 then Some m.Minus else (if c == 42 then Some m.Star else (if c == 37 then Some m.Percent else (if c == 38 then Some m.Ampersand else (if c == 124 then Some m.Bar else (if c == 94 then Some m.Caret else (if c == 33 then Some m.Bang else (if c == 126 then Some m.Tilde else (if c == 63 then Some m.Question else (if c == 58 then Some m.Colon else (if c == 61 then Some m.Equal else (if c == 47 then Some m.Slash else (None)))))))))))))))))))))) refl (at [] c 41 m.CloseParen n (if c == 91 then Some m.OpenBracket else (if c == 93 then Some m.CloseBracket else (if c == 46 then Some m.Dot else (if c == 59 then Some m.Semicolon else (if c == 44 then Some m.Comma else (if c == 60 then Some m.Less else (if c == 62 then Some m.Greater else (if c == 43 then Some m.Plus else (if c == 45 then Some m.Minus else (if c == 42 then Some m.Star else (if c == 37 then Some m.Percent else (if c == 38 then Some m.Ampersand else (if c == 124 then Some m.Bar else (if c == 94 then Some m.Caret else (if c == 33 then Some m.Bang else (if c == 126 then Some m.Tilde else (if c == 63 then Some m.Question else (if c == 58 then Some m.Colon else (if c == 61 then Some m.Equal else (if c == 47 then Some m.Slash else (None))))))))))))))))))))) refl (at [] c 91 m.OpenBracket n (if c == 93 then Some m.CloseBracket else (if c == 46 then Some m.Dot else (if c == 59 then Some m.Semicolon else (if c == 44 then Some m.Comma else (if c == 60 then Some m.Less else (if c == 62 then Some m.Greater else (if c == 43 then Some m.Plus else (if c == 45 then Some m.Minus else (if c == 42 then Some m.Star else (if c == 37 then Some m.Percent else (if c == 38 then Some m.Ampersand else (if c == 124 then Some m.Bar else (if c == 94 then Some m.Caret else (if c == 33 then Some m.Bang else (if c == 126 then Some m.Tilde else (if c == 63 then Some m.Question else (if c == 58 then Some m.Colon else (if c == 61 then Some m.Equal else (if c == 47 then Some m.Slash else (None)))))))))))))))))))) refl (at [] c 93 m.CloseBracket n (if c == 46 then Some m.Dot else (if c == 59 then Some m.Semicolon else (if c == 44 then Some m.Comma else (if c == 60 then Some m.Less else (if c == 62 then Some m.Greater else (if c == 43 then Some m.Plus else (if c == 45 then Some m.Minus else (if c == 42 then Some m.Star else (if c == 37 then Some m.Percent else (if c == 38 then Some m.Ampersand else (if c == 124 then Some m.Bar else (if c == 94 then Some m.Caret else (if c == 33 then Some m.Bang else (if c == 126 then Some m.Tilde else (if c == 63 then Some m.Question else (if c == 58 then Some m.Colon else (if c == 61 then Some m.Equal else (if c == 47 then Some m.Slash else (None))))))))))))))))))) refl (at [] c 46 m.Dot n (if c == 59 then Some m.Semicolon else (if c == 44 then Some m.Comma else (if c == 60 then Some m.Less else (if c == 62 then Some m.Greater else (if c == 43 then Some m.Plus else (if c == 45 then Some m.Minus else (if c == 42 then Some m.Star else (if c == 37 then Some m.Percent else (if c == 38 then Some m.Ampersand else (if c == 124 then Some m.Bar else (if c == 94 then Some m.Caret else (if c == 33 then Some m.Bang else (if c == 126 then Some m.Tilde else (if c == 63 then Some m.Question else (if c == 58 then Some m.Colon else (if c == 61 then Some m.Equal else (if c == 47 then Some m.Slash else (None)))))))))))))))))) refl (at [] c 59 m.Semicolon n (if c == 44 then Some m.Comma else (if c == 60 then Some m.Less else (if c == 62 then Some m.Greater else (if c == 43 then Some m.Plus else (if c == 45 then Some m.Minus else (if c == 42 then Some m.Star else (if c == 37 then Some m.Percent else (if c == 38 then Some m.Ampersand else (if c == 124 then Some m.Bar else (if c == 94 then Some m.Caret else (if c == 33 then Some m.Bang else (if c == 126 then Some m.Tilde else (if c == 63 then Some m.Question else (if c == 58 then Some m.Colon else (if c == 61 then Some m.Equal else (if c == 47 then Some m.Slash else (None))))))))))))))))) refl (at [] c 44 m.Comma n (if c == 60 then Some m.Less else (if c == 62 then Some m.Greater else (if c == 43 then Some m.Plus else (if c == 45 then Some m.Minus else (if c == 42 then Some m.Star else (if c == 37 then Some m.Percent else (if c == 38 then Some m.Ampersand else (if c == 124 then Some m.Bar else (if c == 94 then Some m.Caret else (if c == 33 then Some m.Bang else (if c == 126 then Some m.Tilde else (if c == 63 then Some m.Question else (if c == 58 then Some m.Colon else (if c == 61 then Some m.Equal else (if c == 47 then Some m.Slash else (None)))))))))))))))) refl (at [] c 60 m.Less n (if c == 62 then Some m.Greater else (if c == 43 then Some m.Plus else (if c == 45 then Some m.Minus else (if c == 42 then Some m.Star else (if c == 37 then Some m.Percent else (if c == 38 then Some m.Ampersand else (if c == 124 then Some m.Bar else (if c == 94 then Some m.Caret else (if c == 33 then Some m.Bang else (if c == 126 then Some m.Tilde else (if c == 63 then Some m.Question else (if c == 58 then Some m.Colon else (if c == 61 then Some m.Equal else (if c == 47 then Some m.Slash else (None))))))))))))))) refl (at [] c 62 m.Greater n (if c == 43 then Some m.Plus else (if c == 45 then Some m.Minus else (if c == 42 then Some m.Star else (if c == 37 then Some m.Percent else (if c == 38 then Some m.Ampersand else (if c == 124 then Some m.Bar else (if c == 94 then Some m.Caret else (if c == 33 then Some m.Bang else (if c == 126 then Some m.Tilde else (if c == 63 then Some m.Question else (if c == 58 then Some m.Colon else (if c == 61 then Some m.Equal else (if c == 47 then Some m.Slash else (None)))))))))))))) refl (at [] c 43 m.Plus n (if c == 45 then Some m.Minus else (if c == 42 then Some m.Star else (if c == 37 then Some m.Percent else (if c == 38 then Some m.Ampersand else (if c == 124 then Some m.Bar else (if c == 94 then Some m.Caret else (if c == 33 then Some m.Bang else (if c == 126 then Some m.Tilde else (if c == 63 then Some m.Question else (if c == 58 then Some m.Colon else (if c == 61 then Some m.Equal else (if c == 47 then Some m.Slash else (None))))))))))))) refl (at [] c 45 m.Minus n (if c == 42 then Some m.Star else (if c == 37 then Some m.Percent else (if c == 38 then Some m.Ampersand else (if c == 124 then Some m.Bar else (if c == 94 then Some m.Caret else (if c == 33 then Some m.Bang else (if c == 126 then Some m.Tilde else (if c == 63 then Some m.Question else (if c == 58 then Some m.Colon else (if c == 61 then Some m.Equal else (if c == 47 then Some m.Slash else (None)))))))))))) refl (at [] c 42 m.Star n (if c == 37 then Some m.Percent else (if c == 38 then Some m.Ampersand else (if c == 124 then Some m.Bar else (if c == 94 then Some m.Caret else (if c == 33 then Some m.Bang else (if c == 126 then Some m.Tilde else (if c == 63 then Some m.Question else (if c == 58 then Some m.Colon else (if c == 61 then Some m.Equal else (if c == 47 then Some m.Slash else (None))))))))))) refl (at [] c 37 m.Percent n (if c == 38 then Some m.Ampersand else (if c == 124 then Some m.Bar else (if c == 94 then Some m.Caret else (if c == 33 then Some m.Bang else (if c == 126 then Some m.Tilde else (if c == 63 then Some m.Question else (if c == 58 then Some m.Colon else (if c == 61 then Some m.Equal else (if c == 47 then Some m.Slash else (None)))))))))) refl (at [] c 38 m.Ampersand n (if c == 124 then Some m.Bar else (if c == 94 then Some m.Caret else (if c == 33 then Some m.Bang else (if c == 126 then Some m.Tilde else (if c == 63 then Some m.Question else (if c == 58 then Some m.Colon else (if c == 61 then Some m.Equal else (if c == 47 then Some m.Slash else (None))))))))) refl (at [] c 124 m.Bar n (if c == 94 then Some m.Caret else (if c == 33 then Some m.Bang else (if c == 126 then Some m.Tilde else (if c == 63 then Some m.Question else (if c == 58 then Some m.Colon else (if c == 61 then Some m.Equal else (if c == 47 then Some m.Slash else (None)))))))) refl (at [] c 94 m.Caret n (if c == 33 then Some m.Bang else (if c == 126 then Some m.Tilde else (if c == 63 then Some m.Question else (if c == 58 then Some m.Colon else (if c == 61 then Some m.Equal else (if c == 47 then Some m.Slash else (None))))))) refl (at [] c 33 m.Bang n (if c == 126 then Some m.Tilde else (if c == 63 then Some m.Question else (if c == 58 then Some m.Colon else (if c == 61 then Some m.Equal else (if c == 47 then Some m.Slash else (None)))))) refl (at [] c 126 m.Tilde n (if c == 63 then Some m.Question else (if c == 58 then Some m.Colon else (if c == 61 then Some m.Equal else (if c == 47 then Some m.Slash else (None))))) refl (at [] c 63 m.Question n (if c == 58 then Some m.Colon else (if c == 61 then Some m.Equal else (if c == 47 then Some m.Slash else (None)))) refl (at [] c 58 m.Colon n (if c == 61 then Some m.Equal else (if c == 47 then Some m.Slash else (None))) refl (at [] c 61 m.Equal n (if c == 47 then Some m.Slash else (None)) refl (at [] c 47 m.Slash n (None) refl (λ h. cc))))))))))))))))))))))))) e
