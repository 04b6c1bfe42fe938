-- Strings (ECMA-262 5.1, 7.8.4).
use Rattle.std.specs.Prelude.{◌≡◌, ℕ, List, [], ◌∷◌, ◌++◌, Bool, true, not, ◌||◌, ◌==◌}
use Rattle.std.specs.Str.{chars, IsUtf8}
use Rattle.std.specs.Char.Escape.{encode_utf16}
use Rattle.cc_ast.specs.declared.reading.Construct.TheVariants as construct
use Rattle.cc_text.specs.Characters.{is_line_end}
use Rattle.cc_text.specs.Escape.{Escaped, escaped, gives, octal, bad}
use Rattle.cc_lexer.specs.declared.string.Next as next
use Rattle.cc_lexer.specs.declared.token.Fault.{Fault}
use Rattle.cc_lexer.specs.declared.token.Fault.TheVariants as fault

-- How a string goes on: with these units up to its quote, behind which the text goes on; or it has
-- a fault, of which the first counts.
pub data StringEnd : Type 0 where
  closes : (units rest : List ℕ) → StringEnd
  fails : Fault → StringEnd

abbrev pub before : List ℕ → StringEnd → StringEnd
before us (closes vs rest) = closes (us ++ vs) rest
before us (fails f) = fails f

-- stands for itself in a string between quotes q
abbrev pub is_plain : ℕ → ℕ → Bool
is_plain q c = not (c == q || c == 92 || is_line_end c)

-- an octal escape is refused, and what is no escape is a fault
abbrev pub FailsAs : Escaped → Fault → Type 0
FailsAs (gives us rest) f = ⊥
FailsAs octal f = f ≡ fault.Refused construct.OctalEscape
FailsAs bad f = f ≡ fault.Syntax

pub data InString (q : ℕ) : List ℕ → StringEnd → Type 0 where
  quote : {c : ℕ} {rest : List ℕ} → c ≡ q → InString q (c ∷ rest) (closes [] rest)
  plain : {c : ℕ} {cs : List ℕ} {e : StringEnd} → is_plain q c ≡ true → InString q cs e → InString q (c ∷ cs) (before (encode_utf16 c) e)
  escape : {c : ℕ} {cs us rest : List ℕ} {e : StringEnd} → c ≡ 92 → escaped cs ≡ gives us rest → InString q rest e → InString q (c ∷ cs) (before us e)
  no_escape : {c : ℕ} {cs : List ℕ} {f : Fault} → c ≡ 92 → FailsAs (escaped cs) f → InString q (c ∷ cs) (fails f)
  cut : {c : ℕ} {cs : List ℕ} → is_line_end c ≡ true → InString q (c ∷ cs) (fails fault.Syntax)
  unclosed : InString q [] (fails fault.Syntax)

-- an escape adds its units, and the text goes on, or it fails
pub record AddsEscape (cs old new rest : List ℕ) : Type 0 where
  pub units : List ℕ
  pub found : escaped cs ≡ gives units (chars rest)
  pub added : new ≡ old ++ units
  pub text : IsUtf8 rest

abbrev pub Escapes : List ℕ → List ℕ → List ℕ → next.Next → Type 0
Escapes cs old new (next.TheVariants.Goes rest) = AddsEscape cs old new rest.now
Escapes cs old new (next.TheVariants.Fails f) = FailsAs (escaped cs) f
