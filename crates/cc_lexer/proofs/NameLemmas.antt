-- Names and reserved words.
use Rattle.std.specs.Prelude.{◌≡◌, ℕ, List, Option, Some, None}
use Rattle.std.specs.Option.{option_map_or}
use Rattle.std.proofs.Common.{sym, ◌∙◌, ap}
use Rattle.std.specs.Str.{chars, IsUtf8}
use Rattle.std.proofs.lemmas.Str.{encodes-chars}
use Rattle.cc_text.specs.Utf16.{utf16}
use Rattle.cc_lexer.specs.declared.token.TokenKind.TheVariants as kind
use Rattle.cc_lexer.specs.declared.word.Word.{Word}
use Rattle.cc_lexer.specs.Words.{word_of}
use Rattle.cc_lexer.specs.Items.{word_or_name}

-- a text whose bytes spell a word, and one whose bytes spell none
pub found : (bs : List ℕ) (o : Option Word) → IsUtf8 bs → word_of bs ≡ o → word_or_name (chars bs) ≡ option_map_or kind.Word o (kind.Name (utf16 (chars bs)))
found bs o u e = ap (λ x. option_map_or kind.Word x (kind.Name (utf16 (chars bs)))) (ap word_of (encodes-chars bs u) ∙ e)
