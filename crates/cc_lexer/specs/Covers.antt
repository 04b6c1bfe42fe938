-- A text as the texts of its tokens, and what stands between them.
use Rattle.std.specs.Prelude.{◌≡◌, ℕ, pos, List, [], ◌∷◌, ◌++◌, true, false, not, ◌==◌, Option, Some, MatchOption, is_some}
use Rattle.cc_ast.specs.declared.place.Place.{Place}
use Rattle.cc_ast.specs.declared.reading.Refusal.{Refusal}
use Rattle.cc_text.specs.Characters.{is_line_end, first_is}
use Rattle.cc_text.specs.Utf16.{utf16}
use Rattle.cc_text.specs.Whole.{whole_of}
use Rattle.cc_lexer.specs.declared.token.Fault.{Fault}
use Rattle.cc_lexer.specs.declared.token.Mark.{Mark}
use Rattle.cc_lexer.specs.declared.token.Token.{Token}
use Rattle.cc_lexer.specs.declared.token.TokenKind.{TokenKind}
use Rattle.cc_lexer.specs.declared.token.TokenKind.TheVariants as kind
use Rattle.cc_lexer.specs.Characters.{is_white, is_start, is_part, is_quote, run}
use Rattle.cc_lexer.specs.Marks.{spelling, longer}
use Rattle.cc_lexer.specs.Strings.{closes, InString}
use Rattle.cc_lexer.specs.Comments.{comment}
use Rattle.cc_lexer.specs.Items.{nothing, word_or_name, Begins}
use Rattle.cc_lexer.specs.Lexes.{Passed, refused}

-- white space, a line end or a comment
pub data IsGap : List ℕ → Type 0 where
  white : {c : ℕ} → is_white c ≡ true → IsGap (c ∷ [])
  line_end : {c : ℕ} → is_line_end c ≡ true → IsGap (c ∷ [])
  line_comment : {c : ℕ} (cs : List ℕ) → c ≡ 47 → first_is (λ d. d == 47) cs ≡ true → IsGap (c ∷ run (λ d. not (is_line_end d)) cs)
  block_comment : (cs : List ℕ) → IsGap (comment cs)

-- The token's own text, before the rest: a name, a word or a number has all name characters that
-- follow, and no longer mark begins where a mark does.
pub data Spells : TokenKind → List ℕ → List ℕ → Type 0 where
  name : {ws rest : List ℕ} → first_is is_start ws ≡ true → ws ≡ run is_part (ws ++ rest) → Spells (word_or_name ws) ws rest
  number : {n : ℕ} {ws rest : List ℕ} → whole_of ws ≡ Some n → ws ≡ run is_part (ws ++ rest) → Spells (kind.Number (pos n)) ws rest
  mark : {rest : List ℕ} (m : Mark) → first_is (λ c. is_some (longer m c)) rest ≡ false → Spells (kind.Mark m) (spelling m) rest
  quoted : {q : ℕ} {us body rest : List ℕ} → is_quote q ≡ true → InString q (body ++ rest) (closes us rest) → Spells (kind.Text us) (q ∷ body) rest
  note : {rest : List ℕ} (cs : List ℕ) → Spells (kind.Doc (utf16 (comment cs))) (comment cs) rest

-- from a text to a rest of it, by the texts of these tokens and gaps between them
pub data Covered : List ℕ → List Token → List ℕ → Type 0 where
  none : {rest : List ℕ} → Covered rest [] rest
  ended : {t : Token} → t.kind ≡ kind.End → Covered [] (t ∷ []) []
  gap : {text ws cs rest : List ℕ} {ts : List Token} → text ≡ ws ++ cs → IsGap ws → Covered cs ts rest → Covered text ts rest
  piece : {text ws cs rest : List ℕ} {t : Token} {ts : List Token} → text ≡ ws ++ cs → Spells t.kind ws cs → Covered cs ts rest → Covered text (t ∷ ts) rest

-- nothing is left; or no token begins at the rest, and it is refused at the place that is reached there
pub record Refuses (p : Place) (text rest : List ℕ) (r : Refusal) : Type 0 where
  pub fault : Fault
  pub place : Place
  pub begins : Begins rest (nothing fault)
  pub passed : Passed p text place rest
  pub refusal : r ≡ refused fault place

abbrev pub StopsAt : Place → List ℕ → List ℕ → Option Refusal → Type 0
StopsAt p text rest s = MatchOption s (rest ≡ []) (λ r. Refuses p text rest r)

-- the text is that of its tokens and gaps up to where they stop
pub record IsCovered (p : Place) (text : List ℕ) (ts : List Token) (s : Option Refusal) : Type 0 where
  pub rest : List ℕ
  pub covered : Covered text ts rest
  pub stops : StopsAt p text rest s
