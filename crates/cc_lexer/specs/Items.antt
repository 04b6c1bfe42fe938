-- What a text begins with.
use Rattle.std.specs.Prelude.{◌≡◌, ℕ, pos, List, [], ◌∷◌, Bool, true, false, not, ◌&&◌, ◌==◌, if◌then◌else◌, Option, Some, None, drop, encode_utf8_all}
use Rattle.std.specs.Option.{option_map_or}
use Rattle.std.specs.Str.{chars, IsUtf8}
use Rattle.cc_ast.specs.declared.reading.Construct.TheVariants as construct
use Rattle.cc_text.specs.Characters.{is_digit, is_line_end, first_is}
use Rattle.cc_text.specs.Utf16.{utf16}
use Rattle.cc_text.specs.Whole.{whole_of}
use Rattle.cc_lexer.specs.declared.item.Item.TheVariants as code
use Rattle.cc_lexer.specs.declared.item.Item as coded
use Rattle.cc_lexer.specs.declared.token.Fault.{Fault}
use Rattle.cc_lexer.specs.declared.token.Fault.TheVariants as fault
use Rattle.cc_lexer.specs.declared.token.Mark.{Mark}
use Rattle.cc_lexer.specs.declared.token.TokenKind.{TokenKind}
use Rattle.cc_lexer.specs.declared.token.TokenKind.TheVariants as kind
use Rattle.cc_lexer.specs.Characters.{is_white, is_start, is_part, is_quote, run, behind}
use Rattle.cc_lexer.specs.Marks.{single, longer}
use Rattle.cc_lexer.specs.Words.{word_of}
use Rattle.cc_lexer.specs.Strings.{StringEnd, closes, fails, InString}
use Rattle.cc_lexer.specs.Numbers.{is_number_form}
use Rattle.cc_lexer.specs.Comments.{behind_comment, comment, is_annotation, has_line_end}

-- White space, a line end or a comment; a token; an annotation comment; or nothing of these. Behind
-- it the text goes on with the rest. A comment tells whether it contains a line end.
pub data Item : Type 0 where
  blank : (line : Bool) (rest : List ℕ) → Item
  token : TokenKind → (rest : List ℕ) → Item
  annotation : (units : List ℕ) (line : Bool) (rest : List ℕ) → Item
  nothing : Fault → Item

abbrev pub word_or_name : List ℕ → TokenKind
word_or_name cs = option_map_or kind.Word (word_of (encode_utf8_all cs)) (kind.Name (utf16 cs))

-- a number ends where no name character follows
abbrev pub literal : Option ℕ → List ℕ → Item
literal None rest = nothing fault.Syntax
literal (Some n) rest = token (kind.Number (pos n)) rest

abbrev pub number : ℕ → List ℕ → Item
number c cs = if is_number_form c cs then nothing (fault.Refused construct.NumberForm)
    else literal (whole_of (run is_part (c ∷ cs))) (behind is_part (c ∷ cs))

abbrev pub block : List ℕ → Option (List ℕ) → Item
block cs None = nothing fault.Syntax
block cs (Some rest) = if is_annotation cs then annotation (utf16 (comment cs)) (has_line_end (comment cs)) rest else blank (has_line_end (comment cs)) rest

-- the longest mark that begins with this one
abbrev pub longest : Mark → List ℕ → Item
longest m [] = token (kind.Mark m) []
longest m (c ∷ cs) = option_map_or (λ n. longest n cs) (longer m c) (token (kind.Mark m) (c ∷ cs))

abbrev pub mark : ℕ → List ℕ → Item
mark c cs = option_map_or (λ m. longest m cs) (single c) (nothing fault.Syntax)

-- a text that begins with no quote, white space, line end or comment
abbrev pub token_item : ℕ → List ℕ → Item
token_item c cs = if is_start c then token (word_or_name (run is_part (c ∷ cs))) (behind is_part (c ∷ cs))
    else (if is_digit c then number c cs
    else (if c == 46 && first_is is_digit cs then nothing (fault.Refused construct.NumberForm)
    else (if c == 92 then nothing (fault.Refused construct.NameEscape)
    else mark c cs)))

-- a text that begins with no quote
abbrev pub item : ℕ → List ℕ → Item
item c cs = if is_white c then blank false cs
    else (if is_line_end c then blank true cs
    else (if c == 47 && first_is (λ d. d == 47) cs then blank false (behind (λ d. not (is_line_end d)) cs)
    else (if c == 47 && first_is (λ d. d == 42) cs then block (drop 1 cs) (behind_comment (drop 1 cs))
    else token_item c cs)))

abbrev pub string_item : StringEnd → Item
string_item (closes us rest) = token (kind.Text us) rest
string_item (fails f) = nothing f

pub data Begins : List ℕ → Item → Type 0 where
  string : {q : ℕ} {cs : List ℕ} {e : StringEnd} → is_quote q ≡ true → InString q cs e → Begins (q ∷ cs) (string_item e)
  other : {c : ℕ} {cs : List ℕ} → is_quote c ≡ false → Begins (c ∷ cs) (item c cs)

-- the item with the text behind it
abbrev pub IsItem : Item → coded.Item → Type 0
IsItem i (code.Blank line rest) = (i ≡ blank line (chars rest.now)) × IsUtf8 rest.now
IsItem i (code.Token t rest) = (i ≡ token t (chars rest.now)) × IsUtf8 rest.now
IsItem i (code.Annotation units line rest) = (i ≡ annotation units line (chars rest.now)) × IsUtf8 rest.now
IsItem i (code.Nothing f) = i ≡ nothing f

abbrev pub BeginsWith : List ℕ → coded.Item → Type 0
BeginsWith cs (code.Blank line rest) = Begins cs (blank line (chars rest.now)) × IsUtf8 rest.now
BeginsWith cs (code.Token t rest) = Begins cs (token t (chars rest.now)) × IsUtf8 rest.now
BeginsWith cs (code.Annotation units line rest) = Begins cs (annotation units line (chars rest.now)) × IsUtf8 rest.now
BeginsWith cs (code.Nothing f) = Begins cs (nothing f)

-- a string whose first quote q stands before the text
abbrev pub IsString : ℕ → List ℕ → coded.Item → Type 0
IsString q cs i = (e : StringEnd) × InString q cs e × IsItem (string_item e) i
