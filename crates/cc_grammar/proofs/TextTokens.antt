-- The tokens that a text has are the tokens of a text: the last of them, and no other, is the end or the place where
-- no token begins.
use Rattle.std.specs.Prelude.{◌≡◌, ℕ, List, [], ◌∷◌, ◌++◌, Bool, true, false, not, ◌&&◌, ◌==◌, if◌then◌else◌, Option, Some, None, is_none, drop, encode_utf8_all}
use Rattle.std.specs.Option.{option_map_or}
use Rattle.std.proofs.Common.{refl}
use Rattle.cc_ast.specs.declared.place.Place.{Place}
use Rattle.cc_ast.specs.declared.reading.Construct.TheVariants as construct
use Rattle.cc_ast.specs.declared.reading.Refusal.{Refusal}
use Rattle.cc_text.specs.Characters.{is_digit, is_line_end, first_is}
use Rattle.cc_text.specs.Utf16.{utf16}
use Rattle.cc_text.specs.Whole.{whole_of}
use Rattle.cc_lexer.specs.declared.token.Fault.TheVariants as fault
use Rattle.cc_lexer.specs.declared.token.Mark.{Mark}
use Rattle.cc_lexer.specs.declared.token.Token.{Token}
use Rattle.cc_lexer.specs.declared.token.TokenKind.{TokenKind}
use Rattle.cc_lexer.specs.declared.token.TokenKind.TheVariants as token
use Rattle.cc_lexer.specs.Characters.{is_white, is_start, is_part, run, behind}
use Rattle.cc_lexer.specs.Marks.{single, longer}
use Rattle.cc_lexer.specs.Strings.{StringEnd, closes, fails}
use Rattle.cc_lexer.specs.Numbers.{is_number_form}
use Rattle.cc_lexer.specs.Comments.{behind_comment, comment, is_annotation, has_line_end}
use Rattle.cc_lexer.specs.Items.{Item, word_or_name, literal, number, block, longest, mark, token_item, item, string_item, Begins}
use Rattle.cc_lexer.specs.Items as items
use Rattle.cc_lexer.specs.Lexes.{Lexes}
use Rattle.cc_lexer.specs.Lexes as lexes
use Rattle.cc_lexer.specs.declared.word.Word.{Word}
use Rattle.cc_lexer.specs.Words.{word_of}
use Rattle.cc_grammar.specs.Symbols.{Kind, Lexeme, kind_of, lexeme, lexemes}
use Rattle.cc_grammar.specs.Laws.{IsText, last, before, is_inner, HasText}

-- ---- what a token of a text is, is no comment, no end and no stop

abbrev is_inside : Option Kind → Bool
is_inside None = false
is_inside (Some k) = is_inner k

abbrev IsInside : TokenKind → Type 0
IsInside t = is_inside (kind_of t) ≡ true

word_inside : (cs : List ℕ) (o : Option Word) → IsInside (option_map_or token.Word o (token.Name (utf16 cs)))
word_inside cs None = refl
word_inside cs (Some w) = refl

-- where it is a token, it is such a one
abbrev Fits : Item → Type 0
Fits (items.token t rest) = IsInside t
Fits (items.blank line rest) = Unit {0}
Fits (items.annotation units line rest) = Unit {0}
Fits (items.nothing f) = Unit {0}

fits_if : (b : Bool) (x y : Item) → Fits x → Fits y → Fits (if b then x else y)
fits_if true x y h k = h
fits_if false x y h k = k

longer_fits : (m : Mark) (c : ℕ) (cs : List ℕ) (o : Option Mark) → ((n : Mark) → Fits (longest n cs)) → Fits (option_map_or (λ n. longest n cs) o (items.token (token.Mark m) (c ∷ cs)))
longer_fits m c cs None h = refl
longer_fits m c cs (Some n) h = h n

longest_fits : (cs : List ℕ) (m : Mark) → Fits (longest m cs)
longest_fits [] m = refl
longest_fits (c ∷ cs) m = longer_fits m c cs (longer m c) (λ n. longest_fits cs n)

mark_fits : (cs : List ℕ) (o : Option Mark) → Fits (option_map_or (λ m. longest m cs) o (items.nothing fault.Syntax))
mark_fits cs None = tt
mark_fits cs (Some m) = longest_fits cs m

literal_fits : (o : Option ℕ) (rest : List ℕ) → Fits (literal o rest)
literal_fits None rest = tt
literal_fits (Some n) rest = refl

number_fits : (c : ℕ) (cs : List ℕ) → Fits (number c cs)
number_fits c cs = fits_if (is_number_form c cs) (items.nothing (fault.Refused construct.NumberForm)) (literal (whole_of (run is_part (c ∷ cs))) (behind is_part (c ∷ cs))) tt
    (literal_fits (whole_of (run is_part (c ∷ cs))) (behind is_part (c ∷ cs)))

token_fits : (c : ℕ) (cs : List ℕ) → Fits (token_item c cs)
token_fits c cs =
    let ws = run is_part (c ∷ cs) in
    let escaped : Item = if c == 92 then items.nothing (fault.Refused construct.NameEscape) else mark c cs in
    let dotted : Item = if c == 46 && first_is is_digit cs then items.nothing (fault.Refused construct.NumberForm) else escaped in
    fits_if (is_start c) (items.token (word_or_name ws) (behind is_part (c ∷ cs))) (if is_digit c then number c cs else dotted) (word_inside ws (word_of (encode_utf8_all ws)))
    (fits_if (is_digit c) (number c cs) dotted (number_fits c cs)
    (fits_if (c == 46 && first_is is_digit cs) (items.nothing (fault.Refused construct.NumberForm)) escaped tt
    (fits_if (c == 92) (items.nothing (fault.Refused construct.NameEscape)) (mark c cs) tt (mark_fits cs (single c)))))

block_fits : (cs : List ℕ) (o : Option (List ℕ)) → Fits (block cs o)
block_fits cs None = tt
block_fits cs (Some rest) = fits_if (is_annotation cs) (items.annotation (utf16 (comment cs)) (has_line_end (comment cs)) rest) (items.blank (has_line_end (comment cs)) rest) tt tt

item_fits : (c : ℕ) (cs : List ℕ) → Fits (item c cs)
item_fits c cs =
    let blocks : Item = if c == 47 && first_is (λ d. d == 42) cs then block (drop 1 cs) (behind_comment (drop 1 cs)) else token_item c cs in
    let line : Item = items.blank false (behind (λ d. not (is_line_end d)) cs) in
    let comments : Item = if c == 47 && first_is (λ d. d == 47) cs then line else blocks in
    fits_if (is_white c) (items.blank false cs) (if is_line_end c then items.blank true cs else comments) tt
    (fits_if (is_line_end c) (items.blank true cs) comments tt
    (fits_if (c == 47 && first_is (λ d. d == 47) cs) line blocks tt
    (fits_if (c == 47 && first_is (λ d. d == 42) cs) (block (drop 1 cs) (behind_comment (drop 1 cs))) (token_item c cs) (block_fits (drop 1 cs) (behind_comment (drop 1 cs))) (token_fits c cs))))

string_fits : (e : StringEnd) → Fits (string_item e)
string_fits (closes us rest) = refl
string_fits (fails f) = tt

begins_fits : {cs : List ℕ} {i : Item} → Begins cs i → Fits i
begins_fits (items.string {e = e} q s) = string_fits e
begins_fits (items.other {c} {cs} q) = item_fits c cs

-- ---- the tokens

led : (o : Option Kind) (noted : Bool) (t : Token) (ts : List Lexeme) → is_inside o ≡ true → IsText ts → IsText (lexeme o noted t ++ ts)
led None noted t ts e h = absurd (cc)
led (Some k) noted t ts e h = before e h

text_of : {l : Bool} {p : Place} {cs : List ℕ} {ts : List Token} {s : Option Refusal} (noted : Bool) → Lexes l p cs ts s → IsText (lexemes noted ts s)
text_of noted lexes.end = last refl
text_of noted (lexes.gap b w x) = text_of noted x
text_of noted (lexes.next {l} {p} {t = t} {ts = ts} {s = s} b w x) =
    led (kind_of t) noted (lexes.token_at t p l) (lexemes (is_none (kind_of t)) ts s) (begins_fits b) (text_of (is_none (kind_of t)) x)
text_of noted (lexes.note b w x) = text_of true x
text_of noted (lexes.stop {f = fault.Syntax} b) = last refl
text_of noted (lexes.stop {f = fault.Refused c} b) = last refl

pub has_text : HasText
has_text text file ts s x = text_of false x
