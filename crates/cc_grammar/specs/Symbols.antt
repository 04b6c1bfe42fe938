-- What a program is a list of: its tokens, and the semicolons that are inserted.
use Rattle.std.specs.Prelude.{ℕ, ℤ, List, [], ◌∷◌, ◌++◌, Bool, false, Option, Some, None, is_none}
use denote.Enum.Bare.{sameb}
use Rattle.cc_ast.specs.declared.place.Place.{Place}
use Rattle.cc_ast.specs.declared.reading.Construct.{Construct}
use Rattle.cc_ast.specs.declared.reading.Refusal.{Refusal}
use Rattle.cc_ast.specs.declared.reading.Refusal.TheVariants as refusal
use Rattle.cc_lexer.specs.declared.token.Mark.{Mark}
use Rattle.cc_lexer.specs.declared.token.Token.{Token}
use Rattle.cc_lexer.specs.declared.token.TokenKind.{TokenKind}
use Rattle.cc_lexer.specs.declared.token.TokenKind.TheVariants as token
use Rattle.cc_lexer.specs.contracts.token.Mark as the_mark
use Rattle.cc_lexer.specs.declared.word.Word.{Word}
use Rattle.cc_lexer.specs.contracts.word.Word as the_word

-- A part of a program that is due at a place. No text has it as a token: a list that goes on with it is a list
-- that may go on with any such part. `remedy` stands for what makes a part right that is wrong without it, and `ending` is what an inserted semicolon shows.
pub data Part : Type 0 where
  operand element variable key statement ending remedy : Part

-- What a token is. Nothing begins at `stop`, where perhaps a construct is refused.
pub data Kind : Type 0 where
  name : List ℕ → Kind
  word : Word → Kind
  mark : Mark → Kind
  number : ℤ → Kind
  text : List ℕ → Kind
  end : Kind
  stop : Option Construct → Kind
  due : Part → Kind

-- A token that is no comment. It is noted where an annotation comment stands before it, behind the token before.
pub record Lexeme : Type 0 where
  pub kind : Kind
  pub place : Place
  pub after_line : Bool
  pub noted : Bool

pub data Symbol : Type 0 where
  real : Lexeme → Symbol
  inserted : Symbol

abbrev pub Symbols : Type 0
Symbols = List Symbol

abbrev pub lexemes_of : Symbols → List Lexeme
lexemes_of [] = []
lexemes_of (real t ∷ xs) = t ∷ lexemes_of xs
lexemes_of (inserted ∷ xs) = lexemes_of xs

abbrev pub nowhere : Place
nowhere = record { file = 0; offset = 0; line = 0; column = 0 }

-- An inserted semicolon isn't like one that is written, since it stands at the end of a statement alone.
abbrev pub semicolon : Lexeme
semicolon = record { kind = due ending; place = nowhere; after_line = false; noted = false }

-- past the last symbol nothing begins
abbrev pub nothing : Lexeme
nothing = record { kind = stop None; place = nowhere; after_line = false; noted = false }

abbrev pub lexeme_of : Symbol → Lexeme
lexeme_of (real t) = t
lexeme_of inserted = semicolon

-- the next symbol, and what is behind it
abbrev pub look : Symbols → Lexeme
look [] = nothing
look (x ∷ xs) = lexeme_of x

abbrev pub rest : Symbols → Symbols
rest [] = []
rest (x ∷ xs) = xs

abbrev pub is_mark : Mark → Kind → Bool
is_mark m (mark k) = sameb the_mark.the_type k m
is_mark m _ = false

abbrev pub is_word : Word → Kind → Bool
is_word w (word k) = sameb the_word.the_type k w
is_word w _ = false

-- ---- from the tokens of a file

-- what a token is, where it is no comment
abbrev pub kind_of : TokenKind → Option Kind
kind_of (token.Name u) = Some (name u)
kind_of (token.Word w) = Some (word w)
kind_of (token.Mark m) = Some (mark m)
kind_of (token.Number n) = Some (number n)
kind_of (token.Text u) = Some (text u)
kind_of (token.Doc u) = None
kind_of token.End = Some end

abbrev pub stop_at : Option Construct → Place → List Lexeme
stop_at c p = record { kind = stop c; place = p; after_line = false; noted = false } ∷ []

-- where no token begins
abbrev pub stop_of : Option Refusal → List Lexeme
stop_of (Some (refusal.Syntax p)) = stop_at None p
stop_of (Some (refusal.Refused c p)) = stop_at (Some c) p
stop_of _ = []

abbrev pub lexeme : Option Kind → Bool → Token → List Lexeme
lexeme None noted t = []
lexeme (Some k) noted t = record { kind = k; place = t.place; after_line = t.after_line; noted = noted } ∷ []

-- The tokens that are no comments, and behind them where no token begins. The flag tells whether an annotation
-- comment stands before the list.
abbrev pub lexemes : Bool → List Token → Option Refusal → List Lexeme
lexemes noted [] s = stop_of s
lexemes noted (t ∷ ts) s = lexeme (kind_of t.kind) noted t ++ lexemes (is_none (kind_of t.kind)) ts s
