-- What reading a whole list of tokens answers.
use Rattle.std.specs.Prelude.{ℕ, ◌≤◌, ◌*◌, false, List, length, map}
use Rattle.cc_ast.specs.declared.place.Place.{Place}
use Rattle.cc_ast.specs.declared.reading.LimitKind.TheVariants as limits
use Rattle.cc_ast.specs.declared.reading.Refusal.{Refusal}
use Rattle.cc_ast.specs.declared.reading.Refusal.TheVariants as refusal
use Rattle.cc_lexer.specs.declared.token.Tokens as code
use Rattle.cc_lexer.specs.Lexes.{Lexed}
use Rattle.cc_grammar.specs.Symbols.{Lexeme, lexemes}
use Rattle.cc_grammar.specs.RawTree as S
use Rattle.cc_grammar.specs.Sizes.{of_stmts}
use Rattle.cc_grammar.specs.Fronts.{ReadsWithin}
use Rattle.cc_grammar.specs.Laws.{Fails}
use Rattle.cc_grammar.specs.Reading.{Cause, syntax, depth, refused}
use Rattle.cc_raw.specs.declared.tree.RawStmt.{RawStmt}
use Rattle.cc_raw.specs.Bridge.{raw_stmt}

-- how high a tree may be
abbrev pub highest : ℕ
highest = 256

-- the tokens of some text
pub record IsLexed (t : code.Tokens) : Type 0 where
  pub text : List ℕ
  pub file : ℕ
  pub lexed : Lexed text file t.list.items t.stop

-- those that are no comments, and where none begins
abbrev pub tokens : code.Tokens → List Lexeme
tokens t = lexemes false t.list.items t.stop

-- With justified insertions the tokens derive the statements, which are no higher than that.
pub record Derives (ts : List Lexeme) (b : List S.RawStmt) : Type 0 where
  pub height : ℕ
  pub low : height ≤ highest
  pub derives : ReadsWithin height ts b

-- They derive these, which have at most four expressions, statements and declarators a token.
pub record IsRead (ts : List Lexeme) (b : List RawStmt) : Type 0 where
  pub derives : Derives ts (map raw_stmt b)
  pub small : of_stmts (S.stmts (map raw_stmt b)) ≤ 4 * length ts

-- They derive nothing, and this is their first fault.
pub record FailsBy (ts : List Lexeme) (c : Cause) (p : Place) : Type 0 where
  pub underived : (b : List S.RawStmt) → ¬ (Derives ts b)
  pub first : Fails highest ts (record { cause = c; place = p })

-- The first fault is that one. Want of memory says nothing.
abbrev pub IsRefused : List Lexeme → Refusal → Type 0
IsRefused ts (refusal.Syntax p) = FailsBy ts syntax p
IsRefused ts (refusal.Refused c p) = FailsBy ts (refused c) p
IsRefused ts (refusal.Limit limits.Depth p) = FailsBy ts depth p
IsRefused ts refusal.Memory = Unit {0}
IsRefused ts _ = ⊥
