-- Fronts of programs, and where a semicolon may be inserted (ECMA-262 5.1, 7.9.1).
use Rattle.std.specs.Prelude.{◌≡◌, ℕ, List, [], ◌∷◌, ◌++◌, Bool, true, false, ◌||◌}
use Rattle.cc_lexer.specs.declared.token.Mark.TheVariants as mark
use Rattle.cc_grammar.specs.Symbols.{Kind, Lexeme, Symbols, real, inserted, is_mark, lexemes_of}
use Rattle.cc_grammar.specs.Symbols as k
use Rattle.cc_grammar.specs.RawTree.{RawStmt}
use Rattle.cc_grammar.specs.Grammar.{At, Body, of_program}

-- the list, up to its end, is a program of a height within h (14)
pub record Derives (h : ℕ) (xs : Symbols) (b : List RawStmt) : Type 0 where
  pub last : Symbols
  pub body : Body of_program h xs b last
  pub ends : At k.end last []

-- A front of a program: with some symbols more it is a program.
pub record IsFrontWithin (h : ℕ) (xs : Symbols) : Type 0 where
  pub more : Symbols
  pub tree : List RawStmt
  pub derives : Derives h (xs ++ more) tree

pub record IsFront (xs : Symbols) : Type 0 where
  pub height : ℕ
  pub within : IsFrontWithin height xs

abbrev pub is_end : Kind → Bool
is_end k.end = true
is_end _ = false

-- a semicolon may be inserted before it
abbrev pub offends : Lexeme → Bool
offends t = t.after_line || is_mark mark.CloseBrace t.kind || is_end t.kind

-- What stands behind an insertion begins with a token that offends, and that goes on with no front.
pub data Offends (before : Symbols) : Symbols → Type 0 where
  offending : (t : Lexeme) {after : Symbols} → offends t ≡ true → ¬ (IsFront (before ++ real t ∷ [])) → Offends before (real t ∷ after)

abbrev pub Justified : Symbols → Type 0
Justified xs = (before after : Symbols) → xs ≡ before ++ (inserted ∷ after) → Offends before after

-- The tokens, with justified insertions, derive the tree.
pub record ReadsWithin (h : ℕ) (ts : List Lexeme) (b : List RawStmt) : Type 0 where
  pub symbols : Symbols
  pub tokens : lexemes_of symbols ≡ ts
  pub justified : Justified symbols
  pub derives : Derives h symbols b
