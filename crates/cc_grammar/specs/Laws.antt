-- The laws of the reading function.
use Rattle.std.specs.Prelude.{◌≡◌, ℕ, ◌<◌, ◌≤◌, ◌*◌, List, [], ◌∷◌, length, Bool, true, false, Option, Ok, Err}
use Rattle.cc_ast.specs.declared.reading.Refusal.{Refusal}
use Rattle.cc_lexer.specs.declared.token.Token.{Token}
use Rattle.cc_lexer.specs.Lexes.{Lexed}
use Rattle.cc_grammar.specs.Symbols.{Kind, Lexeme, lexemes}
use Rattle.cc_grammar.specs.Symbols as k
use Rattle.cc_grammar.specs.RawTree.{RawStmt, stmts}
use Rattle.cc_grammar.specs.Sizes.{of_stmts}
use Rattle.cc_grammar.specs.Fronts.{ReadsWithin}
use Rattle.cc_grammar.specs.Faults.{Splits, FirstFault, FaultAt}
use Rattle.cc_grammar.specs.Reading.{Cause, Fault, read_tokens}

-- a token that stands in a text, and is not its end
abbrev pub is_inner : Kind → Bool
is_inner k.end = false
is_inner (k.stop c) = false
is_inner (k.due p) = false
is_inner _ = true

abbrev pub is_last : Kind → Bool
is_last k.end = true
is_last (k.stop c) = true
is_last _ = false

-- the tokens of a text, of which the last is its end or the place where none begins
pub data IsText : List Lexeme → Type 0 where
  last : {t : Lexeme} → is_last t.kind ≡ true → IsText (t ∷ [])
  before : {t : Lexeme} {ts : List Lexeme} → is_inner t.kind ≡ true → IsText ts → IsText (t ∷ ts)

-- What is read is derived from exactly the tokens, with justified insertions, within the depth.
abbrev pub IsSound : Type 0
IsSound = (turns d h : ℕ) (ts : List Lexeme) (b : List RawStmt) → read_tokens turns d ts ≡ Ok ((b, h), []) → ReadsWithin h ts b × (h ≤ d)

-- There is one such tree.
abbrev pub IsOne : Type 0
IsOne = (h i : ℕ) (ts : List Lexeme) (a b : List RawStmt) → IsText ts → ReadsWithin h ts a → ReadsWithin i ts b → a ≡ b

-- the tree, with a height within h
pub record IsRead (turns d h : ℕ) (ts : List Lexeme) (b : List RawStmt) : Type 0 where
  pub height : ℕ
  pub low : height ≤ h
  pub is : read_tokens turns d ts ≡ Ok ((b, height), [])

-- What is derived within the depth, with justified insertions, is read.
abbrev pub IsComplete : Type 0
IsComplete = (turns d h : ℕ) (ts : List Lexeme) (b : List RawStmt) → IsText ts → length ts < turns → ReadsWithin h ts b → h ≤ d → IsRead turns d h ts b

-- What isn't read has a fault at a token, and it is the first.
pub record Fails (d : ℕ) (ts : List Lexeme) (f : Fault) : Type 0 where
  pub before : List Lexeme
  pub token : Lexeme
  pub after : List Lexeme
  pub number : ℕ
  pub splits : Splits ts number before token after
  pub place : f.place ≡ token.place
  pub first : FirstFault d ts number f.cause

abbrev pub IsFirstFault : Type 0
IsFirstFault = (turns d : ℕ) (ts us : List Lexeme) (f : Fault) → IsText ts → length ts < turns → read_tokens turns d ts ≡ Err (f, us) → Fails d ts f

-- What is derived within the depth has no fault.
abbrev pub HasNoFault : Type 0
HasNoFault = (d h n : ℕ) (ts : List Lexeme) (b : List RawStmt) (c : Cause) → IsText ts → ReadsWithin h ts b → h ≤ d → ¬ (FaultAt d ts n c)

-- A tree has at most four expressions, statements and declarators a token.
abbrev pub IsSmall : Type 0
IsSmall = (h : ℕ) (ts : List Lexeme) (b : List RawStmt) → ReadsWithin h ts b → of_stmts (stmts b) ≤ 4 * length ts

-- Of the tokens of a text none is left.
abbrev pub IsWhole : Type 0
IsWhole = (turns d : ℕ) (ts us : List Lexeme) (x : List RawStmt × ℕ) → IsText ts → read_tokens turns d ts ≡ Ok (x, us) → us ≡ []

-- The tokens that a text has, those that are no comments, and where none begins, are the tokens of a text.
abbrev pub HasText : Type 0
HasText = (text : List ℕ) (file : ℕ) (ts : List Token) (s : Option Refusal) → Lexed text file ts s → IsText (lexemes false ts s)
