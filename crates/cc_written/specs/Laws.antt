-- What is written of a program under its names reads back to it.
use Rattle.std.specs.Prelude.{◌≡◌, ℕ, ◌++◌, List, length, false, Option, Some, IsTrue, slice_get}
use Rattle.std.specs.Str.{chars, IsUtf8}
use Rattle.cc_ast.specs.declared.reading.Refusal.{Refusal}
use Rattle.cc_ast.specs.Syntax.{Program}
use Rattle.cc_lexer.specs.declared.token.Token.{Token}
use Rattle.cc_lexer.specs.Lexes.{Lexed}
use Rattle.cc_grammar.specs.Symbols.{lexemes}
use Rattle.cc_grammar.specs.RawTree.{RawStmt, RawStmts, stmts}
use Rattle.cc_grammar.specs.Fronts.{ReadsWithin}
use Rattle.cc_meaning.specs.Names.{builtin_globals}
use Rattle.cc_meaning.specs.WellMade.{WellMade, is_chunk, outer_names}
use Rattle.cc_meaning.specs.Spelled.{IsSpelled}
use Rattle.cc_meaning.specs.Alike.{Alike}
use Rattle.cc_printer.specs.RawOf.{raw_of}
use Rattle.cc_printer.specs.Naming.{IsPropertyName}
use Rattle.cc_printer.specs.Spelling.{IsName}
use Rattle.cc_printer.specs.Texts.{HasUnits}
use Rattle.cc_printer.specs.Laws.{bytes_of}
use Rattle.cc_rename.specs.Naming.{naming_of}
use Rattle.cc_rename.specs.Laws.{HasOuterNames}
use Rattle.cc_scope.specs.Resolve.{Source, program_of}
use Rattle.cc_scope.specs.Refusals.{answered, resolve}

-- A program that can be written: a well made one, whose labels, properties, texts and externs are spelled as the language has them.
pub record CanBeWritten (P : Program) : Type 0 where
  pub well : WellMade P
  pub spelled : IsSpelled IsName IsPropertyName P
  pub units : HasUnits P
  pub outer : HasOuterNames P

-- the text of a chunk, in bytes
abbrev pub text_of : Program → ℕ → List ℕ
text_of P chunk = bytes_of (raw_of P (naming_of P) chunk)

-- a text has tokens, and they derive a tree, of whatever height
pub record IsReading (text : List ℕ) (file : ℕ) (t : RawStmts) : Type 0 where
  pub tokens : List Token
  pub stop : Option Refusal
  pub lexed : Lexed text file tokens stop
  pub height : ℕ
  pub list : List RawStmt
  pub derived : ReadsWithin height (lexemes false tokens stop) list
  pub same : t ≡ stmts list

-- The text of a chunk is UTF-8, and it is read.
abbrev pub IsRead : Program → Type 0
IsRead P = (chunk file : ℕ) → IsTrue (is_chunk P chunk) → IsUtf8 (text_of P chunk) × ((t : RawStmts) × IsReading (chars (text_of P chunk)) file t)

-- It is read in one way.
abbrev pub IsReadOnce : Program → Type 0
IsReadOnce P = (chunk file : ℕ) (t u : RawStmts) → IsTrue (is_chunk P chunk) → IsReading (chars (text_of P chunk)) file t → IsReading (chars (text_of P chunk)) file u → t ≡ u

-- What is read from the texts of all chunks, with the program's graph and externs.
pub record IsSourceOf (P : Program) (file : ℕ → ℕ) (S : Source) : Type 0 where
  pub chunks : S.chunks ≡ P.chunks
  pub one_each : length S.trees ≡ length P.chunks
  pub trees : (chunk : ℕ) (t : RawStmts) → slice_get S.trees chunk ≡ Some t → IsReading (chars (text_of P chunk)) (file chunk) t
  pub externs : outer_names P ≡ S.externs ++ builtin_globals

-- It resolves, with nothing refused, to a program that is alike.
abbrev pub IsResolved : Program → Type 0
IsResolved P = (file : ℕ → ℕ) (S : Source) → IsSourceOf P file S → (resolve S ≡ answered (program_of S)) × Alike P (program_of S)

-- The texts of a program, under its names, are read in one way, and what is read resolves to a program that is alike.
abbrev pub ReadsBack : Type 0
ReadsBack = (P : Program) → CanBeWritten P → IsRead P × IsReadOnce P × IsResolved P
