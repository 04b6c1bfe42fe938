-- The program that a source of the form is: one chunk `main`, with its globals in the order of
-- the externs, the built-in ones and the declarations. The place of each byte has its offset as its number.
use Rattle.std.specs.Prelude.{ℕ, zero, suc, ◌+◌, false, List, [], ◌∷◌, ◌++◌, codes, length, map, None, Some}
use Rattle.std.specs.List.{position_or_len}
use Rattle.std.specs.Str.{bytes_eq}
use Rattle.cc_ast.specs.declared.place.Place.{Place}
use Rattle.cc_ast.specs.declared.tables.ChunkInfo.{ChunkInfo}
use Rattle.cc_ast.specs.declared.tables.GlobalInfo.{GlobalInfo}
use Rattle.cc_ast.specs.declared.tables.SiteDoc.{SiteDoc}
use Rattle.cc_ast.specs.declared.tree.Ref.TheVariants.{Global}
use Rattle.cc_ast.specs.Bridge.{exprs}
use Rattle.cc_ast.specs.StmtBridge.{stmts}
use Rattle.cc_ast.specs.Syntax as S
use Rattle.cc_ast.specs.declared.operator.BinOp.TheVariants.{Add}
use Rattle.cc_meaning.specs.Names.{always_kept}
use Rattle.cc_driver.specs.Names.{built_in_names}
use Rattle.cc_driver.specs.declared.form.Operand.{Operand}
use Rattle.cc_driver.specs.declared.form.Operand.TheVariants.{Named, Text, Whole}
use Rattle.cc_driver.specs.declared.form.Added.{Added}
use Rattle.cc_driver.specs.declared.form.Value.{Value}
use Rattle.cc_driver.specs.declared.form.Statement.{Statement}
use Rattle.cc_driver.specs.declared.form.Statement.TheVariants.{Declares, Calls}
use Rattle.cc_driver.specs.Form.{declared}

-- the number of a global: its place in the list of their names
abbrev pub number_of : List (List ℕ) → List ℕ → ℕ
number_of names name = position_or_len (bytes_eq name) names

abbrev pub operand_tree : List (List ℕ) → Operand → S.Expr
operand_tree names (Named at n) = S.var at (Global (number_of names n))
operand_tree names (Text at t) = S.lit at (S.text t)
operand_tree names (Whole at z) = S.lit at (S.whole z)

-- a sum of what stands before and of each operand that follows, from left to right (ECMA-262 5.1, 11.6)
abbrev pub chain_tree : List (List ℕ) → S.Expr → List Added → S.Expr
chain_tree names e [] = e
chain_tree names e (m ∷ ms) = chain_tree names (S.binary m.plus Add e (operand_tree names m.operand)) ms

abbrev pub value_tree : List (List ℕ) → Value → S.Expr
value_tree names v = chain_tree names (operand_tree names v.first) v.more

abbrev pub statement_tree : List (List ℕ) → Statement → S.Stmt
statement_tree names (Declares at n v) =
    S.vars at ((record { site = at + 4; variable = Global (number_of names n); value = Some (value_tree names v) }) ∷ [])
statement_tree names (Calls at n vs) =
    S.simple at (S.call (at + length n) (S.var at (Global (number_of names n))) (exprs (map (value_tree names) vs)))

abbrev pub global_of_no_chunk : List ℕ → GlobalInfo
global_of_no_chunk name = record { name = name; chunk = None; doc = 0; flat = [] }

abbrev pub global_of_main : List ℕ → GlobalInfo
global_of_main name = record { name = name; chunk = Some 0; doc = 0; flat = [] }

abbrev pub no_doc : SiteDoc
no_doc = record { params = []; result = None; value = None; receiver = None; vars = []; constant = false; define = false; nocollapse = false; export = false }

abbrev pub main_chunk : ChunkInfo
main_chunk = record { name = codes "main"; deps = [] }

-- the source is file 1, behind the externs, and has one line of ASCII characters
abbrev pub place_at : ℕ → Place
place_at offset = record { file = 1; offset = offset; line = 1; column = offset + 1 }

-- the places of so many bytes from an offset on
abbrev pub places_from : ℕ → ℕ → List Place
places_from offset zero = []
places_from offset (suc n) = place_at offset ∷ places_from (offset + 1) n

abbrev pub global_names : List (List ℕ) → List Statement → List (List ℕ)
global_names externs statements = externs ++ built_in_names ++ declared statements

abbrev pub main_scope : List (List ℕ) → List Statement → S.Scope
main_scope names statements = record { params = 0; names = 0; own = false; body = stmts (map (statement_tree names) statements); parent = None; doc = 0 }

-- the source program, for a source of so many bytes
abbrev pub program_of : List (List ℕ) → ℕ → List Statement → S.Program
program_of externs size statements = record {
  scopes = main_scope (global_names externs statements) statements ∷ [];
  chunks = main_chunk ∷ [];
  globals = map global_of_no_chunk (externs ++ built_in_names) ++ map global_of_main (declared statements);
  props = [];
  kept = always_kept;
  classes = [];
  places = places_from 0 size;
  docs = no_doc ∷ [];
}
