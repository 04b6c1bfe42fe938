-- Programs whose labels and properties can be written: a label is an identifier, and what stands behind
-- a dot or as a key without quotes is an identifier or a reserved word (ECMA-262 5.1, 11.1.5, 11.2.1 and
-- 12.12). Which texts these are, the lexical grammar says; here they are any two sets.
use Rattle.std.specs.Prelude.{◌≡◌, ℕ, List, [], ◌∷◌, ◌++◌, slice_get, Option, Some, None}
use Rattle.cc_ast.specs.Syntax.{Stmt, simple, vars, fun_decl, if, while, do_while, for, for_in, return, throw, break, continue, label, switch, try, pay_stmt, Stmts, no_stmts, more_stmts, MaybeStmts, absent, present, Cases, no_cases, more_cases, Scope, Program}
use Rattle.cc_ast.specs.declared.tables.PropInfo.{PropInfo}
use Rattle.cc_meaning.specs.Alike.{In}
use Rattle.cc_meaning.specs.Parts.{uses_prop}
use Rattle.cc_meaning.specs.WellMade.{parts_of}

-- the label of a jump, if it has one
unfoldable pub jump_label : Option (List ℕ) → List (List ℕ)
jump_label None = []
jump_label (Some l) = l ∷ []

-- the labels that stand in a statement
unfoldable mutual
  unfolding jump_label

  pub stmt_labels : Stmt → List (List ℕ)
  stmt_labels (simple i e) = []
  stmt_labels (vars i ds) = []
  stmt_labels (fun_decl i r f) = []
  stmt_labels (if i t a b) = stmts_labels a ++ stmts_labels b
  stmt_labels (while i t b) = stmts_labels b
  stmt_labels (do_while i b t) = stmts_labels b
  stmt_labels (for i h t e b) = stmts_labels b
  stmt_labels (for_in i t e b) = stmts_labels b
  stmt_labels (return i e) = []
  stmt_labels (throw i e) = []
  stmt_labels (break i l) = jump_label l
  stmt_labels (continue i l) = jump_label l
  stmt_labels (label i l b) = l ∷ stmts_labels b
  stmt_labels (switch i e cs) = cases_labels cs
  stmt_labels (try i b k f) = stmts_labels b ++ maybe_labels k ++ maybe_labels f
  stmt_labels (pay_stmt i p) = []

  pub stmts_labels : Stmts → List (List ℕ)
  stmts_labels no_stmts = []
  stmts_labels (more_stmts s ss) = stmt_labels s ++ stmts_labels ss

  pub maybe_labels : MaybeStmts → List (List ℕ)
  maybe_labels absent = []
  maybe_labels (present ss) = stmts_labels ss

  pub cases_labels : Cases → List (List ℕ)
  cases_labels no_cases = []
  cases_labels (more_cases t b cs) = stmts_labels b ++ cases_labels cs

-- each label is an identifier, and the name of each property behind a dot or at a key without quotes
-- is a name of an identifier or a reserved word
pub record IsSpelled (Identifier Name : List ℕ → Type 0) (P : Program) : Type 0 where
  pub labels : (f : ℕ) (s : Scope) (l : List ℕ) → slice_get P.scopes f ≡ Some s → In l (stmts_labels s.body) → Identifier l
  pub props : (f n : ℕ) (p : PropInfo) → In (uses_prop n) (parts_of P f) → slice_get P.props n ≡ Some p → Name p.name
