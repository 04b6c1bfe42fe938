-- The laws of folding, whichever scopes of a program are folded by its plan.
use Rattle.std.specs.Prelude.{ℕ, List}
use Rattle.cc_ast.specs.Syntax.{Stmts, Program}
use Rattle.cc_meaning.specs.Same.{Same}
use Rattle.cc_meaning.specs.WellMade.{WellMade}
use Rattle.cc_meaning.specs.Spelled.{IsSpelled}
use Rattle.cc_tied.specs.Rewrites.{re_stmts}
use Rattle.cc_tied.specs.Promises.{HasNoPaths}
use Rattle.cc_tied.specs.Mixed.{IsMixed}
use Rattle.cc_fold.specs.Built.{built_globals, built_in}
use Rattle.cc_fold.specs.Fold.{fold, same_call, same_declarator, same_name, same_stmt}

-- the statements of a scope, folded by the plan of the program
abbrev pub folded_by : Program → (scope : ℕ) → Stmts → Stmts
folded_by P f ss = re_stmts (built_in (built_globals P)) fold same_call same_declarator same_name same_stmt ss

abbrev pub FoldingKeeps : Type 0
FoldingKeeps = (P Q : Program) → WellMade P → HasNoPaths P → IsMixed (folded_by P) P Q → Same P Q

-- whichever scopes are folded, the program stays well made, and without flat paths
abbrev pub FoldingKeepsWellMade : Type 0
FoldingKeepsWellMade = (P Q : Program) → WellMade P → HasNoPaths P → IsMixed (folded_by P) P Q → WellMade Q × HasNoPaths Q

-- whichever scopes are folded, labels and properties can be written as before, whichever texts are
-- identifiers and names
abbrev pub FoldingKeepsSpelling : (Identifier Name : List ℕ → Type 0) → Type 0
FoldingKeepsSpelling Identifier Name = (P Q : Program) → IsMixed (folded_by P) P Q → IsSpelled Identifier Name P → IsSpelled Identifier Name Q
