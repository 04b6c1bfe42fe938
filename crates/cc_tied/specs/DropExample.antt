-- A small phase: statements of a pure expression go, and so do declarators of places that are never
-- read, with their pure values.
use Rattle.std.specs.Prelude.{◌≡◌, ℕ, suc, Bool, true, false, ◌&&◌, List, [], ◌∷◌, Option, Some, None}
use Rattle.cc_ast.specs.Syntax.{Expr, lit, var, this, fun, list, object, unary, binary, and, or, cond, assign, step, member, index, call, new, comma, cast, tick, Exprs, no_exprs, more_exprs, Fields, no_fields, more_fields, Declarator, Stmt, simple, vars, Stmts, more_stmts, Program}
use Rattle.cc_ast.specs.declared.tree.Ref.{Ref}
use Rattle.cc_meaning.specs.Monad.{pick}
use Rattle.cc_meaning.specs.Shapes.{tables_of, body_of}
use Rattle.cc_meaning.specs.Same.{Same}
use Rattle.cc_meaning.specs.WellMade.{WellMade, Reached}
use Rattle.cc_tied.specs.Facts.{called, innermost, Above}
use Rattle.cc_tied.specs.Fine.{Allowed, FineStmts}
use Rattle.cc_tied.specs.FoldExample.{is_built_in}
use Rattle.cc_tied.specs.Mixed.{IsMixed}
use Rattle.cc_tied.specs.PlainFacts.{owner, plain_facts}
use Rattle.cc_tied.specs.Promises.{HasNoPaths}
use Rattle.cc_tied.specs.Rewrites.{re_stmts, stay_call, whole_in}

-- ---- the step

-- literals, variables, `this`, functions, lists and objects, operators and casts, each of pure parts
unfoldable mutual
  pub pure : Expr → Bool
  pure (lit i p) = true
  pure (var i r) = true
  pure (this i) = true
  pure (fun i f) = true
  pure (list i es) = all_pure es
  pure (object i fs) = pure_fields fs
  pure (unary i op e) = pure e
  pure (binary i op a b) = pure a && pure b
  pure (and i a b) = pure a && pure b
  pure (or i a b) = pure a && pure b
  pure (cond i e a b) = pure e && pure a && pure b
  pure (assign i op u e) = false
  pure (step i up prefix u) = false
  pure (member i e p) = false
  pure (index i e k) = false
  pure (call i f es) = false
  pure (new i f es) = false
  pure (comma i a b) = pure a && pure b
  pure (cast i d e) = pure e
  pure (tick i n e) = false

  pub all_pure : Exprs → Bool
  all_pure no_exprs = true
  all_pure (more_exprs e es) = pure e && all_pure es

  pub pure_fields : Fields → Bool
  pure_fields no_fields = true
  pure_fields (more_fields k e fs) = pure e && pure_fields fs

unfoldable pub pure_value : Option Expr → Bool
unfolding pure
pure_value None = true
pure_value (Some e) = pure e

-- a variable of the scope's own frame at a dead place
unfoldable pub is_dead : (dead : ℕ → Bool) → Ref → Bool
is_dead dead (Ref.Frame u n) = dead n
is_dead dead (Ref.Global n) = false

unfoldable pub keep_live : (dead : ℕ → Bool) → Declarator → List Declarator
unfolding is_dead pure_value
keep_live dead d = pick (is_dead dead d.variable && pure_value d.value) [] (d ∷ [])

-- a statement of declarators that all went goes too
unfoldable pub drop : Stmt → Stmts → Stmts
unfolding pure
drop (simple i e) ss = pick (pure e) ss (more_stmts (simple i e) ss)
drop (vars i []) ss = ss
drop s ss = more_stmts s ss

-- the statements of a scope without what is pure and dead in them
abbrev pub drop_stmts : (dead : ℕ → ℕ → Bool) → Program → (scope : ℕ) → Stmts → Stmts
drop_stmts dead P f ss = re_stmts (is_built_in P) (λ e. e) stay_call (keep_live (dead f)) whole_in drop ss

-- ---- what is dead

-- No dead place is read. A context is the function in whose statements a part stands, or none in a
-- chunk's own list, and the number of catch clauses around it there.
abbrev pub reads_no_dead : (dead : (function place : ℕ) → Bool) → Program → Allowed (Option ℕ × ℕ)
reads_no_dead dead P = record {
  caught = λ c. (c.0, suc c.1);
  reads = λ c r. (u n f : ℕ) → r ≡ Ref.Frame u n → Above (plain_facts P) (tables_of P) (innermost c.0 c.1) u (called f) → dead f n ≡ false;
  writes = λ c r. Unit {0};
  binds = λ c r f. Unit {0};
  sets = λ c r v. Unit {0};
  this_here = λ c. Unit {0};
  makes = λ c f. Unit {0};
  stands = λ c ls s. Unit {0};
}

abbrev pub AreUnread : (dead : (function place : ℕ) → Bool) → Program → Type 0
AreUnread dead P = (f : ℕ) → Reached P f → FineStmts (Option ℕ × ℕ) (reads_no_dead dead P) (owner P f, 0) [] (body_of P f)

-- whichever scopes lose what is pure and dead in them, the program does the same
abbrev pub DroppingKeeps : Type 0
DroppingKeeps = (dead : (function place : ℕ) → Bool) (P Q : Program) → WellMade P → HasNoPaths P → AreUnread dead P → IsMixed (drop_stmts dead P) P Q → Same P Q
