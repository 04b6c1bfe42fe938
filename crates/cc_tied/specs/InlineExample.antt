-- A small phase: a call of a function whose body is one `return` becomes a copy of what it returns, under
-- the price of the call.
use Rattle.std.specs.Prelude.{◌≡◌, ℕ, ◌+◌, Bool, true, false, ◌&&◌, is_some, [], Option, Some, None, slice_get}
use Rattle.cc_ast.specs.Syntax.{Expr, lit, var, call, tick, Exprs, no_exprs, more_exprs, return, Stmts, no_stmts, more_stmts, Scope, Program}
use Rattle.cc_ast.specs.declared.tree.Ref.{Ref}
use Rattle.cc_meaning.specs.Monad.{pick}
use Rattle.cc_meaning.specs.Shapes.{tables_of, body_of}
use Rattle.cc_meaning.specs.Store.{of_chunk, global_kind}
use Rattle.cc_meaning.specs.Same.{Same}
use Rattle.cc_meaning.specs.WellMade.{WellMade, Reached}
use Rattle.cc_tied.specs.Fine.{Allowed, FineStmts}
use Rattle.cc_tied.specs.FoldExample.{is_built_in}
use Rattle.cc_tied.specs.Inlined.{copy, IsCopyable}
use Rattle.cc_tied.specs.Mixed.{IsMixed}
use Rattle.cc_tied.specs.Promises.{HasNoPaths}
use Rattle.cc_tied.specs.Rewrites.{re_stmts, whole, whole_in}

-- ---- the step

-- `known` has for each global that may be inlined what its function returns
module _ (known : ℕ → Option Expr) where
  -- an argument that may stand for a parameter: a literal, also under a price, or a global that is known
  unfoldable pub may_stand : Expr → Bool
  may_stand (lit i p) = true
  may_stand (tick i n (lit j p)) = true
  may_stand (var i (Ref.Global n)) = is_some (known n)
  may_stand _ = false

  unfoldable pub all_may_stand : Exprs → Bool
  unfolding may_stand
  all_may_stand no_exprs = true
  all_may_stand (more_exprs e es) = may_stand e && all_may_stand es

  unfoldable pub price : Expr → ℕ
  price (tick i n e) = n
  price _ = 0

  unfoldable pub prices : Exprs → ℕ
  unfolding price
  prices no_exprs = 0
  prices (more_exprs e es) = price e + prices es

  unfoldable pub unmarked : Expr → Expr
  unmarked (tick i n e) = e
  unmarked e = e

  unfoldable pub all_unmarked : Exprs → Exprs
  unfolding unmarked
  all_unmarked no_exprs = no_exprs
  all_unmarked (more_exprs e es) = more_exprs (unmarked e) (all_unmarked es)

  -- the copy under the price of the arguments and of the call, or the call as it is
  unfoldable pub copy_or : Option Expr → ℕ → Exprs → Expr → Expr
  unfolding all_may_stand prices all_unmarked copy
  copy_or (Some e) i es old = pick (all_may_stand es) (tick i (prices es + 1) (copy (all_unmarked es) e)) old
  copy_or None i es old = old

  unfoldable pub inline_call : ℕ → Expr → Exprs → Expr
  unfolding copy_or
  inline_call i (var j (Ref.Global n)) es = copy_or (known n) i es (call i (var j (Ref.Global n)) es)
  inline_call i f es = call i f es

  -- the statements of a scope with known calls inlined
  abbrev pub inline_stmts : Program → (scope : ℕ) → Stmts → Stmts
  inline_stmts P f ss = re_stmts (is_built_in P) (λ e. e) inline_call whole whole_in more_stmts ss

-- ---- what is known

-- the global is bound to this function alone, and never written
abbrev pub binds_alone : (global function : ℕ) → Allowed (Unit {0})
binds_alone n f = record {
  caught = λ c. c;
  reads = λ c r. Unit {0};
  writes = λ c r. r ≡ Ref.Global n → ⊥;
  binds = λ c r g. r ≡ Ref.Global n → g ≡ f;
  sets = λ c r v. r ≡ Ref.Global n → ⊥;
  this_here = λ c. Unit {0};
  makes = λ c f. Unit {0};
  stands = λ c ls s. Unit {0};
}

-- A global of a chunk whose only declaration is one function, never written, with one `return` of a
-- copyable expression for its body.
pub record IsInlinable (P : Program) (n : ℕ) (e : Expr) : Type 0 where
  pub function : ℕ
  pub scope : Scope
  pub stands : slice_get P.scopes function ≡ Some scope
  pub site : ℕ
  pub body : scope.body ≡ more_stmts (return site (Some e)) no_stmts
  pub copyable : IsCopyable scope.params (λ g. Unit {0}) e
  pub chunk : ℕ
  pub kind : global_kind (tables_of P) n ≡ of_chunk chunk
  pub alone : (f : ℕ) → Reached P f → FineStmts (Unit {0}) (binds_alone n function) tt [] (body_of P f)

abbrev pub AreInlinable : (known : ℕ → Option Expr) → Program → Type 0
AreInlinable known P = (n : ℕ) (e : Expr) → known n ≡ Some e → IsInlinable P n e

-- whichever scopes have their known calls inlined, the program does the same
abbrev pub InliningKeeps : Type 0
InliningKeeps = (known : ℕ → Option Expr) (P Q : Program) → WellMade P → HasNoPaths P → AreInlinable known P → IsMixed (inline_stmts known P) P Q → Same P Q
