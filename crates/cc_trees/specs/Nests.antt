-- Function values that read trees, so that those who hold them are proved without those who they are.
use Rattle.std.specs.Prelude.{ℕ, Bool, true, List, Result, Ok, IfOk, ◌<◌, ◌≤◌, ◌-◌}
use Rattle.std.specs.declared.alloc.Global.{Global}
use denote.Ref.{MutBor}
use Rattle.cc_raw.specs.declared.tree.RawExpr.{RawExpr}
use Rattle.cc_raw.specs.declared.tree.RawStmt.{RawStmt}
use Rattle.cc_cursor.specs.declared.context.Context.{Context}
use Rattle.cc_cursor.specs.declared.error.ReadError.{ReadError}
use Rattle.cc_cursor.specs.declared.limits.Limits.{Limits}
use Rattle.cc_lexer.specs.declared.token.Mark.{Mark}
use Rattle.cc_grammar.specs.RawTree as S
use Rattle.cc_grammar.specs.Reading.{Outcome, Sized, and_then, look_token, rest_tokens, semicolon_token}
use Rattle.cc_grammar.specs.Reading as r
use Rattle.cc_raw.specs.Bridge.{raw_expr}
use Rattle.cc_cursor.specs.Shown as shown
use Rattle.cc_cursor.specs.Reads.{Tokens, Reads, within, expect, expr_of}
use Rattle.cc_trees.specs.StatementParts.{sized_function}
use Rattle.cc_trees.specs.declared.function.Function.{Function}

-- ---- what stands inside

pub record NestsExpr (m : Limits) (pre : Global → MutBor Tokens → Limits → Bool → ℕ → Type 0)
    (post : Global → MutBor Tokens → Limits → Bool → ℕ → Result (RawExpr × ℕ) ReadError → MutBor Tokens → Type 0) : Type 0 where
  pub callable : (alloc : Global) (old : MutBor Tokens) (n : Bool) (l : ℕ) → pre alloc old m n l
  pub reads : (alloc : Global) (old new : MutBor Tokens) (n : Bool) (l : ℕ) (r : Result (RawExpr × ℕ) ReadError) → post alloc old m n l r new
      → Reads shown.expr ((within m).expr n l old.now) r new.now
  pub low : (alloc : Global) (old new : MutBor Tokens) (n : Bool) (l : ℕ) (r : Result (RawExpr × ℕ) ReadError) → post alloc old m n l r new
      → IfOk r (λ x. x.1 < m.depth)

pub record NestsStmt (m : Limits) (pre : Global → MutBor Tokens → Limits → Context → Type 0)
    (post : Global → MutBor Tokens → Limits → Context → Result (List RawStmt × ℕ) ReadError → MutBor Tokens → Type 0) : Type 0 where
  pub callable : (alloc : Global) (old : MutBor Tokens) (c : Context) → pre alloc old m c
  pub reads : (alloc : Global) (old new : MutBor Tokens) (c : Context) (r : Result (List RawStmt × ℕ) ReadError) → post alloc old m c r new
      → Reads shown.stmts ((within m).stmt (shown.context c) old.now) r new.now
  pub low : (alloc : Global) (old new : MutBor Tokens) (c : Context) (r : Result (List RawStmt × ℕ) ReadError) → post alloc old m c r new
      → IfOk r (λ x. x.1 < m.depth)

-- an expression inside, before this mark
abbrev pub closed_expr : Limits → ℕ → Mark → Tokens → Outcome Tokens (Sized S.RawExpr)
closed_expr m l k ts = and_then ((within m).expr true l ts) (λ x us. and_then (expect k us) (λ _ vs. Ok (x, vs)))

-- ---- what stands at the same height

-- a function behind its name
abbrev pub function : Limits → Tokens → Outcome Tokens (Sized (List S.Named × List S.RawStmt))
function m = r.function Tokens look_token rest_tokens semicolon_token m.depth m.turns (within m)

-- an expression by the primary expression that it begins with
abbrev pub after_head : Limits → Bool → ℕ → Sized S.RawExpr → Tokens → Outcome Tokens (Sized S.RawExpr)
after_head m = r.after_head Tokens look_token rest_tokens semicolon_token m.depth m.turns (within m)

pub record NestsFunction (m : Limits) (pre : Global → MutBor Tokens → Limits → Type 0)
    (post : Global → MutBor Tokens → Limits → Result (Function × ℕ) ReadError → MutBor Tokens → Type 0) : Type 0 where
  pub callable : (alloc : Global) (old : MutBor Tokens) → pre alloc old m
  pub reads : (alloc : Global) (old new : MutBor Tokens) (r : Result (Function × ℕ) ReadError) → post alloc old m r new
      → Reads sized_function (function m old.now) r new.now
  pub low : (alloc : Global) (old new : MutBor Tokens) (r : Result (Function × ℕ) ReadError) → post alloc old m r new
      → IfOk r (λ x. x.1 ≤ m.depth - 1)

-- an expression of a level, in which `in` may stand
pub record NestsWhole (m : Limits) (pre : Global → MutBor Tokens → Limits → ℕ → Type 0)
    (post : Global → MutBor Tokens → Limits → ℕ → Result (RawExpr × ℕ) ReadError → MutBor Tokens → Type 0) : Type 0 where
  pub callable : (alloc : Global) (old : MutBor Tokens) (l : ℕ) → pre alloc old m l
  pub reads : (alloc : Global) (old new : MutBor Tokens) (l : ℕ) (r : Result (RawExpr × ℕ) ReadError) → post alloc old m l r new
      → Reads shown.expr (expr_of m true l old.now) r new.now
  pub low : (alloc : Global) (old new : MutBor Tokens) (l : ℕ) (r : Result (RawExpr × ℕ) ReadError) → post alloc old m l r new
      → IfOk r (λ x. x.1 ≤ m.depth)

-- an expression that begins with this one, of height 0
pub record NestsBegun (m : Limits) (pre : Global → MutBor Tokens → Limits → RawExpr → Type 0)
    (post : Global → MutBor Tokens → Limits → RawExpr → Result (RawExpr × ℕ) ReadError → MutBor Tokens → Type 0) : Type 0 where
  pub callable : (alloc : Global) (old : MutBor Tokens) (e : RawExpr) → pre alloc old m e
  pub reads : (alloc : Global) (old new : MutBor Tokens) (e : RawExpr) (r : Result (RawExpr × ℕ) ReadError) → post alloc old m e r new
      → Reads shown.expr (after_head m true 0 (raw_expr e, 0) old.now) r new.now
  pub low : (alloc : Global) (old new : MutBor Tokens) (e : RawExpr) (r : Result (RawExpr × ℕ) ReadError) → post alloc old m e r new
      → IfOk r (λ x. x.1 ≤ m.depth)
