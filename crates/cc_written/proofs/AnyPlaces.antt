-- What is written stands for a tree with any places: which raw trees stand for a program's trees doesn't rest on places.
use Rattle.std.specs.Prelude.{◌≡◌, ℕ, Bool, List, [], ◌∷◌, Option, Some, None}
use Rattle.std.proofs.Common.{refl, sym, ap, ◌∙◌, subst}
use Rattle.cc_ast.specs.declared.operator.BinOp.{BinOp}
use Rattle.cc_ast.specs.declared.operator.UnOp.{UnOp}
use Rattle.cc_ast.specs.declared.place.Place.{Place}
use Rattle.cc_ast.specs.Syntax.{Prim, Expr, Target, Exprs, Fields, Declarator, ForInit, ForTarget, Stmt, Stmts, MaybeStmts, Cases, Scope, Program}
use Rattle.cc_grammar.specs.Symbols.{nowhere}
use Rattle.cc_grammar.specs.RawTree.{Named, RawKey, RawExpr, RawTarget, RawExprs, MaybeExpr, RawFields, RawDeclarators, RawInit, RawForTarget, RawStmt, RawStmts, RawCatch, RawFinally, RawCases}
use Rattle.cc_grammar.specs.RawTree as raw
use Rattle.cc_printer.specs.Bare.{bare, bare_names, bare_own, bare_target, bare_exprs, bare_maybe, bare_fields, bare_declarators, bare_init, bare_for_target, bare_stmt, bare_stmts, bare_catch, bare_finally, bare_cases}
use Rattle.cc_scope.specs.Resolve.{named}
use Rattle.cc_scope.specs.Written as n
use Rattle.cc_scope.specs.Written.{Naming, Frame, OwnN, no_own, has_own, FunN, ExprN, TargetN, ExprsN, FieldsN, MaybeN, VarsN, InitN, HeadingN, StmtN, StmtsN, CatchN, FinallyN, CasesN}
use Rattle.cc_written.proofs.NoCasts.{Plain, PlainTarget, PlainExprs, PlainMaybe, PlainFields, PlainVars, PlainInit, PlainHeading, PlainStmt, PlainStmts, PlainCatch, PlainFinally, PlainCases}

pub named_bare : (ps : List Named) → named (bare_names ps) ≡ named ps
unfolding named
named_bare [] = refl
named_bare (v ∷ ps) = ap (λ ns. v.name ∷ ns) (named_bare ps)

module _ (v : Naming) (P : Program) (Known : ℕ → Type 0) where
  owned_back : {c : List Frame} {b : Bool} (o : Option Named) → OwnN v P Known c b (bare_own o) → OwnN v P Known c b o
  owned_back None n.no_own = n.no_own
  owned_back (Some w) (n.has_own _ e) = n.has_own w e

  function_back : {c : List Frame} {f : ℕ} {s : Scope} (o : Option Named) (ps : List Named) → FunN v P Known c f s (bare_own o) (bare_names ps) → FunN v P Known c f s o ps
  function_back o ps k = record { stands = k.stands; own_name = owned_back o k.own_name; params = sym (named_bare ps) ∙ k.params; small = k.small }

  -- ---- casts and price marks are no part of what is written

  abbrev IsCore : {c : List Frame} {s : Expr} {u : RawExpr} → ExprN v P Known c s u → Type 0
  IsCore (n.cast_n k) = ⊥
  IsCore (n.tick_n k) = ⊥
  IsCore _ = Unit {0}

  -- an expression under casts and price marks
  record Peeled (c : List Frame) (s : Expr) (u : RawExpr) : Type 0 where
    inner : Expr
    stands : ExprN v P Known c inner u
    core : IsCore stands
    wrapped : (t : RawExpr) → ExprN v P Known c inner t → ExprN v P Known c s t

  peel : {c : List Frame} {s : Expr} {u : RawExpr} → ExprN v P Known c s u → Peeled c s u
  peel n.lit_n = record { inner = _; stands = n.lit_n; core = tt; wrapped = λ t k. k }
  peel (n.var_n r y) = record { inner = _; stands = n.var_n r y; core = tt; wrapped = λ t k. k }
  peel n.this_n = record { inner = _; stands = n.this_n; core = tt; wrapped = λ t k. k }
  peel (n.fun_n f s o ps k j) = record { inner = _; stands = n.fun_n f s o ps k j; core = tt; wrapped = λ t k. k }
  peel (n.list_n k) = record { inner = _; stands = n.list_n k; core = tt; wrapped = λ t k. k }
  peel (n.object_n k) = record { inner = _; stands = n.object_n k; core = tt; wrapped = λ t k. k }
  peel (n.unary_n k) = record { inner = _; stands = n.unary_n k; core = tt; wrapped = λ t k. k }
  peel (n.binary_n k j) = record { inner = _; stands = n.binary_n k j; core = tt; wrapped = λ t k. k }
  peel (n.and_n k j) = record { inner = _; stands = n.and_n k j; core = tt; wrapped = λ t k. k }
  peel (n.or_n k j) = record { inner = _; stands = n.or_n k j; core = tt; wrapped = λ t k. k }
  peel (n.cond_n k j l) = record { inner = _; stands = n.cond_n k j l; core = tt; wrapped = λ t k. k }
  peel (n.assign_n k j) = record { inner = _; stands = n.assign_n k j; core = tt; wrapped = λ t k. k }
  peel (n.step_n k) = record { inner = _; stands = n.step_n k; core = tt; wrapped = λ t k. k }
  peel (n.member_n k m d) = record { inner = _; stands = n.member_n k m d; core = tt; wrapped = λ t k. k }
  peel (n.index_n k j) = record { inner = _; stands = n.index_n k j; core = tt; wrapped = λ t k. k }
  peel (n.call_n k j) = record { inner = _; stands = n.call_n k j; core = tt; wrapped = λ t k. k }
  peel (n.new_n k j) = record { inner = _; stands = n.new_n k j; core = tt; wrapped = λ t k. k }
  peel (n.comma_n k j) = record { inner = _; stands = n.comma_n k j; core = tt; wrapped = λ t k. k }
  peel (n.minus_n ok k) = record { inner = _; stands = n.minus_n ok k; core = tt; wrapped = λ t k. k }
  peel (n.void_n k) = record { inner = _; stands = n.void_n k; core = tt; wrapped = λ t k. k }
  peel (n.cast_n k) = let r = peel k in record { inner = r.inner; stands = r.stands; core = r.core; wrapped = λ t j. n.cast_n (r.wrapped t j) }
  peel (n.tick_n k) = let r = peel k in record { inner = r.inner; stands = r.stands; core = r.core; wrapped = λ t j. n.tick_n (r.wrapped t j) }

  rewrap : {c : List Frame} {s : Expr} {u : RawExpr} (t : RawExpr) → Peeled c s u → ((i : Expr) (k : ExprN v P Known c i u) → IsCore k → ExprN v P Known c i t) → ExprN v P Known c s t
  rewrap t r go = r.wrapped t (go r.inner r.stands r.core)

  lit_core : {c : List Frame} {s : Expr} {q : Place} {x : Prim} (k : ExprN v P Known c s (raw.lit nowhere x)) → IsCore k → ExprN v P Known c s (raw.lit q x)
  lit_core (n.lit_n) i = n.lit_n
  lit_core (n.minus_n ok k) i = n.minus_n ok k
  lit_core (n.void_n k) i = n.void_n k
  lit_core (n.cast_n k) i = absurd i
  lit_core (n.tick_n k) i = absurd i

  var_core : {c : List Frame} {s : Expr} {q : Place} {m : List ℕ} (k : ExprN v P Known c s (raw.var nowhere m)) → IsCore k → ExprN v P Known c s (raw.var q m)
  var_core (n.var_n r y) i = n.var_n r y
  var_core (n.cast_n k) i = absurd i
  var_core (n.tick_n k) i = absurd i

  this_core : {c : List Frame} {s : Expr} {q : Place} (k : ExprN v P Known c s (raw.this nowhere)) → IsCore k → ExprN v P Known c s (raw.this q)
  this_core (n.this_n) i = n.this_n
  this_core (n.cast_n k) i = absurd i
  this_core (n.tick_n k) i = absurd i

  fun_core : {q : Place} {c : List Frame} {s : Expr} (o : Option Named) (ps : List Named) (w : Option Named) (vs : List Named) (a b : RawStmts) → w ≡ bare_own o → vs ≡ bare_names ps → (k : ExprN v P Known c s (raw.fun nowhere w vs a)) → IsCore k
      → ((top : Bool) (d : ℕ) (e : List Frame) (z : Stmts) → StmtsN v P Known top d e z a → StmtsN v P Known top d e z b) → ExprN v P Known c s (raw.fun q o ps b)
  fun_core {c} o ps w vs a b x y (n.fun_n f s _ _ k j) i g = n.fun_n f s o ps (function_back o ps (subst (λ z. FunN v P Known c f s z (bare_names ps)) x (subst (λ z. FunN v P Known c f s w z) y k))) (g _ _ _ _ j)
  fun_core o ps w vs a b x y (n.cast_n k) i g = absurd i
  fun_core o ps w vs a b x y (n.tick_n k) i g = absurd i

  list_core : {c : List Frame} {s : Expr} {q : Place} {x e : RawExprs} (k : ExprN v P Known c s (raw.list nowhere x)) → IsCore k → ((z : Exprs) → ExprsN v P Known c z x → ExprsN v P Known c z e) → ExprN v P Known c s (raw.list q e)
  list_core (n.list_n k) i g0 = n.list_n (g0 _ k)
  list_core (n.cast_n k) i g0 = absurd i
  list_core (n.tick_n k) i g0 = absurd i

  object_core : {c : List Frame} {s : Expr} {q : Place} {x e : RawFields} (k : ExprN v P Known c s (raw.object nowhere x)) → IsCore k → ((z : Fields) → FieldsN v P Known c z x → FieldsN v P Known c z e) → ExprN v P Known c s (raw.object q e)
  object_core (n.object_n k) i g0 = n.object_n (g0 _ k)
  object_core (n.cast_n k) i g0 = absurd i
  object_core (n.tick_n k) i g0 = absurd i

  unary_core : {c : List Frame} {s : Expr} {q : Place} {o : UnOp} {x e : RawExpr} (k : ExprN v P Known c s (raw.unary nowhere o x)) → IsCore k → ((z : Expr) → ExprN v P Known c z x → ExprN v P Known c z e) → ExprN v P Known c s (raw.unary q o e)
  unary_core (n.unary_n k) i g0 = n.unary_n (g0 _ k)
  unary_core (n.cast_n k) i g0 = absurd i
  unary_core (n.tick_n k) i g0 = absurd i

  binary_core : {c : List Frame} {s : Expr} {q : Place} {o : BinOp} {x y e f : RawExpr} (k : ExprN v P Known c s (raw.binary nowhere o x y)) → IsCore k → ((z : Expr) → ExprN v P Known c z x → ExprN v P Known c z e) → ((z : Expr) → ExprN v P Known c z y → ExprN v P Known c z f) → ExprN v P Known c s (raw.binary q o e f)
  binary_core (n.binary_n k j) i g0 g1 = n.binary_n (g0 _ k) (g1 _ j)
  binary_core (n.cast_n k) i g0 g1 = absurd i
  binary_core (n.tick_n k) i g0 g1 = absurd i

  and_core : {c : List Frame} {s : Expr} {q : Place} {x y e f : RawExpr} (k : ExprN v P Known c s (raw.and nowhere x y)) → IsCore k → ((z : Expr) → ExprN v P Known c z x → ExprN v P Known c z e) → ((z : Expr) → ExprN v P Known c z y → ExprN v P Known c z f) → ExprN v P Known c s (raw.and q e f)
  and_core (n.and_n k j) i g0 g1 = n.and_n (g0 _ k) (g1 _ j)
  and_core (n.cast_n k) i g0 g1 = absurd i
  and_core (n.tick_n k) i g0 g1 = absurd i

  or_core : {c : List Frame} {s : Expr} {q : Place} {x y e f : RawExpr} (k : ExprN v P Known c s (raw.or nowhere x y)) → IsCore k → ((z : Expr) → ExprN v P Known c z x → ExprN v P Known c z e) → ((z : Expr) → ExprN v P Known c z y → ExprN v P Known c z f) → ExprN v P Known c s (raw.or q e f)
  or_core (n.or_n k j) i g0 g1 = n.or_n (g0 _ k) (g1 _ j)
  or_core (n.cast_n k) i g0 g1 = absurd i
  or_core (n.tick_n k) i g0 g1 = absurd i

  index_core : {c : List Frame} {s : Expr} {q : Place} {x y e f : RawExpr} (k : ExprN v P Known c s (raw.index nowhere x y)) → IsCore k → ((z : Expr) → ExprN v P Known c z x → ExprN v P Known c z e) → ((z : Expr) → ExprN v P Known c z y → ExprN v P Known c z f) → ExprN v P Known c s (raw.index q e f)
  index_core (n.index_n k j) i g0 g1 = n.index_n (g0 _ k) (g1 _ j)
  index_core (n.cast_n k) i g0 g1 = absurd i
  index_core (n.tick_n k) i g0 g1 = absurd i

  comma_core : {c : List Frame} {s : Expr} {q : Place} {x y e f : RawExpr} (k : ExprN v P Known c s (raw.comma nowhere x y)) → IsCore k → ((z : Expr) → ExprN v P Known c z x → ExprN v P Known c z e) → ((z : Expr) → ExprN v P Known c z y → ExprN v P Known c z f) → ExprN v P Known c s (raw.comma q e f)
  comma_core (n.comma_n k j) i g0 g1 = n.comma_n (g0 _ k) (g1 _ j)
  comma_core (n.cast_n k) i g0 g1 = absurd i
  comma_core (n.tick_n k) i g0 g1 = absurd i

  cond_core : {c : List Frame} {s : Expr} {q : Place} {x y u e f h : RawExpr} (k : ExprN v P Known c s (raw.cond nowhere x y u)) → IsCore k → ((z : Expr) → ExprN v P Known c z x → ExprN v P Known c z e) → ((z : Expr) → ExprN v P Known c z y → ExprN v P Known c z f) → ((z : Expr) → ExprN v P Known c z u → ExprN v P Known c z h) → ExprN v P Known c s (raw.cond q e f h)
  cond_core (n.cond_n k j l) i g0 g1 g2 = n.cond_n (g0 _ k) (g1 _ j) (g2 _ l)
  cond_core (n.cast_n k) i g0 g1 g2 = absurd i
  cond_core (n.tick_n k) i g0 g1 g2 = absurd i

  assign_core : {c : List Frame} {s : Expr} {q : Place} {o : Option BinOp} {x t : RawTarget} {y f : RawExpr} (k : ExprN v P Known c s (raw.assign nowhere o x y)) → IsCore k → ((z : Target) → TargetN v P Known c z x → TargetN v P Known c z t) → ((z : Expr) → ExprN v P Known c z y → ExprN v P Known c z f) → ExprN v P Known c s (raw.assign q o t f)
  assign_core (n.assign_n k j) i g0 g1 = n.assign_n (g0 _ k) (g1 _ j)
  assign_core (n.cast_n k) i g0 g1 = absurd i
  assign_core (n.tick_n k) i g0 g1 = absurd i

  step_core : {c : List Frame} {s : Expr} {q : Place} {a b : Bool} {x t : RawTarget} (k : ExprN v P Known c s (raw.step nowhere a b x)) → IsCore k → ((z : Target) → TargetN v P Known c z x → TargetN v P Known c z t) → ExprN v P Known c s (raw.step q a b t)
  step_core (n.step_n k) i g0 = n.step_n (g0 _ k)
  step_core (n.cast_n k) i g0 = absurd i
  step_core (n.tick_n k) i g0 = absurd i

  member_core : {c : List Frame} {s : Expr} {q r : Place} {m : List ℕ} {x e : RawExpr} (k : ExprN v P Known c s (raw.member nowhere x nowhere m)) → IsCore k → ((z : Expr) → ExprN v P Known c z x → ExprN v P Known c z e) → ExprN v P Known c s (raw.member q e r m)
  member_core (n.member_n k m d) i g0 = n.member_n (g0 _ k) m d
  member_core (n.cast_n k) i g0 = absurd i
  member_core (n.tick_n k) i g0 = absurd i

  call_core : {c : List Frame} {s : Expr} {q : Place} {x e : RawExpr} {y f : RawExprs} (k : ExprN v P Known c s (raw.call nowhere x y)) → IsCore k → ((z : Expr) → ExprN v P Known c z x → ExprN v P Known c z e) → ((z : Exprs) → ExprsN v P Known c z y → ExprsN v P Known c z f) → ExprN v P Known c s (raw.call q e f)
  call_core (n.call_n k j) i g0 g1 = n.call_n (g0 _ k) (g1 _ j)
  call_core (n.cast_n k) i g0 g1 = absurd i
  call_core (n.tick_n k) i g0 g1 = absurd i

  new_core : {c : List Frame} {s : Expr} {q : Place} {x e : RawExpr} {y f : RawExprs} (k : ExprN v P Known c s (raw.new nowhere x y)) → IsCore k → ((z : Expr) → ExprN v P Known c z x → ExprN v P Known c z e) → ((z : Exprs) → ExprsN v P Known c z y → ExprsN v P Known c z f) → ExprN v P Known c s (raw.new q e f)
  new_core (n.new_n k j) i g0 g1 = n.new_n (g0 _ k) (g1 _ j)
  new_core (n.cast_n k) i g0 g1 = absurd i
  new_core (n.tick_n k) i g0 g1 = absurd i

  abbrev IsStmt : {top : Bool} {d : ℕ} {c : List Frame} {s : Stmts} {u : RawStmts} → StmtsN v P Known top d c s u → Type 0
  IsStmt (n.pay_n k) = ⊥
  IsStmt _ = Unit {0}

  -- statements behind price marks
  record Paid (top : Bool) (d : ℕ) (c : List Frame) (s : Stmts) (u : RawStmts) : Type 0 where
    inner : Stmts
    stands : StmtsN v P Known top d c inner u
    core : IsStmt stands
    wrapped : (t : RawStmts) → StmtsN v P Known top d c inner t → StmtsN v P Known top d c s t

  paid : {top : Bool} {d : ℕ} {c : List Frame} {s : Stmts} {u : RawStmts} → StmtsN v P Known top d c s u → Paid top d c s u
  paid n.no_stmts_n = record { inner = _; stands = n.no_stmts_n; core = tt; wrapped = λ t k. k }
  paid (n.more_stmts_n k j) = record { inner = _; stands = n.more_stmts_n k j; core = tt; wrapped = λ t k. k }
  paid (n.pay_n k) = let r = paid k in record { inner = r.inner; stands = r.stands; core = r.core; wrapped = λ t j. n.pay_n (r.wrapped t j) }

  repaid : {top : Bool} {d : ℕ} {c : List Frame} {s : Stmts} {u : RawStmts} (t : RawStmts) → Paid top d c s u → ((i : Stmts) (k : StmtsN v P Known top d c i u) → IsStmt k → StmtsN v P Known top d c i t) → StmtsN v P Known top d c s t
  repaid t r go = r.wrapped t (go r.inner r.stands r.core)

  none_core : {top : Bool} {d : ℕ} {c : List Frame} {s : Stmts} (k : StmtsN v P Known top d c s raw.no_stmts) → IsStmt k → StmtsN v P Known top d c s raw.no_stmts
  none_core k i = k

  more_core : {top : Bool} {d : ℕ} {c : List Frame} {s : Stmts} {x t : RawStmt} {xs ts : RawStmts} (k : StmtsN v P Known top d c s (raw.more_stmts x xs)) → IsStmt k → ((z : Stmt) → StmtN v P Known top d c z x → StmtN v P Known top d c z t)
      → ((z : Stmts) → StmtsN v P Known top d c z xs → StmtsN v P Known top d c z ts) → StmtsN v P Known top d c s (raw.more_stmts t ts)
  more_core (n.more_stmts_n k j) i g h = n.more_stmts_n (g _ k) (h _ j)
  more_core (n.pay_n k) i g h = absurd i

  to_var_core : {c : List Frame} {s : Target} {q : Place} {m : List ℕ} (k : TargetN v P Known c s (raw.to_var nowhere m)) → TargetN v P Known c s (raw.to_var q m)
  to_var_core (n.to_var_n r y) = n.to_var_n r y

  mutual
    expr : {c : List Frame} {s : Expr} (t : RawExpr) → Plain t → ExprN v P Known c s (bare t) → ExprN v P Known c s t
    expr (raw.lit q x) h d = rewrap (raw.lit q x) (peel d) (λ z k i. lit_core k i)
    expr (raw.var q m) h d = rewrap (raw.var q m) (peel d) (λ z k i. var_core k i)
    expr (raw.this q) h d = rewrap (raw.this q) (peel d) (λ z k i. this_core k i)
    expr (raw.fun q o ps b) h d = rewrap (raw.fun q o ps b) (peel d) (λ z k i. fun_core o ps (bare_own o) (bare_names ps) (bare_stmts b) b refl refl k i (λ top m e z j. stmts b h j))
    expr (raw.list q es) h d = rewrap (raw.list q es) (peel d) (λ z k i. list_core k i (λ z j. exprs es h j))
    expr (raw.object q fs) h d = rewrap (raw.object q fs) (peel d) (λ z k i. object_core k i (λ z j. fields fs h j))
    expr (raw.unary q o e) h d = rewrap (raw.unary q o e) (peel d) (λ z k i. unary_core k i (λ z j. expr e h j))
    expr (raw.binary q o e f) h d = rewrap (raw.binary q o e f) (peel d) (λ z k i. binary_core k i (λ z j. expr e h.0 j) (λ z j. expr f h.1 j))
    expr (raw.and q e f) h d = rewrap (raw.and q e f) (peel d) (λ z k i. and_core k i (λ z j. expr e h.0 j) (λ z j. expr f h.1 j))
    expr (raw.or q e f) h d = rewrap (raw.or q e f) (peel d) (λ z k i. or_core k i (λ z j. expr e h.0 j) (λ z j. expr f h.1 j))
    expr (raw.index q e f) h d = rewrap (raw.index q e f) (peel d) (λ z k i. index_core k i (λ z j. expr e h.0 j) (λ z j. expr f h.1 j))
    expr (raw.comma q e f) h d = rewrap (raw.comma q e f) (peel d) (λ z k i. comma_core k i (λ z j. expr e h.0 j) (λ z j. expr f h.1 j))
    expr (raw.cond q e f g) h d = rewrap (raw.cond q e f g) (peel d) (λ z k i. cond_core k i (λ z j. expr e h.0 j) (λ z j. expr f h.1 j) (λ z j. expr g h.2 j))
    expr (raw.assign q o t e) h d = rewrap (raw.assign q o t e) (peel d) (λ z k i. assign_core k i (λ z j. target t h.0 j) (λ z j. expr e h.1 j))
    expr (raw.step q a b t) h d = rewrap (raw.step q a b t) (peel d) (λ z k i. step_core k i (λ z j. target t h j))
    expr (raw.member q e r m) h d = rewrap (raw.member q e r m) (peel d) (λ z k i. member_core k i (λ z j. expr e h j))
    expr (raw.call q e es) h d = rewrap (raw.call q e es) (peel d) (λ z k i. call_core k i (λ z j. expr e h.0 j) (λ z j. exprs es h.1 j))
    expr (raw.new q e es) h d = rewrap (raw.new q e es) (peel d) (λ z k i. new_core k i (λ z j. expr e h.0 j) (λ z j. exprs es h.1 j))
    expr (raw.cast q e) h k = absurd h

    target : {c : List Frame} {s : Target} (t : RawTarget) → PlainTarget t → TargetN v P Known c s (bare_target t) → TargetN v P Known c s t
    target (raw.to_var q m) h k = to_var_core k
    target (raw.to_member q e r m) h (n.to_member_n k _ d) = n.to_member_n (expr e h k) m d
    target (raw.to_index q e f) h (n.to_index_n k j) = n.to_index_n (expr e h.0 k) (expr f h.1 j)

    exprs : {c : List Frame} {s : Exprs} (t : RawExprs) → PlainExprs t → ExprsN v P Known c s (bare_exprs t) → ExprsN v P Known c s t
    exprs raw.no_exprs h n.no_exprs_n = n.no_exprs_n
    exprs (raw.more_exprs e es) h (n.more_exprs_n k j) = n.more_exprs_n (expr e h.0 k) (exprs es h.1 j)

    fields : {c : List Frame} {s : Fields} (t : RawFields) → PlainFields t → FieldsN v P Known c s (bare_fields t) → FieldsN v P Known c s t
    fields raw.no_fields h n.no_fields_n = n.no_fields_n
    fields (raw.more_fields q x e fs) h (n.more_fields_n y k j) = n.more_fields_n y (expr e h.0 k) (fields fs h.1 j)

    maybe : {c : List Frame} {s : Option Expr} (t : MaybeExpr) → PlainMaybe t → MaybeN v P Known c s (bare_maybe t) → MaybeN v P Known c s t
    maybe raw.no_expr h n.no_expr_n = n.no_expr_n
    maybe (raw.one_expr e) h (n.one_expr_n k) = n.one_expr_n (expr e h k)

    vars : {top : Bool} {d : ℕ} {c : List Frame} {s : List Declarator} (t : RawDeclarators) → PlainVars t → VarsN v P Known top d c s (bare_declarators t) → VarsN v P Known top d c s t
    vars raw.no_declarators h n.no_vars_n = n.no_vars_n
    vars (raw.more_declarators w e ds) h (n.more_vars_n _ o y d k j) = n.more_vars_n w o y d (maybe e h.0 k) (vars ds h.1 j)

    init : {top : Bool} {d : ℕ} {c : List Frame} {s : ForInit} (t : RawInit) → PlainInit t → InitN v P Known top d c s (bare_init t) → InitN v P Known top d c s t
    init raw.no_init h n.no_init_n = n.no_init_n
    init (raw.init_value e) h (n.init_value_n k) = n.init_value_n (expr e h k)
    init (raw.init_vars ds) h (n.init_vars_n k) = n.init_vars_n (vars ds h k)

    heading : {top : Bool} {d : ℕ} {c : List Frame} {s : ForTarget} (t : RawForTarget) → PlainHeading t → HeadingN v P Known top d c s (bare_for_target t) → HeadingN v P Known top d c s t
    heading (raw.in_target t) h (n.in_target_n k) = n.in_target_n (target t h k)
    heading (raw.in_declared w e) h (n.in_declared_n _ o y d k) = n.in_declared_n w o y d (maybe e h k)

    stmt : {top : Bool} {d : ℕ} {c : List Frame} {s : Stmt} (t : RawStmt) → PlainStmt t → StmtN v P Known top d c s (bare_stmt t) → StmtN v P Known top d c s t
    stmt (raw.simple q e) h (n.simple_n k) = n.simple_n (expr e h k)
    stmt (raw.vars q ds) h (n.vars_n k) = n.vars_n (vars ds h k)
    stmt (raw.fun_decl q w ps b) h (n.fun_decl_n _ o y d f s _ k j) = n.fun_decl_n w o y d f s ps (function_back None ps k) (stmts b h j)
    stmt (raw.if q e a b) h (n.if_n k j l) = n.if_n (expr e h.0 k) (stmts a h.1 j) (stmts b h.2 l)
    stmt (raw.while q e b) h (n.while_n k j) = n.while_n (expr e h.0 k) (stmts b h.1 j)
    stmt (raw.do_while q b e) h (n.do_while_n k j) = n.do_while_n (stmts b h.0 k) (expr e h.1 j)
    stmt (raw.for q i t u b) h (n.for_n k j l m) = n.for_n (init i h.0 k) (maybe t h.1 j) (maybe u h.2 l) (stmts b h.3 m)
    stmt (raw.for_in q t e b) h (n.for_in_n k j l) = n.for_in_n (heading t h.0 k) (expr e h.1 j) (stmts b h.2 l)
    stmt (raw.return q e) h (n.return_n k) = n.return_n (maybe e h k)
    stmt (raw.throw q e) h (n.throw_n k) = n.throw_n (expr e h k)
    stmt (raw.break q l) h n.break_n = n.break_n
    stmt (raw.continue q l) h n.continue_n = n.continue_n
    stmt (raw.label q l b) h (n.label_n k) = n.label_n (stmts b h k)
    stmt (raw.switch q e cs) h (n.switch_n k j) = n.switch_n (expr e h.0 k) (cases cs h.1 j)
    stmt (raw.try q b x f) h (n.try_n k j l) = n.try_n (stmts b h.0 k) (catch x h.1 j) (finally f h.2 l)

    pub stmts : {top : Bool} {d : ℕ} {c : List Frame} {s : Stmts} (t : RawStmts) → PlainStmts t → StmtsN v P Known top d c s (bare_stmts t) → StmtsN v P Known top d c s t
    stmts raw.no_stmts h d = d
    stmts (raw.more_stmts s ss) h d = repaid (raw.more_stmts s ss) (paid d) (λ z k i. more_core k i (λ z j. stmt s h.0 j) (λ z j. stmts ss h.1 j))

    catch : {top : Bool} {d : ℕ} {c : List Frame} {s : MaybeStmts} (t : RawCatch) → PlainCatch t → CatchN v P Known top d c s (bare_catch t) → CatchN v P Known top d c s t
    catch raw.no_catch h n.no_catch_n = n.no_catch_n
    catch (raw.caught w b) h (n.caught_n _ d k) = n.caught_n w d (stmts b h k)

    finally : {top : Bool} {d : ℕ} {c : List Frame} {s : MaybeStmts} (t : RawFinally) → PlainFinally t → FinallyN v P Known top d c s (bare_finally t) → FinallyN v P Known top d c s t
    finally raw.no_finally h n.no_finally_n = n.no_finally_n
    finally (raw.finally b) h (n.finally_n k) = n.finally_n (stmts b h k)

    cases : {top : Bool} {d : ℕ} {c : List Frame} {s : Cases} (t : RawCases) → PlainCases t → CasesN v P Known top d c s (bare_cases t) → CasesN v P Known top d c s t
    cases raw.no_cases h n.no_cases_n = n.no_cases_n
    cases (raw.more_cases e b cs) h (n.more_cases_n k j l) = n.more_cases_n (maybe e h.0 k) (stmts b h.1 j) (cases cs h.2 l)
