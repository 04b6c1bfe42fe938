-- Which raw trees stand for a program's trees doesn't rest on places: a tree without them does too.
use Rattle.std.specs.Prelude.{ℕ, Bool, List, Option}
use Rattle.std.proofs.Common.{◌∙◌}
use Rattle.cc_ast.specs.Syntax.{Expr, Target, Exprs, Fields, Declarator, ForInit, ForTarget, Stmt, Stmts, MaybeStmts, Cases, Scope, Program}
use Rattle.cc_grammar.specs.RawTree.{Named, RawExpr, RawTarget, RawExprs, MaybeExpr, RawFields, RawDeclarators, RawInit, RawForTarget, RawStmt, RawStmts, RawCatch, RawFinally, RawCases}
use Rattle.cc_printer.specs.Bare.{bare, bare_named, bare_names, bare_own, bare_target, bare_exprs, bare_maybe, bare_fields, bare_declarators, bare_init, bare_for_target, bare_stmt, bare_stmts, bare_catch, bare_finally, bare_cases}
use Rattle.cc_scope.specs.Written as n
use Rattle.cc_scope.specs.Written.{Naming, Frame, OwnN, FunN, ExprN, TargetN, ExprsN, FieldsN, MaybeN, VarsN, InitN, HeadingN, StmtN, StmtsN, CatchN, FinallyN, CasesN}
use Rattle.cc_written.proofs.AnyPlaces.{named_bare}

module _ (v : Naming) (P : Program) (Known : ℕ → Type 0) where
  owned : {c : List Frame} {b : Bool} {o : Option Named} → OwnN v P Known c b o → OwnN v P Known c b (bare_own o)
  owned n.no_own = n.no_own
  owned (n.has_own w e) = n.has_own (bare_named w) e

  function : {c : List Frame} {f : ℕ} {s : Scope} {o : Option Named} (ps : List Named) → FunN v P Known c f s o ps → FunN v P Known c f s (bare_own o) (bare_names ps)
  function ps k = record { stands = k.stands; own_name = owned k.own_name; params = named_bare ps ∙ k.params; small = k.small }

  mutual
    expr : {c : List Frame} {s : Expr} {t : RawExpr} → ExprN v P Known c s t → ExprN v P Known c s (bare t)
    expr n.lit_n = n.lit_n
    expr (n.var_n r y) = n.var_n r y
    expr n.this_n = n.this_n
    expr (n.fun_n f s o ps k j) = n.fun_n f s (bare_own o) (bare_names ps) (function ps k) (stmts j)
    expr (n.list_n k) = n.list_n (exprs k)
    expr (n.object_n k) = n.object_n (fields k)
    expr (n.unary_n k) = n.unary_n (expr k)
    expr (n.binary_n k j) = n.binary_n (expr k) (expr j)
    expr (n.and_n k j) = n.and_n (expr k) (expr j)
    expr (n.or_n k j) = n.or_n (expr k) (expr j)
    expr (n.index_n k j) = n.index_n (expr k) (expr j)
    expr (n.comma_n k j) = n.comma_n (expr k) (expr j)
    expr (n.cond_n k j l) = n.cond_n (expr k) (expr j) (expr l)
    expr (n.assign_n k j) = n.assign_n (target k) (expr j)
    expr (n.step_n k) = n.step_n (target k)
    expr (n.member_n k m d) = n.member_n (expr k) m d
    expr (n.call_n k j) = n.call_n (expr k) (exprs j)
    expr (n.new_n k j) = n.new_n (expr k) (exprs j)
    expr (n.cast_n k) = n.cast_n (expr k)
    expr (n.tick_n k) = n.tick_n (expr k)
    expr (n.minus_n ok k) = n.minus_n ok (expr k)
    expr (n.void_n k) = n.void_n (expr k)

    target : {c : List Frame} {s : Target} {t : RawTarget} → TargetN v P Known c s t → TargetN v P Known c s (bare_target t)
    target (n.to_var_n r y) = n.to_var_n r y
    target (n.to_member_n k m d) = n.to_member_n (expr k) m d
    target (n.to_index_n k j) = n.to_index_n (expr k) (expr j)

    exprs : {c : List Frame} {s : Exprs} {t : RawExprs} → ExprsN v P Known c s t → ExprsN v P Known c s (bare_exprs t)
    exprs n.no_exprs_n = n.no_exprs_n
    exprs (n.more_exprs_n k j) = n.more_exprs_n (expr k) (exprs j)

    fields : {c : List Frame} {s : Fields} {t : RawFields} → FieldsN v P Known c s t → FieldsN v P Known c s (bare_fields t)
    fields n.no_fields_n = n.no_fields_n
    fields (n.more_fields_n y k j) = n.more_fields_n y (expr k) (fields j)

    maybe : {c : List Frame} {s : Option Expr} {t : MaybeExpr} → MaybeN v P Known c s t → MaybeN v P Known c s (bare_maybe t)
    maybe n.no_expr_n = n.no_expr_n
    maybe (n.one_expr_n k) = n.one_expr_n (expr k)

    vars : {top : Bool} {d : ℕ} {c : List Frame} {s : List Declarator} {t : RawDeclarators} → VarsN v P Known top d c s t → VarsN v P Known top d c s (bare_declarators t)
    vars n.no_vars_n = n.no_vars_n
    vars (n.more_vars_n w o y e k j) = n.more_vars_n (bare_named w) o y e (maybe k) (vars j)

    init : {top : Bool} {d : ℕ} {c : List Frame} {s : ForInit} {t : RawInit} → InitN v P Known top d c s t → InitN v P Known top d c s (bare_init t)
    init n.no_init_n = n.no_init_n
    init (n.init_value_n k) = n.init_value_n (expr k)
    init (n.init_vars_n k) = n.init_vars_n (vars k)

    heading : {top : Bool} {d : ℕ} {c : List Frame} {s : ForTarget} {t : RawForTarget} → HeadingN v P Known top d c s t → HeadingN v P Known top d c s (bare_for_target t)
    heading (n.in_target_n k) = n.in_target_n (target k)
    heading (n.in_declared_n w o y e k) = n.in_declared_n (bare_named w) o y e (maybe k)

    stmt : {top : Bool} {d : ℕ} {c : List Frame} {s : Stmt} {t : RawStmt} → StmtN v P Known top d c s t → StmtN v P Known top d c s (bare_stmt t)
    stmt (n.simple_n k) = n.simple_n (expr k)
    stmt (n.vars_n k) = n.vars_n (vars k)
    stmt (n.fun_decl_n w o y e f s ps k j) = n.fun_decl_n (bare_named w) o y e f s (bare_names ps) (function ps k) (stmts j)
    stmt (n.if_n k j l) = n.if_n (expr k) (stmts j) (stmts l)
    stmt (n.while_n k j) = n.while_n (expr k) (stmts j)
    stmt (n.do_while_n k j) = n.do_while_n (stmts k) (expr j)
    stmt (n.for_n k j l m) = n.for_n (init k) (maybe j) (maybe l) (stmts m)
    stmt (n.for_in_n k j l) = n.for_in_n (heading k) (expr j) (stmts l)
    stmt (n.return_n k) = n.return_n (maybe k)
    stmt (n.throw_n k) = n.throw_n (expr k)
    stmt n.break_n = n.break_n
    stmt n.continue_n = n.continue_n
    stmt (n.label_n k) = n.label_n (stmts k)
    stmt (n.switch_n k j) = n.switch_n (expr k) (cases j)
    stmt (n.try_n k j l) = n.try_n (stmts k) (catch j) (finally l)

    pub stmts : {top : Bool} {d : ℕ} {c : List Frame} {s : Stmts} {t : RawStmts} → StmtsN v P Known top d c s t → StmtsN v P Known top d c s (bare_stmts t)
    stmts n.no_stmts_n = n.no_stmts_n
    stmts (n.more_stmts_n k j) = n.more_stmts_n (stmt k) (stmts j)
    stmts (n.pay_n k) = n.pay_n (stmts k)

    catch : {top : Bool} {d : ℕ} {c : List Frame} {s : MaybeStmts} {t : RawCatch} → CatchN v P Known top d c s t → CatchN v P Known top d c s (bare_catch t)
    catch n.no_catch_n = n.no_catch_n
    catch (n.caught_n w e k) = n.caught_n (bare_named w) e (stmts k)

    finally : {top : Bool} {d : ℕ} {c : List Frame} {s : MaybeStmts} {t : RawFinally} → FinallyN v P Known top d c s t → FinallyN v P Known top d c s (bare_finally t)
    finally n.no_finally_n = n.no_finally_n
    finally (n.finally_n k) = n.finally_n (stmts k)

    cases : {top : Bool} {d : ℕ} {c : List Frame} {s : Cases} {t : RawCases} → CasesN v P Known top d c s t → CasesN v P Known top d c s (bare_cases t)
    cases n.no_cases_n = n.no_cases_n
    cases (n.more_cases_n k j l) = n.more_cases_n (maybe k) (stmts j) (cases l)
