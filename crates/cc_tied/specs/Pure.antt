-- Expressions whose run shows nothing and changes nothing that was there: literals, variables, `this`,
-- functions, lists and objects, operators and casts, each of pure parts. No calls, accesses, assignments or prices.
use Rattle.std.specs.Prelude.{ℕ}
use Rattle.cc_ast.specs.Syntax.{Prim, Expr, lit, var, this, fun, list, object, unary, binary, and, or, cond, comma, cast, Exprs, no_exprs, more_exprs, Fields, no_fields, more_fields}
use Rattle.cc_ast.specs.declared.operator.BinOp.{BinOp}
use Rattle.cc_ast.specs.declared.operator.UnOp.{UnOp}
use Rattle.cc_ast.specs.declared.tree.Ref.{Ref}
use Rattle.cc_ast.specs.declared.tree.Key.{Key}

mutual
  pub data IsPure : Expr → Type 0 where
    pure_lit : {i : ℕ} {p : Prim} → IsPure (lit i p)
    pure_var : {i : ℕ} {r : Ref} → IsPure (var i r)
    pure_this : {i : ℕ} → IsPure (this i)
    pure_fun : {i f : ℕ} → IsPure (fun i f)
    pure_list : {i : ℕ} {es : Exprs} → ArePure es → IsPure (list i es)
    pure_object : {i : ℕ} {fs : Fields} → HasPureFields fs → IsPure (object i fs)
    pure_unary : {i : ℕ} {op : UnOp} {e : Expr} → IsPure e → IsPure (unary i op e)
    pure_binary : {i : ℕ} {op : BinOp} {a b : Expr} → IsPure a → IsPure b → IsPure (binary i op a b)
    pure_and : {i : ℕ} {a b : Expr} → IsPure a → IsPure b → IsPure (and i a b)
    pure_or : {i : ℕ} {a b : Expr} → IsPure a → IsPure b → IsPure (or i a b)
    pure_cond : {i : ℕ} {e a b : Expr} → IsPure e → IsPure a → IsPure b → IsPure (cond i e a b)
    pure_comma : {i : ℕ} {a b : Expr} → IsPure a → IsPure b → IsPure (comma i a b)
    pure_cast : {i d : ℕ} {e : Expr} → IsPure e → IsPure (cast i d e)

  pub data ArePure : Exprs → Type 0 where
    no_pure : ArePure no_exprs
    more_pure : {e : Expr} {es : Exprs} → IsPure e → ArePure es → ArePure (more_exprs e es)

  pub data HasPureFields : Fields → Type 0 where
    no_pure_fields : HasPureFields no_fields
    more_pure_fields : {k : Key} {e : Expr} {fs : Fields} → IsPure e → HasPureFields fs → HasPureFields (more_fields k e fs)
