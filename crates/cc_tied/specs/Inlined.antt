-- A body with arguments in place of its parameters.
use Rattle.std.specs.Prelude.{ℕ, zero, suc, ◌<◌}
use Rattle.cc_ast.specs.Syntax.{Prim, undefined, Expr, lit, var, this, fun, list, object, unary, binary, and, or, cond, assign, step, member, index, call, new, comma, cast, tick, Exprs, no_exprs, more_exprs, Fields, no_fields, more_fields}
use Rattle.cc_ast.specs.declared.operator.BinOp.{BinOp}
use Rattle.cc_ast.specs.declared.operator.UnOp.{UnOp}
use Rattle.cc_ast.specs.declared.tree.Key.{Key}
use Rattle.cc_ast.specs.declared.tree.Ref.{Ref}

-- the argument at a place, or undefined at this site
unfoldable pub argument : (site : ℕ) → Exprs → ℕ → Expr
argument i no_exprs n = lit i undefined
argument i (more_exprs e es) zero = e
argument i (more_exprs e es) (suc n) = argument i es n

unfoldable pub in_place : Exprs → ℕ → Ref → Expr
unfolding argument
in_place es i (Ref.Frame zero n) = argument i es n
in_place es i (Ref.Frame (suc u) n) = var i (Ref.Frame (suc u) n)
in_place es i (Ref.Global n) = var i (Ref.Global n)

module _ (args : Exprs) where
  unfoldable mutual
    unfolding in_place

    pub copy : Expr → Expr
    copy (lit i p) = lit i p
    copy (var i r) = in_place args i r
    copy (this i) = this i
    copy (fun i f) = fun i f
    copy (list i es) = list i (copy_all es)
    copy (object i fs) = object i (copy_fields fs)
    copy (unary i op e) = unary i op (copy e)
    copy (binary i op a b) = binary i op (copy a) (copy b)
    copy (and i a b) = and i (copy a) (copy b)
    copy (or i a b) = or i (copy a) (copy b)
    copy (cond i e a b) = cond i (copy e) (copy a) (copy b)
    copy (assign i op u e) = assign i op u e
    copy (step i up prefix u) = step i up prefix u
    copy (member i e p) = member i (copy e) p
    copy (index i e k) = index i (copy e) (copy k)
    copy (call i f es) = call i (copy f) (copy_all es)
    copy (new i f es) = new i (copy f) (copy_all es)
    copy (comma i a b) = comma i (copy a) (copy b)
    copy (cast i d e) = cast i d (copy e)
    copy (tick i n e) = tick i n (copy e)

    pub copy_all : Exprs → Exprs
    copy_all no_exprs = no_exprs
    copy_all (more_exprs e es) = more_exprs (copy e) (copy_all es)

    pub copy_fields : Fields → Fields
    copy_fields no_fields = no_fields
    copy_fields (more_fields k e fs) = more_fields k (copy e) (copy_fields fs)

-- An expression that may be copied so: it reads its own parameters, of which there are so many, and
-- globals of a kind; no `this`, no function, no assignment, no step.
module _ (params : ℕ) (Reads : (global : ℕ) → Type 0) where
  mutual
    pub data IsCopyable : Expr → Type 0 where
      copy_lit : {i : ℕ} {p : Prim} → IsCopyable (lit i p)
      copy_param : {i n : ℕ} → n < params → IsCopyable (var i (Ref.Frame 0 n))
      copy_global : {i n : ℕ} → Reads n → IsCopyable (var i (Ref.Global n))
      copy_list : {i : ℕ} {es : Exprs} → AreCopyable es → IsCopyable (list i es)
      copy_object : {i : ℕ} {fs : Fields} → HasCopyableFields fs → IsCopyable (object i fs)
      copy_unary : {i : ℕ} {op : UnOp} {e : Expr} → IsCopyable e → IsCopyable (unary i op e)
      copy_binary : {i : ℕ} {op : BinOp} {a b : Expr} → IsCopyable a → IsCopyable b → IsCopyable (binary i op a b)
      copy_and : {i : ℕ} {a b : Expr} → IsCopyable a → IsCopyable b → IsCopyable (and i a b)
      copy_or : {i : ℕ} {a b : Expr} → IsCopyable a → IsCopyable b → IsCopyable (or i a b)
      copy_cond : {i : ℕ} {e a b : Expr} → IsCopyable e → IsCopyable a → IsCopyable b → IsCopyable (cond i e a b)
      copy_member : {i p : ℕ} {e : Expr} → IsCopyable e → IsCopyable (member i e p)
      copy_index : {i : ℕ} {e k : Expr} → IsCopyable e → IsCopyable k → IsCopyable (index i e k)
      copy_call : {i : ℕ} {f : Expr} {es : Exprs} → IsCopyable f → AreCopyable es → IsCopyable (call i f es)
      copy_new : {i : ℕ} {f : Expr} {es : Exprs} → IsCopyable f → AreCopyable es → IsCopyable (new i f es)
      copy_comma : {i : ℕ} {a b : Expr} → IsCopyable a → IsCopyable b → IsCopyable (comma i a b)
      copy_cast : {i d : ℕ} {e : Expr} → IsCopyable e → IsCopyable (cast i d e)
      copy_tick : {i n : ℕ} {e : Expr} → IsCopyable e → IsCopyable (tick i n e)

    pub data AreCopyable : Exprs → Type 0 where
      copy_none : AreCopyable no_exprs
      copy_more : {e : Expr} {es : Exprs} → IsCopyable e → AreCopyable es → AreCopyable (more_exprs e es)

    pub data HasCopyableFields : Fields → Type 0 where
      copy_no_fields : HasCopyableFields no_fields
      copy_more_fields : {k : Key} {e : Expr} {fs : Fields} → IsCopyable e → HasCopyableFields fs → HasCopyableFields (more_fields k e fs)
