-- Where an expression stands, and what may take its place there.
use Rattle.std.specs.Prelude.{Bool, true, false, not, ◌&&◌, ◌||◌}
use Rattle.cc_ast.specs.Syntax.{Expr, var, fun, member, index, cast, tick}
use Rattle.cc_ast.specs.declared.operator.UnOp.{UnOp}
use Rattle.cc_ast.specs.declared.operator.UnOp.TheVariants.{Delete}
use Rattle.cc_ast.specs.declared.tree.Ref.{Ref}
use Rattle.cc_meaning.specs.Monad.{pick}

-- a value; the right side of an assignment; a callee; the operand of `delete`; what stands before a
-- dot or a bracket
pub data Place : Type 0 where
  a_value an_assigned a_callee a_deleted an_object : Place

-- ---- shapes, also under casts and price marks

unfoldable pub accesses : Expr → Bool
accesses (member i e p) = true
accesses (index i e k) = true
accesses (cast i d e) = accesses e
accesses (tick i p e) = accesses e
accesses _ = false

unfoldable pub variable : Expr → Bool
variable (var i r) = true
variable (cast i d e) = variable e
variable (tick i p e) = variable e
variable _ = false

unfoldable pub functions : Expr → Bool
functions (fun i f) = true
functions (cast i d e) = functions e
functions (tick i p e) = functions e
functions _ = false

module _ (built : Ref → Bool) where
  -- a variable that stands for what is built in
  unfoldable pub builds : Expr → Bool
  builds (var i r) = built r
  builds (cast i d e) = builds e
  builds (tick i p e) = builds e
  builds _ = false

  -- an expression that may reach more than a value (8.7)
  unfoldable pub reaches : Expr → Bool
  unfolding accesses builds
  reaches e = accesses e || builds e

  -- Whether an expression is left as it is, within the target of an assignment (t) or elsewhere, since
  -- what it would become does something else where it stands: as a callee or as the operand of `delete`
  -- an access where none stood; as the operand of `delete` a variable; as the right side of an
  -- assignment a function where none stood; and within a target, before a dot or a bracket, a variable
  -- or an access where neither stood.
  unfoldable pub keeps : (t : Bool) → Place → (before after : Expr) → Bool
  unfolding reaches accesses variable functions builds
  keeps t a_value before after = false
  keeps t an_assigned before after = functions after && not (functions before)
  keeps t a_callee before after = reaches after && not (reaches before)
  keeps t a_deleted before after = (reaches after && not (reaches before)) || variable after
  keeps t an_object before after = builds after || (t && ((variable after || accesses after) && not (variable before || accesses before)))

  unfoldable pub guard : (t : Bool) → Place → (before after : Expr) → Expr
  unfolding keeps
  guard t q before after = pick (keeps t q before after) before after

-- where the operand of a unary operator stands
unfoldable pub operand : UnOp → Place
operand Delete = a_deleted
operand _ = a_value
