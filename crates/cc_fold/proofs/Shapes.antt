-- Shapes, as what the rewriting asks of an expression.
use Rattle.std.proofs.Common.{◌≡◌, refl, ap, ◌∙◌, Bool, true, false}
use Rattle.std.specs.Prelude.{◌||◌, ◌&&◌, not}
use Rattle.cc_ast.specs.Syntax.{Expr, cast, tick}
use Rattle.cc_ast.specs.declared.operator.UnOp.{UnOp}
use Rattle.cc_ast.specs.declared.operator.UnOp.TheVariants.{Delete}
use Rattle.cc_ast.specs.declared.tree.Ref.{Ref}
use Rattle.cc_meaning.specs.Monad.{pick}
use Rattle.cc_tied.specs.Placed.{Place, a_value, an_assigned, a_callee, a_deleted, an_object, accesses, variable, functions, builds, reaches, keeps, guard, operand}
use Rattle.cc_fold.specs.declared.place.Shape.{Shape}
use Rattle.cc_fold.specs.declared.place.Shape.TheVariants.{Access, Variable, Function, Other}
use Rattle.cc_fold.specs.Places.{shape_of, displaces}

pub operand_other : (op : UnOp) → (op ≡ Delete → ⊥) → operand op ≡ a_value
unfolding operand
operand_other Delete h = absurd (h refl)
operand_other op h = refl

-- ---- what the rewriting asks, by shape

is_access : Shape → Bool
is_access Access = true
is_access (Variable r) = false
is_access Function = false
is_access Other = false

is_variable : Shape → Bool
is_variable Access = false
is_variable (Variable r) = true
is_variable Function = false
is_variable Other = false

is_function : Shape → Bool
is_function Access = false
is_function (Variable r) = false
is_function Function = true
is_function Other = false

accesses_by : (e : Expr) → accesses e ≡ is_access (shape_of e)
unfolding accesses is_access shape_of
accesses_by (cast i d e) = accesses_by e
accesses_by (tick i n e) = accesses_by e
accesses_by _ = refl

variable_by : (e : Expr) → variable e ≡ is_variable (shape_of e)
unfolding variable is_variable shape_of
variable_by (cast i d e) = variable_by e
variable_by (tick i n e) = variable_by e
variable_by _ = refl

functions_by : (e : Expr) → functions e ≡ is_function (shape_of e)
unfolding functions is_function shape_of
functions_by (cast i d e) = functions_by e
functions_by (tick i n e) = functions_by e
functions_by _ = refl

module _ (built : Ref → Bool) where
  is_built : Shape → Bool
  is_built Access = false
  is_built (Variable r) = built r
  is_built Function = false
  is_built Other = false

  builds_by : (e : Expr) → builds built e ≡ is_built (shape_of e)
  unfolding builds is_built shape_of
  builds_by (cast i d e) = builds_by e
  builds_by (tick i n e) = builds_by e
  builds_by _ = refl

  -- what is kept, where both are known by their shapes
  keeps_by : (t : Bool) → Place → (before after : Shape) → Bool
  keeps_by t a_value b s = false
  keeps_by t an_assigned b s = is_function s && not (is_function b)
  keeps_by t a_callee b s = (is_access s || is_built s) && not (is_access b || is_built b)
  keeps_by t a_deleted b s = ((is_access s || is_built s) && not (is_access b || is_built b)) || is_variable s
  keeps_by t an_object b s = is_built s || (t && ((is_variable s || is_access s) && not (is_variable b || is_access b)))

  keeps_shapes : (t : Bool) (q : Place) (before after : Expr) → keeps built t q before after ≡ keeps_by t q (shape_of before) (shape_of after)
  unfolding keeps reaches keeps_by
  keeps_shapes t a_value b e = refl
  keeps_shapes t an_assigned b e = rw (functions_by e, functions_by b) refl
  keeps_shapes t a_callee b e = rw (accesses_by e, builds_by e, accesses_by b, builds_by b) refl
  keeps_shapes t a_deleted b e = rw (accesses_by e, builds_by e, accesses_by b, builds_by b, variable_by e) refl
  keeps_shapes t an_object b e = rw (builds_by e, variable_by e, accesses_by e, variable_by b, accesses_by b) refl

  displaced : (t : Bool) (q : Place) (s : Shape) → keeps_by t q Other s ≡ displaces built t q s
  unfolding keeps_by displaces is_access is_variable is_function is_built
  displaced t a_value Access = refl
  displaced t a_value (Variable r) = refl
  displaced t a_value Function = refl
  displaced t a_value Other = refl
  displaced t an_assigned Access = refl
  displaced t an_assigned (Variable r) = refl
  displaced t an_assigned Function = refl
  displaced t an_assigned Other = refl
  displaced t a_callee Access = refl
  displaced t a_callee (Variable r) = both (built r)
    where
      both : (b : Bool) → (false || b) && not (false || false) ≡ b
      both true = refl
      both false = refl
  displaced t a_callee Function = refl
  displaced t a_callee Other = refl
  displaced t a_deleted Access = refl
  displaced t a_deleted (Variable r) = both (built r)
    where
      both : (b : Bool) → ((false || b) && not (false || false)) || true ≡ true
      both true = refl
      both false = refl
  displaced t a_deleted Function = refl
  displaced t a_deleted Other = refl
  displaced true an_object Access = refl
  displaced false an_object Access = refl
  displaced true an_object (Variable r) = refl
  displaced false an_object (Variable r) = refl
  displaced true an_object Function = refl
  displaced false an_object Function = refl
  displaced true an_object Other = refl
  displaced false an_object Other = refl

  -- the guard of a node that has no shape of its own
  pub guarded : (t : Bool) (q : Place) (before after : Expr) → shape_of before ≡ Other → guard built t q before after ≡ pick (displaces built t q (shape_of after)) before after
  unfolding guard
  guarded t q before after h = ap (λ z. pick z before after) (keeps_shapes t q before after ∙ ap (λ z. keeps_by t q z (shape_of after)) h ∙ displaced t q (shape_of after))
