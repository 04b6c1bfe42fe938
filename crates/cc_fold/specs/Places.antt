-- The place and the shape for which ones of src/ stand, and what may stand where an old node stood that
-- is neither an access, nor a variable, nor a function.
use Rattle.std.specs.Prelude.{Bool, true, false, ◌||◌}
use Rattle.cc_ast.specs.Syntax.{Expr, var, fun, member, index, cast, tick}
use Rattle.cc_ast.specs.declared.tree.Ref.{Ref}
use Rattle.cc_tied.specs.Placed as P
use Rattle.cc_fold.specs.declared.place.Place.{Place}
use Rattle.cc_fold.specs.declared.place.Place.TheVariants.{Value, Assigned, Callee, Deleted, Object}
use Rattle.cc_fold.specs.declared.place.Shape.{Shape}
use Rattle.cc_fold.specs.declared.place.Shape.TheVariants.{Access, Variable, Function, Other}

abbrev pub place_of : Place → P.Place
place_of Value = P.a_value
place_of Assigned = P.an_assigned
place_of Callee = P.a_callee
place_of Deleted = P.a_deleted
place_of Object = P.an_object

unfoldable pub shape_of : Expr → Shape
shape_of (var i r) = Variable r
shape_of (fun i f) = Function
shape_of (member i e p) = Access
shape_of (index i e k) = Access
shape_of (cast i d e) = shape_of e
shape_of (tick i n e) = shape_of e
shape_of _ = Other

unfoldable pub displaces : (built : Ref → Bool) → (in_target : Bool) → P.Place → Shape → Bool
displaces built t P.a_callee Access = true
displaces built t P.a_deleted Access = true
displaces built t P.an_object Access = t
displaces built t P.a_callee (Variable r) = built r
displaces built t P.a_deleted (Variable r) = true
displaces built t P.an_object (Variable r) = built r || t
displaces built t P.an_assigned Function = true
displaces built t _ _ = false
