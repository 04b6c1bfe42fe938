-- A leaf stays as it is at each place.
use Rattle.std.proofs.Common.{◌≡◌, Bool, true}
use Rattle.cc_ast.specs.Syntax.{Expr, lit, var, this, fun}
use Rattle.cc_ast.specs.declared.tree.Ref.{Ref}
use Rattle.cc_tied.specs.Placed.{Place}
use Rattle.cc_fold.specs.Leaves.{is_leaf}
use Rattle.cc_fold.specs.Walk.{fold_expr}
use Rattle.cc_fold.proofs.Equations.{at-lit, at-var, at-this, at-fun}

pub leaf_stays : (built : Ref → Bool) (t : Bool) (q : Place) (e : Expr) → is_leaf e ≡ true → fold_expr built t q e ≡ e
unfolding is_leaf
leaf_stays built t q (lit i p) h = at-lit built t q i p
leaf_stays built t q (var i r) h = at-var built t q i r
leaf_stays built t q (this i) h = at-this built t q i
leaf_stays built t q (fun i f) h = at-fun built t q i f
leaf_stays built t q _ h = absurd (cc)
