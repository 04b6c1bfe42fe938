-- What an operator gives on literals may stand anywhere.
use Rattle.std.proofs.Common.{◌≡◌, refl, sym, ap, ◌∙◌, ℕ, ◌+◌, ◌^◌, Bool, true, false, Option, Some, None, unwrap_or}
use Rattle.std.specs.Prelude.{nat_lt, if◌then◌else◌}
use Rattle.cc_ast.specs.Syntax.{Prim, Expr, lit, unary, binary}
use Rattle.cc_ast.specs.declared.operator.BinOp.{BinOp}
use Rattle.cc_ast.specs.declared.operator.BinOp.TheVariants.{Instance, Has}
use Rattle.cc_ast.specs.declared.operator.UnOp.{UnOp}
use Rattle.cc_ast.specs.declared.operator.UnOp.TheVariants.{Void, Delete}
use Rattle.cc_ast.specs.declared.tree.Ref.{Ref}
use Rattle.cc_meaning.specs.Monad.{pick}
use Rattle.cc_meaning.specs.Values.{prim, obj, out}
use Rattle.cc_meaning.specs.Operators.{Outcome, gives, breaks, unary_of, binary_of}
use Rattle.cc_tied.specs.Placed.{Place, guard}
use Rattle.cc_fold.specs.declared.place.Shape.TheVariants.{Other}
use Rattle.cc_fold.specs.Fold.{Literal, literal, price_of, marked, charged, computed, computed_of_one, computed_of_two, fold_unary, fold_binary}
use Rattle.cc_fold.specs.Places.{shape_of, displaces}
use Rattle.cc_fold.proofs.Shapes.{guarded}
use Rattle.cc_fold.proofs.Choices.{stays, marked_shape, displaces_other}

lit_shape : (i : ℕ) (p : Prim) → shape_of (lit i p) ≡ Other
unfolding shape_of
lit_shape i p = refl

charged_shape : (i n : ℕ) (p : Prim) (r : Expr) → charged i n (lit i p) ≡ Some r → shape_of r ≡ Other
unfolding charged
charged_shape i n p r = by_test (nat_lt (n + price_of (lit i p)) (2 ^ 64))
  where
    by_test : (b : Bool) → (if b then Some (marked i n (lit i p)) else None) ≡ Some r → shape_of r ≡ Other
    by_test true h = let e : marked i n (lit i p) ≡ r = cc in sym (ap shape_of e) ∙ marked_shape i n (lit i p) ∙ lit_shape i p
    by_test false h = absurd (cc)

computed_shape : (i n : ℕ) (o : Outcome) (r : Expr) → computed i n o ≡ Some r → shape_of r ≡ Other
unfolding computed
computed_shape i n (gives (prim p)) r h = charged_shape i n p r h
computed_shape i n (gives (obj m)) r h = absurd (cc)
computed_shape i n (gives (out m)) r h = absurd (cc)
computed_shape i n (breaks m) r h = absurd (cc)

one_shape : (i : ℕ) (op : UnOp) (a : Option Literal) (r : Expr) → computed_of_one i op a ≡ Some r → shape_of r ≡ Other
unfolding computed_of_one
one_shape i op (Some a) r h = computed_shape i a.price (unary_of op a.value) r h
one_shape i op None r h = absurd (cc)

two_shape : (i : ℕ) (op : BinOp) (a b : Option Literal) (r : Expr) → computed_of_two i op a b ≡ Some r → shape_of r ≡ Other
unfolding computed_of_two
two_shape i op (Some a) (Some b) r h = computed_shape i (a.price + b.price) (binary_of op a.value b.value) r h
two_shape i op (Some a) None r h = absurd (cc)
two_shape i op None b r h = absurd (cc)

module _ (built : Ref → Bool) (t : Bool) (q : Place) where
  made_stands : (old : Expr) (o : Option Expr) → shape_of old ≡ Other → ((r : Expr) → o ≡ Some r → shape_of r ≡ Other) → guard built t q old (unwrap_or o old) ≡ unwrap_or o old
  made_stands old None h k = stays built t q old
  made_stands old (Some r) h k = guarded built t q old r h ∙ ap (λ z. pick z old r) (ap (displaces built t q) (k r refl) ∙ displaces_other built t q q)

  pub unary_stands : (i : ℕ) (op : UnOp) (e : Expr) → guard built t q (unary i op e) (fold_unary i op e) ≡ fold_unary i op e
  unfolding fold_unary shape_of
  unary_stands i Void e = stays built t q (unary i Void e)
  unary_stands i Delete e = stays built t q (unary i Delete e)
  unary_stands i op e = made_stands (unary i op e) (computed_of_one i op (literal e)) refl (one_shape i op (literal e))

  pub binary_stands : (i : ℕ) (op : BinOp) (a b : Expr) → guard built t q (binary i op a b) (fold_binary i op a b) ≡ fold_binary i op a b
  unfolding fold_binary shape_of
  binary_stands i Instance a b = stays built t q (binary i Instance a b)
  binary_stands i Has a b = stays built t q (binary i Has a b)
  binary_stands i op a b = made_stands (binary i op a b) (computed_of_two i op (literal a) (literal b)) refl (two_shape i op (literal a) (literal b))
