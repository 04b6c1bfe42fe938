-- What an expression with a further price is.
use Rattle.std.proofs.Common.{◌≡◌, ◌≢◌, refl, ℕ, ◌+◌, ◌^◌, ◌<◌, ◌≤◌, Some, None}
use Rattle.std.proofs.lemmas.Bool.{ne_eqb, lt-ltb, le-ltb}
use Rattle.cc_ast.specs.Syntax.{Expr, tick}
use Rattle.cc_fold.specs.Fold.{price_of, unmarked, marked, charged}

pub marked_nothing : (i n : ℕ) (e : Expr) → n ≡ 0 → marked i n e ≡ e
unfolding marked
marked_nothing i n e h = rw h refl

pub marked_more : (i n m : ℕ) (e : Expr) → n ≢ 0 → m ≡ n + price_of e → marked i n e ≡ tick i m (unmarked e)
unfolding marked
marked_more i n m e h q = rw (ne_eqb n 0 h, ← q) refl

pub charged_fits : (i n : ℕ) (e : Expr) → n + price_of e < 2 ^ 64 → charged i n e ≡ Some (marked i n e)
unfolding charged
charged_fits i n e l = rw (lt-ltb (n + price_of e) (2 ^ 64) l) refl

pub charged_past : (i n : ℕ) (e : Expr) → 2 ^ 64 ≤ n + price_of e → charged i n e ≡ None
unfolding charged
charged_past i n e l = rw (le-ltb (n + price_of e) (2 ^ 64) l) refl
