-- When a whole number is a literal.
use Rattle.std.proofs.Common.{◌≡◌, refl, ℕ, ◌<◌, ◌≤◌, Some, None}
use Rattle.std.specs.Prelude.{ℤ, unsigned_abs}
use Rattle.std.proofs.lemmas.Bool.{le-leb, lt-leb}
use Rattle.cc_ast.specs.Syntax.{lit, whole}
use Rattle.cc_meaning.specs.Values.{prim}
use Rattle.cc_meaning.specs.Operators.{greatest_whole}
use Rattle.cc_meaning.specs.Parts.{exact_prim}
use Rattle.cc_fold.specs.Fold.{literal_at}

pub whole_exact : (n : ℕ) (z : ℤ) → unsigned_abs z ≤ greatest_whole → literal_at n (lit 0 (whole z)) ≡ Some (record { price = n; value = prim (whole z) })
unfolding literal_at exact_prim
whole_exact n z h = rw (le-leb (unsigned_abs z) greatest_whole h) refl

pub whole_past : (n : ℕ) (z : ℤ) → greatest_whole < unsigned_abs z → literal_at n (lit 0 (whole z)) ≡ None
unfolding literal_at exact_prim
whole_past n z h = rw (lt-leb (unsigned_abs z) greatest_whole h) refl
