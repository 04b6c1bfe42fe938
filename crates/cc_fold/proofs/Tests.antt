-- What a test of each literal comes to.
use Rattle.std.proofs.Common.{◌≡◌, refl, ap, ℕ, ◌<◌, ◌≤◌, Bool, false, List, Some, None}
use Rattle.std.specs.Option.{option_map}
use Rattle.std.specs.Prelude.{ℤ, unsigned_abs}
use Rattle.cc_ast.specs.Syntax.{lit, undefined, null, truth, whole, text}
use Rattle.cc_meaning.specs.Operators.{greatest_whole, truthy, truthy_prim}
use Rattle.cc_meaning.specs.Parts.{exact_prim}
use Rattle.cc_fold.specs.Fold.{literal_at}
use Rattle.cc_fold.specs.Literals.{tested}
use Rattle.cc_fold.proofs.Literals.{whole_exact, whole_past}

pub test_undefined : (n i : ℕ) → option_map tested (literal_at n (lit i undefined)) ≡ Some (record { price = n; is_true = false })
unfolding literal_at exact_prim truthy truthy_prim
test_undefined n i = refl

pub test_null : (n i : ℕ) → option_map tested (literal_at n (lit i null)) ≡ Some (record { price = n; is_true = false })
unfolding literal_at exact_prim truthy truthy_prim
test_null n i = refl

pub test_truth : (n i : ℕ) (b : Bool) → option_map tested (literal_at n (lit i (truth b))) ≡ Some (record { price = n; is_true = b })
unfolding literal_at exact_prim truthy truthy_prim
test_truth n i b = refl

pub test_text : (n i : ℕ) (t : List ℕ) → option_map tested (literal_at n (lit i (text t))) ≡ Some (record { price = n; is_true = truthy_prim (text t) })
unfolding literal_at exact_prim truthy
test_text n i t = refl

-- the site makes no difference
pub test_whole : (n i : ℕ) (z : ℤ) → option_map tested (literal_at n (lit i (whole z))) ≡ option_map tested (literal_at n (lit 0 (whole z)))
unfolding literal_at
test_whole n i z = refl

pub test_exact : (n : ℕ) (z : ℤ) → unsigned_abs z ≤ greatest_whole → option_map tested (literal_at n (lit 0 (whole z))) ≡ Some (record { price = n; is_true = truthy_prim (whole z) })
unfolding truthy
test_exact n z h = ap (option_map tested) (whole_exact n z h)

pub test_past : (n : ℕ) (z : ℤ) → greatest_whole < unsigned_abs z → option_map tested (literal_at n (lit 0 (whole z))) ≡ None
test_past n z h = ap (option_map tested) (whole_past n z h)

pub ruleset tests = (test_undefined, test_null, test_truth, test_text, test_whole)
