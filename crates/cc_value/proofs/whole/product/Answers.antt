use Rattle.std.proofs.Common.{◌≡◌, ◌<◌, ◌*◌, ◌∙◌, ap, unsigned_abs, arith, ℕ, subst}
use Rattle.std.proofs.lemmas.Int.{to_z-of_z}
use Rattle.std.specs.Int.{w64}
use Rattle.cc_meaning.specs.Operators.{signs_differ, with_sign, breaks}
use Rattle.cc_value.proofs.Numbers.{sign-past}
use Rattle.cc_value.proofs.whole.product.Goals as goal

pub returns-in-None : goal.returns-in-None
returns-in-None c =
    let a : c.unsigned_abs.result ≡ unsigned_abs c.args.a = c.unsigned_abs.ensures.value ∙ ap unsigned_abs (to_z-of_z w64 c.args.a c.ranges.a) in
    let b : c.unsigned_abs-2.result ≡ unsigned_abs c.args.b = c.unsigned_abs-2.ensures.value ∙ ap unsigned_abs (to_z-of_z w64 c.args.b c.ranges.b) in
    let large : 9007199254740991 < c.unsigned_abs.result * c.unsigned_abs-2.result = omega (arith, c.in-None.ensures {u = tt}) in
    subst (λ (n : ℕ). with_sign (signs_differ c.args.a c.args.b) n ≡ breaks 1) (cc) (sign-past (signs_differ c.args.a c.args.b) (c.unsigned_abs.result * c.unsigned_abs-2.result) large)
