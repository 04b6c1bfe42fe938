use Rattle.std.proofs.Common.{◌≡◌, ◌<◌, ◌≤◌, ℤ, unsigned_abs, arith, sym, ap, ◌∙◌}
use Rattle.std.proofs.lemmas.Int.{to_z-of_z}
use Rattle.std.specs.Int.{w64}
use Rattle.cc_ast.specs.Syntax.{whole}
use Rattle.cc_meaning.specs.Values.{prim}
use Rattle.cc_meaning.specs.Operators.{gives}
use Rattle.cc_value.proofs.Numbers.{number-made, number-past}
use Rattle.cc_value.proofs.whole.number.Goals as goal

pub returns-then-unsigned_abs-le-GREATEST : goal.returns-then-unsigned_abs-le-GREATEST
returns-then-unsigned_abs-le-GREATEST c =
    let same = to_z-of_z w64 c.args.z c.ranges.z in
    let size : c.unsigned_abs.result ≡ unsigned_abs c.args.z = c.unsigned_abs.ensures.value ∙ ap unsigned_abs same in
    let h : unsigned_abs c.args.z ≤ 9007199254740991 = omega arith in
    number-made c.args.z h ∙ ap (λ (z : ℤ). gives (prim (whole z))) (sym same)

pub returns-else-unsigned_abs-le-GREATEST : goal.returns-else-unsigned_abs-le-GREATEST
returns-else-unsigned_abs-le-GREATEST c =
    let size : c.unsigned_abs.result ≡ unsigned_abs c.args.z = c.unsigned_abs.ensures.value ∙ ap unsigned_abs (to_z-of_z w64 c.args.z c.ranges.z) in
    let h : 9007199254740991 < unsigned_abs c.args.z = omega arith in
    number-past c.args.z h
