use Rattle.std.proofs.Common.{arith, rules, sym}
use Rattle.std.specs.Int.{w64}
use Rattle.std.proofs.lemmas.Int.{to_z-of_z}
use Rattle.cc_fold.proofs.Literals.{whole_exact, whole_past}
use Rattle.cc_fold.proofs.literal.read.whole.Goals as goal

pub returns-then-unsigned_abs-le-GREATEST_WHOLE : goal.returns-then-unsigned_abs-le-GREATEST_WHOLE
returns-then-unsigned_abs-le-GREATEST_WHOLE c =
    let h = rw (to_z-of_z w64 c.args.z (search rules)) at c.unsigned_abs.ensures.value in
    rw (to_z-of_z w64 c.args.z (search rules)) (sym (whole_exact c.args.price c.args.z (omega (arith, h))))

pub returns-else-unsigned_abs-le-GREATEST_WHOLE : goal.returns-else-unsigned_abs-le-GREATEST_WHOLE
returns-else-unsigned_abs-le-GREATEST_WHOLE c =
    let h = rw (to_z-of_z w64 c.args.z (search rules)) at c.unsigned_abs.ensures.value in
    sym (whole_past c.args.price c.args.z (omega (arith, h)))
