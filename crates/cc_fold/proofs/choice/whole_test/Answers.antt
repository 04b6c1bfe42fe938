use Rattle.std.proofs.Common.{Bool, arith, rules, sym, ap, ◌∙◌, Some}
use Rattle.std.specs.Int.{w64}
use Rattle.std.proofs.lemmas.Int.{to_z-of_z}
use Rattle.cc_fold.specs.declared.choice.Test.{Test}
use Rattle.cc_fold.proofs.Tests.{test_exact, test_past}
use Rattle.cc_fold.proofs.choice.whole_test.Goals as goal

pub returns-then-unsigned_abs-le-GREATEST_WHOLE : goal.returns-then-unsigned_abs-le-GREATEST_WHOLE
returns-then-unsigned_abs-le-GREATEST_WHOLE c =
    let h = rw (to_z-of_z w64 c.args.z (search rules)) at c.unsigned_abs.ensures.value in
    let k = rw (to_z-of_z w64 c.args.z (search rules)) at c.is_whole_true.ensures in
    let test : Bool → Test = λ b. record { price = c.args.price; is_true = b } in
    c.known.ensures ∙ ap (λ b. Some (test b)) k ∙ sym (test_exact c.args.price c.args.z (omega (arith, h)))

pub returns-else-unsigned_abs-le-GREATEST_WHOLE : goal.returns-else-unsigned_abs-le-GREATEST_WHOLE
returns-else-unsigned_abs-le-GREATEST_WHOLE c =
    let h = rw (to_z-of_z w64 c.args.z (search rules)) at c.unsigned_abs.ensures.value in
    sym (test_past c.args.price c.args.z (omega (arith, h)))
