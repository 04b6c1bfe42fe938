use Rattle.std.proofs.Common.{arith}
use Rattle.cc_driver.proofs.WholeLaws.{number_small, number_more, digit_there}
use Rattle.cc_driver.proofs.form.name.number_of.Goals as goal

pub overflow_mul-number : goal.overflow_mul-number
overflow_mul-number c =
    let small = number_small c.args.digits.now c.loop-digit.digit-index c.requires.digits c.loop-digit-test.true c.requires.few in
    omega (arith, small, c.loop-digit.invariant)

pub overflow_add-number : goal.overflow_add-number
overflow_add-number c =
    let small = number_small c.args.digits.now c.loop-digit.digit-index c.requires.digits c.loop-digit-test.true c.requires.few in
    let digit = digit_there c.args.digits.now c.loop-digit.digit-index 0 c.requires.digits c.loop-digit-test.true in
    let h = c.from.ensures in
    omega (arith, small, c.loop-digit.invariant, h, digit.0, digit.1)

pub loop-digit-preserved : goal.loop-digit-preserved
loop-digit-preserved c =
    let more = number_more c.args.digits.now c.loop-digit.digit-index 0 c.loop-digit-test.true in
    let h = c.from.ensures in
    omega (arith, more, c.loop-digit.invariant, h)
