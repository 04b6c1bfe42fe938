use Rattle.std.proofs.Common.{◌≡◌, ◌%◌, ◌∙◌, ap, unsigned_abs, sym, subst}
use Rattle.std.specs.Int.{cast_signed as to_z, cast_unsigned as of_z}
use Rattle.std.proofs.lemmas.Int.{to_z-of_z}
use Rattle.std.specs.Int.{w64, is_negative}
use Rattle.cc_meaning.specs.Operators.{Outcome, with_sign, rest_of_sizes}
use Rattle.cc_value.specs.Bridge.{Answers}
use Rattle.cc_value.proofs.Numbers.{rest-by_zero, rest-by}
use Rattle.cc_value.proofs.whole.rest.Goals as goal

pub returns-then-by-eq0 : goal.returns-then-by-eq0
returns-then-by-eq0 c =
    let b : c.unsigned_abs-by.result ≡ unsigned_abs c.args.b = c.unsigned_abs-by.ensures.value ∙ ap unsigned_abs (to_z-of_z w64 c.args.b c.ranges.b) in
    rest-by_zero (is_negative c.args.a) (unsigned_abs c.args.a) (unsigned_abs c.args.b) (sym b ∙ c.if-by-eq0.true)

pub returns : goal.returns
returns c =
    let a : c.unsigned_abs.result ≡ unsigned_abs c.args.a = c.unsigned_abs.ensures.value ∙ ap unsigned_abs (to_z-of_z w64 c.args.a c.ranges.a) in
    let b : c.unsigned_abs-by.result ≡ unsigned_abs c.args.b = c.unsigned_abs-by.ensures.value ∙ ap unsigned_abs (to_z-of_z w64 c.args.b c.ranges.b) in
    let some = rest-by (is_negative c.args.a) (unsigned_abs c.args.a) (unsigned_abs c.args.b) (λ e. c.if-by-eq0.false (b ∙ e)) in
    let sign = ap is_negative (to_z-of_z w64 c.args.a c.ranges.a) in
    let path : with_sign (is_negative (to_z w64 (of_z w64 c.args.a))) (c.unsigned_abs.result % c.unsigned_abs-by.result) ≡ rest_of_sizes (is_negative c.args.a) (unsigned_abs c.args.a) (unsigned_abs c.args.b) = cc in
    subst (λ (o : Outcome). Answers c.with_sign.result o) path c.with_sign.ensures
