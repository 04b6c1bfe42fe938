use Rattle.std.proofs.Common.{◌≡◌, ◌/◌, ◌%◌, ◌∙◌, ap, unsigned_abs, sym, subst}
use Rattle.std.proofs.lemmas.Int.{to_z-of_z}
use Rattle.std.specs.Int.{w64}
use Rattle.cc_meaning.specs.Operators.{Outcome, signs_differ, with_sign, divide_sizes}
use Rattle.cc_value.specs.Bridge.{Answers}
use Rattle.cc_value.proofs.Numbers.{divide-by_zero, divide-rest, divide-even}
use Rattle.cc_value.proofs.whole.quotient.Goals as goal
use Rattle.cc_value.proofs.whole.quotient.Goals.{then-by-eq0-via-then-by-eq0, then-by-eq0-via-else-by-eq0+then-size-by-ne0}

pub returns-then-by-eq0 : goal.returns-then-by-eq0
returns-then-by-eq0 c =
    let minus = signs_differ c.args.a c.args.b in
    let a : c.unsigned_abs-size.result ≡ unsigned_abs c.args.a = c.unsigned_abs-size.ensures.value ∙ ap unsigned_abs (to_z-of_z w64 c.args.a c.ranges.a) in
    let b : c.unsigned_abs-by.result ≡ unsigned_abs c.args.b = c.unsigned_abs-by.ensures.value ∙ ap unsigned_abs (to_z-of_z w64 c.args.b c.ranges.b) in
    elim c.then-by-eq0.branch [
      | then-by-eq0-via-then-by-eq0 w ↦ divide-by_zero minus (unsigned_abs c.args.a) (unsigned_abs c.args.b) (sym b ∙ w.if-by-eq0.true)
      | then-by-eq0-via-else-by-eq0+then-size-by-ne0 w ↦ divide-rest minus (unsigned_abs c.args.a) (unsigned_abs c.args.b) (λ e. w.if-by-eq0.false (b ∙ e)) (λ e. w.if-size-by-ne0.true (let same : c.unsigned_abs-size.result % c.unsigned_abs-by.result ≡ unsigned_abs c.args.a % unsigned_abs c.args.b = cc in same ∙ e))
    ]

pub returns : goal.returns
returns c =
    let minus = signs_differ c.args.a c.args.b in
    let ea = to_z-of_z w64 c.args.a c.ranges.a in
    let eb = to_z-of_z w64 c.args.b c.ranges.b in
    let a : c.unsigned_abs-size.result ≡ unsigned_abs c.args.a = c.unsigned_abs-size.ensures.value ∙ ap unsigned_abs ea in
    let b : c.unsigned_abs-by.result ≡ unsigned_abs c.args.b = c.unsigned_abs-by.ensures.value ∙ ap unsigned_abs eb in
    let s : c.signs_differ.result ≡ minus = rw (sym ea, sym eb) c.signs_differ.ensures in
    let same : c.unsigned_abs-size.result % c.unsigned_abs-by.result ≡ unsigned_abs c.args.a % unsigned_abs c.args.b = cc in
    let even = divide-even minus (unsigned_abs c.args.a) (unsigned_abs c.args.b) (λ e. c.if-by-eq0.false (b ∙ e)) (sym same ∙ c.if-size-by-ne0.false) in
    let path : with_sign c.signs_differ.result (c.unsigned_abs-size.result / c.unsigned_abs-by.result) ≡ divide_sizes minus (unsigned_abs c.args.a) (unsigned_abs c.args.b) = cc in
    subst (λ (o : Outcome). Answers c.with_sign.result o) path c.with_sign.ensures
