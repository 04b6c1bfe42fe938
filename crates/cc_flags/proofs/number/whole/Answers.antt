use Rattle.std.proofs.Common.{◌^◌, ◌-◌, Some, None, pos, neg_ℤ, option_map, sym, ap, ◌∙◌, lit<}
use Rattle.std.proofs.lemmas.Str.Pattern.{strip_prefix_char}
use Rattle.cc_flags.specs.Numbers.{decimal}
use Rattle.cc_flags.proofs.NumberLaws.{within-bounds, whole-minus, whole-plain, negated, positive}
use Rattle.cc_flags.proofs.number.whole.Goals as goal

pub returns-in_err-number-in-Some : goal.returns-in_err-number-in-Some
returns-in_err-number-in-Some c =
    let stripped = strip_prefix_char 45 c.args.text.now (Some c.in-Some.digits) c.in-Some.ensures.cases (lit< tt) in
    c.from_residual.ensures
    ∙ sym (whole-minus c.args.text.now c.in-Some.digits.now stripped ∙ ap (option_map (λ n. neg_ℤ (pos n))) (sym c.decimal_within.ensures ∙ c.in_err-number-in-Some.was))

pub returns-in_ok-number-in-Some : goal.returns-in_ok-number-in-Some
returns-in_ok-number-in-Some c =
    let n = c.in_ok-number-in-Some.number in
    let stripped = strip_prefix_char 45 c.args.text.now (Some c.in-Some.digits) c.in-Some.ensures.cases (lit< tt) in
    let read = sym c.decimal_within.ensures ∙ c.in_ok-number-in-Some.was in
    ap Some (negated n (within-bounds 1 (2 ^ 53 - 1) n (decimal c.in-Some.digits.now) read).1)
    ∙ sym (whole-minus c.args.text.now c.in-Some.digits.now stripped ∙ ap (option_map (λ n. neg_ℤ (pos n))) read)

pub returns-in_err-number-in-None : goal.returns-in_err-number-in-None
returns-in_err-number-in-None c =
    let other = strip_prefix_char 45 c.args.text.now None c.in-None.ensures.cases (lit< tt) in
    c.from_residual-in_err-number-in-None.ensures
    ∙ sym (whole-plain c.args.text.now other ∙ ap (option_map pos) (sym c.decimal_within-in-None.ensures ∙ c.in_err-number-in-None.was))

pub returns-in_ok-number-in-None : goal.returns-in_ok-number-in-None
returns-in_ok-number-in-None c =
    let n = c.in_ok-number-in-None.number in
    let other = strip_prefix_char 45 c.args.text.now None c.in-None.ensures.cases (lit< tt) in
    let read = sym c.decimal_within-in-None.ensures ∙ c.in_ok-number-in-None.was in
    ap Some (positive n (within-bounds 0 (2 ^ 53 - 1) n (decimal c.args.text.now) read).1)
    ∙ sym (whole-plain c.args.text.now other ∙ ap (option_map pos) read)
