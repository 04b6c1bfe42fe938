use Rattle.std.proofs.Common.{option_map, option_and_then, sym, ap, ◌∙◌}
use Rattle.std.specs.Option.{option_copied}
use Rattle.cc_flags.specs.Numbers.{decimal, within}
use Rattle.cc_flags.specs.Values.{seed_and_size}
use Rattle.cc_flags.proofs.FormLaws.{synthesis-read}
use Rattle.cc_flags.proofs.form.synthesis_of.Goals as goal

pub returns-in_err-seed : goal.returns-in_err-seed
returns-in_err-seed c =
    let size = option_copied c.split_at_first.result.1 in
    c.from_residual.ensures
    ∙ sym (synthesis-read c.args.text.now c.split_at_first.result.0.now size c.decimal_within.result c.split_at_first.ensures.before c.split_at_first.ensures.behind c.decimal_within.ensures
    ∙ ap (option_and_then (λ n. option_map (seed_and_size n) (option_and_then (λ text. within 1 20000 (decimal text)) size))) c.in_err-seed.was)

pub returns-in_err-size : goal.returns-in_err-size
returns-in_err-size c =
    let size = option_copied c.split_at_first.result.1 in
    c.from_residual-in_err-size.ensures
    ∙ sym (synthesis-read c.args.text.now c.split_at_first.result.0.now size c.decimal_within.result c.split_at_first.ensures.before c.split_at_first.ensures.behind c.decimal_within.ensures
    ∙ ap (option_and_then (λ n. option_map (seed_and_size n) (option_and_then (λ text. within 1 20000 (decimal text)) size))) c.in_ok-seed.was
    ∙ ap (λ s. option_map (seed_and_size c.in_ok-seed.seed) (option_and_then (λ text. within 1 20000 (decimal text)) (option_copied s))) c.in_err-size.was)

pub returns-in_err-size-2 : goal.returns-in_err-size-2
returns-in_err-size-2 c =
    let size = option_copied c.split_at_first.result.1 in
    c.from_residual-in_err-size-2.ensures
    ∙ sym (synthesis-read c.args.text.now c.split_at_first.result.0.now size c.decimal_within.result c.split_at_first.ensures.before c.split_at_first.ensures.behind c.decimal_within.ensures
    ∙ ap (option_and_then (λ n. option_map (seed_and_size n) (option_and_then (λ text. within 1 20000 (decimal text)) size))) c.in_ok-seed.was
    ∙ ap (λ s. option_map (seed_and_size c.in_ok-seed.seed) (option_and_then (λ text. within 1 20000 (decimal text)) (option_copied s))) c.in_ok-size.was
    ∙ ap (option_map (seed_and_size c.in_ok-seed.seed)) (sym c.decimal_within-2.ensures ∙ c.in_err-size-2.was))

pub returns : goal.returns
returns c =
    let size = option_copied c.split_at_first.result.1 in
    sym (synthesis-read c.args.text.now c.split_at_first.result.0.now size c.decimal_within.result c.split_at_first.ensures.before c.split_at_first.ensures.behind c.decimal_within.ensures
    ∙ ap (option_and_then (λ n. option_map (seed_and_size n) (option_and_then (λ text. within 1 20000 (decimal text)) size))) c.in_ok-seed.was
    ∙ ap (λ s. option_map (seed_and_size c.in_ok-seed.seed) (option_and_then (λ text. within 1 20000 (decimal text)) (option_copied s))) c.in_ok-size.was
    ∙ ap (option_map (seed_and_size c.in_ok-seed.seed)) (sym c.decimal_within-2.ensures ∙ c.in_ok-size-2.was))
