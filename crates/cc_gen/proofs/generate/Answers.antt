use Rattle.std.proofs.Common.{◌≡◌, ◌+◌, ap, ◌∙◌}
use Rattle.cc_gen.specs.Draws.{state}
use Rattle.cc_gen.specs.Texts.{base_text, x_text, y_text, draws_before, call_count}
use Rattle.cc_gen.proofs.generate.Goals as goal

-- the draws begin at the seed
begun : (c : goal.In_ok-y) → c.from_seed-draws.result.state ≡ c.args.seed
unfolding state
begun c = c.from_seed-draws.ensures

based : (c : goal.In_ok-y) → c.base_text.new.draws.state ≡ state c.args.seed (draws_before c.args.size)
based c = c.in_ok-base.ensures.state ∙ ap (λ s. state s (draws_before c.args.size)) (begun c)

pub returns-clause-base : goal.returns-clause-base
returns-clause-base c = c.in_ok-base.ensures.text ∙ ap (λ s. base_text s c.args.size) (begun c)

pub returns-clause-x : goal.returns-clause-x
unfolding x_text
returns-clause-x c = c.in_ok-x.ensures.text c.args.seed (draws_before c.args.size) (based c)

pub returns-clause-y : goal.returns-clause-y
unfolding y_text
returns-clause-y c =
    c.in_ok-y.ensures.text c.args.seed (draws_before c.args.size + call_count c.args.size)
    (c.in_ok-x.ensures.state c.args.seed (draws_before c.args.size) (based c))
