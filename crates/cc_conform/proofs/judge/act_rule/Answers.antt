use Rattle.std.proofs.Common.{◌∙◌, sym, ap}
use Rattle.cc_meaning.specs.Judge.{least_broken}
use Rattle.cc_meaning.specs.Shapes.{tables_of}
use Rattle.cc_conform.specs.Bridge.{act_of, with_store}
use Rattle.cc_conform.proofs.judge.act_rule.Goals as goal

pub returns-in-Keep : goal.returns-in-Keep
unfolding least_broken
returns-in-Keep c = λ s. c.keep_rule.ensures s ∙ ap (λ z. least_broken (tables_of c.args.program.now) (with_store s c.args.heap.now) (act_of z)) (sym c.in-Keep.is)

pub returns-in-Cast : goal.returns-in-Cast
unfolding least_broken
returns-in-Cast c = λ s. c.cast_rule.ensures s ∙ ap (λ z. least_broken (tables_of c.args.program.now) (with_store s c.args.heap.now) (act_of z)) (sym c.in-Cast.is)
