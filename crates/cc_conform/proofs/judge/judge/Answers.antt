use Rattle.std.proofs.Common.{◌≡◌, ◌∙◌, sym, ap}
use Rattle.cc_meaning.specs.Judge.{least_broken}
use Rattle.cc_meaning.specs.Shapes.{tables_of}
use Rattle.cc_meaning.specs.State.{State}
use Rattle.cc_heap.specs.Store.{Store}
use Rattle.cc_conform.specs.Bridge.{Holds, act_of, with_store}
use Rattle.cc_conform.proofs.judge.judge.Goals as goal

held : (s : State) (h : Store) → Holds s h → with_store s h ≡ s
held s h k = ap (λ z. record s { objs = z; constructed = h.constructed }) (sym k.objs) ∙ ap (λ z. record s { constructed = z }) (sym k.constructed)

pub returns : goal.returns
returns c = λ s k. c.act_rule.ensures s ∙ ap (λ z. least_broken (tables_of c.args.program.now) z (act_of c.args.act.now)) (held s c.args.heap.now k)
