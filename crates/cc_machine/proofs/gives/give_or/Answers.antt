use Rattle.std.proofs.Common.{◌∙◌, Bool, None, sym, ap}
use Rattle.cc_ast.specs.Bridge.{term}
use Rattle.cc_meaning.specs.Monad.{pick}
use Rattle.cc_value.specs.Bridge.{value_of}
use Rattle.cc_machine.specs.Machine.{on, want, gave}
use Rattle.cc_machine.specs.Steps.{onward}
use Rattle.cc_machine.proofs.gives.give_or.Goals as goal

pub returns-then-is_truthy : goal.returns-then-is_truthy
unfolding onward
returns-then-is_truthy c = λ J P m. ap (λ (b : Bool). on (record m { focus = pick b (gave (value_of c.args.value)) (want None (term c.args.right.now)) })) (sym c.is_truthy.ensures ∙ c.if-is_truthy.true)

pub returns : goal.returns
unfolding onward
returns c = λ J P m. ap (λ (b : Bool). on (record m { focus = pick b (gave (value_of c.args.value)) (want None (term c.args.right.now)) })) (sym c.is_truthy.ensures ∙ c.if-is_truthy.false)
