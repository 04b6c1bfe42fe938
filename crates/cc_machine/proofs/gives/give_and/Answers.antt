use Rattle.std.proofs.Common.{◌∙◌, Bool, None, sym, ap}
use Rattle.cc_ast.specs.Bridge.{term}
use Rattle.cc_meaning.specs.Monad.{pick}
use Rattle.cc_value.specs.Bridge.{value_of}
use Rattle.cc_machine.specs.Machine.{on, want, gave}
use Rattle.cc_machine.specs.Steps.{onward}
use Rattle.cc_machine.proofs.gives.give_and.Goals as goal

pub returns-then-not-is_truthy : goal.returns-then-not-is_truthy
unfolding onward
returns-then-not-is_truthy c = λ J P m. ap (λ (b : Bool). on (record m { focus = pick b (want None (term c.args.right.now)) (gave (value_of c.args.value)) })) (sym c.is_truthy.ensures ∙ c.if-not-is_truthy.true)

pub returns : goal.returns
unfolding onward
returns c = λ J P m. ap (λ (b : Bool). on (record m { focus = pick b (want None (term c.args.right.now)) (gave (value_of c.args.value)) })) (sym c.is_truthy.ensures ∙ c.if-not-is_truthy.false)
