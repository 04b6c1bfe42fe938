use Rattle.std.proofs.Common.{◌≡◌, ◌∙◌, sym, Some, None}
use Rattle.cc_meaning.specs.Rules.{prototype_at}
use Rattle.cc_value.specs.Bridge.{value_of}
use Rattle.cc_heap.proofs.OperatorLaws.{instance-under, instance-rule}
use Rattle.cc_heap.proofs.heap.Heap.instance.Goals as goal

pub returns-in-Some : goal.returns-in-Some
returns-in-Some c = λ s e.
    let a = value_of c.args.left.now in
    let b = value_of c.args.right.now in
    let at : prototype_at s b ≡ Some c.in-Some.proto = sym (c.prototype_of.ensures s e) ∙ c.in-Some.is in
    (instance-rule s a b (Some c.in-Some.proto) at, c.is_on_chain.ensures s e ∙ sym (instance-under s a b c.in-Some.proto at))

pub returns-in-None : goal.returns-in-None
returns-in-None c = λ s e. instance-rule s (value_of c.args.left.now) (value_of c.args.right.now) None (sym (c.prototype_of.ensures s e) ∙ c.in-None.is)
