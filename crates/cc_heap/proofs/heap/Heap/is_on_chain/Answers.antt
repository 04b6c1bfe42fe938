use Rattle.std.proofs.Common.{◌∙◌, ap, sym, List, ℕ, nat_eq, slice_get}
use Rattle.std.specs.List.{list_any}
use Rattle.cc_meaning.specs.State.{Obj}
use Rattle.cc_meaning.specs.Store.{chain_in}
use Rattle.cc_value.specs.declared.value.Value.{Value}
use Rattle.cc_value.specs.Bridge.{value_of}
use Rattle.cc_heap.specs.Answers.{is_under}
use Rattle.cc_heap.proofs.OperatorLaws.{none-under}
use Rattle.cc_heap.proofs.heap.Heap.is_on_chain.Goals as goal

pub returns-in-Object : goal.returns-in-Object
returns-in-Object c = λ s e.
    c.is_among.ensures
    ∙ ap (λ (ms : List ℕ). list_any (λ m. nat_eq m c.args.proto) ms) (c.chain.ensures ∙ ap (λ (os : List Obj). chain_in (slice_get os c.in-Object.number)) (sym e))
    ∙ sym (ap (λ (v : Value). is_under s (value_of v) c.args.proto) c.in-Object.is)

pub returns-in_default : goal.returns-in_default
returns-in_default c = λ s e. none-under s c.args.value.now c.args.proto c.in_default.not-Object
