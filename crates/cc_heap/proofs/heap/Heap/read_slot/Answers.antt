use Rattle.std.proofs.Common.{◌∙◌, ap, sym, List, ℕ, slice_get}
use Rattle.cc_meaning.specs.Store.{found_on, chain_in}
use Rattle.cc_heap.specs.Store.{value_if_found}
use Rattle.cc_heap.proofs.LookUpLaws.{look_up-first}
use Rattle.cc_heap.proofs.heap.Heap.read_slot.Goals as goal

pub returns-in-Value : goal.returns-in-Value
returns-in-Value c =
    let os = c.args.self.now.objs in
    let o = c.args.object in
    let n = c.args.name.now in
    sym (ap value_if_found (look_up-first os o n ∙ c.in-Value.ensures (found_on os (chain_in (slice_get os o)) n)))

pub returns-in-BuiltIn : goal.returns-in-BuiltIn
returns-in-BuiltIn c =
    let os = c.args.self.now.objs in
    let o = c.args.object in
    let n = c.args.name.now in
    sym (ap value_if_found (look_up-first os o n) ∙ c.in-BuiltIn.ensures (found_on os (chain_in (slice_get os o)) n))

pub returns-in-Nothing : goal.returns-in-Nothing
returns-in-Nothing c =
    let os = c.args.self.now.objs in
    let o = c.args.object in
    let n = c.args.name.now in
    c.read_on.ensures
    ∙ ap (λ (cs : List ℕ). value_if_found (found_on os cs n)) c.chain.ensures
    ∙ sym (ap value_if_found (look_up-first os o n ∙ c.in-Nothing.ensures (found_on os (chain_in (slice_get os o)) n)))
