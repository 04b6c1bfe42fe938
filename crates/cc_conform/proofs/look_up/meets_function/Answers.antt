use Rattle.std.proofs.Common.{◌∙◌, ℕ, Bool, List, Option, slice_get, unwrap_or, sym, ap}
use Rattle.cc_meaning.specs.SlotRules.{meets_function}
use Rattle.cc_meaning.specs.Store.{chain_in, chain_of}
use Rattle.cc_conform.proofs.look_up.meets_function.Goals as goal

pub returns-in-Some : goal.returns-in-Some
unfolding meets_function chain_of
returns-in-Some c =
    let rest = meets_function c.args.heap.now.objs (chain_in (slice_get c.args.heap.now.objs c.args.object)) c.args.name.now in
    sym (c.function_met.ensures rest ∙ ap (λ (o : Option Bool). unwrap_or o rest) c.in-Some.is)

pub returns-in-None : goal.returns-in-None
unfolding meets_function chain_of
returns-in-None c =
    let rest = meets_function c.args.heap.now.objs (chain_in (slice_get c.args.heap.now.objs c.args.object)) c.args.name.now in
    c.meets_function_on.ensures ∙ ap (λ (cs : List ℕ). meets_function c.args.heap.now.objs cs c.args.name.now) c.chain.ensures ∙ sym (c.function_met.ensures rest ∙ ap (λ (o : Option Bool). unwrap_or o rest) c.in-None.is)
