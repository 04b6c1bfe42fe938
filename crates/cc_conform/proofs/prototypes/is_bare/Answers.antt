use Rattle.std.proofs.Common.{◌∙◌, ◌&&◌, ℕ, Bool, nat_eq, slice_get, ap}
use Rattle.cc_meaning.specs.SlotRules.{is_off_chains, prototype_of_function}
use Rattle.cc_conform.proofs.PrototypeLemmas.{without-Some, without-None, off-Some}
use Rattle.cc_conform.proofs.prototypes.is_bare.Goals as goal

pub returns-in-Some : goal.returns-in-Some
returns-in-Some c =
    let os = c.args.heap.now.objs in
    let w = prototype_of_function (slice_get os c.args.object) in
    let empty = ap (λ (n : ℕ). nat_eq n 0) c.slot_count.ensures ∙ without-Some os w c.in-Some.prototype c.in-Some.ensures in
    let off = off-Some os w c.in-Some.prototype c.is_off_chains.result c.in-Some.ensures c.is_off_chains.ensures in
    λ i. empty i && off i

pub returns-in-None : goal.returns-in-None
returns-in-None c =
    let os = c.args.heap.now.objs in
    let w = prototype_of_function (slice_get os c.args.object) in
    ap (λ (b : Bool). b && is_off_chains os w) (without-None os w c.in-None.ensures)
