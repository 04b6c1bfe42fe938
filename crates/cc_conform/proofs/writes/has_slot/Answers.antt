use Rattle.std.proofs.Common.{◌∙◌, ◌&&◌, not, List, ℕ, Option, is_some, slice_get, sym, ap}
use Rattle.cc_heap.specs.Kinds.{code_of}
use Rattle.cc_meaning.specs.Names.{name_prototype}
use Rattle.cc_meaning.specs.Operators.{list_eq}
use Rattle.cc_meaning.specs.State.{Code}
use Rattle.cc_meaning.specs.Values.{Val}
use Rattle.cc_conform.proofs.MetLemmas.{some_map}
use Rattle.cc_conform.proofs.WriteLemmas.{slot-parts}
use Rattle.cc_conform.proofs.writes.has_slot.Goals as goal

pub returns : goal.returns
returns c =
    let there = c.is_some-is_there.ensures ∙ sym (some_map (λ slot. slot.now.value) c.own_slot.result) ∙ ap (λ (v : Option Val). is_some v) c.own_slot.ensures.value in
    let code = c.is_some-is_function.ensures ∙ sym (some_map code_of c.code_of.result) ∙ ap (λ (k : Option Code). is_some k) c.code_of.ensures in
    let named = c.is_spelled.ensures ∙ ap (λ (n : List ℕ). list_eq n name_prototype) (c.as_slice.ensures.value ∙ c.name.view_is) in
    (λ i. there i && not (code i && named i)) ∙ sym (slot-parts (slice_get c.args.heap.now.objs c.args.object) c.args.name.now)
