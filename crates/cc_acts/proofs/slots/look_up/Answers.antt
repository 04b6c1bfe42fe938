use Rattle.std.proofs.Common.{◌≡◌, ◌∙◌, IfOk, sym, ap, subst}
use Rattle.std.specs.Option.{option_map}
use Rattle.cc_heap.specs.Bridge.{held_of}
use Rattle.cc_meaning.specs.Builtins.{or_undefined}
use Rattle.cc_meaning.specs.Store.{look_up, value_found}
use Rattle.cc_meaning.specs.Values.{Val}
use Rattle.cc_value.specs.Bridge.{value_of}
use Rattle.cc_acts.proofs.SlotLaws.{found-or-undefined}
use Rattle.cc_acts.proofs.slots.look_up.Goals as goal

pub returns-in-Some : goal.returns-in-Some
unfolding or_undefined
returns-in-Some c =
    let found : held_of c.in-Some.held ≡ value_found (look_up c.args.heap.now.objs c.args.object c.args.name.now) = ap or_undefined (sym (ap (option_map held_of) c.in-Some.is) ∙ c.read_slot.ensures) ∙ found-or-undefined (look_up c.args.heap.now.objs c.args.object c.args.name.now) in
    subst (λ (v : Val). IfOk c.copy_held.result (λ copy. value_of copy ≡ v)) found c.copy_held.ensures

pub returns-in-None : goal.returns-in-None
unfolding or_undefined
returns-in-None c = ap or_undefined (sym (ap (option_map held_of) c.in-None.is) ∙ c.read_slot.ensures) ∙ found-or-undefined (look_up c.args.heap.now.objs c.args.object c.args.name.now)
