use Rattle.std.proofs.Common.{◌∙◌, ap, sym, is_some}
use Rattle.cc_meaning.specs.Store.{has_name, look_up}
use Rattle.cc_heap.specs.Bridge.{held_of}
use Rattle.cc_heap.proofs.LookUpLaws.{is_some-found}
use Rattle.cc_heap.proofs.ObjectLaws.{is_some-map}
use Rattle.cc_heap.proofs.heap.Heap.has_name.Goals as goal

pub returns : goal.returns
unfolding has_name
returns c =
    c.is_some.ensures
    ∙ sym (is_some-map held_of c.read_slot.result)
    ∙ ap is_some c.read_slot.ensures
    ∙ is_some-found (look_up c.args.self.now.objs c.args.object c.args.name.now)
