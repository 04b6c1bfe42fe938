use Rattle.cc_meaning.specs.Store.{put_own}
use Rattle.cc_value.specs.Bridge.{value_of}
use Rattle.cc_heap.specs.Kinds.{kind_of}
use Rattle.cc_heap.specs.contracts.heap.Heap.{the_view}
use Rattle.cc_heap.proofs.ChangeLaws.{unchanged, changed}
use Rattle.cc_heap.proofs.heap.Heap.write_slot.Goals as goal

pub returns-in_default-clause-put : goal.returns-in_default-clause-put
returns-in_default-clause-put c =
    unchanged (the_view c.self.inside) c.args.self.now c.self.view_is (put_own c.args.name (kind_of c.args.kind) (value_of c.args.value)) c.args.object c.in_default.ensures.item.3

pub returns-clause-put : goal.returns-clause-put
returns-clause-put c =
    changed (the_view c.self.inside) c.args.self.now c.self.view_is (put_own c.args.name (kind_of c.args.kind) (value_of c.args.value)) c.args.object c.in-Some.object.now c.put.new.self c.in-Some.ensures.item.3.0 c.in-Some.ensures.value c.in_ok-put.ensures.put
