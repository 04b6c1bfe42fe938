use Rattle.cc_value.specs.Bridge.{value_of}
use Rattle.cc_heap.specs.contracts.heap.Heap.{the_view}
use Rattle.cc_heap.proofs.ChangeLaws.{frame-unchanged, frame-changed}
use Rattle.cc_heap.proofs.heap.Heap.write_var.Goals as goal

pub returns-in_default : goal.returns-in_default
returns-in_default c = frame-unchanged (the_view c.self.inside) c.args.self.now c.self.view_is c.args.frame c.args.place (value_of c.args.value) c.in_default.ensures.item.3

pub returns : goal.returns
returns c =
    frame-changed (the_view c.self.inside) c.args.self.now c.self.view_is c.args.frame c.args.place (value_of c.args.value) c.in-Some.frame.now c.write.new.self c.in-Some.ensures.item.3.0 c.in-Some.ensures.value c.write.ensures
