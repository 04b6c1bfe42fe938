use Rattle.cc_meaning.specs.Typed.{entered_in}
use Rattle.cc_heap.specs.contracts.heap.Heap.{the_view}
use Rattle.cc_heap.proofs.ChangeLaws.{unchanged, changed}
use Rattle.cc_heap.proofs.heap.Heap.enter_element.Goals as goal

pub returns-in_default-clause-entered : goal.returns-in_default-clause-entered
returns-in_default-clause-entered c =
    unchanged (the_view c.self.inside) c.args.self.now c.self.view_is (entered_in c.args.element) c.args.object c.in_default.ensures.item.3

pub returns-clause-entered : goal.returns-clause-entered
returns-clause-entered c =
    changed (the_view c.self.inside) c.args.self.now c.self.view_is (entered_in c.args.element) c.args.object c.in-Some.object.now c.enter.new.self c.in-Some.ensures.item.3.0 c.in-Some.ensures.value c.in_ok-enter.ensures.entered
