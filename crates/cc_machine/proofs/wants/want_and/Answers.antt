use Rattle.std.proofs.Common.{None, sym, ap}
use Rattle.cc_ast.specs.Bridge.{term}
use Rattle.cc_machine.specs.Machine.{Machine, on, want}
use Rattle.cc_machine.specs.Steps.{onward}
use Rattle.cc_machine.proofs.wants.want_and.Goals as goal

pub returns : goal.returns
unfolding onward
returns c = λ i w. ap (λ (m : Machine). on m) (sym (c.in_ok-push_value.ensures {u = tt} (want None (term c.args.left.now))))
