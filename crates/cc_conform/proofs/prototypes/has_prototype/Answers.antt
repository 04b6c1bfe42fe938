use Rattle.std.proofs.Common.{slice_get}
use Rattle.cc_heap.specs.Kinds.{code_of}
use Rattle.cc_conform.proofs.PrototypeLemmas.{has-both, has-no_prototype, has-no_code}
use Rattle.cc_conform.proofs.prototypes.has_prototype.Goals as goal

pub returns-in-Some-prototype_at : goal.returns-in-Some-prototype_at
returns-in-Some-prototype_at c = has-both (slice_get c.args.heap.now.objs c.args.number) (code_of c.in-Some.code) c.in-Some-prototype_at.prototype c.args.function c.args.object c.in-Some.ensures c.in-Some-prototype_at.ensures

pub returns-in-None-prototype_at : goal.returns-in-None-prototype_at
returns-in-None-prototype_at c = has-no_prototype (slice_get c.args.heap.now.objs c.args.number) c.args.function c.args.object c.in-None-prototype_at.ensures

pub returns-in-None : goal.returns-in-None
returns-in-None c = has-no_code (slice_get c.args.heap.now.objs c.args.number) c.args.function c.args.object c.in-None.ensures
