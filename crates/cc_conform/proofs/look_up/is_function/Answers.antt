use Rattle.std.proofs.Common.{◌∙◌, Option, is_some, slice_get, sym, ap}
use Rattle.cc_heap.specs.Kinds.{code_of}
use Rattle.cc_meaning.specs.State.{Code}
use Rattle.cc_conform.proofs.MetLemmas.{some_map, function-code}
use Rattle.cc_conform.proofs.look_up.is_function.Goals as goal

pub returns : goal.returns
returns c = c.is_some.ensures ∙ sym (some_map code_of c.code_of.result) ∙ ap (λ (k : Option Code). is_some k) c.code_of.ensures ∙ sym (function-code (slice_get c.args.heap.now.objs c.args.object))
