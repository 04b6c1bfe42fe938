use Rattle.std.proofs.Common.{◌∙◌, ◌&&◌, Bool, Option, is_some, slice_get, sym, ap}
use Rattle.cc_heap.specs.Kinds.{code_of}
use Rattle.cc_heap.specs.Store.{code_in}
use Rattle.cc_meaning.specs.Builtins.{array_method}
use Rattle.cc_meaning.specs.Monad.{pick}
use Rattle.cc_meaning.specs.Names.{name_call}
use Rattle.cc_meaning.specs.Operators.{list_eq}
use Rattle.cc_meaning.specs.State.{Code}
use Rattle.cc_conform.proofs.MetLemmas.{some_map, hides-parts}
use Rattle.cc_conform.proofs.look_up.hides.Goals as goal

pub returns-then-is_array : goal.returns-then-is_array
returns-then-is_array c =
    let o = slice_get c.args.heap.now.objs c.args.object in
    let n = c.args.name.now in
    c.is_array_method.ensures ∙ sym (hides-parts o n ∙ ap (λ (b : Bool). pick b (is_some (array_method n)) (is_some (code_in o) && list_eq n name_call)) (sym c.is_array.ensures ∙ c.if-is_array.true))

pub returns-else-is_array : goal.returns-else-is_array
returns-else-is_array c =
    let o = slice_get c.args.heap.now.objs c.args.object in
    let n = c.args.name.now in
    let code = c.is_some.ensures ∙ sym (some_map code_of c.code_of.result) ∙ ap (λ (k : Option Code). is_some k) c.code_of.ensures in
    (λ i. code i && c.is_spelled.ensures i) ∙ sym (hides-parts o n ∙ ap (λ (b : Bool). pick b (is_some (array_method n)) (is_some (code_in o) && list_eq n name_call)) (sym c.is_array.ensures ∙ c.if-is_array.false))
