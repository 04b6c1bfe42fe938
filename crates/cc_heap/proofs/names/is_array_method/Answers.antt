use Rattle.std.proofs.Common.{◌∙◌, ◌||◌, sym}
use Rattle.cc_heap.proofs.NameLaws.{methods}
use Rattle.cc_heap.proofs.names.is_array_method.Goals as goal

pub returns : goal.returns
returns c =
    (λ i. (((((((c.is_spelled.ensures i || c.is_spelled-2.ensures i) || c.is_spelled-3.ensures i) || c.is_spelled-4.ensures i) || c.is_spelled-5.ensures i) || c.is_spelled-6.ensures i) || c.is_spelled-7.ensures i) || c.is_spelled-8.ensures i))
    ∙ sym (methods c.args.name.now)
