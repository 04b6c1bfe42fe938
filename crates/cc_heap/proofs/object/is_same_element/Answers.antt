use Rattle.std.proofs.Common.{◌∙◌, nat_eq}
use Rattle.std.specs.Cmp.Lexicographic.{pointwise}
use Rattle.cc_heap.proofs.SlotLaws.{same_texts}
use Rattle.cc_heap.proofs.ObjectLaws.{same-kinds, other-kinds}
use Rattle.cc_heap.proofs.object.is_same_element.Goals as goal

pub returns-then-a-b : goal.returns-then-a-b
returns-then-a-b c =
    c.eq.ensures
    ∙ (λ i. pointwise nat_eq (c.as_slice.ensures i) (c.as_slice-then-a-b.ensures i))
    ∙ same_texts c.args.a.now.classes c.args.b.now.classes
    ∙ same-kinds c.args.a.now c.args.b.now c.if-a-b.true

pub returns-else-a-b : goal.returns-else-a-b
returns-else-a-b c = other-kinds c.args.a.now c.args.b.now c.if-a-b.false
