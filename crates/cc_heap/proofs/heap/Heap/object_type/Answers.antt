use Rattle.std.proofs.Common.{◌≡◌, ◌∙◌, ap, sym, subst, List, ℕ, None, is_some, true, false, codes}
use Rattle.std.specs.Bool.{⊤}
use Rattle.std.specs.Option.{option_copied}
use Rattle.cc_meaning.specs.Acts.{object_type}
use Rattle.cc_meaning.specs.Monad.{pick}
use Rattle.cc_heap.specs.Answers.{Tells}
use Rattle.cc_heap.specs.Kinds.{code_of}
use Rattle.cc_heap.proofs.ObjectLaws.{is_some-map}
use Rattle.cc_heap.proofs.heap.Heap.object_type.Goals as goal

pub returns-then-is_some : goal.returns-then-is_some
unfolding object_type
returns-then-is_some c =
    let function : is_some c.in-Some.object.now.code ≡ true = ap is_some (sym c.code.ensures) ∙ is_some-map code_of c.code.result ∙ sym c.is_some.ensures ∙ c.if-is_some.true in
    subst (λ (t : List ℕ). Tells c.named.result None (λ u. u ≡ t) ⊤)
    (sym (ap object_type (sym c.object.ensures ∙ ap option_copied c.in-Some.is) ∙ ap (λ b. pick b (codes "function") (codes "object")) function))
    c.named.ensures

pub returns-else-is_some : goal.returns-else-is_some
unfolding object_type
returns-else-is_some c =
    let other : is_some c.in-Some.object.now.code ≡ false = ap is_some (sym c.code.ensures) ∙ is_some-map code_of c.code.result ∙ sym c.is_some.ensures ∙ c.if-is_some.false in
    subst (λ (t : List ℕ). Tells c.named-else-is_some.result None (λ u. u ≡ t) ⊤)
    (sym (ap object_type (sym c.object.ensures ∙ ap option_copied c.in-Some.is) ∙ ap (λ b. pick b (codes "function") (codes "object")) other))
    c.named-else-is_some.ensures

pub returns-in-None : goal.returns-in-None
unfolding object_type
returns-in-None c =
    subst (λ (t : List ℕ). Tells c.named-in-None.result None (λ u. u ≡ t) ⊤)
    (sym (ap object_type (sym c.object.ensures ∙ ap option_copied c.in-None.is)))
    c.named-in-None.ensures
