use Rattle.std.proofs.Common.{◌≡◌, ◌∙◌, ap, sym, refl, List, ℕ, ℤ, Some, rules}
use Rattle.std.proofs.lemmas.Int.{to_z-of_z}
use Rattle.std.specs.Int.{w64}
use Rattle.cc_meaning.specs.Operators.{decimal, key_text}
use Rattle.cc_meaning.specs.State.{Obj}
use Rattle.cc_meaning.specs.Store.{has_name}
use Rattle.cc_value.specs.declared.value.Value.{Value}
use Rattle.cc_value.specs.declared.value.Value.TheVariants as V
use Rattle.cc_value.specs.Bridge.{value_of}
use Rattle.cc_heap.proofs.OperatorLaws.{has-key, no-key, has-no-key, has-no-object}
use Rattle.cc_heap.proofs.heap.Heap.has.Goals as goal

-- the key that a value is which is known
known : (u v : Value) (t : List ℕ) → u ≡ v → key_text (value_of v) ≡ Some t → key_text (value_of u) ≡ Some t
known u v t e is = ap (λ (x : Value). key_text (value_of x)) e ∙ is

text_key : (t : List ℕ) → key_text (value_of (V.Text t)) ≡ Some t
unfolding key_text
text_key t = refl

whole_key : (z : ℤ) → key_text (value_of (V.Whole z)) ≡ Some (decimal z)
unfolding key_text
whole_key z = refl

pub returns-in-Text : goal.returns-in-Text
returns-in-Text c = λ s e.
    let n = c.in-Object.number in
    let t = c.in-Text.name in
    has-key s c.args.left.now c.args.right.now n t c.in-Object.is (known c.args.left.now (V.Text t) t c.in-Text.is (text_key t)) c.has_name.result (c.has_name.ensures ∙ ap (λ (os : List Obj). has_name os n t) (sym e))

pub returns-in_ok-name-in-Whole : goal.returns-in_ok-name-in-Whole
returns-in_ok-name-in-Whole c = λ s e.
    let n = c.in-Object.number in
    let z = c.in-Whole.z in
    let named : c.in_ok-name-in-Whole.name ≡ decimal z = c.in_ok-name-in-Whole.ensures ∙ ap decimal (to_z-of_z w64 z (search rules)) in
    has-key s c.args.left.now c.args.right.now n (decimal z) c.in-Object.is (known c.args.left.now (V.Whole z) (decimal z) c.in-Whole.is (whole_key z)) c.has_name-in-Whole.result
    (c.has_name-in-Whole.ensures ∙ ap (has_name c.args.self.now.objs n) named ∙ ap (λ (os : List Obj). has_name os n (decimal z)) (sym e))

pub returns-in_default-left : goal.returns-in_default-left
returns-in_default-left c = λ s e. has-no-key s c.args.left.now c.args.right.now c.in-Object.number c.in-Object.is (no-key c.args.left.now c.in_default-left.not-Text c.in_default-left.not-Whole)

pub returns-in_default : goal.returns-in_default
returns-in_default c = λ s e. has-no-object s (value_of c.args.left.now) c.args.right.now c.in_default.not-Object
