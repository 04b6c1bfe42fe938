use Rattle.std.proofs.Common.{◌≡◌, ◌∙◌, ◌+◌, ◌<◌, ℕ, Bool, true, false, cond, List, length, get_or, drop, map, Some, sym, ap}
use Rattle.cc_meaning.specs.Builtins.{element_place}
use Rattle.cc_meaning.specs.Operators.{strict_equal}
use Rattle.cc_value.specs.Bridge.{value_of}
use Rattle.cc_value.specs.declared.value.Value.{Value}
use Rattle.cc_conform.proofs.Loops.{step, end}
use Rattle.cc_conform.proofs.UseArrays.{element-step}
use Rattle.cc_conform.proofs.array_uses.element_place.Goals as goal

-- one place further
next : (v : Value) (xs : List Value) (i : ℕ) (x : Value) (b : Bool) → i < length xs → x ≡ get_or xs i x → strict_equal (value_of x) (value_of v) ≡ b
    → element_place i (value_of v) (map value_of (drop i xs)) ≡ cond b (Some i) (element_place (i + 1) (value_of v) (map value_of (drop (i + 1) xs)))
next v xs i x b h is same =
    let rest = map value_of (drop (i + 1) xs) in
    step (λ (ys : List Value). element_place i (value_of v) (map value_of ys)) xs i x h is
    ∙ element-step i (value_of v) (value_of x) rest
    ∙ ap (λ (d : Bool). cond d (Some i) (element_place (i + 1) (value_of v) rest)) same

pub returns-then-is_same : goal.returns-then-is_same
returns-then-is_same c =
    sym (sym c.loop-at.invariant ∙ next c.args.value.now c.args.elements.now c.loop-at.at c.index-elements-at.result true c.loop-at-test.true c.index-elements-at.is (sym c.is_same.ensures ∙ c.if-is_same.true))

pub loop-at-preserved : goal.loop-at-preserved
loop-at-preserved c =
    sym (next c.args.value.now c.args.elements.now c.loop-at.at c.index-elements-at.result false c.loop-at-test.true c.index-elements-at.is (sym c.is_same.ensures ∙ c.if-is_same.false)) ∙ c.loop-at.invariant

pub returns : goal.returns
unfolding element_place
returns c = sym (sym c.loop-at.invariant ∙ end (λ (ys : List Value). element_place c.loop-at.at (value_of c.args.value.now) (map value_of ys)) c.args.elements.now c.loop-at.at c.loop-at-test.false)
