use Rattle.std.proofs.Common.{◌≡◌, ◌∙◌, ◌+◌, ◌||◌, Bool, true, false, drop, sym, ap}
use Rattle.cc_meaning.specs.Operators.{is_in, list_eq}
use Rattle.cc_conform.proofs.Loops.{step, end}
use Rattle.cc_conform.proofs.names.is_in.Goals as goal

pub returns-then-is_equal : goal.returns-then-is_equal
unfolding is_in
returns-then-is_equal c =
    let n = c.args.name.now in
    let ms = c.args.names.now in
    let same : list_eq n c.other-item.result ≡ true = ap (list_eq n) (sym (c.as_slice.ensures.value ∙ c.other.view_is)) ∙ sym c.is_equal.ensures ∙ c.if-is_equal.true in
    sym (sym c.loop-other.invariant ∙ step (is_in n) ms c.loop-other.other-index c.other-item.result c.loop-other-test.true c.other-item.is ∙ ap (λ (b : Bool). b || is_in n (drop (c.loop-other.other-index + 1) ms)) same)

pub loop-other-preserved : goal.loop-other-preserved
unfolding is_in
loop-other-preserved c =
    let n = c.args.name.now in
    let ms = c.args.names.now in
    let other : list_eq n c.other-item.result ≡ false = ap (list_eq n) (sym (c.as_slice.ensures.value ∙ c.other.view_is)) ∙ sym c.is_equal.ensures ∙ c.if-is_equal.false in
    sym (sym c.loop-other.invariant ∙ step (is_in n) ms c.loop-other.other-index c.other-item.result c.loop-other-test.true c.other-item.is ∙ ap (λ (b : Bool). b || is_in n (drop (c.loop-other.other-index + 1) ms)) other)

pub returns : goal.returns
unfolding is_in
returns c = sym (sym c.loop-other.invariant ∙ end (is_in c.args.name.now) c.args.names.now c.loop-other.other-index c.loop-other-test.false)
