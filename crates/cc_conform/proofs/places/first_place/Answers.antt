use Rattle.std.proofs.Common.{◌≡◌, ◌∙◌, Bool, true, false, cond, ℕ, nat_eq, ◌≤◌, List, drop, Some, None, length, sym, ap, arith}
use Rattle.cc_meaning.specs.Builtins.{first_place}
use Rattle.cc_conform.proofs.PlaceLemmas.{begins-rest, first-here, first-behind, first-end, begins-nothing}
use Rattle.cc_conform.proofs.places.first_place.Goals as goal

pub returns-then-begins_with : goal.returns-then-begins_with
returns-then-begins_with c =
    sym (sym c.loop-at.invariant ∙ first-here c.args.part.now c.args.text.now c.loop-at.at c.loop-at-test.true (sym (begins-rest c.args.part.now c.args.text.now c.loop-at.at c.begins_with.result c.begins_with.ensures) ∙ c.if-begins_with.true))

pub loop-at-preserved : goal.loop-at-preserved
loop-at-preserved c =
    sym (first-behind c.args.part.now c.args.text.now c.loop-at.at c.loop-at-test.true (sym (begins-rest c.args.part.now c.args.text.now c.loop-at.at c.begins_with.result c.begins_with.ensures) ∙ c.if-begins_with.false)) ∙ c.loop-at.invariant

-- where the text ends
ended : (s t : List ℕ) (i : ℕ) (b : Bool) → length t ≤ i → i ≤ length t → first_place i s (drop i t) ≡ first_place 0 s t → nat_eq (length s) 0 ≡ b → cond b (Some (length t)) None ≡ first_place 0 s t
ended s t i b h k e is =
    let at : length t ≡ i = omega arith in
    ap (λ (n : ℕ). cond b (Some n) None) at ∙ ap (λ (d : Bool). cond d (Some i) None) (sym is ∙ begins-nothing s) ∙ sym (first-end s t i h) ∙ e

pub returns-then-is_empty : goal.returns-then-is_empty
returns-then-is_empty c = ended c.args.part.now c.args.text.now c.loop-at.at true c.loop-at-test.false c.loop-at.auto.at-end c.loop-at.invariant (sym c.is_empty.ensures ∙ c.if-is_empty.true)

pub returns-else-is_empty : goal.returns-else-is_empty
returns-else-is_empty c = ended c.args.part.now c.args.text.now c.loop-at.at false c.loop-at-test.false c.loop-at.auto.at-end c.loop-at.invariant (sym c.is_empty.ensures ∙ c.if-is_empty.false)
