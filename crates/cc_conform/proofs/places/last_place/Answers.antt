use Rattle.std.proofs.Common.{◌≡◌, ◌∙◌, ◌<◌, ◌≤◌, ◌+◌, ℕ, nat_eq, Bool, true, false, cond, List, drop, Option, Some, None, length, sym, ap, arith}
use Rattle.cc_meaning.specs.Builtins.{begins_with, first_of_two, last_place}
use Rattle.cc_conform.proofs.PlaceLemmas.{begins-rest, last-step, last-end, begins-nothing}
use Rattle.cc_conform.proofs.places.last_place.Goals as goal
use Rattle.cc_conform.proofs.places.last_place.Goals.{then-begins_with, else-begins_with}

-- one place further
next : (s t : List ℕ) (i : ℕ) (found new : Option ℕ) (b : Bool) (all : Option ℕ) → i < length t → begins_with s (drop i t) ≡ b → new ≡ first_of_two (cond b (Some i) None) found → first_of_two (last_place i s (drop i t)) found ≡ all
    → first_of_two (last_place (i + 1) s (drop (i + 1) t)) new ≡ all
next s t i found new b all h is e so_far =
    ap (first_of_two (last_place (i + 1) s (drop (i + 1) t))) (e ∙ ap (λ (d : Bool). first_of_two (cond d (Some i) None) found) (sym is)) ∙ sym (last-step s t i found h) ∙ so_far

pub loop-at-preserved : goal.loop-at-preserved
loop-at-preserved c =
    elim c.if-begins_with.branch [
      | then-begins_with w ↦ next c.args.part.now c.args.text.now c.loop-at.at c.loop-at.last c.if-begins_with.last true _ c.loop-at-test.true (sym (begins-rest c.args.part.now c.args.text.now c.loop-at.at c.begins_with.result c.begins_with.ensures) ∙ w.if-begins_with.true) w.last-is c.loop-at.invariant
      | else-begins_with w ↦ next c.args.part.now c.args.text.now c.loop-at.at c.loop-at.last c.if-begins_with.last false _ c.loop-at-test.true (sym (begins-rest c.args.part.now c.args.text.now c.loop-at.at c.begins_with.result c.begins_with.ensures) ∙ w.if-begins_with.false) w.last-is c.loop-at.invariant
    ]

-- where the text ends
ended : (s t : List ℕ) (i : ℕ) (found : Option ℕ) (b : Bool) → length t ≤ i → i ≤ length t → first_of_two (last_place i s (drop i t)) found ≡ last_place 0 s t → nat_eq (length s) 0 ≡ b → first_of_two (cond b (Some (length t)) None) found ≡ last_place 0 s t
ended s t i found b h k e is =
    let at : length t ≡ i = omega arith in
    ap (λ (n : ℕ). first_of_two (cond b (Some n) None) found) at ∙ ap (λ (d : Bool). first_of_two (cond d (Some i) None) found) (sym is ∙ begins-nothing s) ∙ ap (λ (o : Option ℕ). first_of_two o found) (sym (last-end s t i h)) ∙ e

pub returns-then-is_empty : goal.returns-then-is_empty
returns-then-is_empty c = ended c.args.part.now c.args.text.now c.loop-at.at c.loop-at.last true c.loop-at-test.false c.loop-at.auto.at-end c.loop-at.invariant (sym c.is_empty.ensures ∙ c.if-is_empty.true)

pub returns : goal.returns
returns c = ended c.args.part.now c.args.text.now c.loop-at.at c.loop-at.last false c.loop-at-test.false c.loop-at.auto.at-end c.loop-at.invariant (sym c.is_empty.ensures ∙ c.if-is_empty.false)
