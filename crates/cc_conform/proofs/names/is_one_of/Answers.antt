use Rattle.std.proofs.Common.{◌≡◌, ◌∙◌, ◌+◌, ◌<◌, ◌||◌, ℕ, Bool, true, false, List, Bor, length, get_or, drop, map, sym, ap}
use Rattle.std.proofs.lemmas.List.{at_drop_more}
use Rattle.cc_meaning.specs.Operators.{is_in, list_eq}
use Rattle.cc_conform.proofs.Loops.{end}
use Rattle.cc_conform.proofs.names.is_one_of.Goals as goal

-- the rest of the names, where this one is the next
next : (n : List ℕ) (ts : List (Bor (List ℕ))) (i : ℕ) (d : Bor (List ℕ)) (b : Bool) → i < length ts → b ≡ list_eq n (get_or ts i d).now → is_in n (map (λ t. t.now) (drop i ts)) ≡ (b || is_in n (map (λ t. t.now) (drop (i + 1) ts)))
unfolding is_in
next n ts i d b h e = at_drop_more (λ (us : List (Bor (List ℕ))). is_in n (map (λ t. t.now) us)) ts i d h ∙ ap (λ (x : Bool). x || is_in n (map (λ t. t.now) (drop (i + 1) ts))) (sym e)

pub returns-then-is_spelled : goal.returns-then-is_spelled
returns-then-is_spelled c = sym (sym c.loop-text.invariant ∙ next c.args.name.now c.args.texts.now c.loop-text.text-index _ true c.loop-text-test.true (sym c.if-is_spelled.true ∙ c.is_spelled.ensures))

pub loop-text-preserved : goal.loop-text-preserved
loop-text-preserved c = sym (sym c.loop-text.invariant ∙ next c.args.name.now c.args.texts.now c.loop-text.text-index _ false c.loop-text-test.true (sym c.if-is_spelled.false ∙ c.is_spelled.ensures))

pub returns : goal.returns
unfolding is_in
returns c = sym (sym c.loop-text.invariant ∙ end (λ (us : List (Bor (List ℕ))). is_in c.args.name.now (map (λ t. t.now) us)) c.args.texts.now c.loop-text.text-index c.loop-text-test.false)
