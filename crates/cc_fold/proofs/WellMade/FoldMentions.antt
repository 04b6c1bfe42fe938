-- What folding makes of a node is the node or an operand of it, so it mentions no more; and what is pure
-- stays pure, since no price mark is.
use Rattle.std.proofs.Common.{◌≡◌, ℕ, ◌+◌, Bool, true, false, ◌++◌, Option, Some, None, unwrap_or, refl, sym, ap, subst, ◌∙◌}
use Rattle.std.specs.Prelude.{nat_eq, if◌then◌else◌, ◌&&◌}
use Rattle.std.proofs.lemmas.Bool.{and_parts}
use Rattle.cc_ast.specs.Syntax.{Prim, Expr, lit, unary, binary, and, or, cond, tick}
use Rattle.cc_ast.specs.declared.operator.BinOp.{BinOp}
use Rattle.cc_ast.specs.declared.operator.BinOp.TheVariants.{Instance, Has}
use Rattle.cc_ast.specs.declared.operator.UnOp.{UnOp}
use Rattle.cc_ast.specs.declared.operator.UnOp.TheVariants.{Void, Delete}
use Rattle.cc_meaning.specs.Values.{prim}
use Rattle.cc_meaning.specs.Operators.{Outcome, truthy, unary_of, binary_of}
use Rattle.cc_meaning.specs.Parts.{exact_prim}
use Rattle.cc_meaning.specs.FlatPaths.{Use, other, below, in_expr, pure_unary, pure_binary, pure}
use Rattle.cc_tied.specs.Placed.{accesses, variable}
use Rattle.cc_fold.specs.Fold.{Literal, literal, literal_at, price_of, unmarked, marked, charged, computed, computed_of_one, computed_of_two, fold_unary, fold_binary, fold_and, fold_or, fold_cond, fold}
use Rattle.cc_fold.proofs.LiteralRuns.{charged_is, computed_is}
use Rattle.cc_fold.proofs.WellMade.LessMentions.{Less, less_same, less_nothing, less_before, less_after}
use Rattle.cc_fold.proofs.WellMade.RewrittenMentions.{Turned, stays_node, to_operand}

-- ---- a price mark mentions nothing

unmarked_mentions : (e : Expr) → in_expr other (unmarked e) ≡ in_expr other e
unfolding unmarked in_expr below
unmarked_mentions (tick i n e) = refl
unmarked_mentions e = refl

marked_mentions : (i n : ℕ) (e : Expr) → in_expr other (marked i n e) ≡ in_expr other e
unfolding marked in_expr below
marked_mentions i n e = by_test (nat_eq n 0)
  where
    by_test : (b : Bool) → in_expr other (if b then e else tick i (n + price_of e) (unmarked e)) ≡ in_expr other e
    by_test true = refl
    by_test false = unmarked_mentions e

-- ---- operators on literals

-- a literal in place of a node
as_literal : (e : Expr) (i n : ℕ) (p : Prim) (r : Expr) → variable e ≡ false → accesses e ≡ false → r ≡ marked i n (lit i p) → Turned e r
unfolding in_expr
as_literal e i n p r v a h = to_operand v a (λ u. subst (λ z. Less (in_expr u e) z) (sym (ap (in_expr other) h ∙ marked_mentions i n (lit i p))) (less_nothing (in_expr u e)))

computed_turned : (e : Expr) (i n : ℕ) (o : Outcome) → variable e ≡ false → accesses e ≡ false → (x : Option Expr) → computed i n o ≡ x → Turned e (unwrap_or x e)
computed_turned e i n o v a None h = stays_node refl
computed_turned e i n o v a (Some r) h = let w = computed_is i n o r h in as_literal e i n w.value r v a w.is

one_turned : (i : ℕ) (op : UnOp) (a : Expr) (x : Option Literal) → Turned (unary i op a) (unwrap_or (computed_of_one i op x) (unary i op a))
unfolding computed_of_one variable accesses
one_turned i op a None = stays_node refl
one_turned i op a (Some l) = computed_turned (unary i op a) i l.price (unary_of op l.value) refl refl (computed i l.price (unary_of op l.value)) refl

unary_turned : (i : ℕ) (op : UnOp) (a : Expr) → Turned (unary i op a) (fold_unary i op a)
unfolding fold_unary
unary_turned i Void a = stays_node refl
unary_turned i Delete a = stays_node refl
unary_turned i op a = one_turned i op a (literal a)

two_turned : (i : ℕ) (op : BinOp) (a b : Expr) (x y : Option Literal) → Turned (binary i op a b) (unwrap_or (computed_of_two i op x y) (binary i op a b))
unfolding computed_of_two variable accesses
two_turned i op a b None y = stays_node refl
two_turned i op a b (Some l) None = stays_node refl
two_turned i op a b (Some l) (Some m) = computed_turned (binary i op a b) i (l.price + m.price) (binary_of op l.value m.value) refl refl (computed i (l.price + m.price) (binary_of op l.value m.value)) refl

binary_turned : (i : ℕ) (op : BinOp) (a b : Expr) → Turned (binary i op a b) (fold_binary i op a b)
unfolding fold_binary
binary_turned i Instance a b = stays_node refl
binary_turned i Has a b = stays_node refl
binary_turned i op a b = two_turned i op a b (literal a) (literal b)

-- ---- choices

charged_turned : (e : Expr) (i n : ℕ) (b : Expr) → variable e ≡ false → accesses e ≡ false → ((u : Use) → Less (in_expr u e) (in_expr other b)) → (x : Option Expr) → charged i n b ≡ x → Turned e (unwrap_or x e)
charged_turned e i n b v a l None h = stays_node refl
charged_turned e i n b v a l (Some r) h = to_operand v a (λ u. subst (λ z. Less (in_expr u e) z) (sym (ap (in_expr other) (charged_is i n b r h) ∙ marked_mentions i n b)) (l u))

and_turned : (i : ℕ) (a b : Expr) (x : Option Literal) → Turned (and i a b) (fold_and i x a b)
unfolding fold_and in_expr variable accesses
and_turned i a b None = stays_node refl
and_turned i a b (Some l) = by_truth (truthy l.value)
  where
    by_truth : (t : Bool) → Turned (and i a b) (if t then unwrap_or (charged i l.price b) (and i a b) else a)
    by_truth true = charged_turned (and i a b) i l.price b refl refl (λ u. less_after (in_expr other a) (less_same (in_expr other b))) (charged i l.price b) refl
    by_truth false = to_operand refl refl (λ u. less_before (in_expr other b) (less_same (in_expr other a)))

or_turned : (i : ℕ) (a b : Expr) (x : Option Literal) → Turned (or i a b) (fold_or i x a b)
unfolding fold_or in_expr variable accesses
or_turned i a b None = stays_node refl
or_turned i a b (Some l) = by_truth (truthy l.value)
  where
    by_truth : (t : Bool) → Turned (or i a b) (if t then a else unwrap_or (charged i l.price b) (or i a b))
    by_truth true = to_operand refl refl (λ u. less_before (in_expr other b) (less_same (in_expr other a)))
    by_truth false = charged_turned (or i a b) i l.price b refl refl (λ u. less_after (in_expr other a) (less_same (in_expr other b))) (charged i l.price b) refl

cond_turned : (i : ℕ) (e a b : Expr) (x : Option Literal) → Turned (cond i e a b) (fold_cond i x e a b)
unfolding fold_cond in_expr variable accesses
cond_turned i e a b None = stays_node refl
cond_turned i e a b (Some l) = by_truth (truthy l.value)
  where
    by_truth : (t : Bool) → Turned (cond i e a b) (unwrap_or (charged i l.price (if t then a else b)) (cond i e a b))
    by_truth true = charged_turned (cond i e a b) i l.price a refl refl (λ u. less_before (in_expr other b) (less_after (in_expr other e) (less_same (in_expr other a)))) (charged i l.price a) refl
    by_truth false = charged_turned (cond i e a b) i l.price b refl refl (λ u. less_after (in_expr other e ++ in_expr other a) (less_same (in_expr other b))) (charged i l.price b) refl

pub fold_turned : (e : Expr) → Turned e (fold e)
unfolding fold
fold_turned (unary i op a) = unary_turned i op a
fold_turned (binary i op a b) = binary_turned i op a b
fold_turned (and i a b) = and_turned i a b (literal a)
fold_turned (or i a b) = or_turned i a b (literal a)
fold_turned (cond i e a b) = cond_turned i e a b (literal e)
fold_turned e = stays_node refl

-- ---- what is pure

at_price : (n : ℕ) (p : Prim) (l : Literal) (b : Bool) → (if b then Some (record { price = n; value = prim p }) else None) ≡ Some l → l.price ≡ n
at_price n p l true h = let e : l ≡ record { price = n; value = prim p } = cc in ap (λ (z : Literal). z.price) e
at_price n p l false h = absurd (cc)

-- a pure literal has no price
no_price : (a : Expr) (l : Literal) → pure a ≡ true → literal a ≡ Some l → l.price ≡ 0
unfolding pure literal literal_at price_of unmarked
no_price (lit i p) l h k = at_price 0 p l (exact_prim p) k
no_price (tick i n e) l h k = absurd (cc)
no_price e l h k = absurd (cc)

marked_pure : (i n : ℕ) (e : Expr) → n ≡ 0 → pure e ≡ true → pure (marked i n e) ≡ true
unfolding marked
marked_pure i n e h k = subst (λ z. pure (if nat_eq z 0 then e else tick i (z + price_of e) (unmarked e)) ≡ true) (sym h) k

computed_pure : (e : Expr) (i n : ℕ) (o : Outcome) → pure e ≡ true → n ≡ 0 → (x : Option Expr) → computed i n o ≡ x → pure (unwrap_or x e) ≡ true
unfolding pure
computed_pure e i n o h k None g = h
computed_pure e i n o h k (Some r) g = let w = computed_is i n o r g in ap pure w.is ∙ marked_pure i n (lit i w.value) k refl

-- operands of what is pure are pure
pure_operand : (i : ℕ) (op : UnOp) (a : Expr) → pure (unary i op a) ≡ true → pure a ≡ true
unfolding pure
pure_operand i op a h = (and_parts (pure_unary op) (pure a) h).1

pure_operands : (i : ℕ) (op : BinOp) (a b : Expr) → pure (binary i op a b) ≡ true → (pure a ≡ true) × (pure b ≡ true)
unfolding pure
pure_operands i op a b h = let p = and_parts (pure_binary op && pure a) (pure b) h in ((and_parts (pure_binary op) (pure a) p.0).1, p.1)

one_pure : (i : ℕ) (op : UnOp) (a : Expr) → pure (unary i op a) ≡ true → (x : Option Literal) → literal a ≡ x → pure (unwrap_or (computed_of_one i op x) (unary i op a)) ≡ true
unfolding computed_of_one
one_pure i op a h None g = h
one_pure i op a h (Some l) g = computed_pure (unary i op a) i l.price (unary_of op l.value) h (no_price a l (pure_operand i op a h) g) (computed i l.price (unary_of op l.value)) refl

unary_pure : (i : ℕ) (op : UnOp) (a : Expr) → pure (unary i op a) ≡ true → pure (fold_unary i op a) ≡ true
unfolding fold_unary
unary_pure i Void a h = h
unary_pure i Delete a h = h
unary_pure i op a h = one_pure i op a h (literal a) refl

two_pure : (i : ℕ) (op : BinOp) (a b : Expr) → pure (binary i op a b) ≡ true → (x y : Option Literal) → literal a ≡ x → literal b ≡ y → pure (unwrap_or (computed_of_two i op x y) (binary i op a b)) ≡ true
unfolding computed_of_two
two_pure i op a b h None y g k = h
two_pure i op a b h (Some l) None g k = h
two_pure i op a b h (Some l) (Some m) g k =
    let p = pure_operands i op a b h in
    let c = no_price a l p.0 g in
    let d = no_price b m p.1 k in
    computed_pure (binary i op a b) i (l.price + m.price) (binary_of op l.value m.value) h (ap (λ z. z + m.price) c ∙ ap (λ z. 0 + z) d) (computed i (l.price + m.price) (binary_of op l.value m.value)) refl

binary_pure : (i : ℕ) (op : BinOp) (a b : Expr) → pure (binary i op a b) ≡ true → pure (fold_binary i op a b) ≡ true
unfolding fold_binary
binary_pure i Instance a b h = h
binary_pure i Has a b h = h
binary_pure i op a b h = two_pure i op a b h (literal a) (literal b) refl refl

charged_pure : (e : Expr) (i n : ℕ) (b : Expr) → pure e ≡ true → n ≡ 0 → pure b ≡ true → (x : Option Expr) → charged i n b ≡ x → pure (unwrap_or x e) ≡ true
charged_pure e i n b h k p None g = h
charged_pure e i n b h k p (Some r) g = ap pure (charged_is i n b r g) ∙ marked_pure i n b k p

and_pure : (i : ℕ) (a b : Expr) → pure (and i a b) ≡ true → pure a ≡ true → pure b ≡ true → (x : Option Literal) → literal a ≡ x → pure (fold_and i x a b) ≡ true
unfolding fold_and
and_pure i a b h p q None g = h
and_pure i a b h p q (Some l) g = by_truth (truthy l.value)
  where
    by_truth : (t : Bool) → pure (if t then unwrap_or (charged i l.price b) (and i a b) else a) ≡ true
    by_truth true = charged_pure (and i a b) i l.price b h (no_price a l p g) q (charged i l.price b) refl
    by_truth false = p

or_pure : (i : ℕ) (a b : Expr) → pure (or i a b) ≡ true → pure a ≡ true → pure b ≡ true → (x : Option Literal) → literal a ≡ x → pure (fold_or i x a b) ≡ true
unfolding fold_or
or_pure i a b h p q None g = h
or_pure i a b h p q (Some l) g = by_truth (truthy l.value)
  where
    by_truth : (t : Bool) → pure (if t then a else unwrap_or (charged i l.price b) (or i a b)) ≡ true
    by_truth true = p
    by_truth false = charged_pure (or i a b) i l.price b h (no_price a l p g) q (charged i l.price b) refl

cond_pure : (i : ℕ) (e a b : Expr) → pure (cond i e a b) ≡ true → pure e ≡ true → pure a ≡ true → pure b ≡ true → (x : Option Literal) → literal e ≡ x → pure (fold_cond i x e a b) ≡ true
unfolding fold_cond
cond_pure i e a b h o p q None g = h
cond_pure i e a b h o p q (Some l) g = by_truth (truthy l.value)
  where
    by_truth : (t : Bool) → pure (unwrap_or (charged i l.price (if t then a else b)) (cond i e a b)) ≡ true
    by_truth true = charged_pure (cond i e a b) i l.price a h (no_price e l o g) p (charged i l.price a) refl
    by_truth false = charged_pure (cond i e a b) i l.price b h (no_price e l o g) q (charged i l.price b) refl

pub fold_pure : (e : Expr) → pure e ≡ true → pure (fold e) ≡ true
unfolding fold pure
fold_pure (unary i op a) h = unary_pure i op a h
fold_pure (binary i op a b) h = binary_pure i op a b h
fold_pure (and i a b) h = let p = and_parts (pure a) (pure b) h in and_pure i a b h p.0 p.1 (literal a) refl
fold_pure (or i a b) h = let p = and_parts (pure a) (pure b) h in or_pure i a b h p.0 p.1 (literal a) refl
fold_pure (cond i e a b) h =
    let p = and_parts (pure e && pure a) (pure b) h in
    let q = and_parts (pure e) (pure a) p.0 in
    cond_pure i e a b h q.0 q.1 p.1 (literal e) refl
fold_pure e h = h
