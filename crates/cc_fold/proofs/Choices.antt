-- What the guard leaves of a choice by a literal.
use Rattle.std.proofs.Common.{◌≡◌, refl, ap, ◌∙◌, ℕ, ◌+◌, ◌^◌, Bool, true, false, Option, Some, None, unwrap_or}
use Rattle.std.specs.Option.{option_map}
use Rattle.std.specs.Prelude.{nat_eq, nat_lt, not, ◌&&◌, if◌then◌else◌}
use Rattle.cc_ast.specs.Syntax.{Expr, lit, and, or, cond, tick}
use Rattle.cc_ast.specs.declared.tree.Ref.{Ref}
use Rattle.cc_meaning.specs.Monad.{pick}
use Rattle.cc_meaning.specs.Operators.{truthy}
use Rattle.cc_tied.specs.Placed.{Place, a_value, an_assigned, a_callee, a_deleted, an_object, keeps, guard}
use Rattle.cc_fold.specs.declared.place.Shape.TheVariants.{Other}
use Rattle.cc_fold.specs.Fold.{Literal, literal, literal_at, price_of, unmarked, marked, charged, fold_and, fold_or, fold_cond}
use Rattle.cc_fold.specs.Literals.{tested}
use Rattle.cc_fold.specs.declared.choice.Test.{Test}
use Rattle.cc_fold.specs.Places.{shape_of, displaces}
use Rattle.cc_fold.proofs.Shapes.{guarded}

-- ---- shapes

shape_unmarked : (e : Expr) → shape_of (unmarked e) ≡ shape_of e
unfolding shape_of unmarked
shape_unmarked (tick i n e) = refl
shape_unmarked _ = refl

shape_tick : (i n : ℕ) (e : Expr) → shape_of (tick i n e) ≡ shape_of e
unfolding shape_of
shape_tick i n e = refl

pub marked_shape : (i n : ℕ) (e : Expr) → shape_of (marked i n e) ≡ shape_of e
unfolding marked
marked_shape i n e = by_price (nat_eq n 0)
  where
    by_price : (b : Bool) → shape_of (if b then e else tick i (n + price_of e) (unmarked e)) ≡ shape_of e
    by_price true = refl
    by_price false = shape_tick i (n + price_of e) (unmarked e) ∙ shape_unmarked e

literal_shape : (a : Expr) (l : Literal) → literal a ≡ Some l → shape_of a ≡ Other
unfolding literal literal_at price_of unmarked shape_of
literal_shape (lit i p) l h = refl
literal_shape (tick i n (lit j p)) l h = refl
literal_shape _ l h = absurd (cc)

-- ---- what a choice is, by its test

record Seen (a : Expr) (s : Test) : Type 0 where
  pub found : Literal
  pub is : literal a ≡ Some found
  pub truth : truthy found.value ≡ s.is_true
  pub price : found.price ≡ s.price

seen : (a : Expr) (s : Test) → Some s ≡ option_map tested (literal a) → Seen a s
seen a s = by_literal (literal a) refl
  where
    by_literal : (o : Option Literal) → literal a ≡ o → Some s ≡ option_map tested o → Seen a s
    by_literal None d h = absurd (cc)
    by_literal (Some l) d h =
        let e : tested l ≡ s = cc in
        record { found = l; is = d; truth = ap (λ (z : Test). z.is_true) e; price = ap (λ (z : Test). z.price) e }

unseen : (a : Expr) → None ≡ option_map tested (literal a) → literal a ≡ None
unseen a = by_literal (literal a)
  where
    by_literal : (o : Option Literal) → None ≡ option_map tested o → o ≡ None
    by_literal None h = refl
    by_literal (Some l) h = absurd (cc)

and_is : (i : ℕ) (a b : Expr) (s : Test) → Seen a s → fold_and i (literal a) a b ≡ (if s.is_true then unwrap_or (charged i s.price b) (and i a b) else a)
unfolding fold_and
and_is i a b s w = ap (λ z. fold_and i z a b) w.is ∙ ap (λ z. if z then unwrap_or (charged i w.found.price b) (and i a b) else a) w.truth ∙ ap (λ z. if s.is_true then unwrap_or (charged i z b) (and i a b) else a) w.price

or_is : (i : ℕ) (a b : Expr) (s : Test) → Seen a s → fold_or i (literal a) a b ≡ (if s.is_true then a else unwrap_or (charged i s.price b) (or i a b))
unfolding fold_or
or_is i a b s w = ap (λ z. fold_or i z a b) w.is ∙ ap (λ z. if z then a else unwrap_or (charged i w.found.price b) (or i a b)) w.truth ∙ ap (λ z. if s.is_true then a else unwrap_or (charged i z b) (or i a b)) w.price

cond_is : (i : ℕ) (e a b : Expr) (s : Test) → Seen e s → fold_cond i (literal e) e a b ≡ unwrap_or (charged i s.price (if s.is_true then a else b)) (cond i e a b)
unfolding fold_cond
cond_is i e a b s w = ap (λ z. fold_cond i z e a b) w.is ∙ ap (λ z. unwrap_or (charged i w.found.price (if z then a else b)) (cond i e a b)) w.truth ∙ ap (λ z. unwrap_or (charged i z (if s.is_true then a else b)) (cond i e a b)) w.price

module _ (built : Ref → Bool) (t : Bool) (q : Place) where
  pub displaces_other : (p : Place) → displaces built t p Other ≡ false
  unfolding displaces
  displaces_other a_value = refl
  displaces_other an_assigned = refl
  displaces_other a_callee = refl
  displaces_other a_deleted = refl
  displaces_other an_object = refl

  pub stays : (old : Expr) → guard built t q old old ≡ old
  unfolding guard
  stays old = by_test (keeps built t q old old)
    where
      by_test : (b : Bool) → pick b old old ≡ old
      by_test true = refl
      by_test false = refl

  -- the operand takes the place
  takes : (old e : Expr) (i n : ℕ) → shape_of old ≡ Other → nat_lt (n + price_of e) (2 ^ 64) && not (displaces built t q (shape_of e)) ≡ true → guard built t q old (unwrap_or (charged i n e) old) ≡ marked i n e
  unfolding charged
  takes old e i n h = by_tests (nat_lt (n + price_of e) (2 ^ 64)) (displaces built t q (shape_of e)) refl
    where
      by_tests : (b d : Bool) → displaces built t q (shape_of e) ≡ d → b && not d ≡ true → guard built t q old (unwrap_or (if b then Some (marked i n e) else None) old) ≡ marked i n e
      by_tests true false k p = guarded built t q old (marked i n e) h ∙ ap (λ z. pick z old (marked i n e)) (ap (displaces built t q) (marked_shape i n e) ∙ k)
      by_tests true true k p = absurd (cc)
      by_tests false d k p = absurd (cc)

  -- or the old node stays
  keeps_old : (old e : Expr) (i n : ℕ) → shape_of old ≡ Other → nat_lt (n + price_of e) (2 ^ 64) && not (displaces built t q (shape_of e)) ≡ false → guard built t q old (unwrap_or (charged i n e) old) ≡ old
  unfolding charged
  keeps_old old e i n h = by_tests (nat_lt (n + price_of e) (2 ^ 64)) (displaces built t q (shape_of e)) refl
    where
      by_tests : (b d : Bool) → displaces built t q (shape_of e) ≡ d → b && not d ≡ false → guard built t q old (unwrap_or (if b then Some (marked i n e) else None) old) ≡ old
      by_tests true false k p = absurd (cc)
      by_tests true true k p = guarded built t q old (marked i n e) h ∙ ap (λ z. pick z old (marked i n e)) (ap (displaces built t q) (marked_shape i n e) ∙ k)
      by_tests false d k p = stays old

  -- a literal may stand anywhere
  literal_stands : (old a : Expr) (l : Literal) → shape_of old ≡ Other → literal a ≡ Some l → guard built t q old a ≡ a
  literal_stands old a l h k = guarded built t q old a h ∙ ap (λ z. pick z old a) (ap (displaces built t q) (literal_shape a l k) ∙ displaces_other q)

  -- ---- `&&`

  pub and_none : (i : ℕ) (a b : Expr) → None ≡ option_map tested (literal a) → guard built t q (and i a b) (fold_and i (literal a) a b) ≡ and i a b
  unfolding fold_and
  and_none i a b h = ap (λ z. guard built t q (and i a b) (fold_and i z a b)) (unseen a h) ∙ stays (and i a b)

  pub and_left : (i : ℕ) (a b : Expr) (s : Test) → Some s ≡ option_map tested (literal a) → s.is_true ≡ false → guard built t q (and i a b) (fold_and i (literal a) a b) ≡ a
  unfolding shape_of
  and_left i a b s h k = let w = seen a s h in ap (guard built t q (and i a b)) (and_is i a b s w ∙ ap (λ z. if z then unwrap_or (charged i s.price b) (and i a b) else a) k) ∙ literal_stands (and i a b) a w.found refl w.is

  pub and_right : (i : ℕ) (a b : Expr) (s : Test) → Some s ≡ option_map tested (literal a) → s.is_true ≡ true → nat_lt (s.price + price_of b) (2 ^ 64) && not (displaces built t q (shape_of b)) ≡ true → guard built t q (and i a b) (fold_and i (literal a) a b) ≡ marked i s.price b
  unfolding shape_of
  and_right i a b s h k p = ap (guard built t q (and i a b)) (and_is i a b s (seen a s h) ∙ ap (λ z. if z then unwrap_or (charged i s.price b) (and i a b) else a) k) ∙ takes (and i a b) b i s.price refl p

  pub and_stays : (i : ℕ) (a b : Expr) (s : Test) → Some s ≡ option_map tested (literal a) → s.is_true ≡ true → nat_lt (s.price + price_of b) (2 ^ 64) && not (displaces built t q (shape_of b)) ≡ false → guard built t q (and i a b) (fold_and i (literal a) a b) ≡ and i a b
  unfolding shape_of
  and_stays i a b s h k p = ap (guard built t q (and i a b)) (and_is i a b s (seen a s h) ∙ ap (λ z. if z then unwrap_or (charged i s.price b) (and i a b) else a) k) ∙ keeps_old (and i a b) b i s.price refl p

  -- ---- `||`

  pub or_none : (i : ℕ) (a b : Expr) → None ≡ option_map tested (literal a) → guard built t q (or i a b) (fold_or i (literal a) a b) ≡ or i a b
  unfolding fold_or
  or_none i a b h = ap (λ z. guard built t q (or i a b) (fold_or i z a b)) (unseen a h) ∙ stays (or i a b)

  pub or_left : (i : ℕ) (a b : Expr) (s : Test) → Some s ≡ option_map tested (literal a) → s.is_true ≡ true → guard built t q (or i a b) (fold_or i (literal a) a b) ≡ a
  unfolding shape_of
  or_left i a b s h k = let w = seen a s h in ap (guard built t q (or i a b)) (or_is i a b s w ∙ ap (λ z. if z then a else unwrap_or (charged i s.price b) (or i a b)) k) ∙ literal_stands (or i a b) a w.found refl w.is

  pub or_right : (i : ℕ) (a b : Expr) (s : Test) → Some s ≡ option_map tested (literal a) → s.is_true ≡ false → nat_lt (s.price + price_of b) (2 ^ 64) && not (displaces built t q (shape_of b)) ≡ true → guard built t q (or i a b) (fold_or i (literal a) a b) ≡ marked i s.price b
  unfolding shape_of
  or_right i a b s h k p = ap (guard built t q (or i a b)) (or_is i a b s (seen a s h) ∙ ap (λ z. if z then a else unwrap_or (charged i s.price b) (or i a b)) k) ∙ takes (or i a b) b i s.price refl p

  pub or_stays : (i : ℕ) (a b : Expr) (s : Test) → Some s ≡ option_map tested (literal a) → s.is_true ≡ false → nat_lt (s.price + price_of b) (2 ^ 64) && not (displaces built t q (shape_of b)) ≡ false → guard built t q (or i a b) (fold_or i (literal a) a b) ≡ or i a b
  unfolding shape_of
  or_stays i a b s h k p = ap (guard built t q (or i a b)) (or_is i a b s (seen a s h) ∙ ap (λ z. if z then a else unwrap_or (charged i s.price b) (or i a b)) k) ∙ keeps_old (or i a b) b i s.price refl p

  -- ---- `?:`

  pub cond_none : (i : ℕ) (e a b : Expr) → None ≡ option_map tested (literal e) → guard built t q (cond i e a b) (fold_cond i (literal e) e a b) ≡ cond i e a b
  unfolding fold_cond
  cond_none i e a b h = ap (λ z. guard built t q (cond i e a b) (fold_cond i z e a b)) (unseen e h) ∙ stays (cond i e a b)

  cond_taken : (i : ℕ) (e a b x : Expr) (s : Test) → Some s ≡ option_map tested (literal e) → (if s.is_true then a else b) ≡ x → nat_lt (s.price + price_of x) (2 ^ 64) && not (displaces built t q (shape_of x)) ≡ true → guard built t q (cond i e a b) (fold_cond i (literal e) e a b) ≡ marked i s.price x
  unfolding shape_of
  cond_taken i e a b x s h k p = ap (guard built t q (cond i e a b)) (cond_is i e a b s (seen e s h) ∙ ap (λ z. unwrap_or (charged i s.price z) (cond i e a b)) k) ∙ takes (cond i e a b) x i s.price refl p

  cond_stays : (i : ℕ) (e a b x : Expr) (s : Test) → Some s ≡ option_map tested (literal e) → (if s.is_true then a else b) ≡ x → nat_lt (s.price + price_of x) (2 ^ 64) && not (displaces built t q (shape_of x)) ≡ false → guard built t q (cond i e a b) (fold_cond i (literal e) e a b) ≡ cond i e a b
  unfolding shape_of
  cond_stays i e a b x s h k p = ap (guard built t q (cond i e a b)) (cond_is i e a b s (seen e s h) ∙ ap (λ z. unwrap_or (charged i s.price z) (cond i e a b)) k) ∙ keeps_old (cond i e a b) x i s.price refl p

  pub cond_yes : (i : ℕ) (e a b : Expr) (s : Test) → Some s ≡ option_map tested (literal e) → s.is_true ≡ true → nat_lt (s.price + price_of a) (2 ^ 64) && not (displaces built t q (shape_of a)) ≡ true → guard built t q (cond i e a b) (fold_cond i (literal e) e a b) ≡ marked i s.price a
  cond_yes i e a b s h k p = cond_taken i e a b a s h (ap (λ z. if z then a else b) k) p

  pub cond_no : (i : ℕ) (e a b : Expr) (s : Test) → Some s ≡ option_map tested (literal e) → s.is_true ≡ false → nat_lt (s.price + price_of b) (2 ^ 64) && not (displaces built t q (shape_of b)) ≡ true → guard built t q (cond i e a b) (fold_cond i (literal e) e a b) ≡ marked i s.price b
  cond_no i e a b s h k p = cond_taken i e a b b s h (ap (λ z. if z then a else b) k) p

  pub cond_stays_yes : (i : ℕ) (e a b : Expr) (s : Test) → Some s ≡ option_map tested (literal e) → s.is_true ≡ true → nat_lt (s.price + price_of a) (2 ^ 64) && not (displaces built t q (shape_of a)) ≡ false → guard built t q (cond i e a b) (fold_cond i (literal e) e a b) ≡ cond i e a b
  cond_stays_yes i e a b s h k p = cond_stays i e a b a s h (ap (λ z. if z then a else b) k) p

  pub cond_stays_no : (i : ℕ) (e a b : Expr) (s : Test) → Some s ≡ option_map tested (literal e) → s.is_true ≡ false → nat_lt (s.price + price_of b) (2 ^ 64) && not (displaces built t q (shape_of b)) ≡ false → guard built t q (cond i e a b) (fold_cond i (literal e) e a b) ≡ cond i e a b
  cond_stays_no i e a b s h k p = cond_stays i e a b b s h (ap (λ z. if z then a else b) k) p

pub ruleset and_choices = (and_none, and_left, and_right, and_stays)

pub ruleset or_choices = (or_none, or_left, or_right, or_stays)

pub ruleset cond_choices = (cond_none, cond_yes, cond_no, cond_stays_yes, cond_stays_no)
