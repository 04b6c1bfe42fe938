-- Where a type ends, by what is behind it.
use Rattle.std.specs.Prelude.{◌≡◌, ◌↔◌, ◌⊎◌, ℕ, List, [], ◌∷◌, ◌++◌, take, drop, reverse, Result, Ok, Err, IfOk}
use Rattle.std.proofs.Common.{refl, sym, ◌∙◌, ap, subst, arith, inl, inr}
use Rattle.std.proofs.lemmas.List.{reverse-append}
use Rattle.cc_jsdoc.specs.declared.reading.Open.{Open}
use Rattle.cc_jsdoc.specs.declared.reading.Open.TheVariants as o
use Rattle.cc_jsdoc.specs.declared.reading.Step.{Step}
use Rattle.cc_jsdoc.specs.declared.reading.Step.TheVariants as s
use Rattle.cc_jsdoc.specs.declared.types.Alternative.{Alternative}
use Rattle.cc_jsdoc.specs.declared.types.Alternative.TheVariants as one
use Rattle.cc_jsdoc.specs.declared.types.Simple.TheVariants as simple
use Rattle.cc_jsdoc.specs.declared.types.TypeExpr.{TypeExpr}
use Rattle.cc_jsdoc.specs.Symbols.{Mark, IsEnd}
use Rattle.cc_jsdoc.specs.Types.{IsType, array_of, IsExpression, whole, Means, derived, outside}
use Rattle.cc_jsdoc.specs.Types as t
use Rattle.cc_jsdoc.specs.Continuing.{Completes, ended, optional, union_ends, union_goes_on, element_ends, variadic_ends, result_ends, Awaits, awaits, GoesOn}
use Rattle.cc_jsdoc.proofs.SymbolLemmas.{mark_once}

-- ---- `=`

not_equals : {A : Type 0} (text r q : List ℕ) (c : ℕ) → Mark 61 text r → Mark c text q → (61 ≡ c → ⊥) → A
not_equals text r q c m n f = absurd (f (mark_once text 61 c r q m n).0)

past_equals : {os : List Open} {us ts : List Alternative} {text rest : List ℕ} → Mark 61 text rest → Completes os us text ts → Completes os us rest ts
past_equals {os} {us} {ts} {text} {rest} m (optional {a = a} n k) = subst (λ x. Completes os us x ts) (mark_once text 61 61 a rest n m).1 k
past_equals m (ended e) = let x = sym m ∙ e in absurd (cc)
past_equals {os} {us} {ts} {text} {rest} m (union_ends {a = a} n k) = not_equals text rest a 41 m n (λ e. omega arith)
past_equals {os} {us} {ts} {text} {rest} m (union_goes_on {a = a} n t k) = not_equals text rest a 124 m n (λ e. omega arith)
past_equals {os} {us} {ts} {text} {rest} m (element_ends {a = a} n k) = not_equals text rest a 62 m n (λ e. omega arith)
past_equals m (variadic_ends k) = variadic_ends (past_equals m k)
past_equals m (result_ends k) = result_ends (past_equals m k)

pub at_equals : (os : List Open) (us ts : List Alternative) (text rest : List ℕ) → Mark 61 text rest → Completes os us text ts ↔ Completes os us rest ts
at_equals os us ts text rest m = (λ k. past_equals m k, λ k. optional m k)

module _ (os : List Open) (us ts : List Alternative) (text : List ℕ) where
  -- ---- unions

  to_next : (rest : List ℕ) → Mark 124 text rest → Completes (o.Union ∷ os) us text ts → Awaits (o.Union ∷ os) us rest ts
  to_next rest m (optional {a = a} n k) = let e = (mark_once text 124 61 rest a m n).0 in absurd (omega arith)
  to_next rest m (union_ends {a = a} n k) = let e = (mark_once text 124 41 rest a m n).0 in absurd (omega arith)
  to_next rest m (union_goes_on {a = a} n t k) = subst (λ x. Awaits (o.Union ∷ os) us x ts) (mark_once text 124 124 a rest n m).1 (awaits t k)

  from_next : {rest : List ℕ} → Mark 124 text rest → Awaits (o.Union ∷ os) us rest ts → Completes (o.Union ∷ os) us text ts
  from_next m (awaits t k) = union_goes_on m t k

  pub at_next_part : (rest : List ℕ) → Mark 124 text rest → Completes (o.Union ∷ os) us text ts ↔ Awaits (o.Union ∷ os) us rest ts
  at_next_part rest m = (λ k. to_next rest m k, λ w. from_next m w)

  to_closed : (rest : List ℕ) → Mark 41 text rest → Completes (o.Union ∷ os) us text ts → Completes os us rest ts
  to_closed rest m (optional {a = a} n k) = let e = (mark_once text 41 61 rest a m n).0 in absurd (omega arith)
  to_closed rest m (union_ends {a = a} n k) = subst (λ x. Completes os us x ts) (mark_once text 41 41 a rest n m).1 k
  to_closed rest m (union_goes_on {a = a} n t k) = let e = (mark_once text 41 124 rest a m n).0 in absurd (omega arith)

  pub at_union_end : (rest : List ℕ) → Mark 41 text rest → Completes (o.Union ∷ os) us text ts ↔ Completes os us rest ts
  at_union_end rest m = (λ k. to_closed rest m k, λ k. union_ends m k)

  module _ (no_equals : (rest : List ℕ) → ¬ Mark 61 text rest) where
    no_union : ((rest : List ℕ) → ¬ Mark 124 text rest) → ((rest : List ℕ) → ¬ Mark 41 text rest) → Completes (o.Union ∷ os) us text ts → ⊥
    no_union f g (optional {a = a} n k) = no_equals a n
    no_union f g (union_ends {a = a} n k) = g a n
    no_union f g (union_goes_on {a = a} n t k) = f a n

    pub at_no_union : ((rest : List ℕ) → ¬ Mark 124 text rest) → ((rest : List ℕ) → ¬ Mark 41 text rest) → Completes (o.Union ∷ os) us text ts ↔ ⊥
    at_no_union f g = (λ k. no_union f g k, λ x. absurd x)

    -- ---- the element type of an array

    to_array : (n : ℕ) (rest : List ℕ) → Mark 62 text rest → Completes (o.Element n ∷ os) us text ts → Completes os (take n us ++ array_of (drop n us) ∷ []) rest ts
    to_array n rest m (optional {a = a} l k) = absurd (no_equals a l)
    to_array n rest m (element_ends {a = a} l k) = subst (λ x. Completes os (take n us ++ array_of (drop n us) ∷ []) x ts) (mark_once text 62 62 a rest l m).1 k

    pub at_element : (n : ℕ) (rest : List ℕ) → Mark 62 text rest → Completes (o.Element n ∷ os) us text ts ↔ Completes os (take n us ++ array_of (drop n us) ∷ []) rest ts
    at_element n rest m = (λ k. to_array n rest m k, λ k. element_ends m k)

    no_element : (n : ℕ) → ((rest : List ℕ) → ¬ Mark 62 text rest) → Completes (o.Element n ∷ os) us text ts → ⊥
    no_element n f (optional {a = a} l k) = no_equals a l
    no_element n f (element_ends {a = a} l k) = f a l

    pub at_no_element : (n : ℕ) → ((rest : List ℕ) → ¬ Mark 62 text rest) → Completes (o.Element n ∷ os) us text ts ↔ ⊥
    at_no_element n f = (λ k. no_element n f k, λ x. absurd x)

    -- ---- the type behind three dots, and the result of a function

    to_variadic : (n : ℕ) → Completes (o.Variadic n ∷ os) us text ts → Completes os (take n us ++ one.Unknown ∷ []) text ts
    to_variadic n (optional {a = a} l k) = absurd (no_equals a l)
    to_variadic n (variadic_ends k) = k

    pub at_variadic_end : (n : ℕ) → Completes (o.Variadic n ∷ os) us text ts ↔ Completes os (take n us ++ one.Unknown ∷ []) text ts
    at_variadic_end n = (λ k. to_variadic n k, λ k. variadic_ends k)

    to_result : (n : ℕ) → Completes (o.Result n ∷ os) us text ts → Completes os (take n us ++ one.Simple simple.Function ∷ []) text ts
    to_result n (optional {a = a} l k) = absurd (no_equals a l)
    to_result n (result_ends k) = k

    pub at_result_end : (n : ℕ) → Completes (o.Result n ∷ os) us text ts ↔ Completes os (take n us ++ one.Simple simple.Function ∷ []) text ts
    at_result_end n = (λ k. to_result n k, λ k. result_ends k)

-- ---- the whole type

to_whole : {us ts : List Alternative} {text : List ℕ} → ((rest : List ℕ) → ¬ Mark 61 text rest) → Completes [] us text ts → (us ≡ ts) × IsEnd text
to_whole f (ended e) = (refl, e)
to_whole f (optional {a = a} m k) = absurd (f a m)

pub at_end : (us ts : List Alternative) (text : List ℕ) → ((rest : List ℕ) → ¬ Mark 61 text rest) → IsEnd text → Completes [] us text ts ↔ (us ≡ ts)
at_end us ts text f e = (λ k. (to_whole f k).0, λ h. subst (λ x. Completes [] us text x) h (ended e))

pub at_no_end : (us ts : List Alternative) (text : List ℕ) → ((rest : List ℕ) → ¬ Mark 61 text rest) → (IsEnd text → ⊥) → Completes [] us text ts ↔ ⊥
at_no_end us ts text f e = (λ k. e (to_whole f k).1, λ x. absurd x)

-- ---- what was open last

pub popped : {Q : Type 0} (os ns : List Open) (x : Open) (us ts : List Alternative) (text : List ℕ) → os ≡ ns ++ x ∷ [] → Completes (x ∷ reverse ns) us text ts ↔ Q → Completes (reverse os) us text ts ↔ Q
popped os ns x us ts text e h =
    let same = ap reverse e ∙ reverse-append ns (x ∷ []) in
    (λ k. h.0 (subst (λ y. Completes y us text ts) same k), λ q. subst (λ y. Completes y us text ts) (sym same) (h.1 q))

-- nothing was open
pub ended_is : (step : Step) (os ns : List Open) (us ts : List Alternative) (text : List ℕ) → ((rest : List ℕ) → ¬ Mark 61 text rest) → (step ≡ s.Whole) ⊎ (step ≡ s.Outside)
    → (step ≡ s.Whole) ↔ IsEnd text → os ≡ [] → Completes (reverse os) us text ts ↔ GoesOn step ns us ts
ended_is step os ns us ts text f (inl e) h n =
    subst (λ x. Completes (reverse os) us text ts ↔ GoesOn x ns us ts) (sym e) (subst (λ x. Completes (reverse x) us text ts ↔ (us ≡ ts)) (sym n) (at_end us ts text f (h.0 e)))
ended_is step os ns us ts text f (inr e) h n =
    let open_end : IsEnd text → ⊥ = λ k. let x = sym (h.1 k) ∙ e in cc in
    subst (λ x. Completes (reverse os) us text ts ↔ GoesOn x ns us ts) (sym e) (subst (λ x. Completes (reverse x) us text ts ↔ ⊥) (sym n) (at_no_end us ts text f open_end))

-- ---- whole texts

to_expression : {text rest : List ℕ} {vs ts : List Alternative} → IsType text vs rest → Completes [] vs rest ts → IsExpression text ts
to_expression h (ended e) = whole h e
to_expression h (optional m k) = to_expression (t.optional h m) k

from_expression : {text : List ℕ} {ts : List Alternative} → IsExpression text ts → Awaits [] [] text ts
from_expression (whole h e) = awaits h (ended e)

from_awaits : {text : List ℕ} {ts : List Alternative} → Awaits [] [] text ts → IsExpression text ts
from_awaits (awaits h k) = to_expression h k

pub whole_is : (os : List Open) (us ts : List Alternative) (text : List ℕ) → os ≡ [] → us ≡ [] → IsExpression text ts ↔ Awaits (reverse os) us text ts
whole_is os us ts text e h = (
  λ x. subst (λ y. Awaits (reverse y) us text ts) (sym e) (subst (λ y. Awaits [] y text ts) (sym h) (from_expression x)),
  λ w. from_awaits (subst (λ y. Awaits [] y text ts) h (subst (λ y. Awaits (reverse y) us text ts) e w)),
)

pub means_unknown : {E : Type 0} (text : List ℕ) (r : Result TypeExpr E) → ((ts : List Alternative) → ¬ IsExpression text ts) → IfOk r (λ e. e ≡ record { alternatives = one.Unknown ∷ [] }) → IfOk r (Means text)
means_unknown text (Ok e) f h = subst (Means text) (sym h) (outside f)
means_unknown text (Err x) f h = h

pub means_read : (text : List ℕ) (us vs : List Alternative) → IsExpression text us → vs ≡ us → Means text (record { alternatives = vs })
means_read text us vs h e = subst (λ x. Means text (record { alternatives = x })) (sym e) (derived h)
