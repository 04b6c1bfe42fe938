-- The test of ancestry decides it: a chain can do without repeats, and so with no more steps than
-- there are classes.
use Rattle.std.proofs.Common.{◌≡◌, ◌≢◌, ℕ, zero, suc, ◌-◌, ◌<◌, ◌≤◌, Bool, true, false, ◌||◌, eqb, List, [], ◌∷◌, ◌++◌, length, get_or, Contains, IsTrue, ◌↔◌, Option, Some, None, option_to_list, refl, sym, ap, ◌∙◌, subst, inl, inr, arith}
use Rattle.std.specs.Bool.{one_answer}
use Rattle.std.proofs.Math.Bool.{or-false}
use Rattle.std.proofs.lemmas.Option.{slice_get_read}
use Rattle.std.specs.List.{IsDistinct, AllByRecursion, list_any}
use Rattle.std.proofs.lemmas.Bool.{or_cases, or_left, or_right, or_parts, or_from, ne_eqb, eqb-true, eq-eqb, cases_Bool, false≢true}
use Rattle.std.proofs.lemmas.List.Folds.{list_any-append, list_any_at, Any-from_list_any, list_any-from_Any}
use Rattle.std.proofs.lemmas.Map.Keys.{IsDistinct-cons, IsDistinct-tail}
use Rattle.std.proofs.lemmas.Map.Steps.{length-le_from_distinct_below}
use Rattle.cc_ast.specs.declared.tables.Class.{Class}
use Rattle.cc_ast.specs.declared.tables.TypeSet.{TypeSet}
use Rattle.cc_types.specs.Types.{parents, parents_of, Ancestor, itself, above, reaches, subtype, instance_of, IsInstance}

-- ---- the test is right

pub reaches-sound : (n : ℕ) (cs : List Class) (a b : ℕ) → reaches n cs a b ≡ true → Ancestor cs a b
unfolding reaches
reaches-sound zero cs a b h = subst (λ (x : ℕ). Ancestor cs a x) (eqb-true a b h) (itself a)
reaches-sound (suc n) cs a b h =
    elim (or_cases (eqb a b) (list_any (λ p. reaches n cs p b) (parents cs a)) h) [
      | inl e ↦ subst (λ (x : ℕ). Ancestor cs a x) (eqb-true a b e) (itself a)
      | inr e ↦ let any = Any-from_list_any (λ p. reaches n cs p b) (parents cs a) e in above a any.1 b (any.0, any.2, any.3) (reaches-sound n cs any.1 b any.4)
    ]

-- ---- a class with a parent is in the table

pub parents-in : (cs : List Class) (a p : ℕ) → Contains (parents cs a) p → a < length cs
unfolding parents
parents-in [] a p c = absurd (let h : c.0 < 0 = c.1 in omega arith)
parents-in (k ∷ cs) zero p c = omega arith
parents-in (k ∷ cs) (suc a) p c = let h : a < length cs = parents-in cs a p c in omega arith

-- ---- chains by the classes that they pass, but the last

data Path (cs : List Class) : List ℕ → ℕ → ℕ → Type 0 where
  stop : (b : ℕ) → Path cs [] b b
  go : (a p b : ℕ) (ns : List ℕ) → Contains (parents cs a) p → Path cs ns p b → Path cs (a ∷ ns) a b

record Simple (cs : List Class) (a b : ℕ) : Type 0 where
  nodes : List ℕ
  path : Path cs nodes a b
  distinct : IsDistinct eqb nodes
  below : (q : ℕ) → list_any (eqb q) nodes ≡ true → q < length cs

-- the rest of a chain from the place where it passes a
cut : (cs : List Class) (a p b : ℕ) (ns : List ℕ) → Path cs ns p b → IsDistinct eqb ns → ((q : ℕ) → list_any (eqb q) ns ≡ true → q < length cs) → list_any (eqb a) ns ≡ true → Simple cs a b
cut cs a p b [] r d w h = absurd (false≢true h)
cut cs a p b (n ∷ ns) (go _ p' _ _ c r) d w h =
    elim (or_cases (eqb a n) (list_any (eqb a) ns) h) [
      | inl e ↦ subst (λ (x : ℕ). Simple cs x b) (sym (eqb-true a n e)) (record { nodes = n ∷ ns; path = go n p' b ns c r; distinct = d; below = w })
      | inr e ↦ cut cs a p' b ns r (IsDistinct-tail eqb n ns d) (λ q k. w q (or_right (eqb q n) (list_any (eqb q) ns) k)) e
    ]

none_equal : (a : ℕ) (ns : List ℕ) → list_any (eqb a) ns ≡ false → AllByRecursion (λ y. eqb a y ≡ false) ns
none_equal a [] h = tt
none_equal a (n ∷ ns) h = let both = or_parts (eqb a n) (list_any (eqb a) ns) h in (both.0, none_equal a ns both.1)

longer : (cs : List Class) (a p b : ℕ) → Contains (parents cs a) p → Simple cs p b → Simple cs a b
longer cs a p b c s =
    elim (cases_Bool (list_any (eqb a) s.nodes)) [
      | inl h ↦ cut cs a p b s.nodes s.path s.distinct s.below h
      | inr h ↦ record { nodes = a ∷ s.nodes; path = go a p b s.nodes c s.path; distinct = IsDistinct-cons eqb a s.nodes (none_equal a s.nodes h) s.distinct; below = λ q k. elim (or_cases (eqb q a) (list_any (eqb q) s.nodes) k) [ inl e ↦ subst (λ (x : ℕ). x < length cs) (sym (eqb-true q a e)) (parents-in cs a p c) | inr e ↦ s.below q e ] }
    ]

simple : (cs : List Class) (a b : ℕ) → Ancestor cs a b → Simple cs a b
unfolding IsDistinct
simple cs a b (itself _) = record { nodes = []; path = stop _; distinct = tt; below = λ q k. absurd (false≢true k) }
simple cs a b (above _ p _ c r) = longer cs a p b c (simple cs p b r)

-- ---- the test finds each ancestor

walk : (cs : List Class) (ns : List ℕ) (a b : ℕ) → Path cs ns a b → (n : ℕ) → length ns ≤ n → reaches n cs a b ≡ true
unfolding reaches
walk cs [] a b (stop _) zero h = eq-eqb b b refl
walk cs [] a b (stop _) (suc n) h = or_left (eqb b b) (list_any (λ p. reaches n cs p b) (parents cs b)) (eq-eqb b b refl)
walk cs (m ∷ ns) a b (go _ p _ _ c r) zero h = absurd (omega arith)
walk cs (m ∷ ns) a b (go _ p _ _ c r) (suc n) h =
    or_right (eqb a b) (list_any (λ q. reaches n cs q b) (parents cs a))
    (list_any-from_Any (λ q. reaches n cs q b) (parents cs a) (c.0, p, c.1, c.2, walk cs ns p b r n (omega arith)))

pub subtype-sound : (cs : List Class) (a b : ℕ) → subtype cs a b ≡ true → Ancestor cs a b
unfolding subtype
subtype-sound cs a b h = reaches-sound (length cs) cs a b h

pub subtype-complete : (cs : List Class) (a b : ℕ) → Ancestor cs a b → subtype cs a b ≡ true
unfolding subtype
subtype-complete cs a b r =
    let s = simple cs a b r in
    walk cs s.nodes a b s.path (length cs) (length-le_from_distinct_below s.nodes (length cs) s.distinct s.below)

-- the test is the only answer that tells the ancestors
pub subtype-only : (r : Bool) (cs : List Class) (a b : ℕ) → (IsTrue r ↔ Ancestor cs a b) → r ≡ subtype cs a b
subtype-only r cs a b tells = one_answer r (subtype cs a b) (tells.0, tells.1) (subtype-sound cs a b, subtype-complete cs a b)

pub subtype-tells : (r : Bool) (cs : List Class) (a b : ℕ) → r ≡ subtype cs a b → IsTrue r ↔ Ancestor cs a b
subtype-tells r cs a b e = (λ h. subtype-sound cs a b (sym e ∙ h), λ h. e ∙ subtype-complete cs a b h)

-- ---- the test, step by step

pub reaches-itself : (n : ℕ) (cs : List Class) (a b : ℕ) → a ≡ b → reaches n cs a b ≡ true
unfolding reaches
reaches-itself zero cs a b e = eq-eqb a b e
reaches-itself (suc n) cs a b e = or_left (eqb a b) (list_any (λ p. reaches n cs p b) (parents cs a)) (eq-eqb a b e)

pub reaches-stops : (n : ℕ) (cs : List Class) (a b : ℕ) → a ≢ b → n ≡ 0 → reaches n cs a b ≡ false
unfolding reaches
reaches-stops zero cs a b k e = ne_eqb a b k
reaches-stops (suc n) cs a b k e = absurd (omega arith)

no_parents : (cs : List Class) (a : ℕ) → length cs ≤ a → parents cs a ≡ []
unfolding parents
no_parents [] a h = refl
no_parents (k ∷ cs) zero h = absurd (omega arith)
no_parents (k ∷ cs) (suc a) h = no_parents cs a (omega arith)

pub reaches-past : (n : ℕ) (cs : List Class) (a b : ℕ) → a ≢ b → length cs ≤ a → reaches n cs a b ≡ false
unfolding reaches
reaches-past zero cs a b k h = ne_eqb a b k
reaches-past (suc n) cs a b k h = or_from (eqb a b) (list_any (λ p. reaches n cs p b) (parents cs a)) (ne_eqb a b k) (ap (list_any (λ p. reaches n cs p b)) (no_parents cs a h))

reaches-next : (n : ℕ) (cs : List Class) (a b : ℕ) (k : Class) → a ≢ b → a < length cs → k ≡ get_or cs a k
    → reaches (suc n) cs a b ≡ (list_any (λ p. reaches n cs p b) (option_to_list k.extends) || list_any (λ p. reaches n cs p b) k.implements)
unfolding reaches parents
reaches-next n cs a b k other h e =
    let p : ℕ → Bool = λ q. reaches n cs q b in
    let here : parents cs a ≡ option_to_list k.extends ++ k.implements = ap parents_of (slice_get_read cs (length cs) a k refl h e) in
    ap (λ (t : Bool). t || list_any p (parents cs a)) (ne_eqb a b other) ∙ ap (list_any p) here ∙ list_any-append p (option_to_list k.extends) k.implements

-- a class reaches what its parents reach
pub reaches-by_parents : (n : ℕ) (cs : List Class) (a b : ℕ) (k : Class) → a ≢ b → n ≢ 0 → a < length cs → k ≡ get_or cs a k
    → reaches n cs a b ≡ (list_any (λ p. reaches (n - 1) cs p b) (option_to_list k.extends) || list_any (λ p. reaches (n - 1) cs p b) k.implements)
reaches-by_parents n cs a b k other some h e =
    let more : n ≡ suc (n - 1) = omega arith in
    ap (λ (m : ℕ). reaches m cs a b) more ∙ reaches-next (n - 1) cs a b k other h e

pub any_option-Some : (f : ℕ → Bool) (o : Option ℕ) (p : ℕ) (r : Bool) → o ≡ Some p → r ≡ f p → r ≡ list_any f (option_to_list o)
any_option-Some f o p r e is = rw e (is ∙ sym (or-false (f p)))

pub any_option-None : (f : ℕ → Bool) (o : Option ℕ) → o ≡ None → false ≡ list_any f (option_to_list o)
any_option-None f o e = rw e refl

pub reaches-join : (n : ℕ) (cs : List Class) (a b : ℕ) (k : Class) (x y : Bool) → a ≢ b → n ≢ 0 → a < length cs → k ≡ get_or cs a k
    → x ≡ list_any (λ p. reaches (n - 1) cs p b) (option_to_list k.extends) → y ≡ list_any (λ p. reaches (n - 1) cs p b) k.implements → (x || y) ≡ reaches n cs a b
reaches-join n cs a b k x y other some h e ex ey = rw (ex, ey) (sym (reaches-by_parents n cs a b k other some h e))

-- ---- types

pub instance-tells : (r : Bool) (cs : List Class) (c : ℕ) (t : TypeSet) → r ≡ instance_of cs c t → IsTrue r ↔ IsInstance cs c t
unfolding instance_of
instance-tells r cs c t e =
    let f : ℕ → Bool = λ d. subtype cs c d in (
      λ h. elim (or_cases t.unknown (list_any f t.classes) (sym e ∙ h)) [ inl u ↦ inl u | inr k ↦ let any = Any-from_list_any f t.classes k in inr (any.1, (any.0, any.2, any.3), subtype-sound cs c any.1 any.4) ],
      λ i. elim i [ inl u ↦ e ∙ or_left t.unknown (list_any f t.classes) u | inr d ↦ e ∙ or_right t.unknown (list_any f t.classes) (list_any-from_Any f t.classes (d.1.0, d.0, d.1.1, d.1.2, subtype-complete cs c d.0 d.2)) ],
    )

pub instance-unknown : (cs : List Class) (c : ℕ) (t : TypeSet) → t.unknown ≡ true → true ≡ instance_of cs c t
unfolding instance_of
instance-unknown cs c t u = sym (or_left t.unknown (list_any (λ d. subtype cs c d) t.classes) u)

pub instance-found : (cs : List Class) (c d : ℕ) (t : TypeSet) (items : List ℕ) (i : ℕ) → items ≡ t.classes → i < length items → d ≡ get_or items i 0 → subtype cs c d ≡ true → true ≡ instance_of cs c t
unfolding instance_of
instance-found cs c d t items i same h e k =
    let f : ℕ → Bool = λ x. subtype cs c x in
    let here : list_any f items ≡ true = list_any_at f items i 0 h (ap f (sym e) ∙ k) in
    sym (or_right t.unknown (list_any f t.classes) (ap (list_any f) (sym same) ∙ here))

pub instance-none : (cs : List Class) (c : ℕ) (t : TypeSet) → t.unknown ≡ false → list_any (λ d. subtype cs c d) t.classes ≡ false → false ≡ instance_of cs c t
unfolding instance_of
instance-none cs c t u k = sym (or_from t.unknown (list_any (λ d. subtype cs c d) t.classes) u k)
