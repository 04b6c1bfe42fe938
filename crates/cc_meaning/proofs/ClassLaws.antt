-- In a well made program a function is the code of one class at most, so the tables find it wherever it stands.
use Rattle.std.proofs.Common.{◌≡◌, ℕ, zero, suc, ◌+◌, Bool, true, false, List, [], ◌∷◌, Option, Some, None, refl, sym, ap, subst, ◌∙◌, arith}
use Rattle.std.specs.Prelude.{slice_get, nat_eq, ◌||◌}
use Rattle.std.specs.List.{list_any}
use Rattle.std.proofs.lemmas.Bool.{eqb-true, eq-eqb}
use Rattle.cc_ast.specs.Syntax.{Program}
use Rattle.cc_ast.specs.declared.tables.Class.{Class}
use Rattle.cc_meaning.specs.Monad.{pick}
use Rattle.cc_meaning.specs.Alike.{In, here, there}
use Rattle.cc_meaning.specs.Store.{is_number, class_from, class_of_function, code_class_from}
use Rattle.cc_meaning.specs.Shapes.{tables_of}
use Rattle.cc_meaning.specs.WellMade.{IsCode, its_function, its_method, WellMade}

-- the first that passes a test is the only one that does
module _ (passes : Class → Bool) (found : ℕ → List Class → Option ℕ) (step : (k : ℕ) (c : Class) (cs : List Class) → found k (c ∷ cs) ≡ pick (passes c) (Some k) (found (suc k) cs)) where
  only_found : (k : ℕ) (cs : List Class) (i : ℕ) (c : Class) → slice_get cs i ≡ Some c → passes c ≡ true → ((j : ℕ) (d : Class) → slice_get cs j ≡ Some d → passes d ≡ true → j ≡ i) → found k cs ≡ Some (k + i)
  only_found k [] i c e p one = absurd (cc)
  only_found k (x ∷ cs) zero c e p one =
      let d : x ≡ c = cc in
      let q : passes x ≡ true = ap passes d ∙ p in
      step k x cs ∙ ap (λ b. pick b (Some k) (found (suc k) cs)) q ∙ ap Some (omega arith)
  only_found k (x ∷ cs) (suc i) c e p one = by_test (λ h. only_found (suc k) cs i c e p h) (passes x) refl
    where
      further : (j : ℕ) (d : Class) → slice_get cs j ≡ Some d → passes d ≡ true → j ≡ i
      further j d h q = let s = one (suc j) d h q in omega arith

      by_test : (((j : ℕ) (d : Class) → slice_get cs j ≡ Some d → passes d ≡ true → j ≡ i) → found (suc k) cs ≡ Some (suc k + i)) → (b : Bool) → passes x ≡ b → found k (x ∷ cs) ≡ Some (k + suc i)
      by_test more true q = let s = one 0 x refl q in absurd (omega arith)
      by_test more false q = step k x cs ∙ ap (λ b. pick b (Some k) (found (suc k) cs)) q ∙ more further ∙ ap Some (omega arith)

-- ---- the class of its own function

number_is : (o : Option ℕ) (f : ℕ) → is_number o f ≡ true → o ≡ Some f
unfolding is_number
number_is None f h = absurd (cc)
number_is (Some m) f h = ap Some (eqb-true m f h)

is_its_number : (o : Option ℕ) (f : ℕ) → o ≡ Some f → is_number o f ≡ true
unfolding is_number
is_its_number None f h = absurd (cc)
is_its_number (Some m) f h = let d : m ≡ f = cc in ap (λ n. nat_eq n f) d ∙ (eq-eqb f f refl)

pub own_class : (P : Program) → WellMade P → (a f : ℕ) (c : Class) → slice_get P.classes a ≡ Some c → c.function ≡ Some f → class_of_function (tables_of P) f ≡ Some a
unfolding tables_of class_of_function class_from
own_class P W a f c e h =
    only_found (λ d. is_number d.function f) (λ k cs. class_from k cs f) (λ k d ds. refl) 0 P.classes a c e (is_its_number c.function f h)
    (λ b d g q. sym (W.one_class a b f c d e g (its_function h) (its_function (number_is d.function f q)))) ∙ ap Some (omega arith)

-- ---- the class whose code a function is

method_is : (ms : List (ℕ × ℕ)) (f : ℕ) → list_any (λ m. nat_eq m.1 f) ms ≡ true → (p : ℕ) × In (p, f) ms
method_is [] f h = absurd (cc)
method_is (m ∷ ms) f h = by_test (method_is ms f) (nat_eq m.1 f) refl h
  where
    by_test : (list_any (λ m. nat_eq m.1 f) ms ≡ true → (p : ℕ) × In (p, f) ms) → (b : Bool) → nat_eq m.1 f ≡ b → b || list_any (λ m. nat_eq m.1 f) ms ≡ true → (p : ℕ) × In (p, f) (m ∷ ms)
    by_test more true q t = (m.0, subst (λ g. In (m.0, g) (m ∷ ms)) (eqb-true m.1 f q) here)
    by_test more false q t = let r = more t in (r.0, there r.1)

is_its_method : (ms : List (ℕ × ℕ)) (p f : ℕ) → In (p, f) ms → list_any (λ m. nat_eq m.1 f) ms ≡ true
is_its_method [] p f i = elim i [ ]
is_its_method (_ ∷ ms) p f here = ap (λ b. b || list_any (λ m. nat_eq m.1 f) ms) ((eq-eqb f f refl))
is_its_method (m ∷ ms) p f (there i) = either (nat_eq m.1 f) (is_its_method ms p f i)
  where
    either : (b : Bool) {c : Bool} → c ≡ true → b || c ≡ true
    either true h = refl
    either false h = h

code_of : (c : Class) (f : ℕ) → is_number c.function f || list_any (λ m. nat_eq m.1 f) c.methods ≡ true → IsCode c f
code_of c f h = by_test (is_number c.function f) refl h
  where
    by_test : (b : Bool) → is_number c.function f ≡ b → b || list_any (λ m. nat_eq m.1 f) c.methods ≡ true → IsCode c f
    by_test true q t = its_function (number_is c.function f q)
    by_test false q t = let r = method_is c.methods f t in its_method r.0 r.1

is_code : (c : Class) (f : ℕ) → IsCode c f → is_number c.function f || list_any (λ m. nat_eq m.1 f) c.methods ≡ true
is_code c f (its_function h) = ap (λ b. b || list_any (λ m. nat_eq m.1 f) c.methods) (is_its_number c.function f h)
is_code c f (its_method p i) = either (is_number c.function f) (is_its_method c.methods p f i)
  where
    either : (b : Bool) {t : Bool} → t ≡ true → b || t ≡ true
    either true h = refl
    either false h = h

pub code_class : (P : Program) → WellMade P → (a f : ℕ) (c : Class) → slice_get P.classes a ≡ Some c → IsCode c f → code_class_from 0 P.classes f ≡ Some a
unfolding code_class_from
code_class P W a f c e h =
    only_found (λ d. is_number d.function f || list_any (λ m. nat_eq m.1 f) d.methods) (λ k cs. code_class_from k cs f) (λ k d ds. refl) 0 P.classes a c e (is_code c f h)
    (λ b d g q. sym (W.one_class a b f c d e g h (code_of d f q))) ∙ ap Some (omega arith)
