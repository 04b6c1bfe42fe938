-- A loop of steps comes nearer to its end with each.
use Rattle.std.proofs.Common.{◌≡◌, ℕ, zero, suc, ◌<◌, ◌≤◌, refl, ap, ◌∙◌, sym, subst, arith}
use Rattle.cc_ast.specs.Syntax.{Program}
use Rattle.cc_meaning.specs.Monad.{Mode}
use Rattle.cc_meaning.specs.Script.{Run}
use Rattle.cc_machine.specs.Machine.{Machine, Next, on, halt}
use Rattle.cc_machine.specs.Steps.{iterate, onward}
use Rattle.cc_machine.specs.Promises.{HaltsIn, steps_left, LoopLaws}

module _ (J : Mode) (P : Program) where
  halted : (i : ℕ) (r : Run) → iterate J P i (halt r) ≡ halt r
  unfolding iterate onward
  halted zero r = refl
  halted (suc i) r = halted i r

  IsOn : Next → Type 0
  IsOn (on m) = Unit {0}
  IsOn (halt r) = ⊥

  not_on : {m : Machine} {r : Run} → on m ≡ halt r → ⊥
  unfolding IsOn
  not_on e = subst IsOn e tt

  -- what the machine halted with
  out_of : Run → Next → Run
  out_of r (on m) = r
  out_of r (halt q) = q

  the_same : {q r : Run} → halt q ≡ halt r → q ≡ r
  unfolding out_of
  the_same {r = r} e = ap (λ z. out_of r z) e

  -- the first step may come last
  last : (i : ℕ) (x : Next) → iterate J P (suc i) x ≡ onward J P (iterate J P i x)
  unfolding iterate
  last zero x = refl
  last (suc i) x = last i (onward J P x)

  one_more : (k : ℕ) (x : Next) (r : Run) → HaltsIn J P k x r → HaltsIn J P (suc k) x r
  unfolding onward
  one_more k x r e = last k x ∙ ap (λ z. onward J P z) e

  one : (k : ℕ) (x : Next) (r : Run) → HaltsIn J P k x r → HaltsIn J P k (onward J P x) r
  unfolding iterate
  one k x r e = one_more k x r e

  pub many : (i k : ℕ) (x : Next) (r : Run) → HaltsIn J P k x r → HaltsIn J P k (iterate J P i x) r
  unfolding iterate
  many zero k x r e = e
  many (suc i) k x r e = many i k (onward J P x) r (one k x r e)

  -- more than what suffices changes nothing
  enough : (k : ℕ) (x : Next) (r : Run) → HaltsIn J P k x r → steps_left J P (suc k) x ≡ steps_left J P k x
  unfolding steps_left iterate
  enough zero (on m) r e = absurd (not_on e)
  enough zero (halt q) r e = refl
  enough (suc k) (on m) r e = ap (λ z. suc z) (enough k (onward J P (on m)) r e)
  enough (suc k) (halt q) r e = refl

  first_falls : (k : ℕ) (m : Machine) (r : Run) → HaltsIn J P k (on m) r → suc (steps_left J P k (onward J P (on m))) ≡ steps_left J P k (on m)
  unfolding steps_left iterate
  first_falls zero m r e = absurd (not_on e)
  first_falls (suc k) m r e = ap (λ z. suc z) (enough k (onward J P (on m)) r e)

  one_falls : (k : ℕ) (x : Next) (r : Run) → HaltsIn J P k x r → steps_left J P k (onward J P x) ≤ steps_left J P k x
  unfolding onward
  one_falls k (on m) r e = let h : suc (steps_left J P k (onward J P (on m))) ≡ steps_left J P k (on m) = first_falls k m r e in omega arith
  one_falls k (halt q) r e = omega arith

  all_fall : (i k : ℕ) (x : Next) (r : Run) → HaltsIn J P k x r → steps_left J P k (iterate J P i x) ≤ steps_left J P k x
  unfolding iterate
  all_fall zero k x r e = omega arith
  all_fall (suc i) k x r e =
      let h : steps_left J P k (iterate J P i (onward J P x)) ≤ steps_left J P k (onward J P x) = all_fall i k (onward J P x) r (one k x r e) in
      let f : steps_left J P k (onward J P x) ≤ steps_left J P k x = one_falls k x r e in
      omega arith

  falls_to : (k i : ℕ) (m : Machine) (r : Run) → HaltsIn J P k (on m) r → suc (steps_left J P k (iterate J P (suc i) (on m))) ≤ steps_left J P k (on m)
  unfolding iterate
  falls_to k i m r e =
      let h : steps_left J P k (iterate J P i (onward J P (on m))) ≤ steps_left J P k (onward J P (on m)) = all_fall i k (onward J P (on m)) r (one k (on m) r e) in
      let f : suc (steps_left J P k (onward J P (on m))) ≡ steps_left J P k (on m) = first_falls k m r e in
      omega arith

  falls : (k i : ℕ) (m w : Machine) (r : Run) → HaltsIn J P k (on m) r → iterate J P (suc i) (on m) ≡ on w → steps_left J P k (on w) < steps_left J P k (on m)
  falls k i m w r e f = subst (λ z. suc (steps_left J P k z) ≤ steps_left J P k (on m)) f (falls_to k i m r e)

pub laws : LoopLaws
laws = record {
  keeps = λ J P k i m x r e f. subst (λ z. HaltsIn J P k z r) f (many J P (suc i) k (on m) r e);
  falls = falls;
  halts = λ J P k q r e. the_same J P (sym (halted J P k q) ∙ e);
}
