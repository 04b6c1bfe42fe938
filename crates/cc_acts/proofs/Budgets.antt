-- What is left of a budget.
use Rattle.std.proofs.Common.{◌≡◌, ℕ, zero, suc, ◌-◌, ◌<◌, ◌≤◌, Some, None, refl, ap, ◌∙◌, arith}
use Rattle.cc_meaning.specs.Monad.{paid}

pub paid-enough : (p b : ℕ) → p ≤ b → paid p b ≡ Some (b - p)
unfolding paid
paid-enough zero b h = let e : b ≡ b - 0 = omega arith in ap (λ (n : ℕ). Some n) e
paid-enough (suc p) zero h = absurd (omega arith)
paid-enough (suc p) (suc b) h = paid-enough p b (omega arith) ∙ (let e : b - p ≡ suc b - suc p = omega arith in ap (λ (n : ℕ). Some n) e)

pub paid-short : (p b : ℕ) → b < p → paid p b ≡ None
unfolding paid
paid-short zero b h = absurd (omega arith)
paid-short (suc p) zero h = refl
paid-short (suc p) (suc b) h = paid-short p b (omega arith)
