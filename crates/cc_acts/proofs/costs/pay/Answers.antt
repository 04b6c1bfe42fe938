use Rattle.std.proofs.Common.{◌∙◌, ℕ, Option, Some, sym, ap, inl, inr}
use Rattle.std.proofs.lemmas.Bool.{cases_lt}
use Rattle.cc_meaning.specs.Monad.{pay, pay_from}
use Rattle.cc_acts.specs.Shown.{state_of}
use Rattle.cc_acts.proofs.Budgets.{paid-enough, paid-short}
use Rattle.cc_acts.proofs.costs.pay.Goals as goal

pub returns-in-Some : goal.returns-in-Some
unfolding pay pay_from
returns-in-Some c = λ P rs.
    let s = state_of P rs c.args.state.now in
    ap (λ (o : Option ℕ). pay_from o s) (paid-enough c.args.price c.args.state.now.budget (c.in-Some.ensures {u = tt}).0 ∙ ap (λ (n : ℕ). Some n) (sym (c.in-Some.ensures {u = tt}).1))

pub returns-in-None : goal.returns-in-None
unfolding pay pay_from
returns-in-None c = λ P rs.
    let s = state_of P rs c.args.state.now in
    elim (cases_lt c.args.state.now.budget c.args.price) [
      | inl h ↦ ap (λ (o : Option ℕ). pay_from o s) (paid-short c.args.price c.args.state.now.budget h)
      | inr h ↦ absurd (c.in-None.ensures {u = tt} h)
    ]
