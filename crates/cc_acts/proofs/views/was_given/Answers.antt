use Rattle.std.proofs.Common.{◌≡◌, ◌∙◌, refl, sym, ap, ℕ, nat_lt, true}
use Rattle.cc_meaning.specs.Acts.{was_given}
use Rattle.cc_meaning.specs.State.{State}
use Rattle.cc_value.specs.declared.value.View.{View}
use Rattle.cc_value.specs.declared.value.View.TheVariants as W
use Rattle.cc_acts.specs.Scripts.{view_of}
use Rattle.cc_acts.specs.Shown.{state_of}
use Rattle.cc_acts.proofs.views.was_given.Goals as goal

other : (s : State) (v : View) → ((h : ℕ) → v ≡ W.Handle h → ⊥) → true ≡ was_given s (view_of v)
unfolding was_given
other s W.Undefined h = refl
other s W.Null h = refl
other s (W.Truth b) h = refl
other s (W.Whole z) h = refl
other s (W.Text t) h = refl
other s (W.Handle n) h = absurd (h n refl)
other s (W.Outside n) h = refl

pub returns-in-Handle : goal.returns-in-Handle
unfolding was_given
returns-in-Handle c = λ P rs. ap (λ (n : ℕ). nat_lt c.in-Handle.handle n) c.len.ensures.len ∙ sym (ap (λ (x : View). was_given (state_of P rs c.args.state.now) (view_of x)) c.in-Handle.is)

pub returns-in_default : goal.returns-in_default
returns-in_default c = λ P rs. other (state_of P rs c.args.state.now) c.args.view.now c.in_default.not-Handle
