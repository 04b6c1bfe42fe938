-- The state that a shop stands for.
use Rattle.std.specs.Prelude.{◌≡◌, ℕ, List}
use Rattle.cc_ast.specs.Syntax.{Program}
use Rattle.cc_core.specs.Work.{Work, phase, step_after}
use Rattle.cc_core.specs.State as core
use Rattle.cc_core.specs.SlotState.{slots_of}
use Rattle.cc_core.specs.declared.slots.Slot.{Slot}

-- the state of a shop, whose done scopes stand in the program that is shown or are held by their slots
abbrev pub state_of : Program → ℕ → ℕ → Program → Program → List Slot → core.State
state_of source closed step base shown slots = record { source = source; closed = closed; step = step; base = base; slots = slots_of shown.scopes slots }

-- what a shop keeps: its state is sound, the plan is the step's for the base, and the reading is shown
pub record Stands {P : Type 0} (W : Work P) (s : core.State) (plan : P) (shown : Program) : Type 0 where
  pub sound : core.Sound W s
  pub plan_is : plan ≡ W.plan s.step s.base
  pub shown_is : shown ≡ core.reading W s

-- what is laid out after a state for the step that follows
pub record GoesOn {P : Type 0} (W : Work P) (s : core.State) (step : ℕ) (base : Program) (plan : P) (shown : Program) (slots : List core.Slot) : Type 0 where
  pub step_is : step ≡ step_after W s.step s.base
  pub base_is : base ≡ phase W s.step s.base
  pub plan_is : plan ≡ W.plan step base
  pub shown_is : shown ≡ base
  pub slots_are : slots ≡ core.all_fresh base.scopes
