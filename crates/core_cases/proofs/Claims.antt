-- How many claims are out.
use Rattle.std.proofs.Common.{◌≡◌, ℕ, ◌≤◌, ◌==◌, List, [], ◌∷◌, cond, arith, sym, subst}
use Rattle.cc_core.specs.Work.{Work}
use Rattle.cc_core.specs.State.{Slot, State, NoneOut, undone}
use Rattle.cc_core.specs.Outs.{AtMostOut}
use Rattle.cc_core.specs.Events.{Closes, event, after_close}
use Rattle.cc_core.proofs.OutLaws.{few_of_none, none_closed}

-- none are out where at most none are
pub none_of_few : (ss : List Slot) → AtMostOut 0 ss → NoneOut ss
none_of_few [] few = tt
none_of_few (s ∷ ss) few = let h : s.out ≤ 0 = few.0 in (omega arith, none_of_few ss few.1)

-- none are out where a phase was closed
pub few_closed : {P : Type 0} (W : Work P) (s : State) → undone s.slots ≡ 0 → AtMostOut 0 (event W s Closes).slots
few_closed W s e =
    subst (λ (n : ℕ). AtMostOut 0 (cond (n == 0) (after_close W s) s).slots) (sym e) (few_of_none 0 (after_close W s).slots (none_closed W s))
