-- What the slots of a shop are to a contract.
use Rattle.std.specs.Prelude.{◌≡◌, ℕ, List, [], ◌∷◌, Bool, true, false, None, slice_set}
use Rattle.std.proofs.Common.{zero, suc}
use Rattle.cc_ast.specs.Syntax.{Scope, no_stmts}
use Rattle.cc_core.specs.State as core
use Rattle.cc_core.specs.declared.slots.Mark.{Mark}
use Rattle.cc_core.specs.declared.slots.Mark.TheVariants.{Pending, Claimed, Done, Held}
use Rattle.cc_core.specs.declared.slots.Slot.{Slot}

-- the mark, where this scope stands in the reading
abbrev pub mark_of : Scope → Mark → core.Mark
mark_of x Pending = core.Pending
mark_of x Claimed = core.Claimed
mark_of x Done = core.Done x
mark_of x (Held y) = core.Done y

abbrev pub slot_of : Scope → Slot → core.Slot
slot_of x s = record { mark = mark_of x s.mark; out = s.out }

-- a scope with nothing in it
abbrev pub no_scope : Scope
no_scope = record { params = 0; names = 0; own = false; body = no_stmts; parent = None; doc = 0 }

-- the slots, each with the scope that stands in the reading
abbrev pub slots_of : List Scope → List Slot → List core.Slot
slots_of xs [] = []
slots_of [] (s ∷ ss) = slot_of no_scope s ∷ slots_of [] ss
slots_of (x ∷ xs) (s ∷ ss) = slot_of x s ∷ slots_of xs ss

abbrev pub is_pending_inside : Slot → Bool
is_pending_inside s = elim (s.mark) [ Pending ↦ true | Claimed ↦ false | Done ↦ false | Held y ↦ false ]

abbrev pub is_claimed_inside : Slot → Bool
is_claimed_inside s = elim (s.mark) [ Pending ↦ false | Claimed ↦ true | Done ↦ false | Held y ↦ false ]

abbrev pub is_open_inside : Slot → Bool
is_open_inside s = elim (s.mark) [ Pending ↦ true | Claimed ↦ true | Done ↦ false | Held y ↦ false ]

-- the scopes, where the one that a slot holds is put into its place
abbrev pub place_held : ℕ → Mark → List Scope → List Scope
place_held k Pending xs = xs
place_held k Claimed xs = xs
place_held k Done xs = xs
place_held k (Held y) xs = slice_set xs k y

-- the test fails before this place
abbrev pub NoneBefore : {A : Type 0} → (A → Bool) → ℕ → List A → Type 0
NoneBefore p zero ss = Unit {0}
NoneBefore p (suc k) [] = Unit {0}
NoneBefore p (suc k) (s ∷ ss) = (p s ≡ false) × NoneBefore p k ss
