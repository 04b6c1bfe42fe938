use Rattle.std.proofs.Common.{◌≡◌, length, All}
use Rattle.cc_core.specs.declared.slots.Mark.TheVariants.{Pending}
use Rattle.cc_core.specs.declared.slots.Slot.{Slot}
use Rattle.cc_core.proofs.slots.Slots.fresh.Given as goal

abbrev pub invariant-loop-i : goal.invariant-loop-i
invariant-loop-i l = All (λ s. ◌≡◌ {A = Slot} s (record { mark = Pending; out = 0 })) l.items.items × (length l.items.items ≡ l._i)
