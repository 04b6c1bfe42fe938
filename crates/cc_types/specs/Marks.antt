-- The marks of a search for the ancestors of a class: what it has seen, and what of this is open,
-- so that its parents are still to be seen.
use Rattle.std.specs.Prelude.{◌≢◌, ℕ, ◌<◌, Bool, true, false, List, slice_index_or, slice_set, if◌then◌else◌}
use Rattle.std.specs.List.{fold}
use Rattle.cc_types.specs.declared.search.Mark.{Mark}
use Rattle.cc_types.specs.declared.search.Mark.TheVariants.{Unseen, Open, Done}

abbrev pub is_unseen : Mark → Bool
is_unseen Unseen = true
is_unseen Open = false
is_unseen Done = false

-- the mark of a class, where those past the table are unseen
abbrev pub mark_at : List Mark → ℕ → Mark
mark_at marks x = slice_index_or marks x Unseen

-- an unseen class of the table is opened, and every other stays as it is
unfoldable pub opened : List Mark → ℕ → List Mark
opened marks p = if is_unseen (slice_index_or marks p Done) then slice_set marks p Open else marks

abbrev pub opened_all : List Mark → List ℕ → List Mark
opened_all marks ps = fold opened marks ps

-- no open class has a number below this
abbrev pub NoneOpenBelow : ℕ → List Mark → Type 0
NoneOpenBelow n marks = (k : ℕ) → k < n → mark_at marks k ≢ Open
