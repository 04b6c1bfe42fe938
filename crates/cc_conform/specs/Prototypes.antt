-- What rule 12 asks of an object by its number.
use Rattle.std.specs.Prelude.{ℕ, Bool, false, ◌&&◌, Option, Some, None}
use Rattle.cc_meaning.specs.Names.{name_prototype}
use Rattle.cc_meaning.specs.SlotRules.{is_code_of, is_object}
use Rattle.cc_meaning.specs.State.{Obj}
use Rattle.cc_meaning.specs.Store.{find_slot}

-- a function object with this function, whose prototype is this object
abbrev pub has_prototype : Option Obj → (function object : ℕ) → Bool
has_prototype None f n = false
has_prototype (Some o) f n = is_code_of o.code f && is_object (find_slot o.slots name_prototype) n
