-- The kinds and the number of operands.
use Rattle.std.specs.Prelude.{Bool, true, false, List, [], ◌∷◌, slice_get, Option, Some, None, is_some}
use Rattle.cc_ast.specs.Syntax.{null, whole, text}
use Rattle.cc_meaning.specs.Values.{Val, prim, obj, out}
use Rattle.cc_meaning.specs.State.{Obj}
use Rattle.cc_meaning.specs.Typed.{elements_in}

abbrev pub is_whole : Val → Bool
is_whole (prim (whole z)) = true
is_whole _ = false

abbrev pub is_text : Val → Bool
is_text (prim (text t)) = true
is_text _ = false

abbrev pub has_none : List Val → Bool
has_none [] = true
has_none (v ∷ vs) = false

abbrev pub has_one : List Val → Bool
has_one [] = false
has_one (v ∷ []) = true
has_one (v ∷ w ∷ vs) = false

abbrev pub has_one_or_two : List Val → Bool
has_one_or_two [] = false
has_one_or_two (v ∷ []) = true
has_one_or_two (v ∷ w ∷ []) = true
has_one_or_two (v ∷ w ∷ x ∷ vs) = false

abbrev pub has_one_at_most : List Val → Bool
has_one_at_most [] = true
has_one_at_most (v ∷ []) = true
has_one_at_most (v ∷ w ∷ vs) = false

abbrev pub has_two_at_most : List Val → Bool
has_two_at_most [] = true
has_two_at_most (v ∷ []) = true
has_two_at_most (v ∷ w ∷ []) = true
has_two_at_most (v ∷ w ∷ x ∷ vs) = false

-- the operand, where there is one alone
abbrev pub only : {A : Type 0} → List A → Option A
only [] = None
only (x ∷ []) = Some x
only (x ∷ y ∷ xs) = None

-- an object of the program
abbrev pub is_object : Val → Bool
is_object (obj n) = true
is_object _ = false

-- an object of the program, or null
abbrev pub is_prototype : Val → Bool
is_prototype (obj n) = true
is_prototype (prim null) = true
is_prototype _ = false

-- an array among these objects
abbrev pub is_array : List Obj → Val → Bool
is_array os (obj n) = is_some (elements_in (slice_get os n))
is_array os (out n) = false
is_array os (prim p) = false
