-- Objects of a type.
use Rattle.std.proofs.Common.{◌≡◌, ◌&&◌, ◌||◌, ℕ, List, Option, Some, None, is_some, refl}
use Rattle.cc_heap.specs.Store.{code_in}
use Rattle.cc_meaning.specs.State.{Obj, Tables}
use Rattle.cc_meaning.specs.Typed.{has_kind, object_of, class_of_any, class_in, elements_in}

pub object-parts : (T : Tables) (kinds : ℕ) (ds : List ℕ) (o : Option Obj) → object_of T kinds ds o ≡ (((is_some (code_in o) && has_kind kinds 8) || (is_some (elements_in o) && has_kind kinds 16)) || class_of_any T.classes (class_in o) ds)
unfolding object_of class_of_any class_in elements_in
object-parts T kinds ds None = refl
object-parts T kinds ds (Some o) = refl
