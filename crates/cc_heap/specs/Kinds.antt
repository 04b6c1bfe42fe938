-- What stands in the meaning for the kinds and the code of src/.
use Rattle.cc_meaning.specs.State.{Kind, kept_kind, indexed_kind, dotted_kind, quoted_kind, keyed_kind, Code, FrameKind, of_call, of_catch, of_own_name}
use Rattle.cc_heap.specs.declared.slot.SlotKind.{SlotKind}
use Rattle.cc_heap.specs.declared.slot.SlotKind.TheVariants.{Kept, Indexed, Dotted, Quoted, Keyed}
use Rattle.cc_heap.specs.declared.code.Code as declared
use Rattle.cc_heap.specs.declared.code.FrameKind as made
use Rattle.cc_heap.specs.declared.code.FrameKind.TheVariants.{Call, Catch, OwnName}

abbrev pub kind_of : SlotKind → Kind
kind_of Kept = kept_kind
kind_of Indexed = indexed_kind
kind_of Dotted = dotted_kind
kind_of Quoted = quoted_kind
kind_of Keyed = keyed_kind

abbrev pub code_of : declared.Code → Code
code_of c = record { function = c.function; up = c.up; site = c.site }

abbrev pub frame_kind_of : made.FrameKind → FrameKind
frame_kind_of (Call f) = of_call f
frame_kind_of Catch = of_catch
frame_kind_of OwnName = of_own_name
