-- The value of the meaning for which what is held stands.
use Rattle.std.specs.Prelude.{pos}
use Rattle.cc_ast.specs.Syntax.{whole}
use Rattle.cc_meaning.specs.Values.{Val, prim}
use Rattle.cc_value.specs.Bridge.{value_of}
use Rattle.cc_heap.specs.declared.slot.Held as declared
use Rattle.cc_heap.specs.declared.slot.Held.TheVariants as H

abbrev pub held_of : declared.Held → Val
held_of (H.Value v) = value_of v.now
held_of (H.Length n) = prim (whole (pos n))
