-- What a global of src/ is in the meaning.
use Rattle.cc_meaning.specs.Store as Store
use Rattle.cc_acts.specs.declared.globals.BuiltIn as built
use Rattle.cc_acts.specs.declared.globals.BuiltIn.TheVariants as B
use Rattle.cc_acts.specs.declared.globals.GlobalKind as kind
use Rattle.cc_acts.specs.declared.globals.GlobalKind.TheVariants as K

abbrev pub built_of : built.BuiltIn → Store.Built
built_of B.Object = Store.object_global
built_of B.Math = Store.math_global
built_of B.String = Store.string_global

abbrev pub kind_of_global : kind.GlobalKind → Store.Global
kind_of_global K.Extern = Store.extern
kind_of_global (K.BuiltIn b) = Store.built_in (built_of b)
kind_of_global (K.Chunk c) = Store.of_chunk c
