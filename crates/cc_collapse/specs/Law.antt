-- What flattening promises.
use Rattle.std.specs.Prelude.{ℕ, List}
use Rattle.cc_ast.specs.Syntax.{Program}
use Rattle.cc_meaning.specs.Spelled.{IsSpelled}
use Rattle.cc_tied.specs.Promises.{HasNoPaths}
use Rattle.cc_collapse.specs.Flattening.{flattened}

-- a flattened program has no flat paths
abbrev pub FlatteningLeavesNoPaths : Type 0
FlatteningLeavesNoPaths = (P : Program) → HasNoPaths (flattened P)

-- labels and properties can be written as before, whichever texts are identifiers and names
abbrev pub FlatteningKeepsSpelling : (Identifier Name : List ℕ → Type 0) → Type 0
FlatteningKeepsSpelling Identifier Name = (P : Program) → IsSpelled Identifier Name P → IsSpelled Identifier Name (flattened P)
