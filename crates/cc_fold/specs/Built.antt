-- What folding knows of a program: which of its globals are built in.
use Rattle.std.specs.Prelude.{ℕ, Bool, true, false, List, length, map, slice_get, is_some, unwrap_or}
use Rattle.std.specs.List.{range_with_len}
use Rattle.cc_ast.specs.Syntax.{Program}
use Rattle.cc_ast.specs.declared.tree.Ref.{Ref}
use Rattle.cc_meaning.specs.Shapes.{tables_of}
use Rattle.cc_tied.specs.Tied.{built_of}

-- whether the global with number n is built in
unfoldable pub global_built_in : Program → ℕ → Bool
unfolding tables_of built_of
global_built_in P n = is_some (built_of (tables_of P) (Ref.Global n))

-- the same of each global
unfoldable pub built_globals : Program → List Bool
unfolding global_built_in
built_globals P = map (global_built_in P) (range_with_len 0 (length P.globals))

-- the references that are built in; one of no global of the program counts as built in
unfoldable pub built_in : List Bool → Ref → Bool
built_in bs (Ref.Frame up n) = false
built_in bs (Ref.Global n) = unwrap_or (slice_get bs n) true
