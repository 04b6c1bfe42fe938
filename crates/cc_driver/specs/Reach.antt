-- Parts of the program of a source.
use Rattle.std.specs.Prelude.{ℕ, ◌+◌, List, [], ◌∷◌, None, false, map, length}
use Rattle.cc_ast.specs.Syntax as S
use Rattle.cc_meaning.specs.Names.{always_kept}
use Rattle.cc_driver.specs.Source.{main_chunk, no_doc, places_from}
use Rattle.cc_ast.specs.declared.tables.GlobalInfo.{GlobalInfo}
use Rattle.cc_driver.specs.declared.form.Statement.{Statement}
use Rattle.cc_driver.specs.declared.form.Statement.TheVariants.{Declares, Calls}

-- the greatest place that the tree of a statement names
abbrev pub reach : Statement → ℕ
reach (Declares at n v) = at + 4
reach (Calls at n vs) = at + length n

-- the names of globals
abbrev pub names_of : List GlobalInfo → List (List ℕ)
names_of globals = map (λ g. g.name) globals

-- the program with these globals and statements, for a source of so many bytes
abbrev pub program_with : List GlobalInfo → S.Stmts → ℕ → S.Program
program_with globals body size = record {
  scopes = record { params = 0; names = 0; own = false; body = body; parent = None; doc = 0 } ∷ [];
  chunks = main_chunk ∷ [];
  globals = globals;
  props = [];
  kept = always_kept;
  classes = [];
  places = places_from 0 size;
  docs = no_doc ∷ [];
}
