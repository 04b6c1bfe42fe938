-- A flattened program has no flat paths.
use Rattle.std.proofs.Common.{◌≡◌, refl, List, [], ◌∷◌, ◌++◌}
use Rattle.std.specs.Prelude.{map}
use Rattle.cc_ast.specs.Syntax.{Program}
use Rattle.cc_ast.specs.declared.tables.GlobalInfo.{GlobalInfo}
use Rattle.cc_meaning.specs.State.{Path}
use Rattle.cc_meaning.specs.Shapes.{without_paths}
use Rattle.cc_meaning.specs.Alike.{In, here, there}
use Rattle.cc_collapse.specs.Paths.{flat_paths, new_global}
use Rattle.cc_collapse.specs.Law.{FlatteningLeavesNoPaths}
use Rattle.cc_collapse.specs.Flattening.{flattened}

new_none : (P : Program) (ws : List Path) (g : GlobalInfo) → In g (map (new_global P) ws) → g.flat ≡ []
unfolding new_global
new_none P [] g i = elim i [ ]
new_none P (w ∷ ws) _ here = refl
new_none P (w ∷ ws) g (there i) = new_none P ws g i

all_none : (P : Program) (ws : List Path) (gs : List GlobalInfo) (g : GlobalInfo) → In g (map without_paths gs ++ map (new_global P) ws) → g.flat ≡ []
unfolding without_paths
all_none P ws [] g i = new_none P ws g i
all_none P ws (x ∷ gs) _ here = refl
all_none P ws (x ∷ gs) g (there i) = all_none P ws gs g i

pub leaves_no_paths : FlatteningLeavesNoPaths
unfolding flattened
leaves_no_paths P = record { none = λ g i. all_none P (flat_paths P) P.globals g i }
