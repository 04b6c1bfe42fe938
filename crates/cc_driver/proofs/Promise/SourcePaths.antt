-- The program of a source of the form has no flat paths.
use Rattle.std.proofs.Common.{◌≡◌, refl, subst, ℕ, List, [], ◌++◌, map, ◌⊎◌, inl, inr}
use Rattle.cc_ast.specs.declared.tables.GlobalInfo.{GlobalInfo}
use Rattle.cc_meaning.specs.Alike.{In}
use Rattle.cc_tied.specs.Promises.{HasNoPaths}
use Rattle.cc_driver.specs.Names.{built_in_names}
use Rattle.cc_driver.specs.Form.{declared}
use Rattle.cc_driver.specs.Source.{program_of, global_of_no_chunk, global_of_main}
use Rattle.cc_driver.specs.declared.form.Statement.{Statement}
use Rattle.cc_driver.proofs.Promise.Lists.{in_either, in_mapped}

pub source_has_no_paths : (externs : List (List ℕ)) (size : ℕ) (ss : List Statement) → HasNoPaths (program_of externs size ss)
source_has_no_paths externs size ss = record { none = λ g h. by g (in_either (map global_of_no_chunk (externs ++ built_in_names)) (map global_of_main (declared ss)) h) }
  where
    by : (g : GlobalInfo) → In g (map global_of_no_chunk (externs ++ built_in_names)) ⊎ In g (map global_of_main (declared ss)) → g.flat ≡ []
    by g (inl h) = let c = in_mapped global_of_no_chunk (externs ++ built_in_names) h in subst (λ t. t.flat ≡ []) c.is refl
    by g (inr h) = let c = in_mapped global_of_main (declared ss) h in subst (λ t. t.flat ≡ []) c.is refl
