-- Lists of names, and how many globals there are.
use Rattle.std.proofs.Common.{arith, suc, ◌+◌, ◌≤◌, Bool, true, false, cond, List, [], ◌∷◌, ◌++◌, length, map, length-append}
use Rattle.cc_meaning.specs.Operators.{is_in}
use Rattle.cc_meaning.specs.Names.{builtin_globals}
use Rattle.cc_scope.specs.Lists.{Name, new_names, distinct}
use Rattle.cc_scope.specs.Resolve.{Source, all_declared, outer_info, chunk_info, globals_of}
use Rattle.cc_scope.proofs.Declared.{length_map}

pub new_shorter : (ms ns : List Name) → length (new_names ms ns) ≤ length ns
unfolding new_names
new_shorter ms [] = omega arith
new_shorter ms (n ∷ ns) = by (is_in n ms) (new_shorter ms ns) (new_shorter (ms ++ n ∷ []) ns) where
  by : (b : Bool) → length (new_names ms ns) ≤ length ns → length (new_names (ms ++ n ∷ []) ns) ≤ length ns → length (cond b (new_names ms ns) (n ∷ new_names (ms ++ n ∷ []) ns)) ≤ suc (length ns)
  by true h k = omega arith
  by false h k = omega arith

pub globals_length : (S : Source) → length (globals_of S) ≤ length S.externs + 3 + length (all_declared S.trees)
unfolding globals_of distinct builtin_globals
globals_length S =
    let a = length-append (map outer_info (S.externs ++ builtin_globals)) (map (chunk_info S.added S.trees) (new_names [] (all_declared S.trees))) in
    let b = length_map outer_info (S.externs ++ builtin_globals) in
    let c = length-append S.externs builtin_globals in
    let d = length_map (chunk_info S.added S.trees) (new_names [] (all_declared S.trees)) in
    let e = new_shorter [] (all_declared S.trees) in omega arith
