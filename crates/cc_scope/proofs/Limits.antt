-- A function is one too many exactly where the scopes are more than their limit.
use Rattle.std.proofs.Common.{◌≡◌, refl, arith, ℕ, zero, suc, ◌-◌, ◌≤◌, List, [], ◌∷◌, length, None}
use Rattle.std.specs.Prelude.{◌↔◌}
use Rattle.cc_ast.specs.declared.place.Place.{Place}
use Rattle.cc_grammar.specs.Symbols.{nowhere}
use Rattle.cc_scope.specs.Marks.{Mark, a_site, a_name, a_function, functions}
use Rattle.cc_scope.specs.Resolve.{Source, all_marks, program_of}
use Rattle.cc_scope.specs.Limits.{function_place, most_scopes, too_many}
use Rattle.cc_scope.proofs.Counts.{scopes_counted}

none_few : (ms : List Mark) (k : ℕ) (p : Place) → function_place ms k p ≡ None → functions ms ≤ k
unfolding function_place functions
none_few [] k p e = omega arith
none_few (a_site q ∷ ms) k p e = none_few ms k q e
none_few (a_name n ∷ ms) k p e = none_few ms k p e
none_few (a_function ∷ ms) zero p e = absurd (cc)
none_few (a_function ∷ ms) (suc k) p e = let h = none_few ms k p e in omega arith

few_none : (ms : List Mark) (k : ℕ) (p : Place) → functions ms ≤ k → function_place ms k p ≡ None
unfolding function_place functions
few_none [] k p h = refl
few_none (a_site q ∷ ms) k p h = few_none ms k q h
few_none (a_name n ∷ ms) k p h = few_none ms k p h
few_none (a_function ∷ ms) zero p h = absurd (omega arith)
few_none (a_function ∷ ms) (suc k) p h = few_none ms k p (omega arith)

pub limited : (S : Source) → length S.trees ≤ most_scopes → (too_many S ≡ None) ↔ (length (program_of S).scopes ≤ most_scopes)
unfolding too_many most_scopes
limited S h = (
  λ e. let a = none_few (all_marks S.trees) (262144 - length S.trees) nowhere e in let b = scopes_counted S in omega arith,
  λ l. few_none (all_marks S.trees) (262144 - length S.trees) nowhere (let b = scopes_counted S in omega arith),
)
