-- The limit of scopes: chunks and functions together are at most 262,144.
use Rattle.std.specs.Prelude.{ℕ, zero, suc, ◌-◌, List, [], ◌∷◌, length, Option, Some, None}
use Rattle.cc_ast.specs.declared.place.Place.{Place}
use Rattle.cc_grammar.specs.Symbols.{nowhere}
use Rattle.cc_scope.specs.Marks.{Mark, a_site, a_name, a_function}
use Rattle.cc_scope.specs.Resolve.{Source, all_marks}

-- The place of a function, counted from 0: that of the expression or declaration which it is, its word
-- `function`, and so the last place before it.
unfoldable pub function_place : List Mark → ℕ → Place → Option Place
function_place [] k p = None
function_place (a_site q ∷ ms) k p = function_place ms k q
function_place (a_name n ∷ ms) k p = function_place ms k p
function_place (a_function ∷ ms) zero p = Some p
function_place (a_function ∷ ms) (suc k) p = function_place ms k p

unfoldable pub most_scopes : ℕ
most_scopes = 262144

-- the function that is one too many
unfoldable pub too_many : Source → Option Place
unfolding function_place most_scopes all_marks
too_many S = function_place (all_marks S.trees) (most_scopes - length S.trees) nowhere
