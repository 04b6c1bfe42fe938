-- Resolution whole: from the trees of the chunks, the comments in them, the outside and the graph to the
-- program, or what is refused first.
use Rattle.std.specs.Prelude.{map, ℕ, suc, ◌+◌, Bool, List, [], ◌∷◌, ◌++◌, length, take, drop, Option, Some, None}
use Rattle.std.specs.List.{list_any}
use Rattle.cc_ast.specs.declared.place.Place.{Place}
use Rattle.cc_ast.specs.declared.tables.ChunkInfo.{ChunkInfo}
use Rattle.cc_ast.specs.declared.tables.Class.{Class}
use Rattle.cc_ast.specs.Syntax.{Program}
use Rattle.cc_types.specs.Types.{parents, subtype}
use Rattle.cc_meaning.specs.Monad.{pick}
use Rattle.cc_grammar.specs.RawTree.{RawStmt, RawStmts, stmts}
use Rattle.cc_scope.specs.Lists.{Name, index_of, or_zero, distinct}
use Rattle.cc_scope.specs.Resolve.{Source, nothing_added, all_declared, program_of}
use Rattle.cc_scope.specs.Refusals.{Refusal, refusals_of, least_from}
use Rattle.cc_scope.specs.Limits.{too_many}
use Rattle.cc_scope.specs.Annotations.{Comment, doc_number, all_at, places_of}
use Rattle.cc_scope.specs.Casts.{has_type, all_parens, beside, stmts_cast}
use Rattle.cc_scope.specs.Functions.{all_functions}
use Rattle.cc_scope.specs.Externs.{Externs}
use Rattle.cc_scope.specs.Classes.{Annotated, ClassPlace, class_places, meanings, classes_of}
use Rattle.cc_scope.specs.Docs.{docs_of, function_number, flat_of}
use Rattle.cc_scope.specs.Exports.{trees_exporting, kept_exports, exports_refused}

-- What is resolved: the chunks, a tree for each, the comments of all files in their order, the outside, and
-- whether exports are generated.
pub record Input : Type 0 where
  pub chunks : List ChunkInfo
  pub trees : List RawStmts
  pub comments : List Comment
  pub outside : Externs
  pub exports : Bool

-- the files of each chunk joined: so many for each, in order
unfoldable pub chunk_trees : List ℕ → List (List RawStmt) → List RawStmts
chunk_trees [] fs = []
chunk_trees (n ∷ ns) fs = stmts (joined (take n fs)) ∷ chunk_trees ns (drop n fs) where
  joined : List (List RawStmt) → List RawStmt
  joined [] = []
  joined (g ∷ gs) = g ++ joined gs

-- ---- the program

-- the comments, those on parentheses aside
unfoldable pub comments_of : Input → List Comment
unfolding beside all_parens
comments_of I = beside (all_parens I.trees) I.comments

-- the trees with their casts
unfoldable pub cast_trees : Input → List RawStmts
unfolding stmts_cast has_type
cast_trees I = map (stmts_cast (has_type I.comments)) I.trees

-- and with the statements that export
unfoldable pub trees_of : Input → List RawStmts
unfolding trees_exporting comments_of cast_trees
trees_of I = trees_exporting I.exports (comments_of I) (cast_trees I)

-- without classes, docs and flat paths; the numbers of docs stand in the trees
unfoldable pub bare : Input → Source
unfolding trees_of kept_exports doc_number function_number all_functions comments_of cast_trees
bare I = record {
  chunks = I.chunks;
  trees = trees_of I;
  externs = I.outside.globals;
  kept = I.outside.kept ++ kept_exports I.exports (comments_of I) (cast_trees I);
  added = record nothing_added {
    cast_doc = λ q. doc_number (q ∷ []) I.comments;
    function_doc = function_number (length I.trees) (comments_of I) (all_functions (trees_of I));
  };
}

unfoldable pub annotated : Input → Annotated
unfolding program_of bare trees_of comments_of
annotated I = record { program = program_of (bare I); trees = trees_of I; comments = comments_of I; outside = I.outside }

-- the number of a global of the chunks
unfoldable pub number_of_global : Input → Name → ℕ
unfolding or_zero index_of distinct all_declared trees_of
number_of_global I x = length I.outside.globals + 3 + or_zero (index_of x (distinct (all_declared (trees_of I))))

-- with all that annotations add
unfoldable pub source_of : Input → Source
unfolding bare annotated comments_of classes_of docs_of meanings all_functions trees_of doc_number places_of all_at flat_of number_of_global
source_of I = record (bare I) {
  added = record ((bare I).added) {
    classes = classes_of (annotated I);
    docs = docs_of (meanings (annotated I)) (comments_of I) (all_functions (trees_of I));
    global_doc = λ x. doc_number (places_of x (all_at (trees_of I))) (comments_of I);
    flat = λ x. flat_of (annotated I) (number_of_global I x);
  };
}

-- ---- cycles

-- a class that extends or implements itself by a chain
unfoldable pub is_in_cycle : List Class → ℕ → Bool
unfolding parents subtype
is_in_cycle cs a = list_any (λ p. subtype cs p a) (parents cs a)

-- the place of the first class that is in a cycle, of the program's classes from number a on
unfoldable pub cycle_from : List Class → ℕ → List ClassPlace → Option Place
unfolding is_in_cycle
cycle_from cs a [] = None
cycle_from cs a (p ∷ ps) = pick (is_in_cycle cs a) (Some p.function.name) (cycle_from cs (suc a) ps)

unfoldable pub first_cycle : Input → Option Place
unfolding cycle_from classes_of annotated class_places
first_cycle I = cycle_from (classes_of (annotated I)) (length I.outside.classes) (class_places (annotated I))

-- ---- the answer

-- the limit of scopes comes first, then the refusal at the least place, then cycles
pub data Outcome : Type 0 where
  over_limit : Place → Outcome
  refused : Refusal → Outcome
  in_cycle : Place → Outcome
  resolved : Program → Outcome

unfoldable pub outcome_of : Option Place → List Refusal → Option Place → Program → Outcome
unfolding least_from
outcome_of (Some q) rs c P = over_limit q
outcome_of None (r ∷ rs) c P = refused (least_from r rs)
outcome_of None [] (Some q) P = in_cycle q
outcome_of None [] None P = resolved P

unfoldable pub all_refusals : Input → List Refusal
unfolding refusals_of source_of exports_refused comments_of cast_trees
all_refusals I = refusals_of (source_of I) ++ exports_refused I.exports I.outside.globals (comments_of I) (cast_trees I)

-- what resolution answers
unfoldable pub resolution : Input → Outcome
unfolding outcome_of too_many all_refusals first_cycle program_of source_of
resolution I = outcome_of (too_many (source_of I)) (all_refusals I) (first_cycle I) (program_of (source_of I))
