-- Which globals and paths may become variables (Closure Compiler, "Understanding the restrictions imposed by
-- the Closure Compiler", flattening), as tests on a program. What paths, their settings and their uses are
-- stands with the meaning of programs.
use Rattle.std.specs.Prelude.{ℕ, zero, suc, ◌+◌, Bool, true, false, not, ◌&&◌, nat_eq, List, [], ◌∷◌, ◌++◌, map, length, slice_get, Option, Some, None, filter}
use Rattle.std.specs.Option.{option_to_list}
use Rattle.std.specs.List.{list_any}
use Rattle.cc_ast.specs.Syntax.{fun, object, Scope, Program}
use Rattle.cc_ast.specs.declared.tree.Ref.{Ref}
use Rattle.cc_ast.specs.declared.tables.PropInfo.{PropInfo}
use Rattle.cc_meaning.specs.State.{Path}
use Rattle.cc_meaning.specs.Monad.{pick}
use Rattle.cc_meaning.specs.Store.{Global, extern, built_in, of_chunk, global_kind}
use Rattle.cc_meaning.specs.Shapes.{tables_of}
use Rattle.cc_meaning.specs.FlatPaths.{Use, called, constructed, tested, deleted, Setting, by_value, by_function, Mention, used, set, mentions_of, settings, uses, dotted_keys, pure_fields, extended}
use Rattle.cc_meaning.specs.Parts.{Part, mentions, makes}
use Rattle.cc_meaning.specs.WellMade.{parts_of}
use Rattle.cc_scope.specs.Lists.{distinct}

-- ---- functions whose own name is mentioned

unfoldable pub owns : Option Scope → Bool
owns None = false
owns (Some s) = s.own

-- how many frames a function has between its body and what is around it: that of its call, and that of
-- its own name
unfoldable pub frames_within : (own : Bool) → ℕ
frames_within false = 1
frames_within true = 2

-- the only variable of the frame that stands so far outwards
unfoldable pub is_only_of : ℕ → Ref → Bool
is_only_of k (Ref.Frame u zero) = nat_eq u k
is_only_of k _ = false

-- a part of a function's statements in which the variable of the frame is mentioned that is k frames out
-- of the function's own; what is inside of another function is handed over
unfoldable pub part_mentions : (inside : (g k : ℕ) → Bool) → Program → (k : ℕ) → Part → Bool
unfolding is_only_of frames_within owns
part_mentions inside P k (mentions c r) = is_only_of (c + k) r
part_mentions inside P k (makes c g d) = inside g (c + k + frames_within (owns (slice_get P.scopes g)))
part_mentions inside P k _ = false

-- in function f, or in a function within it at most so many functions deep
unfoldable pub mentions_within : ℕ → Program → (f k : ℕ) → Bool
unfolding part_mentions parts_of
mentions_within zero P f k = false
mentions_within (suc n) P f k = list_any (part_mentions (mentions_within n P) P k) (parts_of P f)

-- a function whose own name is mentioned in its body
unfoldable pub names_itself : Program → ℕ → Bool
unfolding mentions_within owns
names_itself P f = owns (slice_get P.scopes f) && mentions_within (length P.scopes) P f 1

-- ---- holders

unfoldable pub is_construction : Use → Bool
is_construction constructed = true
is_construction tested = true
is_construction _ = false

unfoldable pub all_constructions : List Use → Bool
unfolding is_construction
all_constructions [] = true
all_constructions (u ∷ us) = is_construction u && all_constructions us

unfoldable pub no_uses : List Use → Bool
no_uses [] = true
no_uses (u ∷ us) = false

-- What a path is set to, once and nowhere else, with all uses of the path itself: a literal with dotted
-- keys and pure values, which is used only to go on from it; or a constructor, which may also stand
-- behind `new` and at the right of `instanceof`.
unfoldable pub sets_up : (constructs : ℕ → Bool) → List Setting → List Use → Bool
unfolding dotted_keys pure_fields no_uses all_constructions
sets_up constructs (by_value (object i fs) ∷ []) us = dotted_keys fs && (pure_fields fs && no_uses us)
sets_up constructs (by_value (fun i f) ∷ []) us = constructs f && all_constructions us
sets_up constructs (by_function f ∷ []) us = constructs f && all_constructions us
sets_up constructs _ us = false

-- the property by which one goes on from the first to the second
unfoldable pub one_further : List ℕ → List ℕ → Option ℕ
one_further [] (p ∷ []) = Some p
one_further (p ∷ ps) (q ∷ qs) = pick (nat_eq p q) (one_further ps qs) None
one_further _ _ = None

-- the properties of a path that are called on it
unfoldable pub called_on : Path → List Mention → List ℕ
unfolding one_further
called_on h [] = []
called_on h (used v called ∷ ms) = pick (nat_eq v.0 h.0) (option_to_list (one_further h.1 v.1)) [] ++ called_on h ms
called_on h (_ ∷ ms) = called_on h ms

unfoldable pub all_stay : (stays : Path → ℕ → Bool) → Path → List ℕ → Bool
all_stay stays h [] = true
all_stay stays h (p ∷ ps) = stays (extended h p) p && all_stay stays h ps

-- A global or path that holds others: none of its properties that are called stays a property, since
-- such a call has a receiver. `stays` tells of a path, and of its last property, whether it may be a variable.
unfoldable pub is_holding : (constructs : ℕ → Bool) → (stays : Path → ℕ → Bool) → List Mention → Path → Bool
unfolding sets_up settings uses called_on all_stay
is_holding constructs stays ms h = sets_up constructs (settings h ms) (uses h ms) && all_stay stays h (called_on h ms)

-- each path on the way from w by these properties is held by the one before
unfoldable pub goes_on : (constructs : ℕ → Bool) → (stays : Path → ℕ → Bool) → List Mention → Path → List ℕ → Bool
unfolding is_holding
goes_on constructs stays ms w [] = true
goes_on constructs stays ms w (p ∷ ps) = is_holding constructs stays ms w && (stays (extended w p) p && goes_on constructs stays ms (extended w p) ps)

unfoldable pub is_of_chunk : Global → Bool
is_of_chunk (of_chunk c) = true
is_of_chunk extern = false
is_of_chunk (built_in b) = false

-- a global of the chunks, or a path whose parts are held one by the other
unfoldable pub is_held : (constructs : ℕ → Bool) → (stays : Path → ℕ → Bool) → Program → Path → Bool
unfolding is_of_chunk global_kind tables_of goes_on mentions_of
is_held constructs stays P w = is_of_chunk (global_kind (tables_of P) w.0) && goes_on constructs stays (mentions_of P) (w.0, []) w.1

-- ---- free properties

unfoldable pub is_kept_prop : Option PropInfo → Bool
is_kept_prop None = false
is_kept_prop (Some p) = p.kept

unfoldable pub is_deletion : Use → Bool
is_deletion deleted = true
is_deletion _ = false

-- a property at a path that isn't kept and that no `delete` reaches
unfoldable pub is_free : Program → Path → ℕ → Bool
unfolding is_kept_prop is_deletion uses mentions_of
is_free P w p = not (is_kept_prop (slice_get P.props p)) && not (list_any is_deletion (uses w (mentions_of P)))

-- a global or path that may become a variable, whether or not it is marked `@nocollapse`
unfoldable pub may_be_variable : (constructs : ℕ → Bool) → Program → Path → Bool
unfolding is_held is_free
may_be_variable constructs P w = is_held constructs (is_free P) P w

-- free, and not marked `@nocollapse`
unfoldable pub is_unmarked : (marked : Path → Bool) → Program → Path → ℕ → Bool
unfolding is_free
is_unmarked marked P w p = is_free P w p && not (marked w)

-- ---- the flat paths

unfoldable pub path_in : Mention → Path
path_in (used v u) = v
path_in (set v s) = v

-- the paths on the way, without its beginning
unfoldable pub on_the_way : List ℕ → List (List ℕ)
on_the_way [] = []
on_the_way (p ∷ ps) = (p ∷ []) ∷ map (λ qs. p ∷ qs) (on_the_way ps)

-- all paths of global n that stand in the program, by first place
unfoldable pub paths_from : ℕ → List Mention → List (List ℕ)
unfolding path_in on_the_way
paths_from n [] = []
paths_from n (m ∷ ms) = pick (nat_eq (path_in m).0 n) (on_the_way (path_in m).1) [] ++ paths_from n ms

-- The flat paths of global n: those that are held and free, and neither marked `@nocollapse` nor behind
-- one that is; each once, by first place.
unfoldable pub flat_paths : (constructs : ℕ → Bool) → (marked : Path → Bool) → Program → ℕ → List (List ℕ)
unfolding is_held is_unmarked distinct paths_from mentions_of
flat_paths constructs marked P n = filter (λ ps. is_held constructs (is_unmarked marked P) P (n, ps)) (distinct (paths_from n (mentions_of P)))
