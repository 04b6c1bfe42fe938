-- Where annotation comments are on globals and paths: on a declaration of a variable, on a statement
-- `h.name=e;` or `h.name;`, and on a key of a literal that a chunk's own statement sets a path to.
use Rattle.std.specs.Prelude.{ℕ, ◌+◌, List, [], ◌∷◌, ◌++◌, map, slice_get, Option, Some, None}
use Rattle.std.specs.Option.{option_to_list}
use Rattle.cc_ast.specs.declared.place.Place.{Place}
use Rattle.cc_ast.specs.declared.tables.GlobalInfo.{GlobalInfo}
use Rattle.cc_ast.specs.Syntax.{member, assign, Stmt, simple, vars, fun_decl, if, while, do_while, for, for_in, return, throw, break, continue, label, switch, try, pay_stmt, Stmts, no_stmts, more_stmts, MaybeStmts, absent, present, Cases, no_cases, more_cases, Scope, Program}
use Rattle.cc_meaning.specs.State.{Path}
use Rattle.cc_meaning.specs.Monad.{pick}
use Rattle.cc_meaning.specs.Store.{prop_name}
use Rattle.cc_meaning.specs.Shapes.{path_of, path_of_target}
use Rattle.cc_meaning.specs.FlatPaths.{same_path}
use Rattle.cc_grammar.specs.RawTree.{RawKey, RawExpr, RawTarget, RawFields, RawDeclarators, RawStmt, RawStmts, MaybeExpr}
use Rattle.cc_grammar.specs.RawTree as raw
use Rattle.cc_scope.specs.Lists.{Name, index_of}
use Rattle.cc_scope.specs.Types.{same_words}
use Rattle.cc_scope.specs.Annotations.{all_at, places_of}

-- ---- the words of paths

unfoldable pub global_name : Option GlobalInfo → Name
global_name None = []
global_name (Some g) = g.name

-- the names of a path: of its global and of its properties
unfoldable pub words_of : Program → Path → List Name
unfolding global_name prop_name
words_of P w = global_name (slice_get P.globals w.0) ∷ map (λ p. prop_name (slice_get P.props p)) w.1

-- ---- statements that name a path

-- a path, and the site of the statement
pub record Stated : Type 0 where
  pub path : Path
  pub site : ℕ

unfoldable pub stated_at : ℕ → Option Path → List Stated
stated_at i None = []
stated_at i (Some w) = (record { path = w; site = i }) ∷ []

unfoldable mutual
  unfolding stated_at path_of path_of_target

  pub stmt_states : Stmt → List Stated
  stmt_states (simple i (assign j None t e)) = stated_at i (path_of_target t)
  stmt_states (simple i (member j e p)) = stated_at i (path_of (member j e p))
  stmt_states (simple i e) = []
  stmt_states (vars i ds) = []
  stmt_states (fun_decl i r f) = []
  stmt_states (if i t a b) = stmts_state a ++ stmts_state b
  stmt_states (while i t b) = stmts_state b
  stmt_states (do_while i b t) = stmts_state b
  stmt_states (for i h t e b) = stmts_state b
  stmt_states (for_in i t e b) = stmts_state b
  stmt_states (return i e) = []
  stmt_states (throw i e) = []
  stmt_states (break i l) = []
  stmt_states (continue i l) = []
  stmt_states (label i l b) = stmts_state b
  stmt_states (switch i e cs) = cases_state cs
  stmt_states (try i b k f) = stmts_state b ++ (maybe_states k ++ maybe_states f)
  stmt_states (pay_stmt i p) = []

  pub stmts_state : Stmts → List Stated
  stmts_state no_stmts = []
  stmts_state (more_stmts s ss) = stmt_states s ++ stmts_state ss

  pub maybe_states : MaybeStmts → List Stated
  maybe_states absent = []
  maybe_states (present ss) = stmts_state ss

  pub cases_state : Cases → List Stated
  cases_state no_cases = []
  cases_state (more_cases t b cs) = stmts_state b ++ cases_state cs

unfoldable pub all_states : List Scope → List Stated
unfolding stmts_state
all_states [] = []
all_states (s ∷ ss) = stmts_state s.body ++ all_states ss

-- where the statements stand that name the path w
unfoldable pub places_stated : Program → Path → List Stated → List Place
unfolding same_path
places_stated P w [] = []
places_stated P w (x ∷ xs) = pick (same_path x.path w) (option_to_list (slice_get P.places x.site)) [] ++ places_stated P w xs

-- ---- keys of literals

-- the words of a path, and the place of the key that sets it
pub record Keyed : Type 0 where
  pub words : List Name
  pub place : Place

unfoldable mutual
  -- the keys of the literal that a path is set to
  pub keys_of : List Name → RawExpr → List Keyed
  keys_of ws (raw.object q fs) = keys_in ws fs
  keys_of ws _ = []

  pub keys_in : List Name → RawFields → List Keyed
  keys_in ws raw.no_fields = []
  keys_in ws (raw.more_fields q (raw.dotted m) e fs) = (record { words = ws ++ m ∷ []; place = q }) ∷ (keys_of (ws ++ m ∷ []) e ++ keys_in ws fs)
  keys_in ws (raw.more_fields q k e fs) = keys_in ws fs

unfoldable pub words_on : Option (List Name) → Name → Option (List Name)
words_on None m = None
words_on (Some ws) m = Some (ws ++ m ∷ [])

-- a variable with dots after it
unfoldable pub words_in : RawExpr → Option (List Name)
unfolding words_on
words_in (raw.var q n) = Some (n ∷ [])
words_in (raw.member q e r m) = words_on (words_in e) m
words_in _ = None

unfoldable pub target_words : RawTarget → Option (List Name)
unfolding words_in words_on
target_words (raw.to_var q n) = Some (n ∷ [])
target_words (raw.to_member q e r m) = words_on (words_in e) m
target_words (raw.to_index q e k) = None

unfoldable pub keys_from : Option (List Name) → RawExpr → List Keyed
unfolding keys_of
keys_from None e = []
keys_from (Some ws) e = keys_of ws e

unfoldable pub declarator_keys : RawDeclarators → List Keyed
unfolding keys_of
declarator_keys raw.no_declarators = []
declarator_keys (raw.more_declarators v raw.no_expr ds) = declarator_keys ds
declarator_keys (raw.more_declarators v (raw.one_expr e) ds) = keys_of (v.name ∷ []) e ++ declarator_keys ds

-- a chunk's own statement
unfoldable pub statement_keys : RawStmt → List Keyed
unfolding keys_from target_words declarator_keys
statement_keys (raw.simple q (raw.assign p None t e)) = keys_from (target_words t) e
statement_keys (raw.vars q ds) = declarator_keys ds
statement_keys _ = []

unfoldable pub own_keys : RawStmts → List Keyed
unfolding statement_keys
own_keys raw.no_stmts = []
own_keys (raw.more_stmts s ss) = statement_keys s ++ own_keys ss

unfoldable pub all_keys : List RawStmts → List Keyed
unfolding own_keys
all_keys [] = []
all_keys (t ∷ ts) = own_keys t ++ all_keys ts

unfoldable pub places_keyed : List Name → List Keyed → List Place
unfolding same_words
places_keyed ws [] = []
places_keyed ws (k ∷ ks) = pick (same_words ws k.words) (k.place ∷ places_keyed ws ks) (places_keyed ws ks)

-- ---- where comments are on a global or path

-- of a program, resolved from these trees
unfoldable pub path_places : Program → List RawStmts → Path → List Place
unfolding places_of all_at global_name places_stated all_states places_keyed words_of all_keys
path_places P ts (n, []) = places_of (global_name (slice_get P.globals n)) (all_at ts)
path_places P ts (n, p ∷ ps) = places_stated P (n, p ∷ ps) (all_states P.scopes) ++ places_keyed (words_of P (n, p ∷ ps)) (all_keys ts)

-- ---- the path that a name with dots means

unfoldable pub path_further : Option Path → Option ℕ → Option Path
path_further None p = None
path_further (Some w) None = None
path_further (Some w) (Some p) = Some (w.0, w.1 ++ p ∷ [])

unfoldable pub path_along : List Name → Option Path → List Name → Option Path
unfolding path_further index_of
path_along props w [] = w
path_along props w (m ∷ ms) = path_along props (path_further w (index_of m props)) ms

unfoldable pub path_at : (outer : ℕ) → Option ℕ → Option Path
path_at outer None = None
path_at outer (Some n) = Some (outer + n, [])

-- The path of these words, of a program with so many globals that no chunk declares, those of the chunks,
-- and its properties.
unfoldable pub path_named : (outer : ℕ) → List Name → List Name → List Name → Option Path
unfolding path_along path_at index_of
path_named outer globals props [] = None
path_named outer globals props (x ∷ ms) = path_along props (path_at outer (index_of x globals)) ms
