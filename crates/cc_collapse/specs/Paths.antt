-- The globals that the flat paths of a program become, and the places where these are declared
-- (Closure Compiler, "Advanced Compilation": flattening of properties).
use Rattle.std.specs.Prelude.{ℕ, zero, suc, Bool, true, false, not, ◌&&◌, ◌||◌, nat_eq, List, [], ◌∷◌, ◌++◌, length, slice_get, Option, Some, None, is_some, codes}
use Rattle.std.specs.List.{filter, list_any}
use Rattle.cc_ast.specs.Syntax.{object, Fields, no_fields, more_fields, Scope, Program}
use Rattle.cc_ast.specs.declared.tables.ChunkInfo.{ChunkInfo}
use Rattle.cc_ast.specs.declared.tables.GlobalInfo.{GlobalInfo}
use Rattle.cc_meaning.specs.State.{Path, Tables}
use Rattle.cc_meaning.specs.Monad.{pick}
use Rattle.cc_meaning.specs.Store.{dotted, name_of, chunk_in, flats_in, flat_of}
use Rattle.cc_meaning.specs.Typed.{path_doc}
use Rattle.cc_meaning.specs.Shapes.{path_of_key, tables_of, body_of}
use Rattle.cc_meaning.specs.WellMade.{is_chunk}
use Rattle.cc_meaning.specs.FlatPaths.{Mention, used, set, by_value, same_path, extended, in_stmts, mentions_of}

-- ---- numbers

unfoldable pub path_at : Mention → Path
path_at (used w u) = w
path_at (set w s) = w

-- the flat paths that a path goes through, from this one on, the shortest first
unfoldable pub flat_through : Tables → (from : Path) → List ℕ → List Path
unfolding flat_of
flat_through T w [] = []
flat_through T w (p ∷ ps) = pick (is_some (flat_of T (Some (extended w p)))) (extended w p ∷ flat_through T (extended w p) ps) (flat_through T (extended w p) ps)

unfoldable pub through_all : Tables → List Mention → List Path
unfolding flat_through path_at
through_all T [] = []
through_all T (m ∷ ms) = flat_through T ((path_at m).0, []) (path_at m).1 ++ through_all T ms

unfoldable pub without : Path → List Path → List Path
unfolding same_path
without w vs = filter (λ v. not (same_path v w)) vs

-- each once, at its first place
unfoldable pub once : List Path → List Path
unfolding without
once [] = []
once (w ∷ ws) = w ∷ without w (once ws)

-- the flat paths that stand in the trees, by their first mention: those of the chunks' own lists come
-- before those of the functions
unfoldable pub flat_paths : Program → List Path
unfolding once through_all tables_of mentions_of
flat_paths P = once (through_all (tables_of P) (mentions_of P))

unfoldable pub place_of : ℕ → Path → List Path → Option ℕ
unfolding same_path
place_of n w [] = None
place_of n w (v ∷ vs) = pick (same_path v w) (Some n) (place_of (suc n) w vs)

-- Which global a path is once it is flattened: a path that is a global is that global, and of those
-- with dots the flat ones become the globals behind all others.
unfoldable pub global_at : (paths : List Path) → (globals : ℕ) → Option Path → Option ℕ
unfolding place_of
global_at ws n None = None
global_at ws n (Some (g, [])) = Some g
global_at ws n (Some (g, p ∷ ps)) = place_of n (g, p ∷ ps) ws

-- ---- how a path is declared

-- the mentions of each scope by itself
unfoldable pub mentions_in : Program → ℕ → List Mention
unfolding in_stmts is_chunk body_of
mentions_in P f = in_stmts (is_chunk P f) (body_of P f)

unfoldable pub goes_on : List ℕ → List ℕ → Bool
goes_on [] qs = true
goes_on (p ∷ ps) [] = false
goes_on (p ∷ ps) (q ∷ qs) = nat_eq p q && goes_on ps qs

-- the mentions of a path and of those that go on from it
unfoldable pub mentions_through : Path → List Mention → List Mention
unfolding path_at goes_on
mentions_through w ms = filter (λ m. nat_eq w.0 (path_at m).0 && goes_on w.1 (path_at m).1) ms

unfoldable pub is_path : Path → Option Path → Bool
unfolding same_path
is_path w None = false
is_path w (Some v) = same_path v w

unfoldable pub has_key : Option Path → Fields → Path → Bool
unfolding path_of_key is_path
has_key v no_fields w = false
has_key v (more_fields k e fs) w = is_path w (path_of_key v k) || has_key v fs w

-- a literal that is set to a path has a key for this one
unfoldable pub has_key_for : Path → Mention → Bool
unfolding has_key
has_key_for w (set v (by_value (object i fs))) = has_key (Some v) fs w
has_key_for w _ = false

unfoldable pub sets_value : Path → Mention → Bool
unfolding same_path
sets_value w (set v (by_value e)) = same_path v w
sets_value w _ = false

unfoldable pub first_is : (Mention → Bool) → List Mention → Bool
first_is test [] = false
first_is test (m ∷ ms) = test m

-- the least of so many scopes, from f on, for which a test holds
unfoldable pub least_scope : (count f : ℕ) → (ℕ → Bool) → Option ℕ
least_scope zero f test = None
least_scope (suc n) f test = pick (test f) (Some f) (least_scope n (suc f) test)

unfoldable pub has_any : {A : Type 0} → List A → Bool
has_any [] = false
has_any (x ∷ xs) = true

unfoldable pub parent_in : Option Scope → Option ℕ
parent_in None = None
parent_in (Some s) = s.parent

unfoldable pub number_or : ℕ → Option ℕ → ℕ
number_or n None = n
number_or n (Some m) = m

-- The chunk in which a scope stands, at most so many functions deep. A chunk has no parent, and stands in itself.
unfoldable pub chunk_around : (depth : ℕ) → List Scope → ℕ → ℕ
unfolding parent_in number_or
chunk_around zero ss f = f
chunk_around (suc n) ss f = chunk_around n ss (number_or f (parent_in (slice_get ss f)))

unfoldable pub deps_in : Option ChunkInfo → List ℕ
deps_in None = []
deps_in (Some c) = c.deps

-- chunk d is c or depends on it, over at most so many steps
unfoldable pub comes_after : (depth : ℕ) → List ChunkInfo → (d c : ℕ) → Bool
unfolding deps_in
comes_after zero cs d c = nat_eq d c
comes_after (suc n) cs d c = nat_eq d c || list_any (λ e. comes_after n cs e c) (deps_in (slice_get cs d))

-- each mention of a path, and of those that go on from it, stands in this chunk or in one that depends on it
unfoldable pub stands_after : Program → Path → (chunk : ℕ) → Bool
unfolding least_scope has_any mentions_through mentions_in comes_after chunk_around
stands_after P w c = not (is_some (least_scope (length P.scopes) 0 (λ f. has_any (mentions_through w (mentions_in P f)) && not (comes_after (length P.chunks) P.chunks (chunk_around (length P.scopes) P.scopes f) c))))

-- the chunk in which a literal has a key for this path
unfoldable pub key_chunk : Program → Path → Option ℕ
unfolding least_scope mentions_in has_key_for
key_chunk P w = least_scope (length P.scopes) 0 (λ f. list_any (has_key_for w) (mentions_in P f))

unfoldable pub first_scope : Program → Path → Option ℕ
unfolding least_scope has_any mentions_through mentions_in
first_scope P w = least_scope (length P.scopes) 0 (λ f. has_any (mentions_through w (mentions_in P f)))

unfoldable pub only : Option ℕ → (ℕ → Bool) → Option ℕ
only None test = None
only (Some n) test = pick (test n) (Some n) None

unfoldable pub sets_first : Program → Path → (scope : ℕ) → Bool
unfolding is_chunk first_is sets_value mentions_through mentions_in stands_after
sets_first P w c = is_chunk P c && first_is (sets_value w) (mentions_through w (mentions_in P c)) && stands_after P w c

-- the chunk in whose own list a statement that sets this path is its first mention, where all others
-- stand there or in chunks that depend on it
unfoldable pub setting_chunk : Program → Path → Option ℕ
unfolding only first_scope sets_first
setting_chunk P w = only (first_scope P w) (sets_first P w)

-- where the global of a flat path is declared: at the key of a literal that sets the path, at its first
-- setting, or behind the declaration of its holder
pub data Declaration : Type 0 where
  at_key : (chunk : ℕ) → Declaration
  at_setting : (chunk : ℕ) → Declaration
  behind_holder : Declaration

unfoldable pub declared_by : (key setting : Option ℕ) → Declaration
declared_by (Some c) s = at_key c
declared_by None (Some c) = at_setting c
declared_by None None = behind_holder

unfoldable pub declaration_of : Program → Path → Declaration
unfolding declared_by key_chunk setting_chunk
declaration_of P w = declared_by (key_chunk P w) (setting_chunk P w)

-- the chunk of a declaration, whose holder is declared in this chunk
unfoldable pub chunk_of_declaration : Declaration → (holder : ℕ) → ℕ
chunk_of_declaration (at_key c) h = c
chunk_of_declaration (at_setting c) h = c
chunk_of_declaration behind_holder h = h

unfoldable pub chunk_along : Program → (from : Path) → (chunk : ℕ) → List ℕ → ℕ
unfolding chunk_of_declaration declaration_of
chunk_along P w c [] = c
chunk_along P w c (p ∷ ps) = chunk_along P (extended w p) (chunk_of_declaration (declaration_of P (extended w p)) c) ps

-- the chunk in which the global of a flat path is declared
unfoldable pub chunk_of_path : Program → Path → ℕ
unfolding chunk_along chunk_in number_or
chunk_of_path P w = chunk_along P (w.0, []) (number_or 0 (chunk_in (slice_get P.globals w.0))) w.1

-- ---- the new globals

unfoldable pub doc_at_place : List GlobalInfo → Option (ℕ × ℕ) → ℕ
unfolding path_doc flats_in number_or
doc_at_place gs None = 0
doc_at_place gs (Some x) = number_or 0 (path_doc (slice_get (flats_in (slice_get gs x.0)) x.1))

unfoldable pub doc_of_path : Program → Path → ℕ
unfolding doc_at_place flat_of tables_of
doc_of_path P w = doc_at_place P.globals (flat_of (tables_of P) (Some w))

unfoldable pub name_in : Option GlobalInfo → List ℕ
name_in None = []
name_in (Some g) = g.name

unfoldable pub dotted_names : Tables → List ℕ → List ℕ
unfolding name_of
dotted_names T [] = []
dotted_names T (p ∷ ps) = codes "$" ++ name_of T (dotted p) ++ dotted_names T ps

-- `a.b.c` becomes `a$b$c`
unfoldable pub name_of_path : Program → Path → List ℕ
unfolding name_in dotted_names tables_of
name_of_path P w = name_in (slice_get P.globals w.0) ++ dotted_names (tables_of P) w.1

unfoldable pub new_global : Program → Path → GlobalInfo
unfolding name_of_path chunk_of_path doc_of_path
new_global P w = record { name = name_of_path P w; chunk = Some (chunk_of_path P w); doc = doc_of_path P w; flat = [] }
