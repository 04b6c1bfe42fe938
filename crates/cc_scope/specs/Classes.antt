-- Classes: functions marked `@constructor` or `@interface` that one global or path is set to (Closure
-- Compiler, "Annotating JavaScript"), with what they extend and implement, their methods and their fields;
-- and what names mean as types.
use Rattle.std.specs.Prelude.{ℕ, suc, ◌+◌, ◌-◌, Bool, true, false, not, ◌&&◌, nat_eq, nat_lt, List, [], ◌∷◌, ◌++◌, map, length, slice_get, Option, Some, None, filter_map}
use Rattle.std.specs.Option.{option_to_list, option_and_then}
use Rattle.cc_ast.specs.declared.place.Place.{Place}
use Rattle.cc_ast.specs.declared.tables.Class.{Class}
use Rattle.cc_ast.specs.declared.tables.ChunkInfo.{ChunkInfo}
use Rattle.cc_ast.specs.Syntax.{Expr, this, member, fun, assign, to_member, Stmt, simple, Stmts, no_stmts, more_stmts, Scope, Program}
use Rattle.cc_jsdoc.specs.declared.doc.Doc.{Doc}
use Rattle.cc_jsdoc.specs.declared.doc.DocKind.{DocKind}
use Rattle.cc_jsdoc.specs.declared.doc.DocKind.TheVariants as kind
use Rattle.cc_jsdoc.specs.declared.types.Name as doc
use Rattle.cc_jsdoc.specs.declared.types.TypeExpr.{TypeExpr}
use Rattle.cc_meaning.specs.Operators.{list_eq}
use Rattle.cc_meaning.specs.Names.{name_prototype}
use Rattle.cc_meaning.specs.State.{Path, Tables}
use Rattle.cc_meaning.specs.Monad.{pick}
use Rattle.cc_meaning.specs.Shapes.{tables_of, body_of, path_of, is_named}
use Rattle.cc_meaning.specs.FlatPaths.{Setting, mentions_of, settings, same_path}
use Rattle.cc_meaning.specs.Parts.{Part, sets_method, stmts_parts}
use Rattle.cc_grammar.specs.RawTree.{RawStmts}
use Rattle.cc_scope.specs.Lists.{Name, index_of, distinct, or_else}
use Rattle.cc_scope.specs.Resolve.{all_declared, all_marks}
use Rattle.cc_scope.specs.Marks.{names}
use Rattle.cc_scope.specs.Annotations.{Comment, said_at, doc_number}
use Rattle.cc_scope.specs.Functions.{Function, all_functions}
use Rattle.cc_scope.specs.Externs.{Externs, NamedType, is_class_doc, interface_kind, named_type_in}
use Rattle.cc_scope.specs.Types.{Meaning, a_class, outside_class, stands_for, nothing, Meanings, dotted_name, class_meant}
use Rattle.cc_scope.specs.Paths.{names_itself, may_be_variable}
use Rattle.cc_scope.specs.Written.{fresh, has}
use Rattle.cc_scope.specs.Named.{words_of, path_places, path_named}

-- What is annotated: the program that trees resolve to, of which the classes, docs and flat paths don't
-- count here; the trees, the comments in them, and the outside.
pub record Annotated : Type 0 where
  pub program : Program
  pub trees : List RawStmts
  pub comments : List Comment
  pub outside : Externs

-- ---- what is said of functions

unfoldable pub function_at : Annotated → ℕ → Option Function
unfolding all_functions
function_at A f = pick (nat_lt f (length A.program.chunks)) None (slice_get (all_functions A.trees) (f - length A.program.chunks))

unfoldable pub said_of : List Comment → Option Function → Option Doc
unfolding said_at
said_of cs None = None
said_of cs (Some g) = said_at g.at cs

unfoldable pub constructor_kind : DocKind → Bool
constructor_kind kind.Constructor = true
constructor_kind _ = false

unfoldable pub is_constructor_doc : Option Doc → Bool
unfolding constructor_kind
is_constructor_doc None = false
is_constructor_doc (Some d) = constructor_kind d.kind

-- the functions that are set to `F.prototype.m` for some F
unfoldable pub method_functions : List Part → List ℕ
method_functions [] = []
method_functions (sets_method w p f ∷ xs) = f ∷ method_functions xs
method_functions (_ ∷ xs) = method_functions xs

-- at any place
unfoldable pub all_methods : Tables → List Scope → List ℕ
unfolding method_functions stmts_parts
all_methods T [] = []
all_methods T (s ∷ ss) = method_functions (stmts_parts T 0 s.body) ++ all_methods T ss

unfoldable pub is_method : Program → ℕ → Bool
unfolding has all_methods tables_of
is_method P f = has f (all_methods (tables_of P) P.scopes)

-- what is said of a function as a class: a method is none
unfoldable pub unless_method : Annotated → ℕ → Option Doc → Option Doc
unfolding is_method
unless_method A f d = pick (is_method A.program f) None d

-- a function marked `@constructor` whose own name is mentioned nowhere: it may hold paths
unfoldable pub may_hold : Annotated → ℕ → Bool
unfolding is_constructor_doc unless_method said_of function_at names_itself
may_hold A f = is_constructor_doc (unless_method A f (said_of A.comments (function_at A f))) && not (names_itself A.program f)

-- ---- where classes stand

-- a class of the program: the number of its function, the path that is set to it, what is said of it, and
-- the function in the trees
pub record ClassPlace : Type 0 where
  pub number : ℕ
  pub path : Path
  pub says : Doc
  pub function : Function

-- the first global or path that a chunk's own statement sets to a function; there is no second, since a
-- function stands in one place
unfoldable pub path_set_to : List (Path × ℕ) → ℕ → Option Path
path_set_to [] f = None
path_set_to (x ∷ xs) f = pick (nat_eq x.1 f) (Some x.0) (path_set_to xs f)

unfoldable pub is_once : List Setting → Bool
is_once (s ∷ []) = true
is_once _ = false

-- it may become a variable, and it is set once in all trees
unfoldable pub is_class_path : Annotated → Path → Bool
unfolding is_once settings mentions_of may_be_variable may_hold
is_class_path A w = is_once (settings w (mentions_of A.program)) && may_be_variable (may_hold A) A.program w

unfoldable pub class_at_path : Annotated → ℕ → Function → Doc → Option Path → List ClassPlace
unfolding is_class_path
class_at_path A f g d None = []
class_at_path A f g d (Some w) = pick (is_class_path A w) ((record { number = f; path = w; says = d; function = g }) ∷ []) []

unfoldable pub class_if : Annotated → ℕ → Function → Option Doc → List ClassPlace
unfolding class_at_path path_set_to tables_of is_class_doc
class_if A f g None = []
class_if A f g (Some d) = pick (is_class_doc (Some d)) (class_at_path A f g d (path_set_to (tables_of A.program).set f)) []

unfoldable pub class_places_from : Annotated → ℕ → List Function → List ClassPlace
unfolding class_if unless_method said_at
class_places_from A f [] = []
class_places_from A f (g ∷ gs) = class_if A f g (unless_method A f (said_at g.at A.comments)) ++ class_places_from A (suc f) gs

-- the classes of the program, in the order of their functions
unfoldable pub class_places : Annotated → List ClassPlace
unfolding class_places_from all_functions
class_places A = class_places_from A (length A.program.chunks) (all_functions A.trees)

-- the names of all classes by number: those of the outside come first
unfoldable pub class_names : Annotated → List Name
unfolding dotted_name words_of class_places
class_names A = map (λ c. c.name) A.outside.classes ++ map (λ c. dotted_name (words_of A.program c.path)) (class_places A)

-- ---- what names mean as types

unfoldable pub class_by_number : (outside : ℕ) → Option ℕ → Option Meaning
class_by_number outside None = None
class_by_number outside (Some c) = Some (pick (nat_lt c outside) (outside_class c) (a_class c))

unfoldable pub as_type : Option TypeExpr → Option Meaning
as_type None = None
as_type (Some e) = Some (stands_for e)

unfoldable pub extern_type : Name → List NamedType → Option TypeExpr
unfolding list_eq
extern_type n [] = None
extern_type n (t ∷ ts) = pick (list_eq n t.name) (Some t.type) (extern_type n ts)

unfoldable pub said_of_path : Annotated → Option Path → Option Doc
unfolding said_at path_places
said_of_path A None = None
said_of_path A (Some w) = said_at (path_places A.program A.trees w) A.comments

-- the global or path of these words
unfoldable pub path_meant : Annotated → List Name → Option Path
unfolding path_named distinct all_declared names all_marks
path_meant A ws = path_named (length A.outside.globals + 3) (distinct (all_declared A.trees)) (distinct (names (all_marks A.trees))) ws

unfoldable pub meaning_or_nothing : Option Meaning → Meaning
meaning_or_nothing None = nothing
meaning_or_nothing (Some m) = m

-- a class; or else an enum or typedef, of the outside or of the chunks
unfoldable pub meaning_of : Annotated → List Name → Meaning
unfolding meaning_or_nothing or_else class_by_number class_names as_type extern_type named_type_in said_of_path path_meant index_of dotted_name
meaning_of A ws = meaning_or_nothing (or_else (class_by_number (length A.outside.classes) (index_of (dotted_name ws) (class_names A)))
    (or_else (as_type (extern_type (dotted_name ws) A.outside.types)) (as_type (named_type_in (said_of_path A (path_meant A ws))))))

-- each enum and typedef is of the outside or has a comment of its own
unfoldable pub meanings : Annotated → Meanings
unfolding meaning_of
meanings A = record { of = meaning_of A; types = length A.outside.types + length A.comments }

-- ---- methods and fields

-- the functions that are set to `w.prototype.m`, at any place
unfoldable pub methods_in : Path → List Part → List (ℕ × ℕ)
unfolding same_path
methods_in w [] = []
methods_in w (sets_method v p f ∷ xs) = pick (same_path v w) ((p, f) ∷ methods_in w xs) (methods_in w xs)
methods_in w (_ ∷ xs) = methods_in w xs

unfoldable pub methods_among : Tables → Path → List Scope → List (ℕ × ℕ)
unfolding methods_in stmts_parts
methods_among T w [] = []
methods_among T w (s ∷ ss) = methods_in w (stmts_parts T 0 s.body) ++ methods_among T w ss

unfoldable pub methods_of : Program → Path → List (ℕ × ℕ)
unfolding methods_among tables_of
methods_of P w = methods_among (tables_of P) w P.scopes

-- a property, and the site of a statement that names it
pub record FieldAt : Type 0 where
  pub prop : ℕ
  pub site : ℕ

abbrev pub field_at : ℕ → ℕ → List FieldAt
field_at p i = (record { prop = p; site = i }) ∷ []

unfoldable pub is_this : Expr → Bool
is_this (this i) = true
is_this _ = false

-- `this.n=e;` and `this.n;`
unfoldable pub field_of_this : Stmt → List FieldAt
unfolding is_this
field_of_this (simple i (assign j None (to_member k o p) e)) = pick (is_this o) (field_at p i) []
field_of_this (simple i (member j o p)) = pick (is_this o) (field_at p i) []
field_of_this _ = []

unfoldable pub is_path : Path → Option Path → Bool
unfolding same_path
is_path w None = false
is_path w (Some v) = same_path v w

-- `w.prototype`
unfoldable pub is_prototype_of : Tables → Path → Expr → Bool
unfolding is_named is_path path_of
is_prototype_of T w (member i e p) = is_named T p name_prototype && is_path w (path_of e)
is_prototype_of T w _ = false

unfoldable pub is_function : Expr → Bool
is_function (fun i f) = true
is_function _ = false

-- `w.prototype.n=e;` and `w.prototype.n;`, where e is no function
unfoldable pub field_of_prototype : Tables → Path → Stmt → List FieldAt
unfolding is_function is_prototype_of
field_of_prototype T w (simple i (assign j None (to_member k o p) e)) = pick (not (is_function e) && is_prototype_of T w o) (field_at p i) []
field_of_prototype T w (simple i (member j o p)) = pick (is_prototype_of T w o) (field_at p i) []
field_of_prototype T w _ = []

-- in the statements of a list itself
unfoldable pub fields_of_list : (Stmt → List FieldAt) → Stmts → List FieldAt
fields_of_list at no_stmts = []
fields_of_list at (more_stmts s ss) = at s ++ fields_of_list at ss

unfoldable pub fields_of_chunks : (Stmt → List FieldAt) → List ChunkInfo → List Scope → List FieldAt
unfolding fields_of_list
fields_of_chunks at [] ss = []
fields_of_chunks at (c ∷ cs) [] = []
fields_of_chunks at (c ∷ cs) (s ∷ ss) = fields_of_list at s.body ++ fields_of_chunks at cs ss

-- the statements that name fields of a class: of its function's own list, and of the chunks' own lists
unfoldable pub fields_named : Program → ClassPlace → List FieldAt
unfolding fields_of_list field_of_this body_of fields_of_chunks field_of_prototype tables_of
fields_named P c = fields_of_list field_of_this (body_of P c.number) ++ fields_of_chunks (field_of_prototype (tables_of P) c.path) P.chunks P.scopes

unfoldable pub field_places : Program → ℕ → List FieldAt → List Place
field_places P p [] = []
field_places P p (x ∷ xs) = pick (nat_eq x.prop p) (option_to_list (slice_get P.places x.site)) [] ++ field_places P p xs

unfoldable pub with_doc : ℕ → ℕ → List (ℕ × ℕ)
with_doc p d = pick (nat_eq d 0) [] ((p, d) ∷ [])

unfoldable pub fields_among : Program → List Comment → List FieldAt → List ℕ → List (ℕ × ℕ)
unfolding with_doc doc_number field_places
fields_among P cs xs [] = []
fields_among P cs xs (p ∷ ps) = with_doc p (doc_number (field_places P p xs) cs) ++ fields_among P cs xs ps

-- the fields of a class that comments are on, each with its doc
unfoldable pub fields_of : Program → List Comment → ClassPlace → List (ℕ × ℕ)
unfolding fields_among fields_named fresh
fields_of P cs c = fields_among P cs (fields_named P c) (fresh [] (map (λ x. x.prop) (fields_named P c)))

-- ---- the table of classes

-- the class that a name of a doc means
unfoldable pub class_named : Meanings → doc.Name → Option ℕ
unfolding class_meant
class_named M n = class_meant (M.of n.parts)

unfoldable pub outside_class_of : (name : Name) → (interface : Bool) → Class
outside_class_of n b = record { name = n; function = None; external = true; interface = b; extends = None; implements = []; methods = []; fields = [] }

-- the class of a function; names that mean no class are passed over
unfoldable pub class_of : Annotated → ClassPlace → Class
unfolding dotted_name words_of interface_kind class_named meanings methods_of fields_of
class_of A c = record {
  name = dotted_name (words_of A.program c.path);
  function = Some c.number;
  external = false;
  interface = interface_kind c.says.kind;
  extends = option_and_then (class_named (meanings A)) c.says.extends;
  implements = filter_map (class_named (meanings A)) c.says.implements;
  methods = methods_of A.program c.path;
  fields = fields_of A.program A.comments c;
}

-- the classes: those of the outside, then those of the program
unfoldable pub classes_of : Annotated → List Class
unfolding outside_class_of class_of class_places
classes_of A = map (λ c. outside_class_of c.name c.interface) A.outside.classes ++ map (class_of A) (class_places A)
