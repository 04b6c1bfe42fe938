-- What the externs declare: the outside of a program (Closure Compiler, "Understanding externs"). Their
-- global names and the property names in them are kept; their classes are what the outside makes objects of.
use Rattle.std.specs.Prelude.{Bool, true, false, List, [], ◌∷◌, ◌++◌, map, Option, Some, None}
use Rattle.cc_jsdoc.specs.declared.doc.Doc.{Doc}
use Rattle.cc_jsdoc.specs.declared.doc.DocKind.{DocKind}
use Rattle.cc_jsdoc.specs.declared.doc.DocKind.TheVariants as kind
use Rattle.cc_jsdoc.specs.declared.types.TypeExpr.{TypeExpr}
use Rattle.cc_meaning.specs.Monad.{pick}
use Rattle.cc_grammar.specs.RawTree.{RawStmts}
use Rattle.cc_scope.specs.Lists.{Name, distinct}
use Rattle.cc_scope.specs.Resolve.{all_declared}
use Rattle.cc_scope.specs.Annotations.{type_kind, Comment, Declaration, all_at, places_of, said_at}
use Rattle.cc_scope.specs.Properties.{all_properties}

-- a class of the outside
pub record ExternClass : Type 0 where
  pub name : Name
  pub interface : Bool

-- an enum or typedef, and what its name means as a type
pub record NamedType : Type 0 where
  pub name : Name
  pub type : TypeExpr

pub record Externs : Type 0 where
  pub globals : List Name
  pub kept : List Name
  pub classes : List ExternClass
  pub types : List NamedType

-- ---- what a doc makes of a name

unfoldable pub class_kind : DocKind → Bool
class_kind kind.Constructor = true
class_kind kind.Interface = true
class_kind _ = false

unfoldable pub interface_kind : DocKind → Bool
interface_kind kind.Interface = true
interface_kind _ = false

-- marked `@constructor` or `@interface`
unfoldable pub is_class_doc : Option Doc → Bool
unfolding class_kind
is_class_doc None = false
is_class_doc (Some d) = class_kind d.kind

unfoldable pub is_interface_doc : Option Doc → Bool
unfolding interface_kind
is_interface_doc None = false
is_interface_doc (Some d) = interface_kind d.kind

-- the type of an enum or typedef
unfoldable pub named_type_in : Option Doc → Option TypeExpr
unfolding type_kind
named_type_in None = None
named_type_in (Some d) = pick (type_kind d.kind) d.value None

-- ---- of the globals, in their order

unfoldable pub class_of_name : Name → Option Doc → List ExternClass
unfolding is_class_doc is_interface_doc
class_of_name x d = pick (is_class_doc d) ((record { name = x; interface = is_interface_doc d }) ∷ []) []

unfoldable pub classes_among : List Name → List Declaration → List Comment → List ExternClass
unfolding class_of_name said_at places_of
classes_among [] ds cs = []
classes_among (x ∷ xs) ds cs = class_of_name x (said_at (places_of x ds) cs) ++ classes_among xs ds cs

unfoldable pub type_of_name : Name → Option TypeExpr → List NamedType
type_of_name x None = []
type_of_name x (Some e) = (record { name = x; type = e }) ∷ []

unfoldable pub types_among : List Name → List Declaration → List Comment → List NamedType
unfolding type_of_name named_type_in said_at places_of
types_among [] ds cs = []
types_among (x ∷ xs) ds cs = type_of_name x (named_type_in (said_at (places_of x ds) cs)) ++ types_among xs ds cs

-- the global names of externs, each once
unfoldable pub extern_globals : List RawStmts → List Name
unfolding distinct all_declared
extern_globals ts = distinct (all_declared ts)

-- What externs declare, by the trees of their files, in order, and the comments in them.
unfoldable pub externs_of : List RawStmts → List Comment → Externs
unfolding extern_globals distinct all_properties classes_among types_among all_at
externs_of ts cs = record {
  globals = extern_globals ts;
  kept = distinct (map (λ p. p.name) (all_properties ts));
  classes = classes_among (extern_globals ts) (all_at ts) cs;
  types = types_among (extern_globals ts) (all_at ts) cs;
}
