-- What type expressions mean (Closure Compiler, "Annotating JavaScript").
use Rattle.std.specs.Prelude.{ℕ, zero, suc, ◌+◌, Bool, true, false, ◌&&◌, ◌||◌, nat_eq, nat_lt, if◌then◌else◌, List, [], ◌∷◌, ◌++◌, map, fold, Option, Some, None}
use Rattle.std.specs.List.{list_any}
use Rattle.cc_ast.specs.declared.tables.TypeSet.{TypeSet}
use Rattle.cc_ast.specs.declared.tables.Element.{Element}
use Rattle.cc_meaning.specs.Operators.{list_eq}
use Rattle.cc_meaning.specs.Typed.{has_kind, same_element}
use Rattle.cc_meaning.specs.Monad.{pick}
use Rattle.cc_jsdoc.specs.declared.types.Simple.{Simple}
use Rattle.cc_jsdoc.specs.declared.types.Simple.TheVariants as simple
use Rattle.cc_jsdoc.specs.declared.types.Alternative.{Alternative}
use Rattle.cc_jsdoc.specs.declared.types.Alternative.TheVariants as one
use Rattle.cc_jsdoc.specs.declared.types.TypeExpr.{TypeExpr}
use Rattle.cc_scope.specs.Lists.{Name}

-- ---- what names mean as types

-- a name with dots, as a text: `a.b`
unfoldable pub dotted_name : List Name → Name
dotted_name [] = []
dotted_name (w ∷ []) = w
dotted_name (w ∷ v ∷ ws) = w ++ 46 ∷ dotted_name (v ∷ ws)

-- a class of the program, by its number, or of the outside; an enum or typedef; or nothing known
pub data Meaning : Type 0 where
  a_class : ℕ → Meaning
  outside_class : ℕ → Meaning
  stands_for : TypeExpr → Meaning
  nothing : Meaning

-- the meaning of each name, by its words; at most so many of them are enums and typedefs
pub record Meanings : Type 0 where
  pub of : List Name → Meaning
  pub types : ℕ

-- ---- sets

-- the type of which nothing is known
abbrev pub anything : TypeSet
anything = record { kinds = 0; classes = []; unknown = true; element = None }

abbrev pub of_kind : ℕ → TypeSet
of_kind k = record { kinds = k; classes = []; unknown = false; element = None }

abbrev pub of_class : ℕ → TypeSet
of_class c = record { kinds = 0; classes = c ∷ []; unknown = false; element = None }

-- a number put among ascending ones, which it may be one of
unfoldable pub with_number : List ℕ → ℕ → List ℕ
with_number [] n = n ∷ []
with_number (m ∷ ms) n = if nat_eq n m then m ∷ ms else (if nat_lt n m then n ∷ m ∷ ms else (m ∷ with_number ms n))

-- the classes of all these types, ascending
unfoldable pub classes_together : List TypeSet → List ℕ
unfolding with_number
classes_together [] = []
classes_together (t ∷ ts) = fold with_number (classes_together ts) t.classes

-- the bit of a kind, where one of these types has it
unfoldable pub bit_of : ℕ → List TypeSet → ℕ
unfolding has_kind
bit_of b ts = pick (list_any (λ t. has_kind t.kinds b) ts) b 0

unfoldable pub kinds_together : List TypeSet → ℕ
unfolding bit_of
kinds_together ts = bit_of 1 ts + (bit_of 2 ts + (bit_of 4 ts + (bit_of 8 ts + (bit_of 16 ts + bit_of 32 ts))))

unfoldable pub same_elements : Option Element → Option Element → Bool
unfolding same_element
same_elements None None = true
same_elements (Some d) (Some e) = same_element d e
same_elements _ _ = false

-- the element type that all these types have
unfoldable pub element_of_all : List TypeSet → Option Element
unfolding same_elements
element_of_all [] = None
element_of_all (t ∷ ts) = pick (list_any (λ u. pick (same_elements t.element u.element) false true) ts) None t.element

-- the union of types: unknown where one of them is, and with an element type where all have it
unfoldable pub union_of : List TypeSet → TypeSet
unfolding kinds_together classes_together element_of_all
union_of ts = pick (list_any (λ t. t.unknown) ts) anything (record { kinds = kinds_together ts; classes = classes_together ts; unknown = false; element = element_of_all ts })

-- the arrays with elements of a type; where it is unknown, all arrays
unfoldable pub array_type : TypeSet → TypeSet
array_type t = pick t.unknown (of_kind 16) (record { kinds = 16; classes = []; unknown = false; element = Some (record { kinds = t.kinds; classes = t.classes }) })

-- ---- type expressions, by what their names mean

unfoldable pub simple_type : (List Name → TypeSet) → Simple → TypeSet
simple_type named simple.Empty = of_kind 0
simple_type named simple.Number = of_kind 1
simple_type named simple.Text = of_kind 2
simple_type named simple.Truth = of_kind 4
simple_type named simple.Function = of_kind 8
simple_type named simple.Array = of_kind 16
simple_type named (simple.Named n) = named n.parts

unfoldable pub alternative_type : (List Name → TypeSet) → Alternative → TypeSet
unfolding simple_type array_type union_of
alternative_type named one.Unknown = anything
alternative_type named (one.Simple s) = simple_type named s
alternative_type named (one.ArrayOf ss) = array_type (union_of (map (simple_type named) ss))

unfoldable pub type_by : (List Name → TypeSet) → TypeExpr → TypeSet
unfolding alternative_type union_of
type_by named e = union_of (map (alternative_type named) e.alternatives)

-- ---- enums and typedefs

unfoldable pub simple_names : Simple → List (List Name)
simple_names (simple.Named n) = n.parts ∷ []
simple_names _ = []

unfoldable pub simples_names : List Simple → List (List Name)
unfolding simple_names
simples_names [] = []
simples_names (s ∷ ss) = simple_names s ++ simples_names ss

unfoldable pub alternative_names : Alternative → List (List Name)
unfolding simple_names simples_names
alternative_names one.Unknown = []
alternative_names (one.Simple s) = simple_names s
alternative_names (one.ArrayOf ss) = simples_names ss

unfoldable pub alternatives_names : List Alternative → List (List Name)
unfolding alternative_names
alternatives_names [] = []
alternatives_names (a ∷ as') = alternative_names a ++ alternatives_names as'

-- the names in the type of an enum or typedef
unfoldable pub names_under : Meaning → List (List Name)
unfolding alternatives_names
names_under (stands_for e) = alternatives_names e.alternatives
names_under _ = []

unfoldable pub same_words : List Name → List Name → Bool
unfolding list_eq
same_words [] [] = true
same_words (v ∷ vs) (w ∷ ws) = list_eq v w && same_words vs ws
same_words _ _ = false

-- The names under w, followed through enums and typedefs by at most so many steps, lead to v.
unfoldable pub leads : ℕ → Meanings → List Name → List Name → Bool
unfolding names_under same_words
leads zero M w v = false
leads (suc n) M w v = list_any (λ u. same_words u v || leads n M u v) (names_under (M.of w))

-- an enum or typedef that its own type leads back to
unfoldable pub is_circular : Meanings → List Name → Bool
unfolding leads
is_circular M w = leads M.types M w w

unfoldable pub meaning_type : (circular : Bool) → (TypeExpr → TypeSet) → Meaning → TypeSet
meaning_type circular inside (a_class c) = of_class c
meaning_type circular inside (outside_class c) = of_kind 32
meaning_type circular inside (stands_for e) = pick circular anything (inside e)
meaning_type circular inside nothing = anything

-- what a name means as a type, with enums and typedefs opened by at most so many steps
unfoldable pub named_within : ℕ → Meanings → List Name → TypeSet
unfolding meaning_type is_circular type_by
named_within zero M w = anything
named_within (suc n) M w = meaning_type (is_circular M w) (λ e. type_by (named_within n M) e) (M.of w)

-- What a name means as a type. A chain of enums and typedefs that doesn't lead back has no more steps
-- than there are of them.
unfoldable pub named_type : Meanings → List Name → TypeSet
unfolding named_within
named_type M w = named_within (suc M.types) M w

-- what a type expression means
unfoldable pub type_of : Meanings → TypeExpr → TypeSet
unfolding named_type type_by
type_of M e = type_by (named_type M) e

unfoldable pub type_in : Meanings → Option TypeExpr → Option TypeSet
unfolding type_of
type_in M None = None
type_in M (Some e) = Some (type_of M e)

-- the class that a name means, of the program or of the outside
unfoldable pub class_meant : Meaning → Option ℕ
class_meant (a_class c) = Some c
class_meant (outside_class c) = Some c
class_meant _ = None
