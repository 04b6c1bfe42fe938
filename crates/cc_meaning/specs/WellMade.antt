-- The programs that reading answers and every rewriting keeps.
use Rattle.std.specs.Prelude.{◌≡◌, ℕ, suc, ◌+◌, ◌^◌, ◌<◌, ◌≤◌, Bool, true, false, not, ◌&&◌, ◌||◌, nat_eq, nat_lt, List, [], ◌∷◌, ◌++◌, length, map, take, slice_get, Option, Some, None, is_some, IsTrue, IsFalse, codes}
use Rattle.cc_ast.specs.Syntax.{Expr, Declarator, ForInit, no_init, init_value, init_vars, ForTarget, in_target, in_declared, Stmt, simple, vars, fun_decl, if, while, do_while, for, for_in, return, throw, break, continue, label, switch, try, pay_stmt, Stmts, no_stmts, more_stmts, MaybeStmts, absent, present, Cases, no_cases, more_cases, Scope, Program}
use Rattle.cc_ast.specs.declared.tree.Ref.{Ref}
use Rattle.cc_ast.specs.declared.tables.ChunkInfo.{ChunkInfo}
use Rattle.cc_ast.specs.declared.tables.GlobalInfo.{GlobalInfo}
use Rattle.cc_ast.specs.declared.tables.FlatPath.{FlatPath}
use Rattle.cc_ast.specs.declared.tables.PropInfo.{PropInfo}
use Rattle.cc_ast.specs.declared.tables.Class.{Class}
use Rattle.cc_ast.specs.declared.tables.Element.{Element}
use Rattle.cc_ast.specs.declared.tables.TypeSet.{TypeSet}
use Rattle.cc_ast.specs.declared.tables.SiteDoc.{SiteDoc}
use Rattle.cc_meaning.specs.Operators.{is_in}
use Rattle.cc_meaning.specs.Names.{is_index, builtin_globals, always_kept}
use Rattle.cc_meaning.specs.Types.{Ancestor, parents}
use Rattle.cc_meaning.specs.State.{Path, Tables}
use Rattle.cc_meaning.specs.Monad.{pick}
use Rattle.cc_meaning.specs.Store.{of_chunk, global_kind, without_chunk, class_of_function}
use Rattle.cc_meaning.specs.Shapes.{tables_of, body_of, set_by}
use Rattle.cc_meaning.specs.Alike.{In}
use Rattle.cc_meaning.specs.FlatPaths.{Setting, mentions_of, settings, IsCollapsible, MayBeVariable}
use Rattle.cc_meaning.specs.Parts.{Part, has_site, uses_prop, uses_doc, mentions, declares, makes, sets_method, stmts_parts, expr_well, target_well}

-- ---- statements of the language

-- what is open at a place: labels, the labels of loops, whether a `break`, a `continue` and a
-- `return` may stand, and whether this is a function's or a chunk's own list
pub record Open : Type 0 where
  pub labels : List (List ℕ)
  pub loops : List (List ℕ)
  pub breaks : Bool
  pub continues : Bool
  pub returns : Bool
  pub own : Bool

unfoldable pub option_well : Tables → Option Expr → Bool
unfolding expr_well
option_well T None = true
option_well T (Some e) = expr_well T e

unfoldable pub vars_well : Tables → List Declarator → Bool
unfolding option_well
vars_well T [] = true
vars_well T (d ∷ ds) = option_well T d.value && vars_well T ds

-- a list of declarators has at least one
unfoldable pub some_vars : Tables → List Declarator → Bool
unfolding vars_well
some_vars T [] = false
some_vars T (d ∷ ds) = vars_well T (d ∷ ds)

unfoldable pub init_well : Tables → ForInit → Bool
unfolding expr_well some_vars
init_well T no_init = true
init_well T (init_value e) = expr_well T e
init_well T (init_vars ds) = some_vars T ds

unfoldable pub name_well : Tables → ForTarget → Bool
unfolding target_well option_well
name_well T (in_target t) = target_well T t
name_well T (in_declared d) = option_well T d.value

unfoldable pub may_break : Open → Option (List ℕ) → Bool
unfolding is_in
may_break o None = o.breaks
may_break o (Some l) = is_in l o.labels

unfoldable pub may_continue : Open → Option (List ℕ) → Bool
unfolding is_in
may_continue o None = o.continues
may_continue o (Some l) = is_in l o.loops

-- the statements besides price marks
unfoldable pub counted : Stmts → ℕ
counted no_stmts = 0
counted (more_stmts (pay_stmt i p) ss) = counted ss
counted (more_stmts s ss) = suc (counted ss)

-- labels are a loop's where nothing else stands with it
unfoldable pub labels_for : List (List ℕ) → Stmts → List (List ℕ)
unfolding counted
labels_for ls ss = pick (nat_eq (counted ss) 1) ls []

abbrev pub nested : Open → Open
nested o = record o { own = false }

abbrev pub in_loop : Open → List (List ℕ) → Open
in_loop o ls = record o { loops = ls ++ o.loops; breaks = true; continues = true; own = false }

unfoldable pub defaults : Cases → ℕ
defaults no_cases = 0
defaults (more_cases None b cs) = suc (defaults cs)
defaults (more_cases (Some e) b cs) = defaults cs

unfoldable pub is_there : MaybeStmts → Bool
is_there absent = false
is_there (present ss) = true

unfoldable mutual
  unfolding expr_well option_well some_vars init_well name_well may_break may_continue labels_for defaults is_there is_in

  pub stmt_well : Tables → Open → (ls : List (List ℕ)) → Stmt → Bool
  stmt_well T o ls (simple i e) = expr_well T e
  stmt_well T o ls (vars i ds) = some_vars T ds
  stmt_well T o ls (fun_decl i r f) = o.own
  stmt_well T o ls (if i t a b) = expr_well T t && stmts_well T (nested o) [] a && stmts_well T (nested o) [] b
  stmt_well T o ls (while i t b) = expr_well T t && stmts_well T (in_loop o ls) [] b
  stmt_well T o ls (do_while i b t) = expr_well T t && stmts_well T (in_loop o ls) [] b
  stmt_well T o ls (for i h t e b) = init_well T h && option_well T t && option_well T e && stmts_well T (in_loop o ls) [] b
  stmt_well T o ls (for_in i t e b) = name_well T t && expr_well T e && stmts_well T (in_loop o ls) [] b
  stmt_well T o ls (return i e) = o.returns && option_well T e
  stmt_well T o ls (throw i e) = expr_well T e
  stmt_well T o ls (break i l) = may_break o l
  stmt_well T o ls (continue i l) = may_continue o l
  stmt_well T o ls (label i l b) = not (is_in l o.labels) && stmts_well T (record o { labels = l ∷ o.labels; own = false }) (labels_for (l ∷ ls) b) b
  stmt_well T o ls (switch i e cs) = expr_well T e && nat_lt (defaults cs) 2 && cases_well T (record o { breaks = true; own = false }) cs
  stmt_well T o ls (try i b k f) = (is_there k || is_there f) && stmts_well T (nested o) [] b && maybe_well T (nested o) k && maybe_well T (nested o) f
  stmt_well T o ls (pay_stmt i p) = true

  pub stmts_well : Tables → Open → (ls : List (List ℕ)) → Stmts → Bool
  stmts_well T o ls no_stmts = true
  stmts_well T o ls (more_stmts s ss) = stmt_well T o ls s && stmts_well T o ls ss

  pub maybe_well : Tables → Open → MaybeStmts → Bool
  maybe_well T o absent = true
  maybe_well T o (present ss) = stmts_well T o [] ss

  pub cases_well : Tables → Open → Cases → Bool
  cases_well T o no_cases = true
  cases_well T o (more_cases t b cs) = option_well T t && stmts_well T o [] b && cases_well T o cs

-- ---- scopes

unfoldable pub parts_of : Program → ℕ → List Part
unfolding stmts_parts tables_of body_of
parts_of P f = stmts_parts (tables_of P) 0 (body_of P f)

unfoldable pub is_chunk : Program → ℕ → Bool
is_chunk P f = nat_lt f (length P.chunks)

abbrev pub opened : Program → ℕ → Open
opened P f = record { labels = []; loops = []; breaks = false; continues = false; returns = not (is_chunk P f); own = true }

-- what is reached from the chunks
pub data Reached (P : Program) : ℕ → Type 0 where
  chunk_reached : (c : ℕ) → IsTrue (is_chunk P c) → Reached P c
  function_reached : (f g c : ℕ) (d : Bool) → Reached P f → In (makes c g d) (parts_of P f) → Reached P g

-- a variable of the scope's own frame: a parameter, or declared in its own statements
pub data IsOwn (P : Program) (s : Scope) (f : ℕ) : ℕ → Type 0 where
  is_param : (n : ℕ) → n < s.params → IsOwn P s f n
  is_declared : (n c : ℕ) → n < s.params + s.names → In (declares c (Ref.Frame c n)) (parts_of P f) → IsOwn P s f n

-- at a place of scope f with so many catch clauses open, the frame that is so many steps outwards
-- has this place
pub data Holds (P : Program) : (f catches up place : ℕ) → Type 0 where
  of_catch : (f c u : ℕ) → u < c → Holds P f c u 0
  of_frame : (f c n : ℕ) (s : Scope) → slice_get P.scopes f ≡ Some s → IsFalse (is_chunk P f) → IsOwn P s f n → Holds P f c c n
  of_own : (f c : ℕ) (s : Scope) → slice_get P.scopes f ≡ Some s → IsTrue s.own → Holds P f c (suc c) 0
  of_outer : (f g c d u n : ℕ) (s : Scope) (b : Bool) → slice_get P.scopes f ≡ Some s → IsFalse (is_chunk P f) → IsFalse s.own → In (makes d f b) (parts_of P g) → Holds P g d u n → Holds P f c (suc (c + u)) n
  of_outer_own : (f g c d u n : ℕ) (s : Scope) (b : Bool) → slice_get P.scopes f ≡ Some s → IsTrue s.own → In (makes d f b) (parts_of P g) → Holds P g d u n → Holds P f c (suc (suc (c + u))) n

-- a global of a chunk, which that chunk's own statements declare, and no lesser chunk's do
pub record IsDeclared (P : Program) (n c : ℕ) : Type 0 where
  pub here : (k : ℕ) × In (declares k (Ref.Global n)) (parts_of P c)
  pub least : (d k : ℕ) → d < c → In (declares k (Ref.Global n)) (parts_of P d) → ⊥

-- a variable that is mentioned is there
pub data IsSound (P : Program) (f c : ℕ) : Ref → Type 0 where
  sound_place : (u n : ℕ) → Holds P f c u n → IsSound P f c (Ref.Frame u n)
  sound_global : (n d : ℕ) → global_kind (tables_of P) n ≡ of_chunk d → IsDeclared P n d → IsSound P f c (Ref.Global n)
  sound_outer : (n : ℕ) (g : GlobalInfo) → slice_get P.globals n ≡ Some g → g.chunk ≡ None → IsSound P f c (Ref.Global n)

-- a global that is mentioned is one of the program, also in a scope that isn't reached
pub data IsNumbered (P : Program) : Ref → Type 0 where
  numbered_place : (u n : ℕ) → IsNumbered P (Ref.Frame u n)
  numbered_global : (n : ℕ) → n < length P.globals → IsNumbered P (Ref.Global n)

-- a declared variable is a global of the chunks in a chunk's own statements, and elsewhere a place
-- in the frame of the function in whose own statements it stands
pub data IsPlaced (P : Program) (f c : ℕ) : Ref → Type 0 where
  placed_global : (n d : ℕ) → IsTrue (is_chunk P f) → global_kind (tables_of P) n ≡ of_chunk d → IsPlaced P f c (Ref.Global n)
  placed_local : (n : ℕ) (s : Scope) → IsFalse (is_chunk P f) → slice_get P.scopes f ≡ Some s → n < s.params + s.names → IsPlaced P f c (Ref.Frame c n)

pub record IsMade (P : Program) (f g : ℕ) (declared : Bool) : Type 0 where
  pub scope : Scope
  pub stands : slice_get P.scopes g ≡ Some scope
  pub function : IsFalse (is_chunk P g)
  pub parent : scope.parent ≡ Some f
  pub own : IsTrue declared → IsFalse scope.own

-- each class whose function a global or path is set to has this method
pub record HasMethod (P : Program) (w : Path) (p g : ℕ) : Type 0 where
  pub method : (f c : ℕ) (k : Class) → In f (set_by (tables_of P) (Some w)) → class_of_function (tables_of P) f ≡ Some c → slice_get P.classes c ≡ Some k → In (p, g) k.methods

-- each part of a scope is sound
pub data IsPart (P : Program) (f : ℕ) : Part → Type 0 where
  a_site : (i : ℕ) → i < length P.places → IsPart P f (has_site i)
  a_prop : (p : ℕ) → p < length P.props → IsPart P f (uses_prop p)
  a_doc : (d : ℕ) → d < length P.docs → IsPart P f (uses_doc d)
  a_mention : (c : ℕ) (r : Ref) → IsNumbered P r → (Reached P f → IsSound P f c r) → IsPart P f (mentions c r)
  a_declaration : (c : ℕ) (r : Ref) → IsPlaced P f c r → (Reached P f → IsSound P f c r) → IsPart P f (declares c r)
  a_function : (c g : ℕ) (d : Bool) → IsMade P f g d → IsPart P f (makes c g d)
  a_method : (w : Path) (p g : ℕ) → HasMethod P w p g → IsPart P f (sets_method w p g)

pub record IsScope (P : Program) (f : ℕ) (s : Scope) : Type 0 where
  pub statements : IsTrue (stmts_well (tables_of P) (opened P f) [] s.body)
  pub parts : (x : Part) → In x (parts_of P f) → IsPart P f x
  pub doc : s.doc < length P.docs
  pub chunk_own : IsTrue (is_chunk P f) → IsFalse s.own
  pub chunk_parent : IsTrue (is_chunk P f) → s.parent ≡ None

-- ---- tables

unfoldable pub functions_in : List Part → List ℕ
functions_in [] = []
functions_in (makes c f d ∷ xs) = f ∷ functions_in xs
functions_in (_ ∷ xs) = functions_in xs

unfoldable pub all_functions : Tables → List Scope → List ℕ
unfolding functions_in stmts_parts
all_functions T [] = []
all_functions T (s ∷ ss) = functions_in (stmts_parts T 0 s.body) ++ all_functions T ss

-- no two places of a list hold the same
abbrev pub IsDistinct : {A : Type 0} → List A → Type 0
IsDistinct {A} xs = (i j : ℕ) (x : A) → slice_get xs i ≡ Some x → slice_get xs j ≡ Some x → i ≡ j

-- the parents of a scope, from the nearest on
pub data Encloses (P : Program) : ℕ → ℕ → Type 0 where
  directly : (f g : ℕ) (s : Scope) → slice_get P.scopes f ≡ Some s → s.parent ≡ Some g → Encloses P f g
  further : (f g h : ℕ) → Encloses P f g → Encloses P g h → Encloses P f h

pub record IsProp (P : Program) (p : PropInfo) : Type 0 where
  pub no_index : IsFalse (is_index p.name)
  pub kept : p.kept ≡ is_in p.name P.kept

unfoldable pub type_in : Option TypeSet → List TypeSet
type_in None = []
type_in (Some t) = t ∷ []

unfoldable pub types_in_all : List (Option TypeSet) → List TypeSet
unfolding type_in
types_in_all [] = []
types_in_all (t ∷ ts) = type_in t ++ types_in_all ts

-- the types of which a doc speaks
unfoldable pub types_in : SiteDoc → List TypeSet
unfolding type_in types_in_all
types_in d = types_in_all d.params ++ type_in d.result ++ type_in d.value ++ type_in d.receiver

unfoldable pub element_classes : Option Element → List ℕ
element_classes None = []
element_classes (Some e) = e.classes

-- the classes of a type, with those of its element type
unfoldable pub classes_in : TypeSet → List ℕ
unfolding element_classes
classes_in t = t.classes ++ element_classes t.element

pub record IsDoc (P : Program) (d : SiteDoc) : Type 0 where
  pub classes : (t : TypeSet) (a : ℕ) → In t (types_in d) → In a (classes_in t) → a < length P.classes
  pub vars : (n : ℕ) → In n d.vars → n < length P.docs

-- The one place of a class's function: a global, or a path that may become a variable, that is set to
-- this function, and to nothing else in all trees.
pub record HasPlace (P : Program) (f : ℕ) : Type 0 where
  pub place : Path
  pub variable : MayBeVariable P place
  pub set : In (place, f) (tables_of P).set
  pub once : (s : Setting) × (settings place (mentions_of P) ≡ s ∷ [])
  pub alone : (w : Path) → In (w, f) (tables_of P).set → w ≡ place

pub record IsClass (P : Program) (a : ℕ) (c : Class) : Type 0 where
  pub function : (f : ℕ) → c.function ≡ Some f → f < length P.scopes
  -- where its function stands in the trees
  pub placed : (f : ℕ) → c.function ≡ Some f → In f (all_functions (tables_of P) P.scopes) → HasPlace P f
  pub in_range : (b : ℕ) → In b (parents P.classes a) → b < length P.classes
  pub acyclic : (b : ℕ) → In b (parents P.classes a) → Ancestor P.classes b a → ⊥
  pub methods : (p f : ℕ) → In (p, f) c.methods → (p < length P.props) × (f < length P.scopes)
  pub fields : (p d : ℕ) → In (p, d) c.fields → (p < length P.props) × (d < length P.docs)

-- the function is the class's own, or one of its methods
pub data IsCode (c : Class) (f : ℕ) : Type 0 where
  its_function : c.function ≡ Some f → IsCode c f
  its_method : (p : ℕ) → In (p, f) c.methods → IsCode c f

-- names that no variable has
unfoldable pub refused_names : List (List ℕ)
refused_names = codes "eval" ∷ codes "arguments" ∷ []

pub record IsGlobal (P : Program) (g : GlobalInfo) : Type 0 where
  pub chunk : (c : ℕ) → g.chunk ≡ Some c → (c < length P.chunks) × IsFalse (is_in g.name refused_names)
  pub doc : g.doc < length P.docs
  pub flat : (w : FlatPath) → In w g.flat → (w.doc < length P.docs) × ((p : ℕ) → In p w.props → p < length P.props)

-- the flat paths of a global: each may become a variable, and none stands twice
pub record ArePaths (P : Program) (n : ℕ) (ws : List FlatPath) : Type 0 where
  pub distinct : IsDistinct (map (λ w. w.props) ws)
  pub each : (w : FlatPath) → In w ws → IsCollapsible P (n, w.props) w.doc

unfoldable pub path_count : List GlobalInfo → ℕ
path_count [] = 0
path_count (g ∷ gs) = length g.flat + path_count gs

unfoldable pub method_count : List Class → ℕ
method_count [] = 0
method_count (c ∷ cs) = length c.methods + method_count cs

-- what a number names is fewer than 2^32 of each kind, also after each path and each method has
-- become a global, and each method has got a doc
pub record IsCounted (P : Program) : Type 0 where
  pub globals : length P.globals + path_count P.globals + method_count P.classes < 2 ^ 32
  pub docs : length P.docs + method_count P.classes < 2 ^ 32
  pub scopes : length P.scopes < 2 ^ 32
  pub props : length P.props < 2 ^ 32
  pub classes : length P.classes < 2 ^ 32
  pub places : length P.places < 2 ^ 32

unfoldable pub outer_names : Program → List (List ℕ)
outer_names P = map (λ g. g.name) (take (without_chunk P.globals) P.globals)

-- the extern globals stand first, with distinct names, then the built-in ones, then those of the chunks
pub record IsOrdered (P : Program) : Type 0 where
  pub externs : List (List ℕ)
  pub names : outer_names P ≡ externs ++ builtin_globals
  pub distinct : IsDistinct externs
  pub inner : (n : ℕ) (g : GlobalInfo) → slice_get P.globals n ≡ Some g → without_chunk P.globals ≤ n → IsTrue (is_some g.chunk)

-- an extern that has the name of a built-in global is mentioned nowhere
pub record IsMeant (P : Program) (n : ℕ) : Type 0 where
  pub meant : (g : GlobalInfo) → slice_get P.globals n ≡ Some g → g.chunk ≡ None → IsTrue (is_in g.name builtin_globals) → without_chunk P.globals ≤ n + 3

pub record WellMade (P : Program) : Type 0 where
  pub chunks : length P.chunks ≤ length P.scopes
  pub dependencies : (c d : ℕ) (k : ChunkInfo) → slice_get P.chunks c ≡ Some k → In d k.deps → d < c
  pub scopes : (f : ℕ) (s : Scope) → slice_get P.scopes f ≡ Some s → IsScope P f s
  pub functions_once : IsDistinct (all_functions (tables_of P) P.scopes)
  pub parents : (f : ℕ) → Encloses P f f → ⊥
  pub props : (n : ℕ) (p : PropInfo) → slice_get P.props n ≡ Some p → IsProp P p
  pub prop_names : IsDistinct (map (λ p. p.name) P.props)
  pub kept : (n : List ℕ) → In n always_kept → In n P.kept
  pub classes : (a : ℕ) (c : Class) → slice_get P.classes a ≡ Some c → IsClass P a c
  pub one_class : (a b f : ℕ) (c d : Class) → slice_get P.classes a ≡ Some c → slice_get P.classes b ≡ Some d → IsCode c f → IsCode d f → a ≡ b
  pub docs : (n : ℕ) (d : SiteDoc) → slice_get P.docs n ≡ Some d → IsDoc P d
  pub globals : IsOrdered P
  pub each_global : (n : ℕ) (g : GlobalInfo) → slice_get P.globals n ≡ Some g → IsGlobal P g
  pub paths : (n : ℕ) (g : GlobalInfo) → slice_get P.globals n ≡ Some g → ArePaths P n g.flat
  pub meant : (f c n : ℕ) → Reached P f → In (mentions c (Ref.Global n)) (parts_of P f) → IsMeant P n
  pub counted : IsCounted P
