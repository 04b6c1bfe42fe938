-- What a run reads off the trees before it runs them: sites, paths, and statements of a known shape.
use Rattle.std.specs.Prelude.{ℕ, Bool, true, false, ◌&&◌, List, [], ◌∷◌, ◌++◌, map, slice_get, Option, Some, None}
use Rattle.std.specs.List.{filter, list_any}
use Rattle.cc_ast.specs.Syntax.{Prim, text, Expr, lit, var, this, fun, list, object, unary, binary, and, or, cond, assign, step, member, index, call, new, comma, cast, tick, Target, to_var, to_member, to_index, Exprs, no_exprs, more_exprs, Fields, no_fields, more_fields, Declarator, Stmt, simple, vars, fun_decl, Stmts, no_stmts, more_stmts, Scope, Program}
use Rattle.cc_ast.specs.declared.tree.Ref.{Ref}
use Rattle.cc_ast.specs.declared.tree.Key.{Key}
use Rattle.cc_ast.specs.declared.tables.ChunkInfo.{ChunkInfo}
use Rattle.cc_ast.specs.declared.tables.Class.{Class}
use Rattle.cc_ast.specs.declared.tables.GlobalInfo.{GlobalInfo}
use Rattle.cc_meaning.specs.Operators.{list_eq}
use Rattle.cc_meaning.specs.Names.{name_prototype, name_create}
use Rattle.cc_meaning.specs.State.{Head, Path, Tables}
use Rattle.cc_meaning.specs.Monad.{pick}
use Rattle.cc_meaning.specs.Store.{Access, dotted, quoted, name_of, Global, extern, built_in, of_chunk, object_global, math_global, string_global, global_kind, set_to, is_number, class_of_function}
use Rattle.cc_meaning.specs.SlotRules.{extended, function_in}

-- ---- sites

unfoldable pub site_of : Expr → ℕ
site_of (lit i p) = i
site_of (var i r) = i
site_of (this i) = i
site_of (fun i f) = i
site_of (list i es) = i
site_of (object i fs) = i
site_of (unary i op e) = i
site_of (binary i op a b) = i
site_of (and i a b) = i
site_of (or i a b) = i
site_of (cond i t a b) = i
site_of (assign i op t e) = i
site_of (step i up prefix t) = i
site_of (member i e p) = i
site_of (index i e k) = i
site_of (call i f es) = i
site_of (new i f es) = i
site_of (comma i a b) = i
site_of (cast i d e) = i
site_of (tick i p e) = i

-- ---- keys

-- the text that is written as a key between brackets
unfoldable pub literal_text : Expr → Option (List ℕ)
literal_text (lit i (text t)) = Some t
literal_text _ = None

unfoldable pub literal_key : Key → Access
literal_key (Key.Dotted p) = dotted p
literal_key (Key.Quoted t) = quoted t

-- ---- paths: a global with dots after it

unfoldable pub longer : Option Path → ℕ → Option Path
longer None p = None
longer (Some w) p = Some (w.0, w.1 ++ p ∷ [])

unfoldable pub path_of_ref : Ref → Option Path
path_of_ref (Ref.Frame up n) = None
path_of_ref (Ref.Global n) = Some (n, [])

unfoldable pub path_of : Expr → Option Path
unfolding longer path_of_ref
path_of (var i r) = path_of_ref r
path_of (member i e p) = longer (path_of e) p
path_of _ = None

unfoldable pub path_of_target : Target → Option Path
unfolding longer path_of_ref path_of
path_of_target (to_var i r) = path_of_ref r
path_of_target (to_member i e p) = longer (path_of e) p
path_of_target (to_index i e k) = None

-- the path that a key of a literal goes on to
unfoldable pub path_of_key : Option Path → Key → Option Path
unfolding longer
path_of_key w (Key.Dotted p) = longer w p
path_of_key w (Key.Quoted t) = None

-- ---- the declaration of a prototype: `F.prototype=Object.create(G.prototype)`, where G is the path that
-- is set to the function of the class that F extends

unfoldable pub is_object_global : Global → Bool
is_object_global (built_in object_global) = true
is_object_global (built_in math_global) = false
is_object_global (built_in string_global) = false
is_object_global extern = false
is_object_global (of_chunk c) = false

unfoldable pub names_object : Tables → Option Path → Bool
unfolding is_object_global global_kind
names_object T (Some (n, [])) = is_object_global (global_kind T n)
names_object T _ = false

unfoldable pub is_named : Tables → ℕ → List ℕ → Bool
unfolding list_eq name_of
is_named T p n = list_eq (name_of T (dotted p)) n

unfoldable pub is_create : Tables → Expr → Bool
unfolding is_named names_object path_of
is_create T (member i e p) = is_named T p name_create && names_object T (path_of e)
is_create T _ = false

-- the path G of `G.prototype`
unfoldable pub prototype_path : Tables → Expr → Option Path
unfolding is_named path_of
prototype_path T (member i e p) = pick (is_named T p name_prototype) (path_of e) None
prototype_path T _ = None

unfoldable pub prototype_path_alone : Tables → Exprs → Option Path
unfolding prototype_path
prototype_path_alone T (more_exprs e no_exprs) = prototype_path T e
prototype_path_alone T _ = None

-- the path G of `Object.create(G.prototype)`
unfoldable pub created_from : Tables → Expr → Option Path
unfolding is_create prototype_path_alone
created_from T (call i f es) = pick (is_create T f) (prototype_path_alone T es) None
created_from T _ = None

unfoldable pub set_by : Tables → Option Path → List ℕ
unfolding set_to
set_by T None = []
set_by T (Some w) = set_to T.set w

-- the functions whose prototype this may write
unfoldable pub prototype_target : Tables → Target → List ℕ
unfolding is_named set_by path_of
prototype_target T (to_member i e p) = pick (is_named T p name_prototype) (set_by T (path_of e)) []
prototype_target T _ = []

unfoldable pub class_at : Tables → Option ℕ → Option Class
class_at T None = None
class_at T (Some c) = slice_get T.classes c

-- the function of the class that the class of this function extends
unfoldable pub extended_function : Tables → ℕ → Option ℕ
unfolding function_in class_at extended class_of_function
extended_function T f = function_in (class_at T (extended (class_at T (class_of_function T f))))

-- the function that the class of f extends is one of these
unfoldable pub extends_one : Tables → List ℕ → ℕ → Bool
unfolding is_number extended_function
extends_one T gs f = list_any (λ g. is_number (extended_function T f) g) gs

unfoldable pub declared_in : Tables → Expr → List ℕ
unfolding extends_one set_by created_from prototype_target
declared_in T (assign i None t e) = filter (extends_one T (set_by T (created_from T e))) (prototype_target T t)
declared_in T _ = []

-- the functions whose prototype a statement declares
unfoldable pub declared_by : Tables → Stmt → List ℕ
unfolding declared_in
declared_by T (simple i e) = declared_in T e
declared_by T _ = []

-- ---- which global or path is set to which function

unfoldable mutual
  unfolding path_of_key

  pub sets_by : Option Path → Expr → List (Path × ℕ)
  sets_by (Some w) (fun i f) = (w, f) ∷ []
  sets_by w (object i fs) = sets_by_fields w fs
  sets_by w _ = []

  pub sets_by_fields : Option Path → Fields → List (Path × ℕ)
  sets_by_fields w no_fields = []
  sets_by_fields w (more_fields k e fs) = sets_by (path_of_key w k) e ++ sets_by_fields w fs

unfoldable pub sets_by_option : Option Path → Option Expr → List (Path × ℕ)
unfolding sets_by
sets_by_option w None = []
sets_by_option w (Some e) = sets_by w e

unfoldable pub sets_by_vars : List Declarator → List (Path × ℕ)
unfolding sets_by_option path_of_ref
sets_by_vars [] = []
sets_by_vars (d ∷ ds) = sets_by_option (path_of_ref d.variable) d.value ++ sets_by_vars ds

unfoldable pub sets_by_value : Expr → List (Path × ℕ)
unfolding sets_by path_of_target
sets_by_value (assign i None t e) = sets_by (path_of_target t) e
sets_by_value _ = []

unfoldable pub sets_by_fun : Option Path → ℕ → List (Path × ℕ)
sets_by_fun None f = []
sets_by_fun (Some w) f = (w, f) ∷ []

unfoldable pub sets_by_stmt : Stmt → List (Path × ℕ)
unfolding sets_by_value sets_by_vars sets_by_fun path_of_ref
sets_by_stmt (simple i e) = sets_by_value e
sets_by_stmt (vars i ds) = sets_by_vars ds
sets_by_stmt (fun_decl i r f) = sets_by_fun (path_of_ref r) f
sets_by_stmt _ = []

unfoldable pub sets_by_stmts : Stmts → List (Path × ℕ)
unfolding sets_by_stmt
sets_by_stmts no_stmts = []
sets_by_stmts (more_stmts s ss) = sets_by_stmt s ++ sets_by_stmts ss

-- ---- the tables of a program

unfoldable pub body_in : Option Scope → Stmts
body_in None = no_stmts
body_in (Some s) = s.body

unfoldable pub body_of : Program → ℕ → Stmts
unfolding body_in
body_of P f = body_in (slice_get P.scopes f)

-- the chunks' own lists, of which the scopes are the first
unfoldable pub sets_by_chunks : List ChunkInfo → List Scope → List (Path × ℕ)
unfolding sets_by_stmts
sets_by_chunks [] ss = []
sets_by_chunks (c ∷ cs) [] = []
sets_by_chunks (c ∷ cs) (s ∷ ss) = sets_by_stmts s.body ++ sets_by_chunks cs ss

unfoldable pub head_of : Scope → Head
head_of s = record { params = s.params; names = s.names; own = s.own; doc = s.doc }

unfoldable pub tables_of : Program → Tables
unfolding head_of sets_by_chunks
tables_of P = record {
  heads = map head_of P.scopes;
  chunks = P.chunks;
  globals = P.globals;
  props = P.props;
  kept = P.kept;
  classes = P.classes;
  docs = P.docs;
  set = sets_by_chunks P.chunks P.scopes;
}

unfoldable pub without_paths : GlobalInfo → GlobalInfo
without_paths g = record g { flat = [] }

-- the plain run knows no flat paths
unfoldable pub plain_tables : Program → Tables
unfolding tables_of without_paths
plain_tables P = record (tables_of P) { globals = map without_paths P.globals }
