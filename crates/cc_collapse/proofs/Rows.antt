-- Small programs flattened.
use Rattle.std.specs.Prelude.{◌≡◌, refl, ℕ, true, false, List, [], ◌∷◌, Option, Some, None, codes, pos}
use Rattle.cc_ast.specs.Syntax.{Prim, whole, Expr, lit, var, fun, object, assign, member, call, to_var, to_member, no_exprs, more_exprs, Fields, no_fields, more_fields, Declarator, Stmt, simple, vars, Stmts, no_stmts, more_stmts, Scope, Program}
use Rattle.cc_ast.specs.declared.tree.Ref.{Ref}
use Rattle.cc_ast.specs.declared.tree.Key.{Key}
use Rattle.cc_ast.specs.declared.tables.ChunkInfo.{ChunkInfo}
use Rattle.cc_ast.specs.declared.tables.FlatPath.{FlatPath}
use Rattle.cc_ast.specs.declared.tables.GlobalInfo.{GlobalInfo}
use Rattle.cc_ast.specs.declared.tables.PropInfo.{PropInfo}
use Rattle.cc_meaning.specs.Operators as operators
use Rattle.cc_meaning.specs.Store as store
use Rattle.cc_meaning.specs.Shapes as shapes
use Rattle.cc_meaning.specs.Parts as parts
use Rattle.cc_meaning.specs.WellMade as made
use Rattle.cc_meaning.specs.FlatPaths as flat
use Rattle.cc_collapse.specs.Paths as paths
use Rattle.cc_collapse.specs.Flattening as flattening
use Rattle.cc_collapse.specs.Flattening.{flattened}

-- ---- one chunk or two, with the globals 0 to 3 of the outside, and global 4, a namespace

abbrev outer : List ℕ → GlobalInfo
outer n = record { name = n; chunk = None; doc = 0; flat = [] }

abbrev scope : Option ℕ → Stmts → Scope
scope p ss = record { params = 0; names = 0; own = false; body = ss; parent = p; doc = 0 }

unfoldable flats : List (List ℕ) → List FlatPath
flats [] = []
flats (ps ∷ pss) = (record { props = ps; doc = 0 }) ∷ flats pss

abbrev properties : List PropInfo
properties = (record { name = codes "a"; kept = false }) ∷ (record { name = codes "b"; kept = false }) ∷ (record { name = codes "k"; kept = true }) ∷ []

abbrev program : List Scope → List ChunkInfo → List (List ℕ) → Program
program ss cs paths = record {
  scopes = ss;
  chunks = cs;
  globals = outer (codes "alert") ∷ outer (codes "Object") ∷ outer (codes "Math") ∷ outer (codes "String") ∷ (record { name = codes "ns"; chunk = Some 0; doc = 0; flat = flats paths }) ∷ [];
  props = properties;
  kept = codes "k" ∷ [];
  classes = [];
  places = [];
  docs = [];
}

abbrev chunk : List ℕ → ChunkInfo
chunk ds = record { name = codes "c"; deps = ds }

unfoldable listed : List Stmt → Stmts
listed [] = no_stmts
listed (s ∷ ss) = more_stmts s (listed ss)

unfoldable keys : List (ℕ × Expr) → Fields
keys [] = no_fields
keys ((p, e) ∷ ks) = more_fields (Key.Dotted p) e (keys ks)

abbrev one : Expr
one = lit 0 (whole (pos 1))

abbrev global : ℕ → Expr
global n = var 0 (Ref.Global n)

abbrev var_at : ℕ → Expr → Declarator
var_at n e = record { site = 0; variable = Ref.Global n; value = Some e }

abbrev declared : ℕ → Expr → Stmt
declared n e = vars 0 (var_at n e ∷ [])

abbrev bare : ℕ → Stmt
bare n = vars 0 ((record { site = 0; variable = Ref.Global n; value = None }) ∷ [])

abbrev sets_dot : Expr → ℕ → Expr → Stmt
sets_dot e p v = simple 0 (assign 0 None (to_member 0 e p) v)

abbrev sets_var : ℕ → Expr → Stmt
sets_var n v = simple 0 (assign 0 None (to_var 0 (Ref.Global n)) v)

abbrev calls : Expr → Stmt
calls e = simple 0 (call 0 e (more_exprs one no_exprs))

unfoldable bodies : List Scope → List Stmts
bodies [] = []
bodies (s ∷ ss) = s.body ∷ bodies ss

unfoldable shut : ℕ
unfolding operators.list_eq store.same_numbers store.flat_place store.flats_in store.paired store.flat_of store.chunk_in shapes.site_of shapes.longer shapes.path_of_ref shapes.path_of shapes.path_of_target shapes.path_of_key shapes.without_paths made.is_chunk shapes.body_in shapes.body_of flat.below flat.use_of flat.setting_of flat.operand_use flat.right_use flat.in_expr flat.in_option flat.sets_at flat.in_initial flat.in_declarator flat.in_declarators flat.in_init flat.in_each flat.in_statement flat.function_setting flat.in_stmt flat.in_scopes flat.mentions_of flat.same_path parts.expr_parts parts.option_parts parts.vars_parts parts.init_parts parts.name_parts parts.stmt_parts parts.method_in parts.method_to parts.method_on_prototype
shut = 0

unfoldable opened : ℕ
unfolding shut paths.path_at paths.flat_through paths.through_all paths.without paths.once paths.flat_paths paths.place_of paths.global_at paths.mentions_in paths.goes_on paths.mentions_through paths.is_path paths.has_key paths.has_key_for paths.sets_value paths.first_is paths.least_scope paths.has_any paths.parent_in paths.number_or paths.chunk_around paths.deps_in paths.comes_after paths.stands_after paths.key_chunk paths.first_scope paths.only paths.sets_first paths.setting_chunk paths.declared_by paths.declaration_of paths.chunk_of_declaration paths.chunk_along paths.chunk_of_path paths.new_global
opened = 0

unfoldable bodies_of : Program → List Stmts
unfolding opened flats listed keys bodies flattening.access_or flattening.target_or flattening.flat_expr flattening.flat_option flattening.flat_declarator flattening.flat_init flattening.flat_each flattening.flat_stmt flattening.is_key flattening.kept_value flattening.declared_at flattening.key_vars flattening.set_var flattening.set_vars flattening.target_site flattening.set_path flattening.is_among flattening.own_value flattening.own_stmt flattening.minus flattening.minus_set flattening.still_unset flattening.is_declared flattening.and_also flattening.bare_vars flattening.still_bare flattening.in_list flattening.own_list flattening.is_set_in flattening.is_bare flattening.set_paths flattening.bare_paths flattening.new_number flattening.flat_body flattening.flat_scopes flattening.flattened flattening.all_but_last flattening.holder_of flattening.declared_globals flattening.declared_in flattening.site_in
bodies_of P = bodies (flattened P).scopes

--     var ns={};ns.a={};ns.a.b=function(){};ns.a.b(1);
nested : bodies_of (program (scope None (listed (declared 4 (object 0 no_fields) ∷ sets_dot (global 4) 0 (object 0 no_fields) ∷ sets_dot (member 0 (global 4) 0) 1 (fun 0 1) ∷ calls (member 0 (member 0 (global 4) 0) 1) ∷ [])) ∷ scope (Some 0) no_stmts ∷ []) (chunk [] ∷ []) ((0 ∷ []) ∷ (0 ∷ 1 ∷ []) ∷ []))
    ≡ listed (declared 4 (object 0 no_fields) ∷ declared 5 (object 0 no_fields) ∷ declared 6 (fun 0 1) ∷ calls (global 6) ∷ []) ∷ no_stmts ∷ []
unfolding bodies_of
nested = refl

--     var ns={a:1,k:1,b:{a:1}};ns.a=1;ns.b.a;
literal : bodies_of (program (scope None (listed (declared 4 (object 0 (keys ((0, one) ∷ (2, one) ∷ (1, object 0 (keys ((0, one) ∷ []))) ∷ []))) ∷ sets_dot (global 4) 0 one ∷ simple 0 (member 0 (member 0 (global 4) 1) 0) ∷ [])) ∷ []) (chunk [] ∷ []) ((0 ∷ []) ∷ (1 ∷ []) ∷ (1 ∷ 0 ∷ []) ∷ []))
    ≡ listed (vars 0 (var_at 4 (object 0 (keys ((2, one) ∷ []))) ∷ var_at 5 one ∷ var_at 6 (object 0 no_fields) ∷ var_at 7 one ∷ []) ∷ sets_var 5 one ∷ simple 0 (global 7) ∷ []) ∷ []
unfolding bodies_of
literal = refl

--     var ns;ns={a:1};
set_later : bodies_of (program (scope None (listed (bare 4 ∷ sets_var 4 (object 0 (keys ((0, one) ∷ []))) ∷ [])) ∷ []) (chunk [] ∷ []) ((0 ∷ []) ∷ []))
    ≡ listed (bare 4 ∷ sets_var 4 (object 0 no_fields) ∷ declared 5 one ∷ []) ∷ []
unfolding bodies_of
set_later = refl

--     var ns={};ns.a(1);ns.a=1;
read_first : bodies_of (program (scope None (listed (declared 4 (object 0 no_fields) ∷ calls (member 0 (global 4) 0) ∷ sets_dot (global 4) 0 one ∷ [])) ∷ []) (chunk [] ∷ []) ((0 ∷ []) ∷ []))
    ≡ listed (declared 4 (object 0 no_fields) ∷ bare 5 ∷ calls (global 5) ∷ sets_var 5 one ∷ []) ∷ []
unfolding bodies_of
read_first = refl

--     var ns={}; in one chunk, ns.a=1;ns.a=1; in a second one that depends on it
in_second : bodies_of (program (scope None (listed (declared 4 (object 0 no_fields) ∷ [])) ∷ scope None (listed (sets_dot (global 4) 0 one ∷ sets_dot (global 4) 0 one ∷ [])) ∷ []) (chunk [] ∷ chunk (0 ∷ []) ∷ []) ((0 ∷ []) ∷ []))
    ≡ listed (declared 4 (object 0 no_fields) ∷ []) ∷ listed (declared 5 one ∷ sets_var 5 one ∷ []) ∷ []
unfolding bodies_of
in_second = refl

--     and a function of the first chunk reads it: var ns={};function f(){return ns.a;}
read_by_first : bodies_of (program (scope None (listed (declared 4 (object 0 no_fields) ∷ [])) ∷ scope None (listed (sets_dot (global 4) 0 one ∷ [])) ∷ scope (Some 0) (listed (simple 0 (member 0 (global 4) 0) ∷ [])) ∷ []) (chunk [] ∷ chunk (0 ∷ []) ∷ []) ((0 ∷ []) ∷ []))
    ≡ listed (declared 4 (object 0 no_fields) ∷ bare 5 ∷ []) ∷ listed (sets_var 5 one ∷ []) ∷ listed (simple 0 (global 5) ∷ []) ∷ []
unfolding bodies_of
read_by_first = refl
