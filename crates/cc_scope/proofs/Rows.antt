-- Small sources and what they resolve to, by computation.
use Rattle.std.proofs.Common.{◌≡◌, refl, ℕ, Bool, true, false, List, [], ◌∷◌, map, Option, Some, None}
use Rattle.std.specs.Prelude.{codes}
use Rattle.cc_ast.specs.declared.place.Place.{Place}
use Rattle.cc_ast.specs.declared.tree.Ref.{Ref}
use Rattle.cc_ast.specs.declared.tables.ChunkInfo.{ChunkInfo}
use Rattle.cc_ast.specs.Syntax.{Stmts, Scope, Program, whole}
use Rattle.cc_ast.specs.Syntax as p
use Rattle.cc_meaning.specs.Operators as o
use Rattle.cc_meaning.specs.Names as nm
use Rattle.cc_meaning.specs.Store as st
use Rattle.cc_meaning.specs.Calls as ca
use Rattle.cc_meaning.specs.Parts as pa
use Rattle.cc_grammar.specs.RawTree.{Named, RawExpr, RawStmts, RawStmt, exprs, stmts, declarators}
use Rattle.cc_grammar.specs.RawTree as raw
use Rattle.cc_scope.specs.Lists as l
use Rattle.cc_scope.specs.Marks as m
use Rattle.cc_scope.specs.Resolve as r
use Rattle.cc_scope.specs.Resolve.{nothing_added, Source, program_of}
use Rattle.cc_scope.specs.Refusals as f
use Rattle.cc_scope.specs.Refusals.{Answer, answered, refused, resolve, undeclared, redeclared, built_in_used, host_written}

unfoldable shut : ℕ
unfolding nm.builtin_globals l.index_of l.later l.new_names l.distinct l.or_zero l.or_else o.list_eq o.is_in m.expr_marks m.key_marks m.vars_declare m.init_declares m.heading_declares m.stmts_declare m.functions m.sites m.names m.places r.global_from r.global_named r.outwards r.in_frame r.lookup r.ref_by r.ref_of r.var_by r.prop_of r.key_of r.named r.locals r.with_own r.inner r.expr_of r.scope_of r.expr_scopes r.all_marks r.all_declared r.outer_of r.chunk_scope r.chunk_scopes r.inner_scopes r.begin r.chunk_by r.chunk_info r.globals_of r.kept_of r.prop_info r.program_of f.global_of f.read_by f.write_by f.global_meant f.is_string_use f.is_member_use f.variable_meant f.is_built_callee f.declared_by f.repeated f.within f.expr_refused f.all_refused f.refusals_of f.before f.least_from f.answer_by f.resolve st.outer_global st.built_number pa.is_no_built pa.is_own_global pa.is_string pa.has_use ca.member_use
shut = 0

abbrev place : ℕ → Place
place n = record { file = 0; offset = n; line = 1; column = n }

abbrev o₀ : Place
o₀ = place 0

abbrev nam : List ℕ → Named
nam n = record { place = o₀; name = n }

abbrev chunk : List ℕ → ChunkInfo
chunk ds = record { name = []; deps = ds }

abbrev alone : List (List ℕ) → List RawStmt → Source
alone ext ss = record { chunks = chunk [] ∷ []; trees = stmts ss ∷ []; externs = ext; kept = []; added = nothing_added }

abbrev get : List ℕ → RawExpr
get n = raw.var o₀ n

abbrev run : RawExpr → RawStmt
run e = raw.simple o₀ e

abbrev var_ : List ℕ → RawStmt
var_ n = raw.vars o₀ (declarators ((record { variable = nam n; value = raw.no_expr }) ∷ []))

abbrev fn : Option Named → List (List ℕ) → List RawStmt → RawExpr
fn own ps b = raw.fun o₀ own (map nam ps) (stmts b)

abbrev body : Source → List (ℕ × ℕ × Bool × Option ℕ)
body S = map (λ s. (s.params, s.names, s.own, s.parent)) (program_of S).scopes

abbrev bodies : Source → List Stmts
bodies S = map (λ s. s.body) (program_of S).scopes

abbrev one : p.Stmt → Stmts
one s = p.more_stmts s p.no_stmts

abbrev two : p.Stmt → p.Stmt → Stmts
two s t = p.more_stmts s (one t)

-- `(function g(a){return function(){g;a;};});`: an own name has a frame of its own
own_name : Source
own_name = alone [] (run (fn (Some (nam (codes "g"))) (codes "a" ∷ []) (raw.return o₀ (raw.one_expr (fn None [] (run (get (codes "g")) ∷ run (get (codes "a")) ∷ []))) ∷ [])) ∷ [])

own_name_row : bodies own_name ≡ one (p.simple 0 (p.fun 1 1)) ∷ one (p.return 2 (Some (p.fun 3 2))) ∷ two (p.simple 4 (p.var 5 (Ref.Frame 2 0))) (p.simple 6 (p.var 7 (Ref.Frame 1 0))) ∷ []
unfolding shut own_name
own_name_row = refl

own_name_heads : body own_name ≡ (0, 0, false, None) ∷ (1, 0, true, Some 0) ∷ (0, 0, false, Some 1) ∷ []
unfolding shut own_name
own_name_heads = refl

-- `(function(){try{x;}catch(e){var x;e;x;}});`: a catch clause has a frame, and `x` is the function's
catching : Source
catching = alone [] (run (fn None [] (raw.try o₀ (stmts (run (get (codes "x")) ∷ [])) (raw.caught (nam (codes "e")) (stmts (var_ (codes "x") ∷ run (get (codes "e")) ∷ run (get (codes "x")) ∷ []))) raw.no_finally ∷ [])) ∷ [])

catching_row : bodies catching ≡ one (p.simple 0 (p.fun 1 1)) ∷ one (p.try 2 (one (p.simple 3 (p.var 4 (Ref.Frame 0 0)))) (p.present (p.more_stmts (p.vars 5 ((record { site = 6; variable = Ref.Frame 1 0; value = None }) ∷ [])) (two (p.simple 7 (p.var 8 (Ref.Frame 0 0))) (p.simple 9 (p.var 10 (Ref.Frame 1 0)))))) p.absent) ∷ []
unfolding shut catching
catching_row = refl

-- `(function(a){if(a){var b,a;}b;});`: names come out of blocks; a parameter that is declared again is one place
hoisting : Source
hoisting = alone [] (run (fn None (codes "a" ∷ []) (raw.if o₀ (get (codes "a")) (stmts (var_ (codes "b") ∷ var_ (codes "a") ∷ [])) (stmts []) ∷ run (get (codes "b")) ∷ [])) ∷ [])

hoisting_row : bodies hoisting ≡ one (p.simple 0 (p.fun 1 1)) ∷ two (p.if 2 (p.var 3 (Ref.Frame 0 0)) (two (p.vars 4 ((record { site = 5; variable = Ref.Frame 0 1; value = None }) ∷ [])) (p.vars 6 ((record { site = 7; variable = Ref.Frame 0 0; value = None }) ∷ []))) p.no_stmts) (p.simple 8 (p.var 9 (Ref.Frame 0 1))) ∷ []
unfolding shut hoisting
hoisting_row = refl

hoisting_heads : body hoisting ≡ (0, 0, false, None) ∷ (1, 1, false, Some 0) ∷ []
unfolding shut hoisting
hoisting_heads = refl

-- a global of two chunks is of the lesser one; functions are numbered over the chunks
two_chunks : Source
two_chunks = record {
  chunks = chunk [] ∷ chunk (0 ∷ []) ∷ [];
  trees = stmts (var_ (codes "a") ∷ run (fn None [] []) ∷ []) ∷ stmts (var_ (codes "b") ∷ var_ (codes "a") ∷ run (fn None [] (run (get (codes "a")) ∷ [])) ∷ []) ∷ [];
  externs = codes "alert" ∷ [];
  kept = [];
  added = nothing_added;
}

two_chunks_globals : map {B = List ℕ × Option ℕ} (λ g. (g.name, g.chunk)) (program_of two_chunks).globals ≡ (codes "alert", None) ∷ (codes "Object", None) ∷ (codes "Math", None) ∷ (codes "String", None) ∷ (codes "a", Some 0) ∷ (codes "b", Some 1) ∷ []
unfolding shut two_chunks
two_chunks_globals = refl

two_chunks_heads : body two_chunks ≡ (0, 0, false, None) ∷ (0, 0, false, None) ∷ (0, 0, false, Some 0) ∷ (0, 0, false, Some 1) ∷ []
unfolding shut two_chunks
two_chunks_heads = refl

-- an extern that has a built-in global's name isn't meant by it: `Math.max(alert);undefined;o.a;o.b;o.a;` with `o` an extern
outer_names : Source
outer_names = alone (codes "Math" ∷ codes "o" ∷ []) (run (raw.call o₀ (raw.member o₀ (get (codes "Math")) o₀ (codes "max")) (exprs (get (codes "o") ∷ []))) ∷ run (get (codes "undefined")) ∷ [])

outer_names_row : bodies outer_names ≡ two (p.simple 0 (p.call 1 (p.member 2 (p.var 3 (Ref.Global 3)) 0) (p.more_exprs (p.var 4 (Ref.Global 1)) p.no_exprs))) (p.simple 5 (p.lit 6 p.undefined)) ∷ []
unfolding shut outer_names
outer_names_row = refl

outer_names_accepted : resolve outer_names ≡ answered (program_of outer_names)
unfolding shut outer_names
outer_names_accepted = refl

-- properties by first place; a number as key is the text of its decimal
properties : Source
properties = alone (codes "o" ∷ []) (run (raw.member o₀ (raw.member o₀ (get (codes "o")) o₀ (codes "b")) o₀ (codes "a")) ∷ run (raw.member o₀ (get (codes "o")) o₀ (codes "b")) ∷ [])

properties_row : map (λ x. x.name) (program_of properties).props ≡ codes "b" ∷ codes "a" ∷ []
unfolding shut properties
properties_row = refl

-- ---- refusals

at_place : f.Cause → ℕ → Answer
at_place c n = refused (record { cause = c; place = place n })

-- `alrt;`
unknown_row : resolve (alone [] (raw.simple o₀ (raw.var (place 5) (codes "alrt")) ∷ [])) ≡ at_place (undeclared (codes "alrt")) 5
unfolding shut at_place
unknown_row = refl

-- `var alert;` of an extern
again_row : resolve (alone (codes "alert" ∷ []) (raw.vars o₀ (raw.more_declarators (record { place = place 4; name = codes "alert" }) raw.no_expr raw.no_declarators) ∷ [])) ≡ at_place redeclared 4
unfolding shut at_place
again_row = refl

-- a function may have a variable of an extern's name, and a catch variable may be declared further in
inner_row : f.refusals_of (alone (codes "alert" ∷ []) (run (fn None [] (var_ (codes "alert") ∷ raw.try o₀ (stmts []) (raw.caught (nam (codes "e")) (stmts (run (fn None [] (var_ (codes "e") ∷ [])) ∷ []))) raw.no_finally ∷ [])) ∷ [])) ≡ []
unfolding shut
inner_row = refl

-- `try{}catch(e){var e;}` and `function(a,a){}`
caught_row : resolve (alone [] (raw.try o₀ (stmts []) (raw.caught (nam (codes "e")) (stmts (var_ (codes "e") ∷ []))) raw.no_finally ∷ [])) ≡ at_place redeclared 0
unfolding shut at_place
caught_row = refl

twice_row : resolve (alone [] (run (fn None (codes "a" ∷ codes "a" ∷ []) []) ∷ [])) ≡ at_place redeclared 0
unfolding shut at_place
twice_row = refl

-- a built-in global as a value; an extern, and a free `undefined`, as a target
built_row : resolve (alone [] (run (raw.member o₀ (get (codes "Math")) o₀ (codes "max")) ∷ [])) ≡ at_place built_in_used 0
unfolding shut at_place
built_row = refl

host_row : resolve (alone (codes "x" ∷ []) (run (raw.assign o₀ None (raw.to_var o₀ (codes "x")) (get (codes "x"))) ∷ [])) ≡ at_place host_written 0
unfolding shut at_place
host_row = refl

undefined_row : resolve (alone [] (run (raw.assign o₀ None (raw.to_var o₀ (codes "undefined")) (get (codes "undefined"))) ∷ [])) ≡ at_place (undeclared (codes "undefined")) 0
unfolding shut at_place
undefined_row = refl
