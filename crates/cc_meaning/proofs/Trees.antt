-- Small trees, programs, scripts and reports for the rows.
use Rattle.std.specs.Prelude.{ℕ, pos, true, false, List, [], ◌∷◌, ◌++◌, map, Option, Some, None, codes}
use Rattle.cc_ast.specs.Syntax.{Prim, undefined, whole, text, Expr, lit, var, assign, call, to_var, to_member, to_index, Exprs, no_exprs, more_exprs, Fields, no_fields, more_fields, Stmt, simple, vars, Stmts, no_stmts, more_stmts, Scope, Program}
use Rattle.cc_ast.specs.declared.tree.Ref.{Ref}
use Rattle.cc_ast.specs.declared.tree.Key.{Key}
use Rattle.cc_ast.specs.declared.tables.ChunkInfo.{ChunkInfo}
use Rattle.cc_ast.specs.declared.tables.GlobalInfo.{GlobalInfo}
use Rattle.cc_ast.specs.declared.tables.PropInfo.{PropInfo}
use Rattle.cc_ast.specs.declared.tables.SiteDoc.{SiteDoc}
use Rattle.cc_meaning.specs.Values.{View, shown_prim, shown_out, Event, called, ended}
use Rattle.cc_meaning.specs.State.{gives, throws, Reply}
use Rattle.cc_meaning.specs.Names.{always_kept}
use Rattle.cc_meaning.specs.Script.{load, Script}

abbrev pub num : ℕ → Expr
num n = lit 0 (whole (pos n))

abbrev pub txt : List ℕ → Expr
txt t = lit 0 (text t)

abbrev pub void : Expr
void = lit 0 undefined

abbrev pub glo : ℕ → Expr
glo n = var 0 (Ref.Global n)

abbrev pub loc : ℕ → Expr
loc n = var 0 (Ref.Frame 0 n)

abbrev pub outer : ℕ → ℕ → Expr
outer up n = var 0 (Ref.Frame up n)

abbrev pub exprs : List Expr → Exprs
exprs [] = no_exprs
exprs (e ∷ es) = more_exprs e (exprs es)

abbrev pub fields : List (Key × Expr) → Fields
fields [] = no_fields
fields (x ∷ xs) = more_fields x.0 x.1 (fields xs)

abbrev pub stmts : List Stmt → Stmts
stmts [] = no_stmts
stmts (s ∷ ss) = more_stmts s (stmts ss)

-- a call of the first extern, at a site
abbrev pub alert_at : ℕ → Expr → Stmt
alert_at i e = simple 0 (call i (glo 0) (exprs (e ∷ [])))

abbrev pub alert : Expr → Stmt
alert e = alert_at 0 e

abbrev pub do_expr : Expr → Stmt
do_expr e = simple 0 e

abbrev pub var_glo : ℕ → Expr → Stmt
var_glo n e = vars 0 ((record { site = 0; variable = Ref.Global n; value = Some e }) ∷ [])

abbrev pub var_loc : ℕ → Expr → Stmt
var_loc n e = vars 0 ((record { site = 0; variable = Ref.Frame 0 n; value = Some e }) ∷ [])

-- `a.p=e` with the site of the access
abbrev pub set_dot : ℕ → Expr → ℕ → Expr → Stmt
set_dot i a p e = simple 0 (assign 0 None (to_member i a p) e)

abbrev pub set_key : ℕ → Expr → Expr → Expr → Stmt
set_key i a k e = simple 0 (assign 0 None (to_index i a k) e)

abbrev pub let_glo : ℕ → Expr → Stmt
let_glo n e = simple 0 (assign 0 None (to_var 0 (Ref.Global n)) e)

-- ---- programs

abbrev pub fn : (params names : ℕ) → List Stmt → Scope
fn p n ss = record { params = p; names = n; own = false; body = stmts ss; parent = None; doc = 0 }

abbrev pub own_fn : (params names : ℕ) → List Stmt → Scope
own_fn p n ss = record { params = p; names = n; own = true; body = stmts ss; parent = None; doc = 0 }

abbrev pub no_doc : SiteDoc
no_doc = record { params = []; result = None; value = None; receiver = None; vars = []; constant = false; define = false; nocollapse = false; export = false }

abbrev pub global_in : Option ℕ → List ℕ → GlobalInfo
global_in c n = record { name = n; chunk = c; doc = 0; flat = [] }

abbrev pub built_ins : List GlobalInfo
built_ins = map (global_in None) (codes "Object" ∷ codes "Math" ∷ codes "String" ∷ [])

abbrev pub chunk_of : List ℕ → ChunkInfo
chunk_of ds = record { name = []; deps = ds }

-- with so many externs, one chunk, and its globals, properties and scopes, the chunk's first
abbrev pub one_chunk : List (List ℕ) → List (List ℕ) → List PropInfo → List Scope → Program
one_chunk externs globals props scopes = record {
  scopes = scopes;
  chunks = chunk_of [] ∷ [];
  globals = map (global_in None) externs ++ built_ins ++ map (global_in (Some 0)) globals;
  props = props;
  kept = always_kept;
  classes = [];
  places = [];
  docs = no_doc ∷ [];
}

abbrev pub prop : List ℕ → PropInfo
prop n = record { name = n; kept = false }

abbrev pub kept_prop : List ℕ → PropInfo
kept_prop n = record { name = n; kept = true }

-- ---- scripts

abbrev pub undef : View
undef = shown_prim undefined

abbrev pub nwhole : ℕ → View
nwhole n = shown_prim (whole (pos n))

abbrev pub stext : List ℕ → View
stext t = shown_prim (text t)

abbrev pub reply : View → Reply
reply x = record { first = []; answer = gives x }

abbrev pub reply_throw : View → Reply
reply_throw x = record { first = []; answer = throws x }

abbrev pub replies_undefined : ℕ → List Reply
replies_undefined n = reply undef ∷ reply undef ∷ reply undef ∷ reply undef ∷ []

abbrev pub main : List Reply → Script
main rs = record { turns = load 0 ∷ []; replies = rs }

-- `call @0 undefined V`
abbrev pub alerted : View → Event
alerted x = called (shown_out 0) undef (x ∷ [])

abbrev pub done : Event
done = ended undef
