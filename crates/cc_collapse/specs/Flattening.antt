-- Flattening of a whole program (Closure Compiler, "Advanced Compilation"): each flat path of its tables
-- becomes a global. What a literal has for such a path becomes a declaration of its own; of the others
-- the first setting becomes a declaration, or a bare one follows that of the holder.
use Rattle.std.specs.Prelude.{ℕ, suc, Bool, true, false, ◌&&◌, nat_eq, List, [], ◌∷◌, ◌++◌, length, map, Option, Some, None, is_some}
use Rattle.std.specs.List.{filter, list_any}
use Rattle.cc_ast.specs.Syntax.{Expr, lit, var, this, fun, list, object, unary, binary, and, or, cond, assign, step, member, index, call, new, comma, cast, tick, Target, to_var, to_member, to_index, Exprs, no_exprs, more_exprs, Fields, no_fields, more_fields, Declarator, ForInit, no_init, init_value, init_vars, ForTarget, in_target, in_declared, Stmt, simple, vars, fun_decl, if, while, do_while, for, for_in, return, throw, break, continue, label, switch, try, pay_stmt, Stmts, no_stmts, more_stmts, MaybeStmts, absent, present, Cases, no_cases, more_cases, Scope, Program}
use Rattle.cc_ast.specs.declared.tree.Ref.{Ref}
use Rattle.cc_meaning.specs.State.{Path, Tables}
use Rattle.cc_meaning.specs.Monad.{pick}
use Rattle.cc_meaning.specs.Shapes.{site_of, longer, path_of, path_of_ref, path_of_target, path_of_key, tables_of, without_paths}
use Rattle.cc_meaning.specs.WellMade.{is_chunk}
use Rattle.cc_meaning.specs.Parts.{Part, has_site, declares, stmt_parts}
use Rattle.cc_meaning.specs.FlatPaths.{same_path}
use Rattle.cc_collapse.specs.Paths.{without, flat_paths, global_at, Declaration, at_key, at_setting, behind_holder, declaration_of, chunk_of_path, new_global}

-- ---- what statements declare, and where

unfoldable pub all_but_last : List ℕ → List ℕ
all_but_last [] = []
all_but_last (p ∷ []) = []
all_but_last (p ∷ q ∷ ps) = p ∷ all_but_last (q ∷ ps)

-- the path that holds this one
unfoldable pub holder_of : Path → Path
unfolding all_but_last
holder_of w = (w.0, all_but_last w.1)

unfoldable pub declared_globals : List Part → List ℕ
declared_globals [] = []
declared_globals (declares c (Ref.Global n) ∷ xs) = n ∷ declared_globals xs
declared_globals (_ ∷ xs) = declared_globals xs

unfoldable pub declared_in : Tables → List Stmt → List ℕ
unfolding declared_globals stmt_parts
declared_in T [] = []
declared_in T (s ∷ ss) = declared_globals (stmt_parts T 0 s) ++ declared_in T ss

-- the site of a statement is the first of its parts
unfoldable pub site_in : List Part → ℕ
site_in (has_site i ∷ xs) = i
site_in _ = 0

-- ---- expressions, under the numbers of the globals that paths become

module _ (global : Option Path → Option ℕ) where
  -- an access that is a flat path, and any other
  unfoldable pub access_or : Option ℕ → (site : ℕ) → Expr → Expr
  access_or None i e = e
  access_or (Some n) i e = var i (Ref.Global n)

  unfoldable pub target_or : Option ℕ → (site : ℕ) → Target → Target
  target_or None i t = t
  target_or (Some n) i t = to_var i (Ref.Global n)

  unfoldable mutual
    unfolding access_or target_or longer path_of

    pub flat_expr : Expr → Expr
    flat_expr (lit i p) = lit i p
    flat_expr (var i r) = var i r
    flat_expr (this i) = this i
    flat_expr (fun i f) = fun i f
    flat_expr (list i es) = list i (flat_all es)
    flat_expr (object i fs) = object i (flat_fields fs)
    flat_expr (unary i op e) = unary i op (flat_expr e)
    flat_expr (binary i op a b) = binary i op (flat_expr a) (flat_expr b)
    flat_expr (and i a b) = and i (flat_expr a) (flat_expr b)
    flat_expr (or i a b) = or i (flat_expr a) (flat_expr b)
    flat_expr (cond i t a b) = cond i (flat_expr t) (flat_expr a) (flat_expr b)
    flat_expr (assign i op t e) = assign i op (flat_target t) (flat_expr e)
    flat_expr (step i up prefix t) = step i up prefix (flat_target t)
    flat_expr (member i e p) = access_or (global (longer (path_of e) p)) i (member i (flat_expr e) p)
    flat_expr (index i e k) = index i (flat_expr e) (flat_expr k)
    flat_expr (call i f es) = call i (flat_expr f) (flat_all es)
    flat_expr (new i f es) = new i (flat_expr f) (flat_all es)
    flat_expr (comma i a b) = comma i (flat_expr a) (flat_expr b)
    flat_expr (cast i d e) = cast i d (flat_expr e)
    flat_expr (tick i n e) = tick i n (flat_expr e)

    pub flat_target : Target → Target
    flat_target (to_var i r) = to_var i r
    flat_target (to_member i e p) = target_or (global (longer (path_of e) p)) i (to_member i (flat_expr e) p)
    flat_target (to_index i e k) = to_index i (flat_expr e) (flat_expr k)

    pub flat_all : Exprs → Exprs
    flat_all no_exprs = no_exprs
    flat_all (more_exprs e es) = more_exprs (flat_expr e) (flat_all es)

    pub flat_fields : Fields → Fields
    flat_fields no_fields = no_fields
    flat_fields (more_fields k e fs) = more_fields k (flat_expr e) (flat_fields fs)

  -- ---- statements

  unfoldable pub flat_option : Option Expr → Option Expr
  unfolding flat_expr
  flat_option None = None
  flat_option (Some e) = Some (flat_expr e)

  unfoldable pub flat_declarator : Declarator → Declarator
  unfolding flat_option
  flat_declarator d = record d { value = flat_option d.value }

  unfoldable pub flat_init : ForInit → ForInit
  unfolding flat_expr flat_declarator
  flat_init no_init = no_init
  flat_init (init_value e) = init_value (flat_expr e)
  flat_init (init_vars ds) = init_vars (map flat_declarator ds)

  unfoldable pub flat_each : ForTarget → ForTarget
  unfolding flat_target flat_declarator
  flat_each (in_target t) = in_target (flat_target t)
  flat_each (in_declared d) = in_declared (flat_declarator d)

  unfoldable mutual
    unfolding flat_expr flat_option flat_declarator flat_init flat_each

    pub flat_stmt : Stmt → Stmt
    flat_stmt (simple i e) = simple i (flat_expr e)
    flat_stmt (vars i ds) = vars i (map flat_declarator ds)
    flat_stmt (fun_decl i r f) = fun_decl i r f
    flat_stmt (if i t a b) = if i (flat_expr t) (flat_stmts a) (flat_stmts b)
    flat_stmt (while i t b) = while i (flat_expr t) (flat_stmts b)
    flat_stmt (do_while i b t) = do_while i (flat_stmts b) (flat_expr t)
    flat_stmt (for i h t e b) = for i (flat_init h) (flat_option t) (flat_option e) (flat_stmts b)
    flat_stmt (for_in i t e b) = for_in i (flat_each t) (flat_expr e) (flat_stmts b)
    flat_stmt (return i e) = return i (flat_option e)
    flat_stmt (throw i e) = throw i (flat_expr e)
    flat_stmt (break i l) = break i l
    flat_stmt (continue i l) = continue i l
    flat_stmt (label i l b) = label i l (flat_stmts b)
    flat_stmt (switch i e cs) = switch i (flat_expr e) (flat_cases cs)
    flat_stmt (try i b k f) = try i (flat_stmts b) (flat_maybe k) (flat_maybe f)
    flat_stmt (pay_stmt i n) = pay_stmt i n

    pub flat_stmts : Stmts → Stmts
    flat_stmts no_stmts = no_stmts
    flat_stmts (more_stmts s ss) = more_stmts (flat_stmt s) (flat_stmts ss)

    pub flat_maybe : MaybeStmts → MaybeStmts
    flat_maybe absent = absent
    flat_maybe (present ss) = present (flat_stmts ss)

    pub flat_cases : Cases → Cases
    flat_cases no_cases = no_cases
    flat_cases (more_cases t b cs) = more_cases (flat_option t) (flat_stmts b) (flat_cases cs)

  -- ---- a value that a path is set to: what stays of its literals, and the declarators of their keys

  unfoldable pub is_key : Option Path → Bool
  is_key w = is_some (global w)

  unfoldable mutual
    unfolding flat_expr is_key path_of_key

    pub kept_value : Option Path → Expr → Expr
    kept_value w (object i fs) = object i (kept_fields w fs)
    kept_value w e = flat_expr e

    pub kept_fields : Option Path → Fields → Fields
    kept_fields w no_fields = no_fields
    kept_fields w (more_fields k e fs) = pick (is_key (path_of_key w k)) (kept_fields w fs) (more_fields k (flat_expr e) (kept_fields w fs))

  unfoldable pub declared_at : (site : ℕ) → Option ℕ → Option Expr → List Declarator
  declared_at i None v = []
  declared_at i (Some n) v = (record { site = i; variable = Ref.Global n; value = v }) ∷ []

  unfoldable mutual
    unfolding kept_value declared_at is_key path_of_key

    -- in the order of the keys, each followed by those of its own literal
    pub key_vars : Option Path → Expr → List Declarator
    key_vars w (object i fs) = field_vars w fs
    key_vars w e = []

    pub field_vars : Option Path → Fields → List Declarator
    field_vars w no_fields = []
    field_vars w (more_fields k e fs) = pick (is_key (path_of_key w k)) (declared_at (site_of e) (global (path_of_key w k)) (Some (kept_value (path_of_key w k) e)) ++ key_vars (path_of_key w k) e) [] ++ field_vars w fs

  -- ---- statements of a chunk's own list

  unfoldable pub set_var : Declarator → Option Expr → List Declarator
  unfolding kept_value key_vars path_of_ref
  set_var d None = d ∷ []
  set_var d (Some e) = (record d { value = Some (kept_value (path_of_ref d.variable) e) }) ∷ key_vars (path_of_ref d.variable) e

  unfoldable pub set_vars : List Declarator → List Declarator
  unfolding set_var
  set_vars [] = []
  set_vars (d ∷ ds) = set_var d d.value ++ set_vars ds

  unfoldable pub target_site : Target → ℕ
  target_site (to_var i r) = i
  target_site (to_member i e p) = i
  target_site (to_index i e k) = i

  unfoldable pub alone : Declarator → Stmt
  alone d = vars d.site (d ∷ [])

  -- a statement that sets a path, and declares its global with it or not
  unfoldable pub set_path : (declares : Bool) → (site inner : ℕ) → Target → Expr → List Stmt
  unfolding declared_at target_site kept_value key_vars flat_target path_of_target alone
  set_path true i j t e = vars i (declared_at (target_site t) (global (path_of_target t)) (Some (kept_value (path_of_target t) e)) ++ key_vars (path_of_target t) e) ∷ []
  set_path false i j t e = simple i (assign j None (flat_target t) (kept_value (path_of_target t) e)) ∷ map alone (key_vars (path_of_target t) e)

  unfoldable pub is_among : List Path → Option Path → Bool
  unfolding same_path
  is_among ws None = false
  is_among ws (Some w) = list_any (λ v. same_path v w) ws

  -- a statement of the own list, where the first setting of these paths declares them
  unfoldable pub own_value : List Path → (site : ℕ) → Expr → List Stmt
  unfolding set_path is_among path_of_target flat_expr
  own_value ws i (assign j None t e) = set_path (is_among ws (path_of_target t)) i j t e
  own_value ws i e = simple i (flat_expr e) ∷ []

  unfoldable pub own_stmt : List Path → Stmt → List Stmt
  unfolding own_value set_vars flat_stmt
  own_stmt ws (simple i e) = own_value ws i e
  own_stmt ws (vars i ds) = vars i (set_vars ds) ∷ []
  own_stmt ws s = flat_stmt s ∷ []

  unfoldable pub minus : Option Path → List Path → List Path
  unfolding without
  minus None ws = ws
  minus (Some w) ws = without w ws

  unfoldable pub minus_set : Expr → List Path → List Path
  unfolding minus path_of_target
  minus_set (assign j None t e) ws = minus (path_of_target t) ws
  minus_set e ws = ws

  -- these paths without the one that a statement sets
  unfoldable pub still_unset : Stmt → List Path → List Path
  unfolding minus_set
  still_unset (simple i e) ws = minus_set e ws
  still_unset s ws = ws

  -- ---- bare declarations, behind those of the holders

  unfoldable pub is_declared : List ℕ → Option ℕ → Bool
  is_declared ns None = false
  is_declared ns (Some n) = list_any (λ m. nat_eq m n) ns

  unfoldable pub and_also : Option ℕ → List ℕ → List ℕ
  and_also None ns = ns
  and_also (Some n) ns = n ∷ ns

  -- of these paths, the declarations of those whose holder is one of these globals or has just been declared
  unfoldable pub bare_vars : (site : ℕ) → List ℕ → List Path → List Stmt
  unfolding is_declared and_also declared_at holder_of
  bare_vars i ns [] = []
  bare_vars i ns (w ∷ ws) = pick (is_declared ns (global (Some (holder_of w)))) (vars i (declared_at i (global (Some w)) None) ∷ bare_vars i (and_also (global (Some w)) ns) ws) (bare_vars i ns ws)

  -- and the others
  unfoldable pub still_bare : List ℕ → List Path → List Path
  unfolding is_declared and_also holder_of
  still_bare ns [] = []
  still_bare ns (w ∷ ws) = pick (is_declared ns (global (Some (holder_of w)))) (still_bare (and_also (global (Some w)) ns) ws) (w ∷ still_bare ns ws)

  unfoldable pub in_list : List Stmt → Stmts → Stmts
  in_list [] ss = ss
  in_list (s ∷ rest) ss = more_stmts s (in_list rest ss)

  -- the own list of a chunk: which paths its first settings declare, and which are declared behind their holders
  unfoldable pub own_list : Tables → (set bare : List Path) → Stmts → Stmts
  unfolding own_stmt still_unset bare_vars still_bare in_list declared_in site_in stmt_parts
  own_list T ws bs no_stmts = no_stmts
  own_list T ws bs (more_stmts s ss) = in_list (own_stmt ws s) (in_list (bare_vars (site_in (stmt_parts T 0 s)) (declared_in T (own_stmt ws s)) bs) (own_list T (still_unset s ws) (still_bare (declared_in T (own_stmt ws s)) bs) ss))

-- ---- the program

unfoldable pub is_set_in : (chunk : ℕ) → Declaration → Bool
is_set_in c (at_key d) = false
is_set_in c (at_setting d) = nat_eq d c
is_set_in c behind_holder = false

unfoldable pub is_bare : Declaration → Bool
is_bare (at_key d) = false
is_bare (at_setting d) = false
is_bare behind_holder = true

-- the paths that this chunk's first settings declare, and those that it declares behind their holders
unfoldable pub set_paths : Program → (chunk : ℕ) → List Path
unfolding is_set_in declaration_of flat_paths
set_paths P c = filter (λ w. is_set_in c (declaration_of P w)) (flat_paths P)

unfoldable pub bare_paths : Program → (chunk : ℕ) → List Path
unfolding is_bare declaration_of chunk_of_path flat_paths
bare_paths P c = filter (λ w. is_bare (declaration_of P w) && nat_eq (chunk_of_path P w) c) (flat_paths P)

-- the number of the global that a path becomes
unfoldable pub new_number : Program → Option Path → Option ℕ
unfolding global_at flat_paths
new_number P w = global_at (flat_paths P) (length P.globals) w

unfoldable pub flat_body : Program → (scope : ℕ) → Stmts → Stmts
unfolding is_chunk own_list flat_stmts new_number tables_of set_paths bare_paths
flat_body P f ss = pick (is_chunk P f) (own_list (new_number P) (tables_of P) (set_paths P f) (bare_paths P f) ss) (flat_stmts (new_number P) ss)

unfoldable pub flat_scopes : Program → (from : ℕ) → List Scope → List Scope
unfolding flat_body
flat_scopes P f [] = []
flat_scopes P f (s ∷ ss) = record s { body = flat_body P f s.body } ∷ flat_scopes P (suc f) ss

unfoldable pub flattened : Program → Program
unfolding flat_scopes without_paths new_global flat_paths
flattened P = record P { scopes = flat_scopes P 0 P.scopes; globals = map without_paths P.globals ++ map (new_global P) (flat_paths P) }
