-- Whether folding keeps each node, one equation for each kind of statement.
use Rattle.std.proofs.Common.{◌≡◌, refl, ℕ, Bool, true, false, List, [], ◌∷◌, map, Option, Some, None}
use Rattle.std.specs.Prelude.{◌&&◌}
use Rattle.cc_ast.specs.Syntax.{Expr, Target, Declarator, ForInit, no_init, init_value, init_vars, ForTarget, in_target, in_declared, simple, vars, fun_decl, if, while, do_while, for, for_in, return, throw, break, continue, label, switch, try, pay_stmt, Stmts, MaybeStmts, absent, present, Cases}
use Rattle.cc_ast.specs.declared.tree.Case.{Case}
use Rattle.cc_ast.specs.declared.tree.Declarator as Plain
use Rattle.cc_ast.specs.declared.tree.Ref.{Ref}
use Rattle.cc_ast.specs.declared.tree.Stmt as Tree
use Rattle.cc_ast.specs.StmtBridge.{declarator, stmts, cases, term_stmt, term_stmts, term_case, term_cases}
use Rattle.cc_tied.specs.EachNode.{each_expr, each_option, each_declarator, each_declarators, each_init, each_names, each_stmt}
use Rattle.cc_fold.specs.Keeps.{keeps_expr, keeps_target, keeps_option, keeps_declarator, keeps_declarators, keeps_init, keeps_names, keeps_stmt, keeps_stmts, keeps_maybe, keeps_cases, keeps_case}

pub option-None : keeps_option None ≡ true
unfolding keeps_option keeps_declarator keeps_declarators keeps_init keeps_names keeps_expr keeps_target each_expr each_option
option-None = refl

pub option-Some : (e : Expr) → keeps_option (Some e) ≡ keeps_expr e
unfolding keeps_option keeps_declarator keeps_declarators keeps_init keeps_names keeps_expr keeps_target each_expr each_option
option-Some e = refl

pub declarator_at : (d : Declarator) → keeps_declarator d ≡ keeps_option d.value
unfolding keeps_option keeps_declarator keeps_declarators keeps_init keeps_names keeps_expr keeps_target each_expr each_option each_declarator
declarator_at d = refl

pub no_declarators : keeps_declarators (map declarator []) ≡ true
unfolding keeps_option keeps_declarator keeps_declarators keeps_init keeps_names keeps_expr keeps_target each_expr each_declarators
no_declarators = refl

pub more_declarators : (d : Plain.Declarator) (ds : List Plain.Declarator) → keeps_declarators (map declarator (d ∷ ds)) ≡ keeps_declarator (declarator d) && keeps_declarators (map declarator ds)
unfolding keeps_option keeps_declarator keeps_declarators keeps_init keeps_names keeps_expr keeps_target each_expr each_declarators
more_declarators d ds = refl

pub init-no : keeps_init no_init ≡ true
unfolding keeps_option keeps_declarator keeps_declarators keeps_init keeps_names keeps_expr keeps_target each_expr each_init
init-no = refl

pub init-value : (e : Expr) → keeps_init (init_value e) ≡ keeps_expr e
unfolding keeps_option keeps_declarator keeps_declarators keeps_init keeps_names keeps_expr keeps_target each_expr each_init
init-value e = refl

-- an empty list is refused
pub init_none : (ds : List Plain.Declarator) → ds ≡ [] → keeps_init (init_vars (map declarator ds)) ≡ false
unfolding keeps_init each_init
init_none ds h = rw h refl

pub init_some : (ds : List Plain.Declarator) → (ds ≡ [] → ⊥) → keeps_init (init_vars (map declarator ds)) ≡ keeps_declarators (map declarator ds)
unfolding keeps_init keeps_declarators each_init each_declarators
init_some [] h = absurd (h refl)
init_some (d ∷ ds) h = refl

pub names-target : (u : Target) → keeps_names (in_target u) ≡ keeps_target u
unfolding keeps_option keeps_declarator keeps_declarators keeps_init keeps_names keeps_expr keeps_target each_expr each_names
names-target u = refl

pub names-declared : (d : Declarator) → keeps_names (in_declared d) ≡ keeps_declarator d
unfolding keeps_option keeps_declarator keeps_declarators keeps_init keeps_names keeps_expr keeps_target each_expr each_names each_declarator
names-declared d = refl

-- ---- statements

pub at-simple : (i : ℕ) (e : Expr) → keeps_stmt (simple i e) ≡ keeps_expr e
unfolding keeps_stmt keeps_stmts keeps_maybe keeps_cases keeps_option keeps_declarators keeps_init keeps_names keeps_expr each_stmt
at-simple i e = refl

pub at-vars : (i : ℕ) (ds : List Declarator) → keeps_stmt (vars i ds) ≡ keeps_declarators ds
unfolding keeps_stmt keeps_stmts keeps_maybe keeps_cases keeps_option keeps_declarators keeps_init keeps_names keeps_expr each_stmt
at-vars i ds = refl

pub at-fun_decl : (i : ℕ) (r : Ref) (f : ℕ) → keeps_stmt (fun_decl i r f) ≡ true
unfolding keeps_stmt keeps_stmts keeps_maybe keeps_cases keeps_option keeps_declarators keeps_init keeps_names keeps_expr each_stmt
at-fun_decl i r f = refl

pub at-if : (i : ℕ) (e : Expr) (a b : Stmts) → keeps_stmt (if i e a b) ≡ keeps_expr e && (keeps_stmts a && keeps_stmts b)
unfolding keeps_stmt keeps_stmts keeps_maybe keeps_cases keeps_option keeps_declarators keeps_init keeps_names keeps_expr each_stmt
at-if i e a b = refl

pub at-while : (i : ℕ) (e : Expr) (b : Stmts) → keeps_stmt (while i e b) ≡ keeps_expr e && keeps_stmts b
unfolding keeps_stmt keeps_stmts keeps_maybe keeps_cases keeps_option keeps_declarators keeps_init keeps_names keeps_expr each_stmt
at-while i e b = refl

pub at-do_while : (i : ℕ) (b : Stmts) (e : Expr) → keeps_stmt (do_while i b e) ≡ keeps_stmts b && keeps_expr e
unfolding keeps_stmt keeps_stmts keeps_maybe keeps_cases keeps_option keeps_declarators keeps_init keeps_names keeps_expr each_stmt
at-do_while i b e = refl

pub at-for : (i : ℕ) (h : ForInit) (e o : Option Expr) (b : Stmts) → keeps_stmt (for i h e o b) ≡ keeps_init h && (keeps_option e && (keeps_option o && keeps_stmts b))
unfolding keeps_stmt keeps_stmts keeps_maybe keeps_cases keeps_option keeps_declarators keeps_init keeps_names keeps_expr each_stmt
at-for i h e o b = refl

pub at-for_in : (i : ℕ) (u : ForTarget) (e : Expr) (b : Stmts) → keeps_stmt (for_in i u e b) ≡ keeps_names u && (keeps_expr e && keeps_stmts b)
unfolding keeps_stmt keeps_stmts keeps_maybe keeps_cases keeps_option keeps_declarators keeps_init keeps_names keeps_expr each_stmt
at-for_in i u e b = refl

pub at-return : (i : ℕ) (o : Option Expr) → keeps_stmt (return i o) ≡ keeps_option o
unfolding keeps_stmt keeps_stmts keeps_maybe keeps_cases keeps_option keeps_declarators keeps_init keeps_names keeps_expr each_stmt
at-return i o = refl

pub at-throw : (i : ℕ) (e : Expr) → keeps_stmt (throw i e) ≡ keeps_expr e
unfolding keeps_stmt keeps_stmts keeps_maybe keeps_cases keeps_option keeps_declarators keeps_init keeps_names keeps_expr each_stmt
at-throw i e = refl

pub at-break : (i : ℕ) (l : Option (List ℕ)) → keeps_stmt (break i l) ≡ true
unfolding keeps_stmt keeps_stmts keeps_maybe keeps_cases keeps_option keeps_declarators keeps_init keeps_names keeps_expr each_stmt
at-break i l = refl

pub at-continue : (i : ℕ) (l : Option (List ℕ)) → keeps_stmt (continue i l) ≡ true
unfolding keeps_stmt keeps_stmts keeps_maybe keeps_cases keeps_option keeps_declarators keeps_init keeps_names keeps_expr each_stmt
at-continue i l = refl

pub at-label : (i : ℕ) (l : List ℕ) (b : Stmts) → keeps_stmt (label i l b) ≡ keeps_stmts b
unfolding keeps_stmt keeps_stmts keeps_maybe keeps_cases keeps_option keeps_declarators keeps_init keeps_names keeps_expr each_stmt
at-label i l b = refl

pub at-switch : (i : ℕ) (e : Expr) (cs : Cases) → keeps_stmt (switch i e cs) ≡ keeps_expr e && keeps_cases cs
unfolding keeps_stmt keeps_stmts keeps_maybe keeps_cases keeps_option keeps_declarators keeps_init keeps_names keeps_expr each_stmt
at-switch i e cs = refl

pub at-try : (i : ℕ) (b : Stmts) (k f : MaybeStmts) → keeps_stmt (try i b k f) ≡ keeps_stmts b && (keeps_maybe k && keeps_maybe f)
unfolding keeps_stmt keeps_stmts keeps_maybe keeps_cases keeps_option keeps_declarators keeps_init keeps_names keeps_expr each_stmt
at-try i b k f = refl

pub at-pay : (i n : ℕ) → keeps_stmt (pay_stmt i n) ≡ true
unfolding keeps_stmt keeps_stmts keeps_maybe keeps_cases keeps_option keeps_declarators keeps_init keeps_names keeps_expr each_stmt
at-pay i n = refl

pub maybe-absent : keeps_maybe absent ≡ true
unfolding keeps_stmt keeps_stmts keeps_maybe keeps_cases keeps_option keeps_declarators keeps_init keeps_names keeps_expr each_stmt
maybe-absent = refl

pub maybe-present : (b : Stmts) → keeps_maybe (present b) ≡ keeps_stmts b
unfolding keeps_stmt keeps_stmts keeps_maybe keeps_cases keeps_option keeps_declarators keeps_init keeps_names keeps_expr each_stmt
maybe-present b = refl

-- ---- lists

pub no_statements : keeps_stmts (term_stmts []) ≡ true
unfolding keeps_stmt keeps_stmts keeps_maybe keeps_cases keeps_option keeps_declarators keeps_init keeps_names keeps_expr each_stmt term_stmts stmts
no_statements = refl

pub more_statements : (s : Tree.Stmt) (ss : List Tree.Stmt) → keeps_stmts (term_stmts (s ∷ ss)) ≡ keeps_stmt (term_stmt s) && keeps_stmts (term_stmts ss)
unfolding keeps_stmt keeps_stmts keeps_maybe keeps_cases keeps_option keeps_declarators keeps_init keeps_names keeps_expr each_stmt term_stmts stmts
more_statements s ss = refl

pub no_clauses : keeps_cases (term_cases []) ≡ true
unfolding keeps_stmt keeps_stmts keeps_maybe keeps_cases keeps_option keeps_declarators keeps_init keeps_names keeps_expr each_stmt term_cases cases
no_clauses = refl

-- `&&` is taken from the left, whichever way it is written
in_turn : (a b c : Bool) → (a && (b && c)) ≡ ((a && b) && c)
in_turn true b c = refl
in_turn false b c = refl

pub more_clauses : (c : Case) (cs : List Case) → keeps_cases (term_cases (c ∷ cs)) ≡ keeps_case (term_case c) && keeps_cases (term_cases cs)
unfolding keeps_stmt keeps_stmts keeps_maybe keeps_cases keeps_option keeps_declarators keeps_init keeps_names keeps_expr each_stmt term_cases cases
more_clauses c cs = in_turn (keeps_option (term_case c).0) (keeps_stmts (term_case c).1) (keeps_cases (term_cases cs))

pub ruleset option_steps = (option-None, option-Some)

pub ruleset init_steps = (init-no, init-value)

pub ruleset names_steps = (names-target, names-declared)

pub ruleset walk = (at-simple, at-vars, at-fun_decl, at-if, at-while, at-do_while, at-for, at-for_in, at-return, at-throw, at-break, at-continue, at-label, at-switch, at-try, at-pay, maybe-absent, maybe-present)
