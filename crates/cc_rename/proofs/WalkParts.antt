-- What is met in the parts of statements that hold expressions.
use Rattle.std.proofs.Common.{◌≡◌, refl, sym, ap, ◌∙◌, arith, ℕ, zero, suc, ◌<◌, List, [], ◌∷◌, ◌++◌, map, Option, Some, None, append_assoc, append-nil, take, length, get_or}
use Rattle.cc_ast.specs.Bridge.{term, target, option_term}
use Rattle.cc_ast.specs.StmtBridge.{declarator, for_init, for_target, maybe_stmts, term_stmt, term_stmts, term_case, term_cases, stmts, cases, CaseTerm, stmt_layer, case_layer}
use Rattle.cc_ast.specs.Syntax as S
use Rattle.cc_ast.specs.declared.tree.Expr as Tree
use Rattle.cc_ast.specs.declared.tree.Target as TargetTree
use Rattle.cc_ast.specs.StmtTerms as T
use Rattle.cc_ast.specs.declared.tree.Ref.{Ref}
use Rattle.cc_ast.specs.declared.tree.Stmt as StmtTree
use Rattle.cc_ast.specs.declared.tree.Stmt.TheVariants as V
use Rattle.cc_ast.specs.declared.tree.Stmt.TheFolds.{fold-roll-Case}
use Rattle.cc_ast.specs.declared.tree.Case.{Case, out-Case, roll-Case, roll-out-Case}
use Rattle.cc_ast.specs.declared.tree.Declarator.{Declarator}
use Rattle.cc_ast.specs.declared.tree.ForInit.{ForInit}
use Rattle.cc_ast.specs.declared.tree.ForInit.TheVariants as init
use Rattle.cc_ast.specs.declared.tree.ForTarget.{ForTarget}
use Rattle.cc_ast.specs.declared.tree.ForTarget.TheVariants as to
use Rattle.cc_rename.specs.declared.met.Met.{Met}
use Rattle.cc_rename.specs.declared.met.Met.TheVariants.{Variable, Function, Clause}
use Rattle.cc_rename.specs.Steps.{met_expr, met_target, met_option, met_declarator, met_vars, met_init, met_heading, met_stmt, met_stmts, met_catch, met_finally, met_cases, catch_of, finally_of}

pub option-none : (c : ℕ) → met_option c (option_term None) ≡ []
unfolding met_option option_term
option-none c = refl

pub option-some : (c : ℕ) (e : Tree.Expr) → met_option c (option_term (Some e)) ≡ met_expr c (term e)
unfolding met_option option_term
option-some c e = refl

pub nothing-more : (ms : List Met) → ms ++ [] ≡ ms
nothing-more ms = append-nil ms

pub ruleset option_steps = (option-none, option-some, nothing-more)

pub of-declarator : (c : ℕ) (d : Declarator) → met_declarator c (declarator d) ≡ (Variable c d.variable ∷ []) ++ met_option c (option_term d.value)
unfolding met_declarator declarator
of-declarator c d = refl

pub init-nothing : (c : ℕ) → met_init c (for_init init.Nothing) ≡ []
unfolding met_init for_init
init-nothing c = refl

pub init-value : (c : ℕ) (e : Tree.Expr) → met_init c (for_init (init.Value e)) ≡ met_expr c (term e)
unfolding met_init for_init
init-value c e = refl

pub init-declared : (c : ℕ) (ds : List Declarator) → met_init c (for_init (init.Declared ds)) ≡ met_vars c (map declarator ds)
unfolding met_init for_init
init-declared c ds = refl

pub ruleset init_steps = (init-nothing, init-value, init-declared, nothing-more)

pub heading-target : (c : ℕ) (t : TargetTree.Target) → met_heading c (for_target (to.Target t)) ≡ met_target c (target t)
unfolding met_heading for_target
heading-target c t = refl

pub heading-declared : (c : ℕ) (d : Declarator) → met_heading c (for_target (to.Declared d)) ≡ met_declarator c (declarator d)
unfolding met_heading for_target
heading-declared c d = refl

pub ruleset heading_steps = (heading-target, heading-declared)

-- ---- turns of loops

pub vars-start : (c : ℕ) (ms : List Met) → ms ≡ ms ++ met_vars c (map declarator [])
unfolding met_vars
vars-start c ms = sym (append-nil ms)

pub vars-turn : (c : ℕ) (ds : List Declarator) (i j : ℕ) (x : Declarator) → j ≡ suc i → i < length ds → x ≡ get_or ds i x → met_vars c (map declarator (take j ds)) ≡ met_vars c (map declarator (take i ds)) ++ met_declarator c (declarator x)
unfolding met_vars
vars-turn c ds i zero x q l e = absurd (omega (arith, q))
vars-turn c [] i (suc j) x q l e = absurd (omega (arith, l))
vars-turn c (y ∷ ds) zero (suc j) x q l e = let z : j ≡ 0 = omega (arith, q) in ap (λ n. met_declarator c (declarator y) ++ met_vars c (map declarator (take n ds))) z ∙ append-nil (met_declarator c (declarator y)) ∙ ap (λ z. met_declarator c (declarator z)) (sym e)
vars-turn c (y ∷ ds) (suc i) (suc j) x q l e = ap (λ w. met_declarator c (declarator y) ++ w) (vars-turn c ds i j x (omega (arith, q)) (omega (arith, l)) e) ∙ sym (append_assoc (met_declarator c (declarator y)) (met_vars c (map declarator (take i ds))) (met_declarator c (declarator x)))

pub stmts-start : (c : ℕ) (ms : List Met) → ms ≡ ms ++ met_stmts c (term_stmts [])
unfolding met_stmt term_stmts stmts
stmts-start c ms = sym (append-nil ms)

pub stmts-turn : (c : ℕ) (ss : List StmtTree.Stmt) (i j : ℕ) (x : StmtTree.Stmt) → j ≡ suc i → i < length ss → x ≡ get_or ss i x → met_stmts c (term_stmts (take j ss)) ≡ met_stmts c (term_stmts (take i ss)) ++ met_stmt c (term_stmt x)
unfolding met_stmt term_stmts stmts
stmts-turn c ss i zero x q l e = absurd (omega (arith, q))
stmts-turn c [] i (suc j) x q l e = absurd (omega (arith, l))
stmts-turn c (y ∷ ss) zero (suc j) x q l e = let z : j ≡ 0 = omega (arith, q) in ap (λ n. met_stmt c (term_stmt y) ++ met_stmts c (stmts (map term_stmt (take n ss)))) z ∙ append-nil (met_stmt c (term_stmt y)) ∙ ap (λ z. met_stmt c (term_stmt z)) (sym e)
stmts-turn c (y ∷ ss) (suc i) (suc j) x q l e = ap (λ w. met_stmt c (term_stmt y) ++ w) (stmts-turn c ss i j x (omega (arith, q)) (omega (arith, l)) e) ∙ sym (append_assoc (met_stmt c (term_stmt y)) (met_stmts c (term_stmts (take i ss))) (met_stmt c (term_stmt x)))

pub cases-start : (c : ℕ) (ms : List Met) → ms ≡ ms ++ met_cases c (term_cases [])
unfolding met_stmt term_cases cases
cases-start c ms = sym (append-nil ms)

-- ---- a statement of src/ by its parts

abbrev at : ℕ → StmtTree.Stmt → List Met
at c s = met_stmt c (term_stmt s)

pub of-Break : (c i : ℕ) (l : Option (List ℕ)) (s : StmtTree.Stmt) (ms : List Met) → s ≡ V.Break i l → ms ≡ ms ++ at c s
unfolding met_stmt
of-Break c i l s ms q = sym (append-nil ms) ∙ ap (λ z. ms ++ z) (sym (ap (at c) q ∙ ap (met_stmt c) (T.term_stmt-Break i l)))

pub of-Continue : (c i : ℕ) (l : Option (List ℕ)) (s : StmtTree.Stmt) (ms : List Met) → s ≡ V.Continue i l → ms ≡ ms ++ at c s
unfolding met_stmt
of-Continue c i l s ms q = sym (append-nil ms) ∙ ap (λ z. ms ++ z) (sym (ap (at c) q ∙ ap (met_stmt c) (T.term_stmt-Continue i l)))

pub of-Tick : (c i p : ℕ) (s : StmtTree.Stmt) (ms : List Met) → s ≡ V.Tick i p → ms ≡ ms ++ at c s
unfolding met_stmt
of-Tick c i p s ms q = sym (append-nil ms) ∙ ap (λ z. ms ++ z) (sym (ap (at c) q ∙ ap (met_stmt c) (T.term_stmt-Tick i p)))

pub of-Fun : (c i : ℕ) (r : Ref) (f : ℕ) (s : StmtTree.Stmt) → s ≡ V.Fun i r f → at c s ≡ (Variable c r ∷ []) ++ (Function c f ∷ [])
unfolding met_stmt
of-Fun c i r f s q = ap (at c) q ∙ ap (met_stmt c) (T.term_stmt-Fun i r f)

pub of-If : (c i : ℕ) (t z : Tree.Expr) (a b : List StmtTree.Stmt) (s : StmtTree.Stmt) → s ≡ V.If i t a b → z ≡ t → at c s ≡ met_expr c (term z) ++ met_stmts c (term_stmts a) ++ met_stmts c (term_stmts b)
unfolding met_stmt
of-If c i t z a b s q h = ap (at c) q ∙ ap (met_stmt c) (T.term_stmt-If i t a b) ∙ ap (λ w. met_expr c (term w) ++ met_stmts c (term_stmts a) ++ met_stmts c (term_stmts b)) (sym h)

pub of-While : (c i : ℕ) (t z : Tree.Expr) (b : List StmtTree.Stmt) (s : StmtTree.Stmt) → s ≡ V.While i t b → z ≡ t → at c s ≡ met_expr c (term z) ++ met_stmts c (term_stmts b)
unfolding met_stmt
of-While c i t z b s q h = ap (at c) q ∙ ap (met_stmt c) (T.term_stmt-While i t b) ∙ ap (λ w. met_expr c (term w) ++ met_stmts c (term_stmts b)) (sym h)

pub of-DoWhile : (c i : ℕ) (b : List StmtTree.Stmt) (t z : Tree.Expr) (s : StmtTree.Stmt) → s ≡ V.DoWhile i b t → z ≡ t → at c s ≡ met_stmts c (term_stmts b) ++ met_expr c (term z)
unfolding met_stmt
of-DoWhile c i b t z s q h = ap (at c) q ∙ ap (met_stmt c) (T.term_stmt-DoWhile i b t) ∙ ap (λ w. met_stmts c (term_stmts b) ++ met_expr c (term w)) (sym h)

pub of-For : (c i : ℕ) (h : ForInit) (t u : Option Tree.Expr) (b : List StmtTree.Stmt) (s : StmtTree.Stmt) → s ≡ V.For i h t u b → at c s ≡ met_init c (for_init h) ++ met_option c (option_term t) ++ met_option c (option_term u) ++ met_stmts c (term_stmts b)
unfolding met_stmt
of-For c i h t u b s q = ap (at c) q ∙ ap (met_stmt c) (T.term_stmt-For i h t u b)

pub of-ForIn : (c i : ℕ) (h : ForTarget) (e z : Tree.Expr) (b : List StmtTree.Stmt) (s : StmtTree.Stmt) → s ≡ V.ForIn i h e b → z ≡ e → at c s ≡ met_heading c (for_target h) ++ met_expr c (term z) ++ met_stmts c (term_stmts b)
unfolding met_stmt
of-ForIn c i h e z b s q g = ap (at c) q ∙ ap (met_stmt c) (T.term_stmt-ForIn i h e b) ∙ ap (λ w. met_heading c (for_target h) ++ met_expr c (term w) ++ met_stmts c (term_stmts b)) (sym g)

pub of-Switch : (c i : ℕ) (e z : Tree.Expr) (cs : List Case) (s : StmtTree.Stmt) → s ≡ V.Switch i e cs → z ≡ e → at c s ≡ met_expr c (term z) ++ met_cases c (term_cases cs)
unfolding met_stmt
of-Switch c i e z cs s q g = ap (at c) q ∙ ap (met_stmt c) (T.term_stmt-Switch i e cs) ∙ ap (λ w. met_expr c (term w) ++ met_cases c (term_cases cs)) (sym g)

pub of-Try : (c i : ℕ) (b : List StmtTree.Stmt) (k f : Option (List StmtTree.Stmt)) (s : StmtTree.Stmt) → s ≡ V.Try i b k f
    → at c s ≡ met_stmts c (term_stmts b) ++ met_catch c (catch_of (term_stmt s)) ++ met_finally c (finally_of (term_stmt s))
unfolding met_stmt catch_of finally_of
of-Try c i b k f s q =
    let e : term_stmt s ≡ S.try i (term_stmts b) (maybe_stmts k) (maybe_stmts f) = ap term_stmt q ∙ T.term_stmt-Try i b k f in
    ap (met_stmt c) e ∙ ap (λ z. met_stmts c (term_stmts b) ++ met_catch c (catch_of z) ++ met_finally c (finally_of z)) (sym e)

catch_is : (i : ℕ) (b : List StmtTree.Stmt) (k f : Option (List StmtTree.Stmt)) (s : StmtTree.Stmt) → s ≡ V.Try i b k f → catch_of (term_stmt s) ≡ maybe_stmts k
unfolding catch_of
catch_is i b k f s q = ap catch_of (ap term_stmt q ∙ T.term_stmt-Try i b k f)

finally_is : (i : ℕ) (b : List StmtTree.Stmt) (k f : Option (List StmtTree.Stmt)) (s : StmtTree.Stmt) → s ≡ V.Try i b k f → finally_of (term_stmt s) ≡ maybe_stmts f
unfolding finally_of
finally_is i b k f s q = ap finally_of (ap term_stmt q ∙ T.term_stmt-Try i b k f)

pub catch-none : (c i : ℕ) (b : List StmtTree.Stmt) (k f : Option (List StmtTree.Stmt)) (s : StmtTree.Stmt) (ms : List Met) → s ≡ V.Try i b k f → k ≡ None → ms ≡ ms ++ met_catch c (catch_of (term_stmt s))
unfolding met_stmt
catch-none c i b k f s ms q h = sym (append-nil ms) ∙ ap (λ z. ms ++ z) (sym (ap (met_catch c) (catch_is i b k f s q ∙ ap maybe_stmts h ∙ T.maybe_stmts-None)))

pub catch-some : (c j i : ℕ) (b : List StmtTree.Stmt) (k f : Option (List StmtTree.Stmt)) (d : List StmtTree.Stmt) (s : StmtTree.Stmt) → s ≡ V.Try i b k f → k ≡ Some d → j ≡ suc c → met_catch c (catch_of (term_stmt s)) ≡ (Clause c ∷ []) ++ met_stmts j (term_stmts d)
unfolding met_stmt
catch-some c j i b k f d s q h e = ap (met_catch c) (catch_is i b k f s q ∙ ap maybe_stmts h ∙ T.maybe_stmts-Some d) ∙ ap (λ n. Clause c ∷ met_stmts n (term_stmts d)) (sym e)

pub finally-none : (c i : ℕ) (b : List StmtTree.Stmt) (k f : Option (List StmtTree.Stmt)) (s : StmtTree.Stmt) (ms : List Met) → s ≡ V.Try i b k f → f ≡ None → ms ≡ ms ++ met_finally c (finally_of (term_stmt s))
unfolding met_stmt
finally-none c i b k f s ms q h = sym (append-nil ms) ∙ ap (λ z. ms ++ z) (sym (ap (met_finally c) (finally_is i b k f s q ∙ ap maybe_stmts h ∙ T.maybe_stmts-None)))

pub finally-some : (c i : ℕ) (b : List StmtTree.Stmt) (k f : Option (List StmtTree.Stmt)) (d : List StmtTree.Stmt) (s : StmtTree.Stmt) → s ≡ V.Try i b k f → f ≡ Some d → met_stmts c (term_stmts d) ≡ met_finally c (finally_of (term_stmt s))
unfolding met_stmt
finally-some c i b k f d s q h = sym (ap (met_finally c) (finally_is i b k f s q ∙ ap maybe_stmts h ∙ T.maybe_stmts-Some d))

-- a clause of a `switch`
case_made : (t : Option Tree.Expr) (b : List StmtTree.Stmt) → term_case (roll-Case (record { test = t; body = b })) ≡ (option_term t, term_stmts b)
unfolding term_case term_stmt term_stmts case_layer
case_made t b = fold-roll-Case S.Stmt CaseTerm stmt_layer case_layer _

case-at : (x : Case) → term_case x ≡ (option_term (out-Case x).test, term_stmts (out-Case x).body)
case-at x = ap term_case (sym (roll-out-Case x)) ∙ case_made (out-Case x).test (out-Case x).body

pub cases-turn : (c : ℕ) (cs : List Case) (i j : ℕ) (x : Case) → j ≡ suc i → i < length cs → x ≡ get_or cs i x → met_cases c (term_cases (take j cs)) ≡ met_cases c (term_cases (take i cs)) ++ (met_option c (option_term (out-Case x).test) ++ met_stmts c (term_stmts (out-Case x).body))
unfolding met_stmt term_cases cases
cases-turn c cs i zero x q l e = absurd (omega (arith, q))
cases-turn c [] i (suc j) x q l e = absurd (omega (arith, l))
cases-turn c (y ∷ cs) zero (suc j) x q l e =
    let z : j ≡ 0 = omega (arith, q) in
    ap (λ n. met_option c (term_case y).0 ++ met_stmts c (term_case y).1 ++ met_cases c (cases (map term_case (take n cs)))) z
    ∙ append-nil (met_option c (term_case y).0 ++ met_stmts c (term_case y).1) ∙ ap (λ w. met_option c w.0 ++ met_stmts c w.1) (ap term_case (sym e) ∙ case-at x)
cases-turn c (y ∷ cs) (suc i) (suc j) x q l e =
    ap (λ w. met_option c (term_case y).0 ++ met_stmts c (term_case y).1 ++ w) (cases-turn c cs i j x (omega (arith, q)) (omega (arith, l)) e)
    ∙ sym (append_assoc (met_option c (term_case y).0 ++ met_stmts c (term_case y).1) (met_cases c (term_cases (take i cs))) (met_option c (option_term (out-Case x).test) ++ met_stmts c (term_stmts (out-Case x).body)))
