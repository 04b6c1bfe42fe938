-- Trees whose parts are each allowed are fine.
use Rattle.std.proofs.Common.{◌≡◌, ℕ, suc, Bool, true, false, is_some, List, [], ◌∷◌, ◌++◌, Option, Some, None, sym, subst}
use Rattle.cc_ast.specs.Syntax.{Expr, lit, var, this, fun, list, object, unary, binary, and, or, cond, assign, step, member, index, call, new, comma, cast, tick, Target, to_var, to_member, to_index, Exprs, no_exprs, more_exprs, Fields, no_fields, more_fields, Declarator, ForInit, no_init, init_value, init_vars, ForTarget, in_target, in_declared, Stmt, simple, vars, fun_decl, if, while, do_while, for, for_in, return, throw, break, continue, label, switch, try, pay_stmt, Stmts, no_stmts, more_stmts, MaybeStmts, absent, present, Cases, no_cases, more_cases}
use Rattle.cc_ast.specs.declared.tree.Ref.{Ref}
use Rattle.cc_meaning.specs.State.{Tables}
use Rattle.cc_meaning.specs.Alike.{In, here, there}
use Rattle.cc_meaning.specs.Parts.{Part, mentions, declares, makes, method_in, key_parts, expr_parts, target_parts, exprs_parts, fields_parts, option_parts, vars_parts, init_parts, name_parts, stmt_parts, stmts_parts, maybe_parts, cases_parts}
use Rattle.cc_tied.specs.Fine.{Allowed, FineRead, Fine, FineTarget, FineAll, FineFields, FineOption, FineDeclarator, FineDeclarators, FineInit, FineNames, FineStmt, FineStmts, FineMaybe, FineCases}

-- what the parts of a tree allow, where so many catch clauses are open
pub record PartsAllow (C : Type 0) (A : Allowed C) (at : ℕ → C) (Good : Part → Type 0) : Type 0 where
  pub caught : (k : ℕ) → A.caught (at k) ≡ at (suc k)
  pub reads : (k : ℕ) (r : Ref) → Good (mentions k r) → A.reads (at k) r
  pub writes : (k : ℕ) (r : Ref) → Good (mentions k r) → A.writes (at k) r
  pub declared : (k : ℕ) (r : Ref) → Good (declares k r) → A.writes (at k) r
  pub bound : (k : ℕ) (r : Ref) (f : ℕ) → Good (declares k r) → A.binds (at k) r f
  pub set : (k : ℕ) (r : Ref) (o : Option Expr) → Good (declares k r) → A.sets (at k) r o
  pub receivers : (k : ℕ) → A.this_here (at k)
  pub made : (k f : ℕ) (d : Bool) → Good (makes k f d) → A.makes (at k) f
  pub stands : (k : ℕ) (ls : List (List ℕ)) (s : Stmt) → A.stands (at k) ls s

in_front : {A : Type 0} {x : A} {xs : List A} (ys : List A) → In x xs → In x (xs ++ ys)
in_front ys here = here
in_front ys (there h) = there (in_front ys h)

in_back : {A : Type 0} {x : A} (xs : List A) {ys : List A} → In x ys → In x (xs ++ ys)
in_back [] h = h
in_back (y ∷ xs) h = there (in_back xs h)

module _ (C : Type 0) (A : Allowed C) (at : ℕ → C) (Good : Part → Type 0) (P : PartsAllow C A at Good) (T : Tables) where
  abbrev pub All : List Part → Type 0
  All xs = (x : Part) → In x xs → Good x

  left : (xs ys : List Part) → All (xs ++ ys) → All xs
  left xs ys h x i = h x (in_front ys i)

  right : (xs ys : List Part) → All (xs ++ ys) → All ys
  right xs ys h x i = h x (in_back xs i)

  rest : (x : Part) (xs : List Part) → All (x ∷ xs) → All xs
  rest x xs h y i = h y (there i)

  read_by : (k : ℕ) (b : Bool) (r : Ref) → Good (mentions k r) → FineRead C A (at k) b r
  unfolding FineRead
  read_by k true r g = P.reads k r g
  read_by k false r g = tt

  module _ (k : ℕ) where
    mutual
      unfolding Fine expr_parts

      pub fine_expr : (e : Expr) → All (expr_parts T k e) → Fine C A (at k) e
      fine_expr (lit i p) h = tt
      fine_expr (var i r) h = P.reads k r (h _ (there here))
      fine_expr (this i) h = P.receivers k
      fine_expr (fun i f) h = P.made k f false (h _ (there here))
      fine_expr (list i es) h = fine_all es (rest _ _ h)
      fine_expr (object i fs) h = fine_fields fs (rest _ _ h)
      fine_expr (unary i op e) h = fine_expr e (rest _ _ h)
      fine_expr (binary i op a b) h = (fine_expr a (left _ _ (rest _ _ h)), fine_expr b (right (expr_parts T k a) _ (rest _ _ h)))
      fine_expr (and i a b) h = (fine_expr a (left _ _ (rest _ _ h)), fine_expr b (right (expr_parts T k a) _ (rest _ _ h)))
      fine_expr (or i a b) h = (fine_expr a (left _ _ (rest _ _ h)), fine_expr b (right (expr_parts T k a) _ (rest _ _ h)))
      fine_expr (cond i e a b) h = let r = left (expr_parts T k e ++ expr_parts T k a) (expr_parts T k b) (rest _ _ h) in (fine_expr e (left _ _ r), fine_expr a (right (expr_parts T k e) _ r), fine_expr b (right (expr_parts T k e ++ expr_parts T k a) _ (rest _ _ h)))
      fine_expr (assign i op u e) h = let r = left (method_in T u e ++ target_parts T k u) (expr_parts T k e) (rest _ _ h) in (fine_target (is_some op) u (right (method_in T u e) _ r), fine_expr e (right (method_in T u e ++ target_parts T k u) _ (rest _ _ h)))
      fine_expr (step i up prefix u) h = fine_target true u (rest _ _ h)
      fine_expr (member i e p) h = fine_expr e (rest _ _ (rest _ _ h))
      fine_expr (index i e j) h = (fine_expr e (left _ _ (rest _ _ h)), fine_expr j (right (expr_parts T k e) _ (rest _ _ h)))
      fine_expr (call i f es) h = (fine_expr f (left _ _ (rest _ _ h)), fine_all es (right (expr_parts T k f) _ (rest _ _ h)))
      fine_expr (new i f es) h = (fine_expr f (left _ _ (rest _ _ h)), fine_all es (right (expr_parts T k f) _ (rest _ _ h)))
      fine_expr (comma i a b) h = (fine_expr a (left _ _ (rest _ _ h)), fine_expr b (right (expr_parts T k a) _ (rest _ _ h)))
      fine_expr (cast i d e) h = fine_expr e (rest _ _ (rest _ _ h))
      fine_expr (tick i p e) h = fine_expr e (rest _ _ h)

      fine_target : (b : Bool) (u : Target) → All (target_parts T k u) → FineTarget C A (at k) b u
      fine_target b (to_var i r) h = (read_by k b r (h _ (there here)), P.writes k r (h _ (there here)))
      fine_target b (to_member i e p) h = fine_expr e (rest _ _ (rest _ _ h))
      fine_target b (to_index i e j) h = (fine_expr e (left _ _ (rest _ _ h)), fine_expr j (right (expr_parts T k e) _ (rest _ _ h)))

      fine_all : (es : Exprs) → All (exprs_parts T k es) → FineAll C A (at k) es
      fine_all no_exprs h = tt
      fine_all (more_exprs e es) h = (fine_expr e (left _ _ h), fine_all es (right (expr_parts T k e) _ h))

      fine_fields : (fs : Fields) → All (fields_parts T k fs) → FineFields C A (at k) fs
      fine_fields no_fields h = tt
      fine_fields (more_fields j e fs) h = (fine_expr e (right (key_parts j) _ (left (key_parts j ++ expr_parts T k e) (fields_parts T k fs) h)), fine_fields fs (right (key_parts j ++ expr_parts T k e) _ h))

    fine_option : (o : Option Expr) → All (option_parts T k o) → FineOption C A (at k) o
    unfolding FineOption option_parts
    fine_option None h = tt
    fine_option (Some e) h = fine_expr e h

    fine_declarators : (ds : List Declarator) → All (vars_parts T k ds) → FineDeclarators C A (at k) ds
    unfolding FineDeclarators FineDeclarator vars_parts
    fine_declarators [] h = tt
    fine_declarators (d ∷ ds) h = let r = rest _ _ (rest _ _ h) in ((P.set k d.variable d.value (h _ (there here)), fine_option d.value (left _ _ r)), fine_declarators ds (right (option_parts T k d.value) _ r))

    fine_init : (h : ForInit) → All (init_parts T k h) → FineInit C A (at k) h
    unfolding FineInit init_parts
    fine_init no_init h = tt
    fine_init (init_value e) h = fine_expr e h
    fine_init (init_vars ds) h = fine_declarators ds h

    fine_names : (u : ForTarget) → All (name_parts T k u) → FineNames C A (at k) u
    unfolding FineNames FineDeclarators name_parts
    fine_names (in_target u) h = fine_target false u h
    fine_names (in_declared d) h = (P.declared k d.variable (h _ (there here)), (fine_declarators (d ∷ []) h).0)

  mutual
    unfolding FineStmt stmt_parts

    pub fine_stmt : (k : ℕ) (ls : List (List ℕ)) (s : Stmt) → All (stmt_parts T k s) → FineStmt C A (at k) ls s
    fine_stmt k ls (simple i e) h = fine_expr k e (rest _ _ h)
    fine_stmt k ls (vars i ds) h = fine_declarators k ds (rest _ _ h)
    fine_stmt k ls (fun_decl i r f) h = (P.bound k r f (h _ (there here)), P.made k f true (h _ (there (there here))))
    fine_stmt k ls (if i e a b) h = let r = left (expr_parts T k e ++ stmts_parts T k a) (stmts_parts T k b) (rest _ _ h) in (fine_expr k e (left _ _ r), fine_stmts k [] a (right (expr_parts T k e) _ r), fine_stmts k [] b (right (expr_parts T k e ++ stmts_parts T k a) _ (rest _ _ h)))
    fine_stmt k ls (while i e b) h = (fine_expr k e (left _ _ (rest _ _ h)), fine_stmts k [] b (right (expr_parts T k e) _ (rest _ _ h)))
    fine_stmt k ls (do_while i b e) h = (fine_stmts k [] b (left _ _ (rest _ _ h)), fine_expr k e (right (stmts_parts T k b) _ (rest _ _ h)))
    fine_stmt k ls (for i n e o b) h =
        let r = left (init_parts T k n ++ option_parts T k e ++ option_parts T k o) (stmts_parts T k b) (rest _ _ h) in
        let q = left (init_parts T k n ++ option_parts T k e) (option_parts T k o) r in
        (fine_init k n (left _ _ q), fine_option k e (right (init_parts T k n) _ q), fine_option k o (right (init_parts T k n ++ option_parts T k e) _ r), fine_stmts k [] b (right (init_parts T k n ++ option_parts T k e ++ option_parts T k o) _ (rest _ _ h)))
    fine_stmt k ls (for_in i u e b) h = let r = left (name_parts T k u ++ expr_parts T k e) (stmts_parts T k b) (rest _ _ h) in (fine_names k u (left _ _ r), fine_expr k e (right (name_parts T k u) _ r), fine_stmts k [] b (right (name_parts T k u ++ expr_parts T k e) _ (rest _ _ h)))
    fine_stmt k ls (return i o) h = fine_option k o (rest _ _ h)
    fine_stmt k ls (throw i e) h = fine_expr k e (rest _ _ h)
    fine_stmt k ls (break i l) h = tt
    fine_stmt k ls (continue i l) h = tt
    fine_stmt k ls (label i l b) h = fine_stmts k (l ∷ ls) b (rest _ _ h)
    fine_stmt k ls (switch i e cs) h = (fine_expr k e (left _ _ (rest _ _ h)), fine_cases k cs (right (expr_parts T k e) _ (rest _ _ h)))
    fine_stmt k ls (try i b c f) h =
        let r = left (stmts_parts T k b ++ maybe_parts T (suc k) c) (maybe_parts T k f) (rest _ _ h) in
        (fine_stmts k [] b (left _ _ r), subst (λ z. FineMaybe C A z c) (sym (P.caught k)) (fine_maybe (suc k) c (right (stmts_parts T k b) _ r)), fine_maybe k f (right (stmts_parts T k b ++ maybe_parts T (suc k) c) _ (rest _ _ h)))
    fine_stmt k ls (pay_stmt i n) h = tt

    pub fine_stmts : (k : ℕ) (ls : List (List ℕ)) (ss : Stmts) → All (stmts_parts T k ss) → FineStmts C A (at k) ls ss
    fine_stmts k ls no_stmts h = tt
    fine_stmts k ls (more_stmts s ss) h = (P.stands k ls s, fine_stmt k ls s (left _ _ h), fine_stmts k ls ss (right (stmt_parts T k s) _ h))

    fine_maybe : (k : ℕ) (c : MaybeStmts) → All (maybe_parts T k c) → FineMaybe C A (at k) c
    fine_maybe k absent h = tt
    fine_maybe k (present b) h = fine_stmts k [] b h

    fine_cases : (k : ℕ) (cs : Cases) → All (cases_parts T k cs) → FineCases C A (at k) cs
    fine_cases k no_cases h = tt
    fine_cases k (more_cases o b cs) h = let r = left (option_parts T k o ++ stmts_parts T k b) (cases_parts T k cs) h in (fine_option k o (left _ _ r), fine_stmts k [] b (right (option_parts T k o) _ r), fine_cases k cs (right (option_parts T k o ++ stmts_parts T k b) _ h))
