-- What several contexts allow of one tree together, a context allows that follows from them.
use Rattle.std.proofs.Common.{ℕ, Bool, true, false, List, [], ◌∷◌, Option, Some, None}
use Rattle.std.specs.Prelude.{is_some}
use Rattle.cc_ast.specs.Syntax.{Expr, lit, var, this, fun, list, object, unary, binary, and, or, cond, assign, step, member, index, call, new, comma, cast, tick, Target, to_var, to_member, to_index, Exprs, no_exprs, more_exprs, Fields, no_fields, more_fields, Declarator, ForInit, no_init, init_value, init_vars, ForTarget, in_target, in_declared, Stmt, simple, vars, fun_decl, if, while, do_while, for, for_in, return, throw, break, continue, label, switch, try, pay_stmt, Stmts, no_stmts, more_stmts, MaybeStmts, absent, present, Cases, no_cases, more_cases}
use Rattle.cc_ast.specs.declared.tree.Ref.{Ref}
use Rattle.cc_tied.specs.Fine.{Allowed, FineRead, Fine, FineTarget, FineAll, FineFields, FineOption, FineDeclarator, FineDeclarators, FineInit, FineNames, FineStmt, FineStmts, FineMaybe, FineCases}

module _ (I : Type 0) (C : I → Type 0) (A : (i : I) → Allowed (C i)) (X : Type 0) (D : Allowed X) where
  -- one context of each kind
  abbrev pub Each : Type 0
  Each = (i : I) → C i

  abbrev caught_each : Each → Each
  caught_each cs = λ i. (A i).caught (cs i)

  -- what all of them allow, D allows in a context at which they stand
  pub record Together (At : Each → X → Type 0) : Type 0 where
    pub caught : (cs : Each) (x : X) → At cs x → At (caught_each cs) (D.caught x)
    pub reads : (cs : Each) (x : X) → At cs x → (r : Ref) → ((i : I) → (A i).reads (cs i) r) → D.reads x r
    pub writes : (cs : Each) (x : X) → At cs x → (r : Ref) → ((i : I) → (A i).writes (cs i) r) → D.writes x r
    pub binds : (cs : Each) (x : X) → At cs x → (r : Ref) (f : ℕ) → ((i : I) → (A i).binds (cs i) r f) → D.binds x r f
    pub sets : (cs : Each) (x : X) → At cs x → (r : Ref) (v : Option Expr) → ((i : I) → (A i).sets (cs i) r v) → D.sets x r v
    pub this_here : (cs : Each) (x : X) → At cs x → ((i : I) → (A i).this_here (cs i)) → D.this_here x
    pub makes : (cs : Each) (x : X) → At cs x → (f : ℕ) → ((i : I) → (A i).makes (cs i) f) → D.makes x f
    pub stands : (cs : Each) (x : X) → At cs x → (ls : List (List ℕ)) (s : Stmt) → ((i : I) → (A i).stands (cs i) ls s) → D.stands x ls s

  module _ (At : Each → X → Type 0) (T : Together At) where
    read_together : (cs : Each) (x : X) → At cs x → (b : Bool) (r : Ref) → ((i : I) → FineRead (C i) (A i) (cs i) b r) → FineRead X D x b r
    unfolding FineRead
    read_together cs x a true r h = T.reads cs x a r h
    read_together cs x a false r h = tt

    module _ (cs : Each) (x : X) (a : At cs x) where
      mutual
        unfolding Fine

        expr_together : (e : Expr) → ((i : I) → Fine (C i) (A i) (cs i) e) → Fine X D x e
        expr_together (lit i p) h = tt
        expr_together (var i r) h = T.reads cs x a r h
        expr_together (this i) h = T.this_here cs x a h
        expr_together (fun i f) h = T.makes cs x a f h
        expr_together (list i es) h = all_together es h
        expr_together (object i fs) h = fields_together fs h
        expr_together (unary i op e) h = expr_together e h
        expr_together (binary i op e k) h = (expr_together e (λ j. (h j).0), expr_together k (λ j. (h j).1))
        expr_together (and i e k) h = (expr_together e (λ j. (h j).0), expr_together k (λ j. (h j).1))
        expr_together (or i e k) h = (expr_together e (λ j. (h j).0), expr_together k (λ j. (h j).1))
        expr_together (cond i t e k) h = (expr_together t (λ j. (h j).0), expr_together e (λ j. (h j).1), expr_together k (λ j. (h j).2))
        expr_together (assign i op u e) h = (target_together (is_some op) u (λ j. (h j).0), expr_together e (λ j. (h j).1))
        expr_together (step i up prefix u) h = target_together true u h
        expr_together (member i e p) h = expr_together e h
        expr_together (index i e k) h = (expr_together e (λ j. (h j).0), expr_together k (λ j. (h j).1))
        expr_together (call i f es) h = (expr_together f (λ j. (h j).0), all_together es (λ j. (h j).1))
        expr_together (new i f es) h = (expr_together f (λ j. (h j).0), all_together es (λ j. (h j).1))
        expr_together (comma i e k) h = (expr_together e (λ j. (h j).0), expr_together k (λ j. (h j).1))
        expr_together (cast i d e) h = expr_together e h
        expr_together (tick i n e) h = expr_together e h

        target_together : (b : Bool) (u : Target) → ((i : I) → FineTarget (C i) (A i) (cs i) b u) → FineTarget X D x b u
        target_together b (to_var i r) h = (read_together cs x a b r (λ j. (h j).0), T.writes cs x a r (λ j. (h j).1))
        target_together b (to_member i e p) h = expr_together e h
        target_together b (to_index i e k) h = (expr_together e (λ j. (h j).0), expr_together k (λ j. (h j).1))

        all_together : (es : Exprs) → ((i : I) → FineAll (C i) (A i) (cs i) es) → FineAll X D x es
        all_together no_exprs h = tt
        all_together (more_exprs e es) h = (expr_together e (λ j. (h j).0), all_together es (λ j. (h j).1))

        fields_together : (fs : Fields) → ((i : I) → FineFields (C i) (A i) (cs i) fs) → FineFields X D x fs
        fields_together no_fields h = tt
        fields_together (more_fields k e fs) h = (expr_together e (λ j. (h j).0), fields_together fs (λ j. (h j).1))

      option_together : (o : Option Expr) → ((i : I) → FineOption (C i) (A i) (cs i) o) → FineOption X D x o
      unfolding FineOption
      option_together None h = tt
      option_together (Some e) h = expr_together e h

      declarator_together : (d : Declarator) → ((i : I) → FineDeclarator (C i) (A i) (cs i) d) → FineDeclarator X D x d
      unfolding FineDeclarator
      declarator_together d h = (T.sets cs x a d.variable d.value (λ j. (h j).0), option_together d.value (λ j. (h j).1))

      declarators_together : (ds : List Declarator) → ((i : I) → FineDeclarators (C i) (A i) (cs i) ds) → FineDeclarators X D x ds
      unfolding FineDeclarators
      declarators_together [] h = tt
      declarators_together (d ∷ ds) h = (declarator_together d (λ j. (h j).0), declarators_together ds (λ j. (h j).1))

      init_together : (n : ForInit) → ((i : I) → FineInit (C i) (A i) (cs i) n) → FineInit X D x n
      unfolding FineInit
      init_together no_init h = tt
      init_together (init_value e) h = expr_together e h
      init_together (init_vars ds) h = declarators_together ds h

      names_together : (u : ForTarget) → ((i : I) → FineNames (C i) (A i) (cs i) u) → FineNames X D x u
      unfolding FineNames
      names_together (in_target u) h = target_together false u h
      names_together (in_declared d) h = (T.writes cs x a d.variable (λ j. (h j).0), declarator_together d (λ j. (h j).1))

    mutual
      unfolding FineStmt

      stmt_together : (cs : Each) (x : X) → At cs x → (ls : List (List ℕ)) (s : Stmt) → ((i : I) → FineStmt (C i) (A i) (cs i) ls s) → FineStmt X D x ls s
      stmt_together cs x a ls (simple i e) h = expr_together cs x a e h
      stmt_together cs x a ls (vars i ds) h = declarators_together cs x a ds h
      stmt_together cs x a ls (fun_decl i r f) h = (T.binds cs x a r f (λ j. (h j).0), T.makes cs x a f (λ j. (h j).1))
      stmt_together cs x a ls (if i e b k) h = (expr_together cs x a e (λ j. (h j).0), stmts_together cs x a [] b (λ j. (h j).1), stmts_together cs x a [] k (λ j. (h j).2))
      stmt_together cs x a ls (while i e b) h = (expr_together cs x a e (λ j. (h j).0), stmts_together cs x a [] b (λ j. (h j).1))
      stmt_together cs x a ls (do_while i b e) h = (stmts_together cs x a [] b (λ j. (h j).0), expr_together cs x a e (λ j. (h j).1))
      stmt_together cs x a ls (for i n e o b) h = (init_together cs x a n (λ j. (h j).0), option_together cs x a e (λ j. (h j).1), option_together cs x a o (λ j. (h j).2), stmts_together cs x a [] b (λ j. (h j).3))
      stmt_together cs x a ls (for_in i u e b) h = (names_together cs x a u (λ j. (h j).0), expr_together cs x a e (λ j. (h j).1), stmts_together cs x a [] b (λ j. (h j).2))
      stmt_together cs x a ls (return i o) h = option_together cs x a o h
      stmt_together cs x a ls (throw i e) h = expr_together cs x a e h
      stmt_together cs x a ls (break i l) h = tt
      stmt_together cs x a ls (continue i l) h = tt
      stmt_together cs x a ls (label i l b) h = stmts_together cs x a (l ∷ ls) b h
      stmt_together cs x a ls (switch i e ks) h = (expr_together cs x a e (λ j. (h j).0), cases_together cs x a ks (λ j. (h j).1))
      stmt_together cs x a ls (try i b k f) h = (stmts_together cs x a [] b (λ j. (h j).0), maybe_together (caught_each cs) (D.caught x) (T.caught cs x a) k (λ j. (h j).1), maybe_together cs x a f (λ j. (h j).2))
      stmt_together cs x a ls (pay_stmt i n) h = tt

      pub stmts_together : (cs : Each) (x : X) → At cs x → (ls : List (List ℕ)) (ss : Stmts) → ((i : I) → FineStmts (C i) (A i) (cs i) ls ss) → FineStmts X D x ls ss
      stmts_together cs x a ls no_stmts h = tt
      stmts_together cs x a ls (more_stmts s ss) h = (T.stands cs x a ls s (λ j. (h j).0), stmt_together cs x a ls s (λ j. (h j).1), stmts_together cs x a ls ss (λ j. (h j).2))

      maybe_together : (cs : Each) (x : X) → At cs x → (k : MaybeStmts) → ((i : I) → FineMaybe (C i) (A i) (cs i) k) → FineMaybe X D x k
      maybe_together cs x a absent h = tt
      maybe_together cs x a (present b) h = stmts_together cs x a [] b h

      cases_together : (cs : Each) (x : X) → At cs x → (ks : Cases) → ((i : I) → FineCases (C i) (A i) (cs i) ks) → FineCases X D x ks
      cases_together cs x a no_cases h = tt
      cases_together cs x a (more_cases o b ks) h = (option_together cs x a o (λ j. (h j).0), stmts_together cs x a [] b (λ j. (h j).1), cases_together cs x a ks (λ j. (h j).2))
