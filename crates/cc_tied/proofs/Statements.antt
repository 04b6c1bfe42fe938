-- Each statement keeps a relation between runs.
use Rattle.std.proofs.Common.{◌≡◌, refl, ap, ◌∙◌, ℕ, suc, Bool, true, false, List, [], ◌∷◌, Option, Some, None, subst, arith}
use Rattle.cc_ast.specs.Syntax.{Prim, undefined, Expr, lit, Declarator, ForInit, no_init, init_value, init_vars, Target, ForTarget, in_target, in_declared, Stmt, simple, vars, fun_decl, if, while, do_while, for, for_in, return, throw, break, continue, label, switch, try, pay_stmt, Stmts, no_stmts, more_stmts, MaybeStmts, absent, present, Cases, no_cases, more_cases}
use Rattle.cc_ast.specs.declared.tree.Ref.{Ref}
use Rattle.cc_meaning.specs.Values.{Val, prim, at_site}
use Rattle.cc_meaning.specs.Operators.{truthy, strict_equal}
use Rattle.cc_meaning.specs.State.{Env}
use Rattle.cc_meaning.specs.Monad.{M, skip, ◌>>=◌, Way, Mode}
use Rattle.cc_meaning.specs.Acts.{probe, write_var}
use Rattle.cc_meaning.specs.Calls.{Bodies}
use Rattle.cc_meaning.specs.Shapes.{path_of_ref}
use Rattle.cc_meaning.specs.Meaning.{Comp, returns, breaks, continues, next, labelled, unbroken, each_name, value_at, test_at, only_run, set_variable, declare, begin_for, begin_names, put_name, hoist_one, hoist, thrown_at, ex, exs, ex_catch, ex_finally, ex_cases, run_cases}
use Rattle.cc_tied.specs.Tied.{prim_t, went_t, thrown_t, returns_t, breaks_t, continues_t}
use Rattle.cc_tied.proofs.Kit.{Kit}
use Rattle.cc_tied.proofs.Parts.{V, CompV, WayV, Done, Equal, SiteT, Below, val_later, way_later, truthy_tied, rel_pick, rel_skip}
use Rattle.cc_tied.proofs.Judged.{rel_probe_on, rel_walk_on}
use Rattle.cc_tied.proofs.Ends.{normal_end, rel_next, labelled_tied, unbroken_tied, rel_resume, rel_turns, rel_do_turns, rel_each}
use Rattle.cc_tied.proofs.Laws.{ret_bind}
use Rattle.cc_tied.proofs.Expressions.{value_literal, FollowsAs, Follows, FollowsTarget, rel_put_place}

-- a statement that declares a function
unfoldable pub declares_function : Stmt → Bool
declares_function (fun_decl i r f) = true
declares_function _ = false

pub hoists_nothing : (J : Mode) (g : Env) (s : Stmt) → declares_function s ≡ false → hoist_one J g s ≡ skip
unfolding hoist_one declares_function
hoists_nothing J g (fun_decl i r f) e = absurd (cc)
hoists_nothing J g (simple i e1) e = refl
hoists_nothing J g (vars i ds) e = refl
hoists_nothing J g (if i t a b) e = refl
hoists_nothing J g (while i t b) e = refl
hoists_nothing J g (do_while i b t) e = refl
hoists_nothing J g (for i h t k b) e = refl
hoists_nothing J g (for_in i t k b) e = refl
hoists_nothing J g (return i o) e = refl
hoists_nothing J g (throw i k) e = refl
hoists_nothing J g (break i l) e = refl
hoists_nothing J g (continue i l) e = refl
hoists_nothing J g (label i l b) e = refl
hoists_nothing J g (switch i k cs) e = refl
hoists_nothing J g (try i b k f) e = refl
hoists_nothing J g (pay_stmt i p) e = refl

sets_literal : (J : Mode) (B : Bodies) (g : Env) (i : ℕ) (r : Ref) (j : ℕ) (p : Prim) → set_variable J B g i r (Some (lit j p)) ≡ write_var J (at_site i) g r (prim p)
unfolding set_variable
sets_literal J B g i r j p = ap (λ z. z >>= λ v. write_var J (at_site i) g r v) (value_literal J B g (path_of_ref r) j p) ∙ ret_bind (prim p) (λ v. write_var J (at_site i) g r v)

module _ (K : Kit) (X : Below K) where
  open K use {J, J', World, Later, later, now, bound, bound', Ctx, in_catch, StandT, WriteT, SetT, EnvT, env_later, Rel, rel_ret, rel_bind, rel_raise, rel_attempt, rel_mark, rel_budget, rel_equal, rel_function, rel_write_var, rel_set_var, rel_catch}
  open X use {B, B', w}

  -- ---- what each part of a statement keeps, under its labels

  pub record FollowsStmt (c : Ctx) (ls : List (List ℕ)) (s s' : Stmt) : Type 0 where
    pub by : (v : World) → Later w v → (g g' : Env) → EnvT c v g g' → Rel (CompV K) v (ex J B g ls s) (ex J' B' g' ls s')

  pub record FollowsStmts (c : Ctx) (ls : List (List ℕ)) (ss ss' : Stmts) : Type 0 where
    pub by : (v : World) → Later w v → (g g' : Env) → EnvT c v g g' → Rel (CompV K) v (exs J B g ls ss) (exs J' B' g' ls ss')

  pub record FollowsHoistOne (c : Ctx) (s s' : Stmt) : Type 0 where
    pub by : (v : World) → Later w v → (g g' : Env) → EnvT c v g g' → Rel (Done K) v (hoist_one J g s) (hoist_one J' g' s')

  pub record FollowsHoist (c : Ctx) (ss ss' : Stmts) : Type 0 where
    pub by : (v : World) → Later w v → (g g' : Env) → EnvT c v g g' → Rel (Done K) v (hoist J g ss) (hoist J' g' ss')

  -- a declarator sets its variable where it has a value
  pub record FollowsSet (c : Ctx) (d d' : Declarator) : Type 0 where
    pub by : (v : World) → Later w v → (g g' : Env) → EnvT c v g g' → Rel (Done K) v (set_variable J B g d.site d.variable d.value) (set_variable J' B' g' d'.site d'.variable d'.value)

  pub record FollowsDecls (c : Ctx) (ds ds' : List Declarator) : Type 0 where
    pub by : (v : World) → Later w v → (g g' : Env) → EnvT c v g g' → Rel (Done K) v (declare J B g ds) (declare J' B' g' ds')

  pub record FollowsInit (c : Ctx) (h h' : ForInit) : Type 0 where
    pub by : (v : World) → Later w v → (g g' : Env) → EnvT c v g g' → Rel (Done K) v (begin_for J B g h) (begin_for J' B' g' h')

  pub record FollowsNames (c : Ctx) (t t' : ForTarget) : Type 0 where
    pub begins : (v : World) → Later w v → (g g' : Env) → EnvT c v g g' → Rel (Done K) v (begin_names J B g t) (begin_names J' B' g' t')
    pub puts : (v : World) → Later w v → (g g' : Env) → EnvT c v g g' → (n : List ℕ) → Rel (Done K) v (put_name J B g t n) (put_name J' B' g' t' n)

  pub record FollowsTest (c : Ctx) (o o' : Option Expr) : Type 0 where
    pub by : (v : World) → Later w v → (g g' : Env) → EnvT c v g g' → Rel (Equal K) v (test_at J B g o) (test_at J' B' g' o')

  pub record FollowsOnly (c : Ctx) (o o' : Option Expr) : Type 0 where
    pub by : (v : World) → Later w v → (g g' : Env) → EnvT c v g g' → Rel (Done K) v (only_run J B g o) (only_run J' B' g' o')

  pub record FollowsCatch (c : Ctx) (k k' : MaybeStmts) : Type 0 where
    pub by : (v : World) → Later w v → (g g' : Env) → EnvT c v g g' → {a b : Way Comp} → WayV K v a b → Rel (CompV K) v (ex_catch J B g k a) (ex_catch J' B' g' k' b)

  pub record FollowsFinally (c : Ctx) (f f' : MaybeStmts) : Type 0 where
    pub by : (v : World) → Later w v → (g g' : Env) → EnvT c v g g' → {m m' : M Comp} → Rel (CompV K) v m m' → Rel (CompV K) v (ex_finally J B g f m) (ex_finally J' B' g' f' m')

  -- the clauses of a `switch` on tied values, where what stands for no clause is tied, and their bodies from the first on
  pub record FollowsCases (c : Ctx) (cs cs' : Cases) : Type 0 where
    pub tests : (v : World) → Later w v → (g g' : Env) → EnvT c v g g' → {x x' : Val} → V K v x x' → {m m' : M Comp} → ((u : World) → Later v u → Rel (CompV K) u m m') → Rel (CompV K) v (ex_cases J B g x cs m) (ex_cases J' B' g' x' cs' m')
    pub runs : (v : World) → Later w v → (g g' : Env) → EnvT c v g g' → Rel (CompV K) v (run_cases J B g cs) (run_cases J' B' g' cs')

  -- the body of a function
  pub record FollowsBody (c : Ctx) (ss ss' : Stmts) : Type 0 where
    pub hoist : FollowsHoist c ss ss'
    pub runs : FollowsStmts c [] ss ss'

  module _ (c : Ctx) where
    -- ---- values

    pub follows_no_test : FollowsTest c None None
    unfolding test_at
    follows_no_test = record { by = λ v l g g' t. rel_ret true true refl }

    pub follows_test : {e e' : Expr} → Follows K X c e e' → FollowsTest c (Some e) (Some e')
    unfolding test_at value_at
    follows_test h = record { by = λ v l g g' t. rel_bind (h.by v l g g' t) (λ v2 l2 x x' r. rel_ret (truthy x) (truthy x') (truthy_tied K r)) }

    pub follows_no_only : FollowsOnly c None None
    unfolding only_run
    follows_no_only = record { by = λ v l g g' t. rel_skip K }

    pub follows_only : {e e' : Expr} → Follows K X c e e' → FollowsOnly c (Some e) (Some e')
    unfolding only_run value_at
    follows_only h = record { by = λ v l g g' t. rel_bind (h.by v l g g' t) (λ v2 l2 x x' r. rel_skip K) }

    -- ---- declarators

    pub follows_bare : {i i' : ℕ} {r r' : Ref} → FollowsSet c (record { site = i; variable = r; value = None }) (record { site = i'; variable = r'; value = None })
    unfolding set_variable
    follows_bare = record { by = λ v l g g' t. rel_skip K }

    pub follows_set : {i i' : ℕ} → SiteT K i i' → {r r' : Ref} {e e' : Expr} → WriteT c r r' → FollowsAs K X (V K) c (path_of_ref r) (path_of_ref r') e e' → FollowsSet c (record { site = i; variable = r; value = Some e }) (record { site = i'; variable = r'; value = Some e' })
    unfolding set_variable
    follows_set s wt h = record { by = λ v l g g' t. rel_bind (h.by v l g g' t) (λ v2 l2 x x' r. rel_write_var s (env_later l2 t) wt r) }

    -- a variable that is set by its declaration alone
    pub follows_set_literal : {i i' : ℕ} → SiteT K i i' → (j j' : ℕ) {r : Ref} {p : Prim} → SetT c r p → FollowsSet c (record { site = i; variable = r; value = Some (lit j p) }) (record { site = i'; variable = r; value = Some (lit j' p) })
    follows_set_literal s j j' {r = r} {p = p} h = record { by = λ v l g g' t. rw (sets_literal J B g _ r j p, sets_literal J' B' g' _ r j' p) (rel_set_var s t h) }

    pub follows_no_decls : FollowsDecls c [] []
    unfolding declare
    follows_no_decls = record { by = λ v l g g' t. rel_skip K }

    pub follows_more_decls : {d d' : Declarator} {ds ds' : List Declarator} → FollowsSet c d d' → FollowsDecls c ds ds' → FollowsDecls c (d ∷ ds) (d' ∷ ds')
    unfolding declare
    follows_more_decls h k = record { by = λ v l g g' t. rel_bind (h.by v l g g' t) (λ v2 l2 _ _ _. k.by v2 (later l l2) g g' (env_later l2 t)) }

    pub follows_no_init : FollowsInit c no_init no_init
    unfolding begin_for
    follows_no_init = record { by = λ v l g g' t. rel_skip K }

    pub follows_init_value : {e e' : Expr} → Follows K X c e e' → FollowsInit c (init_value e) (init_value e')
    unfolding begin_for value_at
    follows_init_value h = record { by = λ v l g g' t. rel_bind (h.by v l g g' t) (λ v2 l2 x x' r. rel_skip K) }

    pub follows_init_vars : {ds ds' : List Declarator} → FollowsDecls c ds ds' → FollowsInit c (init_vars ds) (init_vars ds')
    unfolding begin_for
    follows_init_vars h = record { by = λ v l g g' t. h.by v l g g' t }

    -- ---- hoisting

    pub hoist_no : FollowsHoist c no_stmts no_stmts
    unfolding hoist
    hoist_no = record { by = λ v l g g' t. rel_skip K }

    pub hoist_more : {s s' : Stmt} {ss ss' : Stmts} → FollowsHoistOne c s s' → FollowsHoist c ss ss' → FollowsHoist c (more_stmts s ss) (more_stmts s' ss')
    unfolding hoist
    hoist_more h k = record { by = λ v l g g' t. rel_bind (h.by v l g g' t) (λ v2 l2 _ _ _. k.by v2 (later l l2) g g' (env_later l2 t)) }

    pub hoist_fun : {i i' : ℕ} → SiteT K i i' → {r r' : Ref} {f f' : ℕ} → StandT c f f' → WriteT c r r' → FollowsHoistOne c (fun_decl i r f) (fun_decl i' r' f')
    unfolding hoist_one
    hoist_fun s ft wt = record { by = λ v l g g' t. rel_bind (rel_function s ft t) (λ v2 l2 x x' r. rel_write_var s (env_later l2 t) wt r) }

    pub hoist_other : (s s' : Stmt) → declares_function s ≡ false → declares_function s' ≡ false → FollowsHoistOne c s s'
    hoist_other s s' e e' = record { by = λ v l g g' t. rw (hoists_nothing J g s e, hoists_nothing J' g' s' e') (rel_skip K) }

    -- ---- simple statements

    pub follows_simple : {ls : List (List ℕ)} {i i' : ℕ} {e e' : Expr} → Follows K X c e e' → FollowsStmt c ls (simple i e) (simple i' e')
    unfolding ex value_at
    follows_simple h = record { by = λ v l g g' t. rel_bind (h.by v l g g' t) (λ v2 l2 x x' r. normal_end K) }

    pub follows_vars : {ls : List (List ℕ)} {i i' : ℕ} {ds ds' : List Declarator} → FollowsDecls c ds ds' → FollowsStmt c ls (vars i ds) (vars i' ds')
    unfolding ex
    follows_vars h = record { by = λ v l g g' t. rel_bind (h.by v l g g' t) (λ v2 l2 _ _ _. normal_end K) }

    pub follows_fun_decl : {ls : List (List ℕ)} {i i' : ℕ} {r r' : Ref} {f f' : ℕ} → FollowsStmt c ls (fun_decl i r f) (fun_decl i' r' f')
    unfolding ex
    follows_fun_decl = record { by = λ v l g g' t. normal_end K }

    pub follows_if : {ls : List (List ℕ)} {i i' : ℕ} {e e' : Expr} {a a' b b' : Stmts} → Follows K X c e e' → FollowsStmts c [] a a' → FollowsStmts c [] b b' → FollowsStmt c ls (if i e a b) (if i' e' a' b')
    unfolding ex value_at
    follows_if f h k = record { by = λ v l g g' t. rel_bind (f.by v l g g' t) (λ v2 l2 x x' r. rel_pick K (truthy x) (truthy x') (truthy_tied K r) (h.by v2 (later l l2) g g' (env_later l2 t)) (k.by v2 (later l l2) g g' (env_later l2 t))) }

    pub follows_return_none : {ls : List (List ℕ)} {i i' : ℕ} → SiteT K i i' → FollowsStmt c ls (return i None) (return i' None)
    unfolding ex
    follows_return_none {i = i} {i' = i'} s = record { by = λ v l g g' t. rel_ret (returns i (prim undefined)) (returns i' (prim undefined)) (returns_t s prim_t) }

    pub follows_return : {ls : List (List ℕ)} {i i' : ℕ} → SiteT K i i' → {e e' : Expr} → Follows K X c e e' → FollowsStmt c ls (return i (Some e)) (return i' (Some e'))
    unfolding ex value_at
    follows_return {i = i} {i' = i'} s h = record { by = λ v l g g' t. rel_bind (h.by v l g g' t) (λ v2 l2 x x' r. rel_ret (returns i x) (returns i' x') (returns_t s r)) }

    pub follows_throw : {ls : List (List ℕ)} {i i' : ℕ} {e e' : Expr} → Follows K X c e e' → FollowsStmt c ls (throw i e) (throw i' e')
    unfolding ex value_at thrown_at
    follows_throw h = record { by = λ v l g g' t. rel_bind (h.by v l g g' t) (λ v2 l2 x x' r. rel_raise r) }

    pub follows_break : {ls : List (List ℕ)} {i i' : ℕ} (j : Option (List ℕ)) → FollowsStmt c ls (break i j) (break i' j)
    unfolding ex
    follows_break j = record { by = λ v l g g' t. rel_ret (breaks j) (breaks j) breaks_t }

    pub follows_continue : {ls : List (List ℕ)} {i i' : ℕ} (j : Option (List ℕ)) → FollowsStmt c ls (continue i j) (continue i' j)
    unfolding ex
    follows_continue j = record { by = λ v l g g' t. rel_ret (continues j) (continues j) continues_t }

    pub follows_label : {ls : List (List ℕ)} {i i' : ℕ} (j : List ℕ) {b b' : Stmts} → FollowsStmts c (j ∷ ls) b b' → FollowsStmt c ls (label i j b) (label i' j b')
    unfolding ex
    follows_label j k = record { by = λ v l g g' t. rel_bind (k.by v l g g' t) (λ v2 l2 a b r. rel_ret (labelled j a) (labelled j b) (labelled_tied K j r)) }

    pub follows_pay : {ls : List (List ℕ)} {i i' : ℕ} (p : ℕ) → FollowsStmt c ls (pay_stmt i p) (pay_stmt i' p)
    unfolding ex
    follows_pay p = record { by = λ v l g g' t. rel_bind (rel_mark p) (λ v2 l2 _ _ _. normal_end K) }

    -- ---- lists

    pub follows_no_stmts : {ls : List (List ℕ)} → FollowsStmts c ls no_stmts no_stmts
    unfolding ex
    follows_no_stmts = record { by = λ v l g g' t. normal_end K }

    pub follows_more_stmts : {ls : List (List ℕ)} {s s' : Stmt} {ss ss' : Stmts} → FollowsStmt c ls s s' → FollowsStmts c ls ss ss' → FollowsStmts c ls (more_stmts s ss) (more_stmts s' ss')
    unfolding ex
    follows_more_stmts h k = record { by = λ v l g g' t. rel_bind (h.by v l g g' t) (λ v2 l2 a b r. rel_next K r (k.by v2 (later l l2) g g' (env_later l2 t))) }

    -- ---- loops

    pub follows_while : {ls : List (List ℕ)} {i i' : ℕ} {e e' : Expr} {b b' : Stmts} → FollowsTest c (Some e) (Some e') → FollowsStmts c [] b b' → FollowsStmt c ls (while i e b) (while i' e' b')
    unfolding ex
    follows_while {ls = ls} h k = record { by = λ v l g g' t. rel_budget (λ v2 l2 n n' le le'. rel_turns K ls (suc n) (suc n') v2 (omega arith) (omega arith) (λ u lu. h.by u (later l (later l2 lu)) g g' (env_later (later l2 lu) t)) (λ u lu. rel_skip K) (λ u lu. k.by u (later l (later l2 lu)) g g' (env_later (later l2 lu) t))) }

    pub follows_do_while : {ls : List (List ℕ)} {i i' : ℕ} {e e' : Expr} {b b' : Stmts} → FollowsStmts c [] b b' → FollowsTest c (Some e) (Some e') → FollowsStmt c ls (do_while i b e) (do_while i' b' e')
    unfolding ex
    follows_do_while {ls = ls} k h = record { by = λ v l g g' t. rel_budget (λ v2 l2 n n' le le'. rel_do_turns K ls (suc n) (suc n') v2 (omega arith) (omega arith) (λ u lu. h.by u (later l (later l2 lu)) g g' (env_later (later l2 lu) t)) (λ u lu. k.by u (later l (later l2 lu)) g g' (env_later (later l2 lu) t))) }

    pub follows_for : {ls : List (List ℕ)} {i i' : ℕ} {h h' : ForInit} {e e' o o' : Option Expr} {b b' : Stmts} → FollowsInit c h h' → FollowsTest c e e' → FollowsOnly c o o' → FollowsStmts c [] b b' → FollowsStmt c ls (for i h e o b) (for i' h' e' o' b')
    unfolding ex
    follows_for {ls = ls} hi he ho k = record { by = λ v l g g' t. rel_bind (hi.by v l g g' t) (λ v1 l1 _ _ _. rel_budget (λ v2 l2 n n' le le'. rel_turns K ls (suc n) (suc n') v2 (omega arith) (omega arith) (λ u lu. he.by u (later l (later l1 (later l2 lu))) g g' (env_later (later l1 (later l2 lu)) t)) (λ u lu. ho.by u (later l (later l1 (later l2 lu))) g g' (env_later (later l1 (later l2 lu)) t)) (λ u lu. k.by u (later l (later l1 (later l2 lu))) g g' (env_later (later l1 (later l2 lu)) t)))) }

    -- ---- `for-in`

    pub follows_in_target : {Reads : Ref → Ref → Type 0} {u u' : Target} → FollowsTarget K X c Reads u u' → FollowsNames c (in_target u) (in_target u')
    unfolding begin_names put_name
    follows_in_target h = record {
      begins = λ v l g g' t. rel_skip K;
      puts = λ v l g g' t n. rel_bind (h.by v l g g' t) (λ v2 l2 a b q. rel_put_place K X c (env_later l2 t) q prim_t);
    }

    pub follows_in_declared : {d d' : Declarator} → SiteT K d.site d'.site → WriteT c d.variable d'.variable → FollowsSet c d d' → FollowsNames c (in_declared d) (in_declared d')
    unfolding begin_names put_name
    follows_in_declared s wt h = record {
      begins = λ v l g g' t. h.by v l g g' t;
      puts = λ v l g g' t n. rel_write_var s t wt prim_t;
    }

    pub follows_for_in : {ls : List (List ℕ)} {i i' : ℕ} → SiteT K i i' → {u u' : ForTarget} {e e' : Expr} {b b' : Stmts} → FollowsNames c u u' → Follows K X c e e' → FollowsStmts c [] b b' → FollowsStmt c ls (for_in i u e b) (for_in i' u' e' b')
    unfolding ex value_at
    follows_for_in {ls = ls} {i = i} {i' = i'} s {u = u} {u' = u'} {b = b} {b' = b'} hu h k = record {
      by = λ v l g g' t.
          rel_bind (hu.begins v l g g' t) (λ v2 l2 _ _ _.
          rel_bind (h.by v2 (later l l2) g g' (env_later l2 t)) (λ v3 l3 x x' q.
          rel_bind (rel_walk_on K s q) (λ v4 l4 ns ns' e.
          subst (λ z. Rel (CompV K) v4 (each_name ls (probe J (at_site i) x) (put_name J B g u) (exs J B g [] b) ns) (each_name ls (probe J' (at_site i') x') (put_name J' B' g' u') (exs J' B' g' [] b') z)) e
          (rel_each K ls ns (λ v5 l5 n. rel_probe_on K s (val_later K (later l4 l5) q) n) (λ v5 l5 n. hu.puts v5 (later l (later l2 (later l3 (later l4 l5)))) g g' (env_later (later l2 (later l3 (later l4 l5))) t) n) (λ v5 l5. k.by v5 (later l (later l2 (later l3 (later l4 l5)))) g g' (env_later (later l2 (later l3 (later l4 l5))) t))))));
    }

    -- ---- `switch`

    pub follows_no_cases : FollowsCases c no_cases no_cases
    unfolding ex
    follows_no_cases = record { tests = λ v l g g' t q m. m v (now v); runs = λ v l g g' t. normal_end K }

    -- the bodies from a clause on
    runs_on : {b b' : Stmts} {cs cs' : Cases} → FollowsStmts c [] b b' → FollowsCases c cs cs' → (v : World) → Later w v → (g g' : Env) → EnvT c v g g' → Rel (CompV K) v (exs J B g [] b >>= λ k. next k (run_cases J B g cs)) (exs J' B' g' [] b' >>= λ k. next k (run_cases J' B' g' cs'))
    runs_on h k v l g g' t = rel_bind (h.by v l g g' t) (λ v2 l2 a b r. rel_next K r (k.runs v2 (later l l2) g g' (env_later l2 t)))

    pub follows_default : {b b' : Stmts} {cs cs' : Cases} → FollowsStmts c [] b b' → FollowsCases c cs cs' → FollowsCases c (more_cases None b cs) (more_cases None b' cs')
    unfolding ex
    follows_default h k = record { tests = λ v l g g' t q m. k.tests v l g g' t q (λ u lu. runs_on h k u (later l lu) g g' (env_later lu t)); runs = λ v l g g' t. runs_on h k v l g g' t }

    pub follows_case : {e e' : Expr} {b b' : Stmts} {cs cs' : Cases} → Follows K X c e e' → FollowsStmts c [] b b' → FollowsCases c cs cs' → FollowsCases c (more_cases (Some e) b cs) (more_cases (Some e') b' cs')
    unfolding ex value_at
    follows_case f h k = record {
      tests = λ v l g g' t {x} {x'} q m. rel_bind (f.by v l g g' t) (λ v2 l2 y y' r. rel_equal (val_later K l2 q) r (λ e. rel_pick K (strict_equal x y) (strict_equal x' y') e (runs_on h k v2 (later l l2) g g' (env_later l2 t)) (k.tests v2 (later l l2) g g' (env_later l2 t) (val_later K l2 q) (λ u lu. m u (later l2 lu)))));
      runs = λ v l g g' t. runs_on h k v l g g' t;
    }

    pub follows_switch : {ls : List (List ℕ)} {i i' : ℕ} {e e' : Expr} {cs cs' : Cases} → Follows K X c e e' → FollowsCases c cs cs' → FollowsStmt c ls (switch i e cs) (switch i' e' cs')
    unfolding ex value_at
    follows_switch h k = record { by = λ v l g g' t. rel_bind (h.by v l g g' t) (λ v2 l2 x x' r. rel_bind (k.tests v2 (later l l2) g g' (env_later l2 t) r (λ u lu. normal_end K)) (λ v3 l3 a b q. rel_ret (unbroken a) (unbroken b) (unbroken_tied K q))) }

    -- ---- `try`

    pub follows_no_catch : FollowsCatch c absent absent
    unfolding ex
    follows_no_catch = record { by = λ v l g g' t r. rel_resume K r }

    rel_caught : {b b' : Stmts} → FollowsStmts (in_catch c) [] b b' → {v : World} → Later w v → {g g' : Env} → EnvT c v g g' → {x y : Way Comp} → WayV K v x y → Rel (CompV K) v (ex_catch J B g (present b) x) (ex_catch J' B' g' (present b') y)
    unfolding ex
    rel_caught k l t (went_t {a = x} {b = x'} q) = rel_ret x x' q
    rel_caught k l {g = g} {g' = g'} t (thrown_t q) = rel_bind (rel_catch t q) (λ v2 l2 m n et. k.by v2 (later l l2) _ _ et)

    pub follows_catch : {b b' : Stmts} → FollowsStmts (in_catch c) [] b b' → FollowsCatch c (present b) (present b')
    follows_catch k = record { by = λ v l g g' t q. rel_caught k l t q }

    pub follows_no_finally : FollowsFinally c absent absent
    unfolding ex
    follows_no_finally = record { by = λ v l g g' t h. h }

    pub follows_finally : {b b' : Stmts} → FollowsStmts c [] b b' → FollowsFinally c (present b) (present b')
    unfolding ex
    follows_finally k = record { by = λ v l g g' t h. rel_bind (rel_attempt h) (λ v2 l2 a a' q. rel_bind (k.by v2 (later l l2) g g' (env_later l2 t)) (λ v3 l3 e e' r. rel_next K r (rel_resume K (way_later K l3 q)))) }

    pub follows_try : {ls : List (List ℕ)} {i i' : ℕ} {b b' : Stmts} {k k' f f' : MaybeStmts} → FollowsStmts c [] b b' → FollowsCatch c k k' → FollowsFinally c f f' → FollowsStmt c ls (try i b k f) (try i' b' k' f')
    unfolding ex
    follows_try hb hk hf = record { by = λ v l g g' t. hf.by v l g g' t (rel_bind (rel_attempt (hb.by v l g g' t)) (λ v2 l2 a a' q. hk.by v2 (later l l2) g g' (env_later l2 t) q)) }
