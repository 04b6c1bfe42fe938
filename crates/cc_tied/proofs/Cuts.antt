-- Lists of statements, joined and cut: what follows a jump is never reached, and a statement may become a list.
use Rattle.std.proofs.Common.{◌≡◌, refl, sym, ap, subst, ◌∙◌, ℕ, List, [], Option, Some, None}
use Rattle.cc_ast.specs.Syntax.{Prim, undefined, Expr, Stmt, vars, return, throw, break, continue, Stmts, no_stmts, more_stmts}
use Rattle.cc_meaning.specs.Values.{prim}
use Rattle.cc_meaning.specs.State.{Env}
use Rattle.cc_meaning.specs.Monad.{M, ret, raise, ◌>>=◌, with_tables, Mode}
use Rattle.cc_meaning.specs.Calls.{Bodies}
use Rattle.cc_meaning.specs.Meaning.{Comp, normal, returns, breaks, continues, next, thrown_at, value_at, declare, ex, exs, ex_chunk}
use Rattle.cc_meaning.specs.Shapes.{declared_by}
use Rattle.cc_meaning.specs.Script.{top}
use Rattle.cc_tied.specs.Rewrites.{splice}
use Rattle.cc_tied.proofs.Kit.{Kit}
use Rattle.cc_tied.proofs.Parts.{CompV, Below}
use Rattle.cc_tied.proofs.Laws.{bind_assoc, ret_bind, raise_bind, bind_alike, tables_alike}
use Rattle.cc_tied.proofs.Statements.{FollowsStmt, FollowsStmts, follows_more_stmts, follows_no_stmts}
use Rattle.cc_tied.proofs.Turns.{FollowsChunk, follows_more_chunk}

-- a statement that never ends normally
pub data Jumps : Stmt → Type 0 where
  a_return : {i : ℕ} {o : Option Expr} → Jumps (return i o)
  a_throw : {i : ℕ} {e : Expr} → Jumps (throw i e)
  a_break : {i : ℕ} {l : Option (List ℕ)} → Jumps (break i l)
  a_continue : {i : ℕ} {l : Option (List ℕ)} → Jumps (continue i l)

module _ (J : Mode) (B : Bodies) (g : Env) (ls : List (List ℕ)) where
  on_returned : {A : Type 0} (m : M A) (f : A → Comp) → ((a : A) (k : M Comp) → next (f a) k ≡ ret (f a)) → (k : M Comp) → ((m >>= λ a. ret (f a)) >>= λ c. next c k) ≡ (m >>= λ a. ret (f a))
  on_returned m f e k = bind_assoc m (λ a. ret (f a)) (λ c. next c k) ∙ bind_alike m (λ a. ret (f a) >>= λ c. next c k) (λ a. ret (f a)) (λ a. ret_bind (f a) (λ c. next c k) ∙ e a k)

  -- what comes after a jump is nothing
  pub jump_ends : {s : Stmt} → Jumps s → (k : M Comp) → (ex J B g ls s >>= λ c. next c k) ≡ ex J B g ls s
  unfolding ex next value_at thrown_at
  jump_ends (a_return {i = i} {o = None}) k = ret_bind (returns i (prim undefined)) (λ c. next c k)
  jump_ends (a_return {i = i} {o = Some e}) k = on_returned (value_at J B g e) (λ v. returns i v) (λ v k. refl) k
  jump_ends (a_throw {e = e}) k = bind_assoc (value_at J B g e) (λ v. raise v) (λ c. next c k) ∙ bind_alike (value_at J B g e) (λ v. raise v >>= λ c. next c k) (λ v. raise v) (λ v. raise_bind v (λ c. next c k))
  jump_ends (a_break {l = l}) k = ret_bind (breaks l) (λ c. next c k)
  jump_ends (a_continue {l = l}) k = ret_bind (continues l) (λ c. next c k)

  after_jump : {s : Stmt} (ss ss' : Stmts) → Jumps s → exs J B g ls (more_stmts s ss) ≡ exs J B g ls (more_stmts s ss')
  unfolding ex
  after_jump ss ss' j = jump_ends j (exs J B g ls ss) ∙ sym (jump_ends j (exs J B g ls ss'))

  next_twice : (c : Comp) (m m' k : M Comp) → m' ≡ (m >>= λ d. next d k) → next c m' ≡ (next c m >>= λ d. next d k)
  unfolding next
  next_twice normal m m' k e = e
  next_twice (returns i v) m m' k e = sym (ret_bind (returns i v) (λ d. next d k))
  next_twice (breaks l) m m' k e = sym (ret_bind (breaks l) (λ d. next d k))
  next_twice (continues l) m m' k e = sym (ret_bind (continues l) (λ d. next d k))

  -- a list after a list
  pub runs_splice : (a b : Stmts) → exs J B g ls (splice a b) ≡ (exs J B g ls a >>= λ c. next c (exs J B g ls b))
  unfolding ex splice next
  runs_splice no_stmts b = sym (ret_bind normal (λ c. next c (exs J B g ls b)))
  runs_splice (more_stmts s a) b =
      bind_alike (ex J B g ls s) (λ c. next c (exs J B g ls (splice a b))) (λ c. next c (exs J B g ls a) >>= λ d. next d (exs J B g ls b)) (λ c. next_twice c (exs J B g ls a) (exs J B g ls (splice a b)) (exs J B g ls b) (runs_splice a b))
      ∙ sym (bind_assoc (ex J B g ls s) (λ c. next c (exs J B g ls a)) (λ d. next d (exs J B g ls b)))

module _ (K : Kit) (X : Below K) (c : K.Ctx) where
  open K use {J, J', Rel}
  open X use {B, B'}

  -- what follows a jump goes
  pub rest_goes : {ls : List (List ℕ)} {s s' : Stmt} {ss : Stmts} → Jumps s → FollowsStmt K X c ls s s' → FollowsStmts K X c ls (more_stmts s ss) (more_stmts s' no_stmts)
  rest_goes {ls = ls} {s' = s'} {ss = ss} j h = record { by = λ v l g g' t. subst (λ z. Rel (CompV K) v z (exs J' B' g' ls (more_stmts s' no_stmts))) (sym (after_jump J B g ls ss no_stmts j)) ((follows_more_stmts K X c h (follows_no_stmts K X c)).by v l g g' t) }

  -- a statement becomes a list that does the same
  pub becomes : {ls : List (List ℕ)} {s s' : Stmt} (a : Stmts) {ss ss' : Stmts} → ((g : Env) → ex J' B' g ls s' ≡ exs J' B' g ls a) → FollowsStmt K X c ls s s' → FollowsStmts K X c ls ss ss' → FollowsStmts K X c ls (more_stmts s ss) (splice a ss')
  unfolding ex
  becomes {ls = ls} {s = s} {s' = s'} a {ss = ss} {ss' = ss'} e h k = record { by = λ v l g g' t. subst (λ z. Rel (CompV K) v (exs J B g ls (more_stmts s ss)) z) (ap (λ z. z >>= λ c. next c (exs J' B' g' ls ss')) (e g') ∙ sym (runs_splice J' B' g' ls a ss')) ((follows_more_stmts K X c h k).by v l g g' t) }

-- ---- a statement of which no declarator is left

no_vars : (J : Mode) (B : Bodies) (g : Env) (ls : List (List ℕ)) (i : ℕ) → ex J B g ls (vars i []) ≡ ret normal
unfolding ex declare
no_vars J B g ls i = ret_bind tt (λ _. ret normal)

no_tables : {A : Type 0} (m : M A) → with_tables (λ T. m) ≡ m
unfolding with_tables
no_tables m = refl

no_vars_first : (J : Mode) (B : Bodies) (g : Env) (i : ℕ) (ss : Stmts) → ex_chunk J B g (more_stmts (vars i []) ss) ≡ ex_chunk J B g ss
unfolding ex_chunk next
no_vars_first J B g i ss =
    ap (λ z. z >>= λ c. next c (ex_chunk J B g ss)) (tables_alike (λ T. ex J B (record g { declares = declared_by T (vars i []) }) [] (vars i [])) (λ T. ret normal) (λ T. no_vars J B (record g { declares = declared_by T (vars i []) }) [] i) ∙ no_tables (ret normal))
    ∙ ret_bind normal (λ c. next c (ex_chunk J B g ss))

module _ (K : Kit) (X : Below K) where
  open K use {J, J', outer, DeclaresT, tables, tables', Rel}
  open X use {B, B'}

  pub no_vars_goes : (c : K.Ctx) {ls : List (List ℕ)} {s : Stmt} {i : ℕ} {ss ss' : Stmts} → FollowsStmt K X c ls s (vars i []) → FollowsStmts K X c ls ss ss' → FollowsStmts K X c ls (more_stmts s ss) ss'
  unfolding splice ex
  no_vars_goes c {ls = ls} {i = i} h k = becomes K X c no_stmts (λ g. no_vars J' B' g ls i) h k

  -- .. in a chunk's own list
  pub no_vars_of_chunk : {n : ℕ} {s : Stmt} {i : ℕ} {ss ss' : Stmts} → DeclaresT (declared_by tables s) (declared_by tables' (vars i [])) → FollowsStmt K X (outer n) [] s (vars i []) → FollowsChunk K X n ss ss' → FollowsChunk K X n (more_stmts s ss) ss'
  no_vars_of_chunk {s = s} {i = i} {ss = ss} {ss' = ss'} d h k = record { by = λ v l q. subst (λ z. Rel (CompV K) v (ex_chunk J B top (more_stmts s ss)) z) (no_vars_first J' B' top i ss') ((follows_more_chunk K X d h k).by v l q) }
