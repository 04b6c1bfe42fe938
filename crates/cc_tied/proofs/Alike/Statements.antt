-- Statements of alike programs, their bodies and their chunks keep the tie of their plain runs.
use Rattle.std.proofs.Common.{◌≡◌, ℕ, List, [], ◌∷◌, Option, refl, sym, subst}
use Rattle.cc_ast.specs.Syntax.{Expr, Target, Declarator, ForInit, ForTarget, Stmt, simple, vars, fun_decl, if, while, do_while, for, for_in, return, throw, break, continue, label, switch, try, pay_stmt, Stmts, no_stmts, more_stmts, MaybeStmts, Cases, Program}
use Rattle.cc_meaning.specs.State.{Env, Tables}
use Rattle.cc_meaning.specs.Monad.{passed, M, ret, say, said, after, ◌>>=◌, with_tables}
use Rattle.cc_meaning.specs.Shapes.{tables_of}
use Rattle.cc_meaning.specs.Meaning.{Comp, normal, next, hoist, hoist_one, ex, exs, ex_chunk}
use Rattle.cc_meaning.specs.Script as Sc
use Rattle.cc_meaning.specs.Alike.{Around, catch_pair, Alike, Paired}
use Rattle.cc_meaning.specs.Alike as A
use Rattle.cc_tied.specs.Tied.{ListT, nil_t, cons_t, OptT, none_t, some_t}
use Rattle.cc_tied.proofs.Kit.{Kit}
use Rattle.cc_tied.proofs.Parts.{CompV, Below}
use Rattle.cc_tied.proofs.Expressions as E
use Rattle.cc_tied.proofs.Statements as F
use Rattle.cc_tied.proofs.Turns.{FollowsChunk, follows_no_chunk, follows_more_chunk, ProgramT, ChunksT, IsChunk}
use Rattle.cc_tied.proofs.Sim.{Tie, Sim}
use Rattle.cc_tied.proofs.Alike.Tie.{alike, silent_skip, left_silent, right_silent}
use Rattle.cc_tied.proofs.Alike.Upkeep.{alike_kit}
use Rattle.cc_tied.proofs.Alike.Parts as X

module _ (P Q : Program) (al : Alike P Q) where
  abbrev T : Tie
  T = alike P Q al

  abbrev K : Kit
  K = alike_kit P Q al

  abbrev N : A.Numbering
  N = al.N

  abbrev S : Tables
  S = tables_of P

  abbrev S' : Tables
  S' = tables_of Q

  module _ (Y : Below K) where
    open Y use {B, B', w}

    module _ (c : Around) where
      val : {e e' : Expr} → A.ExprA S S' N c e e' → E.Follows K Y c e e'
      val h = X.val P Q al Y c (X.expr P Q al Y c h)

      set_c : (d d' : Declarator) → A.RefA S S' N c d.variable d'.variable → {o o' : Option Expr} → OptT (A.ExprA S S' N c) o o' → F.FollowsSet K Y c (record { site = d.site; variable = d.variable; value = o }) (record { site = d'.site; variable = d'.variable; value = o' })
      set_c d d' r none_t = F.follows_bare K Y c
      set_c d d' r (some_t h) = F.follows_set K Y c tt r (X.as_val P Q al Y c (X.expr P Q al Y c h) _ _)

      decl : {d d' : Declarator} → A.DeclA S S' N c d d' → F.FollowsSet K Y c d d'
      decl {d = d} {d' = d'} h = set_c d d' h.variable h.value

      decls : {ds ds' : List Declarator} → ListT (A.DeclA S S' N c) ds ds' → F.FollowsDecls K Y c ds ds'
      decls nil_t = F.follows_no_decls K Y c
      decls (cons_t h t) = F.follows_more_decls K Y c (decl h) (decls t)

      init : {h h' : ForInit} → A.InitA S S' N c h h' → F.FollowsInit K Y c h h'
      init A.no_init_a = F.follows_no_init K Y c
      init (A.init_value_a e) = F.follows_init_value K Y c (val e)
      init (A.init_vars_a ds) = F.follows_init_vars K Y c (decls ds)

      names : {t t' : ForTarget} → A.NameA S S' N c t t' → F.FollowsNames K Y c t t'
      names (A.in_target_a t) = F.follows_in_target K Y c (X.target P Q al Y c t)
      names (A.in_declared_a h) = F.follows_in_declared K Y c tt h.variable (decl h)

      test : {o o' : Option Expr} → OptT (A.ExprA S S' N c) o o' → F.FollowsTest K Y c o o'
      test none_t = F.follows_no_test K Y c
      test (some_t h) = F.follows_test K Y c (val h)

      only : {o o' : Option Expr} → OptT (A.ExprA S S' N c) o o' → F.FollowsOnly K Y c o o'
      only none_t = F.follows_no_only K Y c
      only (some_t h) = F.follows_only K Y c (val h)

      returned : (ls : List (List ℕ)) (i j : ℕ) {o o' : Option Expr} → OptT (A.ExprA S S' N c) o o' → F.FollowsStmt K Y c ls (return i o) (return j o')
      returned ls i j none_t = F.follows_return_none K Y c tt
      returned ls i j (some_t h) = F.follows_return K Y c tt (val h)

      one_case : {o o' : Option Expr} {b b' : Stmts} {cs cs' : Cases} → OptT (A.ExprA S S' N c) o o' → F.FollowsStmts K Y c [] b b' → F.FollowsCases K Y c cs cs' → F.FollowsCases K Y c (Rattle.cc_ast.specs.Syntax.more_cases o b cs) (Rattle.cc_ast.specs.Syntax.more_cases o' b' cs')
      one_case none_t h k = F.follows_default K Y c h k
      one_case (some_t e) h k = F.follows_case K Y c (val e) h k

      -- ---- a price mark of one run alone

      paid_next : (p : ℕ) (k : M Comp) → ((say (passed p) >>= λ _. ret normal) >>= λ x. next x k) ≡ (say (passed p) >>= λ _. k)
      unfolding say ◌>>=◌ after next ret said
      paid_next p k = refl

      left_pay_c : (ls : List (List ℕ)) (i p : ℕ) {ss ss' : Stmts} → F.FollowsStmts K Y c ls ss ss' → F.FollowsStmts K Y c ls (more_stmts (pay_stmt i p) ss) ss'
      unfolding ex
      left_pay_c ls i p {ss = ss} {ss' = ss'} h = record { by = λ v l g g' t. subst (λ z. Sim T (CompV K) v z (exs Sc.plain B' g' ls ss')) (sym (paid_next p (exs Sc.plain B g ls ss))) (X.mark_left P Q al p _ _ (h.by v l g g' t)) }

      right_pay_c : (ls : List (List ℕ)) (i p : ℕ) {ss ss' : Stmts} → F.FollowsStmts K Y c ls ss ss' → F.FollowsStmts K Y c ls ss (more_stmts (pay_stmt i p) ss')
      unfolding ex
      right_pay_c ls i p {ss = ss} {ss' = ss'} h = record { by = λ v l g g' t. subst (λ z. Sim T (CompV K) v (exs Sc.plain B g ls ss) z) (sym (paid_next p (exs Sc.plain B' g' ls ss'))) (X.mark_right P Q al p _ _ (h.by v l g g' t)) }

      -- ---- hoisting

      hoist_c : {s s' : Stmt} → A.StmtA S S' N c s s' → F.FollowsHoistOne K Y c s s'
      unfolding F.declares_function
      hoist_c (A.fun_decl_a r f) = F.hoist_fun K Y c tt f r
      hoist_c (A.simple_a e) = F.hoist_other K Y c _ _ refl refl
      hoist_c (A.vars_a ds) = F.hoist_other K Y c _ _ refl refl
      hoist_c (A.if_a e a b) = F.hoist_other K Y c _ _ refl refl
      hoist_c (A.while_a e b) = F.hoist_other K Y c _ _ refl refl
      hoist_c (A.do_while_a b e) = F.hoist_other K Y c _ _ refl refl
      hoist_c (A.for_a h t e b) = F.hoist_other K Y c _ _ refl refl
      hoist_c (A.for_in_a t e b) = F.hoist_other K Y c _ _ refl refl
      hoist_c (A.return_a e) = F.hoist_other K Y c _ _ refl refl
      hoist_c (A.throw_a e) = F.hoist_other K Y c _ _ refl refl
      hoist_c A.break_a = F.hoist_other K Y c _ _ refl refl
      hoist_c A.continue_a = F.hoist_other K Y c _ _ refl refl
      hoist_c (A.label_a b) = F.hoist_other K Y c _ _ refl refl
      hoist_c (A.switch_a e cs) = F.hoist_other K Y c _ _ refl refl
      hoist_c (A.try_a b k f) = F.hoist_other K Y c _ _ refl refl

      pub hoists_c : {ss ss' : Stmts} → A.StmtsA S S' N c ss ss' → F.FollowsHoist K Y c ss ss'
      unfolding hoist hoist_one
      hoists_c A.no_stmts_a = F.hoist_no K Y c
      hoists_c (A.more_stmts_a s ss) = F.hoist_more K Y c (hoist_c s) (hoists_c ss)
      hoists_c (A.left_pay {ss = xs} {ts = ys} ss) = record { by = λ v l g g' t. left_silent P Q al (hoist Sc.plain g xs) (hoist Sc.plain g' ys) (silent_skip P Q al) ((hoists_c ss).by v l g g' t) }
      hoists_c (A.right_pay {ss = xs} {ts = ys} ss) = record { by = λ v l g g' t. right_silent P Q al (hoist Sc.plain g xs) (hoist Sc.plain g' ys) (silent_skip P Q al) ((hoists_c ss).by v l g g' t) }

    -- ---- statements

    mutual
      pub stmt : (ls : List (List ℕ)) {c : Around} {s s' : Stmt} → A.StmtA S S' N c s s' → F.FollowsStmt K Y c ls s s'
      stmt ls {c = c} (A.simple_a e) = F.follows_simple K Y c (val c e)
      stmt ls {c = c} (A.vars_a ds) = F.follows_vars K Y c (decls c ds)
      stmt ls {c = c} (A.fun_decl_a r f) = F.follows_fun_decl K Y c
      stmt ls {c = c} (A.if_a e a b) = F.follows_if K Y c (val c e) (stmts [] a) (stmts [] b)
      stmt ls {c = c} (A.while_a e b) = F.follows_while K Y c (F.follows_test K Y c (val c e)) (stmts [] b)
      stmt ls {c = c} (A.do_while_a b e) = F.follows_do_while K Y c (stmts [] b) (F.follows_test K Y c (val c e))
      stmt ls {c = c} (A.for_a h t e b) = F.follows_for K Y c (init c h) (test c t) (only c e) (stmts [] b)
      stmt ls {c = c} (A.for_in_a t e b) = F.follows_for_in K Y c tt (names c t) (val c e) (stmts [] b)
      stmt ls {c = c} (A.return_a {i = i} {j = j} e) = returned c ls i j e
      stmt ls {c = c} (A.throw_a e) = F.follows_throw K Y c (val c e)
      stmt ls {c = c} (A.break_a {l = l}) = F.follows_break K Y c l
      stmt ls {c = c} (A.continue_a {l = l}) = F.follows_continue K Y c l
      stmt ls {c = c} (A.label_a {l = l} b) = F.follows_label K Y c l (stmts (l ∷ ls) b)
      stmt ls {c = c} (A.switch_a e cs) = F.follows_switch K Y c (val c e) (cases cs)
      stmt ls {c = c} (A.try_a b k f) = F.follows_try K Y c (stmts [] b) (caught k) (finally f)

      pub stmts : (ls : List (List ℕ)) {c : Around} {ss ss' : Stmts} → A.StmtsA S S' N c ss ss' → F.FollowsStmts K Y c ls ss ss'
      stmts ls {c = c} A.no_stmts_a = F.follows_no_stmts K Y c
      stmts ls {c = c} (A.more_stmts_a s ss) = F.follows_more_stmts K Y c (stmt ls s) (stmts ls ss)
      stmts ls {c = c} (A.left_pay {i = i} {p = p} ss) = left_pay_c c ls i p (stmts ls ss)
      stmts ls {c = c} (A.right_pay {i = i} {p = p} ss) = right_pay_c c ls i p (stmts ls ss)

      caught : {c : Around} {k k' : MaybeStmts} → A.MaybeA S S' N (catch_pair ∷ c) k k' → F.FollowsCatch K Y c k k'
      caught {c = c} A.absent_a = F.follows_no_catch K Y c
      caught {c = c} (A.present_a b) = F.follows_catch K Y c (stmts [] b)

      finally : {c : Around} {k k' : MaybeStmts} → A.MaybeA S S' N c k k' → F.FollowsFinally K Y c k k'
      finally {c = c} A.absent_a = F.follows_no_finally K Y c
      finally {c = c} (A.present_a b) = F.follows_finally K Y c (stmts [] b)

      cases : {c : Around} {cs cs' : Cases} → A.CasesA S S' N c cs cs' → F.FollowsCases K Y c cs cs'
      cases {c = c} A.no_cases_a = F.follows_no_cases K Y c
      cases {c = c} (A.more_cases_a t b cs) = one_case c t (stmts [] b) (cases cs)

    -- ---- chunks

    chunk_paid : (g : Env) (p : ℕ) (k : M Comp) → (with_tables (λ R. say (passed p) >>= λ _. ret normal) >>= λ x. next x k) ≡ (say (passed p) >>= λ _. k)
    unfolding with_tables say ◌>>=◌ after next ret said
    chunk_paid g p k = refl

    pub chunk_c : (n : ℕ) {ss ss' : Stmts} → A.StmtsA S S' N [] ss ss' → FollowsChunk K Y n ss ss'
    unfolding ex_chunk ex
    chunk_c n A.no_stmts_a = follows_no_chunk K Y
    chunk_c n (A.more_stmts_a s ss) = follows_more_chunk K Y tt (stmt [] s) (chunk_c n ss)
    chunk_c n (A.left_pay {p = p} {ss = xs} {ts = ys} ss) = record { by = λ v l q. subst (λ z. Sim T (CompV K) v z (ex_chunk Sc.plain B' Sc.top ys)) (sym (chunk_paid Sc.top p (ex_chunk Sc.plain B Sc.top xs))) (X.mark_left P Q al p _ _ ((chunk_c n ss).by v l q)) }
    chunk_c n (A.right_pay {p = p} {ss = xs} {ts = ys} ss) = record { by = λ v l q. subst (λ z. Sim T (CompV K) v (ex_chunk Sc.plain B Sc.top xs) z) (sym (chunk_paid Sc.top p (ex_chunk Sc.plain B' Sc.top ys))) (X.mark_right P Q al p _ _ ((chunk_c n ss).by v l q)) }

  -- ---- programs

  pub programs : ProgramT K P Q
  programs = record { parts = λ f f' d d' ft w le le' all tied. record { hoist = hoists_c _ _ (al.functions f f' ft); runs = stmts _ [] (al.functions f f' ft) } }

  pub chunks : ChunksT K P Q (IsChunk (Sc.graph_of P))
  chunks = record { lists = λ c d d' q w le le' all tied. record { hoist = hoists_c _ [] (al.chunks c q.deps q.found); runs = chunk_c _ c (al.chunks c q.deps q.found) } }
