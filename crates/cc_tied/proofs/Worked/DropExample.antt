-- What the small phase that drops pure statements and dead declarators owes under the injection.
use Rattle.std.proofs.Common.{◌≡◌, refl, sym, subst, ℕ, Bool, true, false, List, [], ◌∷◌, ◌++◌, Option, Some, None}
use Rattle.std.specs.Prelude.{◌&&◌}
use Rattle.cc_ast.specs.Syntax.{Expr, lit, var, this, fun, list, object, unary, binary, and, or, cond, assign, step, member, index, call, new, comma, cast, tick, Exprs, no_exprs, more_exprs, Fields, no_fields, more_fields, Declarator, Stmt, simple, vars, Stmts, more_stmts}
use Rattle.cc_ast.specs.declared.tree.Ref.{Ref}
use Rattle.cc_meaning.specs.State.{Tables}
use Rattle.cc_meaning.specs.Monad.{pick}
use Rattle.cc_meaning.specs.Shapes.{declared_by}
use Rattle.cc_tied.specs.DropExample.{pure, all_pure, pure_fields, pure_value, is_dead, keep_live, drop}
use Rattle.cc_tied.specs.Facts.{Facts}
use Rattle.cc_tied.specs.Fine.{FineDeclarator}
use Rattle.cc_tied.specs.Pure.{IsPure, pure_lit, pure_var, pure_this, pure_fun, pure_list, pure_object, pure_unary, pure_binary, pure_and, pure_or, pure_cond, pure_comma, pure_cast, ArePure, no_pure, more_pure, HasPureFields, no_pure_fields, more_pure_fields}
use Rattle.cc_tied.specs.Rewrites.{re_declarator, re_stmt, stay_call, whole_in}
use Rattle.cc_tied.proofs.Kit.{Kit}
use Rattle.cc_tied.proofs.Parts.{Below}
use Rattle.cc_tied.proofs.Nodes.{SameTables}
use Rattle.cc_tied.proofs.Statements.{FollowsStmt, FollowsStmts, FollowsHoistOne, FollowsHoist, FollowsSet, FollowsDecls, declares_function, hoist_more, follows_more_decls, follows_more_stmts, follows_in_declared}
use Rattle.cc_tied.proofs.Turns.{FollowsChunk, follows_more_chunk}
use Rattle.cc_tied.proofs.Cuts.{no_vars_goes, no_vars_of_chunk}
use Rattle.cc_tied.proofs.Rewriting.{Standing}
use Rattle.cc_tied.proofs.RewritingBodies.{Rules}
use Rattle.cc_tied.proofs.Unchanged.{value_same, declarator_same}
use Rattle.cc_tied.proofs.Injection.Tie.{Other, Ctx, at}
use Rattle.cc_tied.proofs.Injection.Upkeep.{inject_kit}
use Rattle.cc_tied.proofs.Injection.Dead.{Gone, idle_goes, pure_idle, other_hoist, declarator_goes, pure_declarator_goes, idle_goes_of_chunk}

-- ---- pure expressions

pub first_true : (a b : Bool) → a && b ≡ true → a ≡ true
first_true true b h = refl
first_true false b h = absurd (cc)

second_true : (a b : Bool) → a && b ≡ true → b ≡ true
second_true true b h = h
second_true false b h = absurd (cc)

mutual
  unfolding pure

  pub is_pure : (e : Expr) → pure e ≡ true → IsPure e
  is_pure (lit i p) h = pure_lit
  is_pure (var i r) h = pure_var
  is_pure (this i) h = pure_this
  is_pure (fun i f) h = pure_fun
  is_pure (list i es) h = pure_list (are_pure es h)
  is_pure (object i fs) h = pure_object (have_pure fs h)
  is_pure (unary i op e) h = pure_unary (is_pure e h)
  is_pure (binary i op a b) h = pure_binary (is_pure a (first_true (pure a) (pure b) h)) (is_pure b (second_true (pure a) (pure b) h))
  is_pure (and i a b) h = pure_and (is_pure a (first_true (pure a) (pure b) h)) (is_pure b (second_true (pure a) (pure b) h))
  is_pure (or i a b) h = pure_or (is_pure a (first_true (pure a) (pure b) h)) (is_pure b (second_true (pure a) (pure b) h))
  is_pure (cond i e a b) h =
      let both = first_true (pure e && pure a) (pure b) h in
      pure_cond (is_pure e (first_true (pure e) (pure a) both)) (is_pure a (second_true (pure e) (pure a) both)) (is_pure b (second_true (pure e && pure a) (pure b) h))
  is_pure (assign i op u e) h = absurd (cc)
  is_pure (step i up prefix u) h = absurd (cc)
  is_pure (member i e p) h = absurd (cc)
  is_pure (index i e k) h = absurd (cc)
  is_pure (call i f es) h = absurd (cc)
  is_pure (new i f es) h = absurd (cc)
  is_pure (comma i a b) h = pure_comma (is_pure a (first_true (pure a) (pure b) h)) (is_pure b (second_true (pure a) (pure b) h))
  is_pure (cast i d e) h = pure_cast (is_pure e h)
  is_pure (tick i n e) h = absurd (cc)

  are_pure : (es : Exprs) → all_pure es ≡ true → ArePure es
  are_pure no_exprs h = no_pure
  are_pure (more_exprs e es) h = more_pure (is_pure e (first_true (pure e) (all_pure es) h)) (are_pure es (second_true (pure e) (all_pure es) h))

  have_pure : (fs : Fields) → pure_fields fs ≡ true → HasPureFields fs
  have_pure no_fields h = no_pure_fields
  have_pure (more_fields k e fs) h = more_pure_fields (is_pure e (first_true (pure e) (pure_fields fs) h)) (have_pure fs (second_true (pure e) (pure_fields fs) h))

-- what holds of both ways of a choice
pub one_of : {A : Type 0} (Z : A → Type 0) (b : Bool) {x y : A} → (b ≡ true → Z x) → Z y → Z (pick b x y)
one_of Z true f k = f refl
one_of Z false f k = k

-- ---- the rules, where the left alone writes what is dead

module _ (F : Facts) (S : Tables) (set' : Other S) (built : Ref → Bool) (dead : ℕ → Bool) (Here : Ctx → Type 0) (Stands : Standing Ctx) where
  abbrev K : Kit
  K = inject_kit F S set'

  abbrev New : Stmt → Stmt
  New s = re_stmt built (λ e. e) stay_call (keep_live dead) whole_in drop s

  module _ (X : Below K) (c : Ctx) where
    -- ---- declarators

    dead_goes : (i : ℕ) (r : Ref) (v : Option Expr) {ds ds' : List Declarator} → Gone F S set' c r → pure_value v ≡ true → FollowsDecls K X c ds ds' → FollowsDecls K X c (record { site = i; variable = r; value = v } ∷ ds) ds'
    unfolding pure_value
    dead_goes i r None d h k = declarator_goes F S set' X c k
    dead_goes i r (Some e) d h k = pure_declarator_goes F S set' X c d (is_pure e h) k

    live_like : (d : Declarator) {ds ds' : List Declarator} → (is_dead dead d.variable ≡ true → Gone F S set' c d.variable) → FollowsSet K X c d d → FollowsDecls K X c ds ds' → FollowsDecls K X c (d ∷ ds) (keep_live dead d ++ ds')
    unfolding keep_live
    live_like d {ds = ds} {ds' = ds'} gone h k = one_of (λ z. FollowsDecls K X c (d ∷ ds) (z ++ ds')) (is_dead dead d.variable && pure_value d.value)
        (λ e. dead_goes d.site d.variable d.value (gone (first_true _ (pure_value d.value) e)) (second_true (is_dead dead d.variable) _ e) k)
        (follows_more_decls K X c h k)

    new_live : (d : Declarator) {ds ds' : List Declarator} → (is_dead dead d.variable ≡ true → Gone F S set' c d.variable) → FollowsSet K X c d (re_declarator built (λ e. e) stay_call d) → FollowsDecls K X c ds ds' → FollowsDecls K X c (d ∷ ds) (keep_live dead (re_declarator built (λ e. e) stay_call d) ++ ds')
    new_live d {ds = ds} {ds' = ds'} gone h k = subst (λ z. FollowsDecls K X c (d ∷ ds) (keep_live dead z ++ ds')) (sym (declarator_same built d)) (live_like d gone (subst (λ z. FollowsSet K X c d z) (declarator_same built d) h) k)

    -- ---- statements

    simple_like : {ls : List (List ℕ)} (i : ℕ) (e : Expr) {ss ss' : Stmts} → FollowsStmt K X c ls (simple i e) (simple i e) → FollowsStmts K X c ls ss ss' → FollowsStmts K X c ls (more_stmts (simple i e) ss) (drop (simple i e) ss')
    unfolding drop
    simple_like {ls = ls} i e {ss = ss} h k = one_of (λ z. FollowsStmts K X c ls (more_stmts (simple i e) ss) z) (pure e) (λ p. idle_goes F S set' X c (pure_idle F S set' X c (is_pure e p)) k) (follows_more_stmts K X c h k)

    vars_like : {ls : List (List ℕ)} (i : ℕ) {s : Stmt} (ds : List Declarator) {ss ss' : Stmts} → FollowsStmt K X c ls s (vars i ds) → FollowsStmts K X c ls ss ss' → FollowsStmts K X c ls (more_stmts s ss) (drop (vars i ds) ss')
    unfolding drop
    vars_like i [] h k = no_vars_goes K X c h k
    vars_like i (d ∷ ds) h k = follows_more_stmts K X c h k

    cut_like : {ls : List (List ℕ)} (s : Stmt) {ss ss' : Stmts} → FollowsStmt K X c ls s (New s) → FollowsStmts K X c ls ss ss' → FollowsStmts K X c ls (more_stmts s ss) (drop (New s) ss')
    unfolding re_stmt drop
    cut_like {ls = ls} (simple i e) {ss = ss} {ss' = ss'} h k = subst (λ z. FollowsStmts K X c ls (more_stmts (simple i e) ss) (drop (simple i z) ss')) (sym (value_same built e)) (simple_like i e (subst (λ z. FollowsStmt K X c ls (simple i e) (simple i z)) (value_same built e) h) k)
    cut_like (vars i ds) h k = vars_like i _ h k
    cut_like s h k = follows_more_stmts K X c h k

    -- ---- functions that are bound before a list runs

    simple_hoist : (i : ℕ) (d e : Expr) {ss ss' : Stmts} → FollowsHoistOne K X c (simple i d) (simple i e) → FollowsHoist K X c ss ss' → FollowsHoist K X c (more_stmts (simple i d) ss) (drop (simple i e) ss')
    unfolding drop declares_function
    simple_hoist i d e {ss = ss} h k = one_of (λ z. FollowsHoist K X c (more_stmts (simple i d) ss) z) (pure e) (λ p. other_hoist F S set' X c (simple i d) refl k) (hoist_more K X c h k)

    vars_hoist : (i : ℕ) (cs ds : List Declarator) {ss ss' : Stmts} → FollowsHoistOne K X c (vars i cs) (vars i ds) → FollowsHoist K X c ss ss' → FollowsHoist K X c (more_stmts (vars i cs) ss) (drop (vars i ds) ss')
    unfolding drop declares_function
    vars_hoist i cs [] h k = other_hoist F S set' X c (vars i cs) refl k
    vars_hoist i cs (d ∷ ds) h k = hoist_more K X c h k

    hoist_like : (s : Stmt) {ss ss' : Stmts} → FollowsHoistOne K X c s (New s) → FollowsHoist K X c ss ss' → FollowsHoist K X c (more_stmts s ss) (drop (New s) ss')
    unfolding re_stmt drop
    hoist_like (simple i e) h k = simple_hoist i e _ h k
    hoist_like (vars i ds) h k = vars_hoist i ds _ h k
    hoist_like s h k = hoist_more K X c h k

  -- ---- a chunk's own list

  module _ (X : Below K) (n : ℕ) where
    simple_chunk : (i : ℕ) (e : Expr) {ss ss' : Stmts} → K.DeclaresT (declared_by K.tables (simple i e)) (declared_by K.tables' (simple i e)) → FollowsStmt K X (at None 0) [] (simple i e) (simple i e) → FollowsChunk K X n ss ss' → FollowsChunk K X n (more_stmts (simple i e) ss) (drop (simple i e) ss')
    unfolding drop
    simple_chunk i e {ss = ss} d h k = one_of (λ z. FollowsChunk K X n (more_stmts (simple i e) ss) z) (pure e) (λ p. idle_goes_of_chunk F S set' X n (pure_idle F S set' X (at None 0) (is_pure e p)) k) (follows_more_chunk K X d h k)

    vars_chunk : (i : ℕ) {s : Stmt} (ds : List Declarator) {ss ss' : Stmts} → K.DeclaresT (declared_by K.tables s) (declared_by K.tables' (vars i ds)) → FollowsStmt K X (at None 0) [] s (vars i ds) → FollowsChunk K X n ss ss' → FollowsChunk K X n (more_stmts s ss) (drop (vars i ds) ss')
    unfolding drop
    vars_chunk i [] d h k = no_vars_of_chunk K X d h k
    vars_chunk i (e ∷ ds) d h k = follows_more_chunk K X d h k

    chunk_like : (s : Stmt) {ss ss' : Stmts} → K.DeclaresT (declared_by K.tables s) (declared_by K.tables' (New s)) → FollowsStmt K X (at None 0) [] s (New s) → FollowsChunk K X n ss ss' → FollowsChunk K X n (more_stmts s ss) (drop (New s) ss')
    unfolding re_stmt drop
    chunk_like (simple i e) {ss = ss} {ss' = ss'} d h k =
        subst (λ z. FollowsChunk K X n (more_stmts (simple i e) ss) (drop (simple i z) ss')) (sym (value_same built e))
        (simple_chunk i e (subst (λ z. K.DeclaresT (declared_by K.tables (simple i e)) (declared_by K.tables' (simple i z))) (value_same built e) d) (subst (λ z. FollowsStmt K X (at None 0) [] (simple i e) (simple i z)) (value_same built e) h) k)
    chunk_like (vars i ds) d h k = vars_chunk i _ d h k
    chunk_like s d h k = follows_more_chunk K X d h k

  pub drop_rules : (X : Below K) → SameTables K X built → ((c : Ctx) → Here c → (r : Ref) → Stands.of_declared c r → is_dead dead r ≡ true → Gone F S set' c r) → ((s : Stmt) → K.DeclaresT (declared_by K.tables s) (declared_by K.tables' (New s))) → Rules K X built Here Stands (λ e. e) stay_call (keep_live dead) whole_in drop
  unfolding FineDeclarator re_declarator
  drop_rules X same gone declares = record {
    trims = λ c h d ds ds' o hd hs. new_live X c d (gone c h d.variable o.0.1) hd hs;
    trim_ins = λ c h d wr o hd. follows_in_declared K X c (same.sites d.site) wr hd;
    cuts = λ c h ls s ss ss' st o hs hss. cut_like X c s hs hss;
    hoists = λ c h s ss ss' st o hs hss. hoist_like X c s hs hss;
    chunks = λ n h s ss ss' st o hs hss. chunk_like X n s (declares s) hs hss;
  }
