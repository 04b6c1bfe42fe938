-- The own lists of a chunk in two programs, where holders are declared: which of them are is known from
-- statement to statement.
use Rattle.std.proofs.Common.{◌≡◌, ◌⊎◌, inl, inr, ℕ, ◌≤◌, List, [], ◌∷◌, Some, None, refl, sym, ap, subst, ◌∙◌, arith}
use Rattle.cc_ast.specs.Syntax.{Expr, object, no_fields, assign, to_var, to_member, Declarator, Stmt, simple, vars, Stmts, no_stmts, more_stmts, Program}
use Rattle.cc_ast.specs.declared.tree.Ref.{Ref}
use Rattle.cc_meaning.specs.Values.{at_site}
use Rattle.cc_meaning.specs.State.{Env, State, Tables}
use Rattle.cc_meaning.specs.Monad.{M, Res, ret, skip, after, ◌>>=◌, with_tables}
use Rattle.cc_meaning.specs.Meaning.{Comp, normal, next as next_by, declare, set_variable, ex, ex_chunk, bodies}
use Rattle.cc_meaning.specs.Calls.{Bodies}
use Rattle.cc_meaning.specs.Shapes.{declared_by}
use Rattle.cc_meaning.specs.Script.{checked, top}
use Rattle.cc_meaning.specs.Alike.{In}
use Rattle.cc_tied.specs.Facts.{Facts}
use Rattle.cc_tied.specs.Tied.{normal_t, returns_t, breaks_t, continues_t}
use Rattle.cc_tied.proofs.Kit.{Kit}
use Rattle.cc_tied.proofs.Parts.{Below, CompV}
use Rattle.cc_tied.proofs.Laws.{said_none, ret_bind}
use Rattle.cc_tied.proofs.Sim.{Tie, Later, now, Sim, sim_ret, sim_tables}
use Rattle.cc_tied.proofs.Runs.{IsExact}
use Rattle.cc_tied.proofs.Whole.{WholeT, ok_w, threw_w, broken_w, over_w, Whole, whole_of, whole_bind}
use Rattle.cc_tied.proofs.Turns.{AllBodiesT, below_of}
use Rattle.cc_tied.proofs.Statements as St
use Rattle.cc_tied.proofs.Injection.Table.{in_cases}
use Rattle.cc_tied.proofs.Injection.Tie.{at, DeclaresI, env_top}
use Rattle.cc_collapse.proofs.FlatRider.{Plan, once, flat_other}
use Rattle.cc_collapse.proofs.FlatHolders.{HolderAt}
use Rattle.cc_collapse.proofs.FlatReads.{T, W}
use Rattle.cc_collapse.proofs.FlatPairs.{K}
use Rattle.cc_collapse.proofs.FlatWrites.{Globals}
use Rattle.cc_collapse.proofs.FlatDeclared.{next, root_set}
use Rattle.cc_collapse.proofs.FlatInner.{inner_set}
use Rattle.cc_collapse.proofs.FlatChunks.{chunk_split, written, sets_to, var_runs, assign_runs, var_assigns, to_var_sets}

module _ (F : Facts) (S : Tables) (P : Plan S) (G : Globals F S P) (exact : IsExact (T F S P)) (c : ℕ) (End : ℕ → Type 0) where
  abbrev TF : Tie
  TF = T F S P

  -- the holders that are declared are among these, and the chunk is loaded
  pub record Known (D : ℕ → Type 0) (v : W F S P) : Type 0 where
    pub among : (h m n : ℕ) → In (once h m n) v.w.stage → D h
    pub loaded : In c v.w.begun

  pub known_later : {D : ℕ → Type 0} {w : W F S P} → Known D w → (v : W F S P) → Later TF w v → Known D v
  known_later k v l = record { among = λ h m n i. k.among h m n (subst (λ z. In (once h m n) z) (sym l.2.stage) i); loaded = l.2.ext.begun c k.loaded }

  pub known_more : {D E : ℕ → Type 0} {w : W F S P} → ((h : ℕ) → D h → E h) → Known D w → Known E w
  known_more f k = record { among = λ h m n i. f h (k.among h m n i); loaded = k.loaded }

  abbrev pub With : (ℕ → Type 0) → ℕ → ℕ → Type 0
  With D h i = D i ⊎ (i ≡ h)

  known_next : {D : ℕ → Type 0} {w : W F S P} → Known D w → (h m n : ℕ) → Known (With D h) (next F S P G w h m n)
  known_next {D = D} {w = w} k h m n = record { among = λ i a b q. by_case i a b (in_cases q); loaded = k.loaded }
    where
      by_case : (i a b : ℕ) → (once i a b ≡ once h m n) ⊎ In (once i a b) w.w.stage → With D h i
      by_case i a b (inl e) = inr (ap (λ z. z.mark) e)
      by_case i a b (inr q) = inl (k.among i a b q)

  -- what is known at the end of a part goes with its value
  pub split : {A B : Type 0} {J : W F S P → Type 0} {I : W F S P → Type 0} {Q : W F S P → A → B → Type 0} {w : W F S P} {x : Res A} {y : Res B} → ((v : W F S P) → J v → I v) → WholeT TF J Q w x y → WholeT TF I (λ v a b. J v × Q v a b) w x y
  split f (ok_w d v l i h ti le le') = ok_w d v l (f v i) (i, h) ti le le'
  split f (threw_w d v l i h ti le le') = threw_w d v l (f v i) h ti le le'
  split f (broken_w x) = broken_w x
  split f (over_w d h) = over_w d h

  pub whole_as : {A B : Type 0} {J : W F S P → Type 0} {I : W F S P → Type 0} {Q : W F S P → A → B → Type 0} {w : W F S P} {x : Res A} {y : Res B} → ((v : W F S P) → J v → I v) → WholeT TF J Q w x y → WholeT TF I Q w x y
  whole_as f (ok_w d v l i h ti le le') = ok_w d v l (f v i) h ti le le'
  whole_as f (threw_w d v l i h ti le le') = threw_w d v l (f v i) h ti le le'
  whole_as f (broken_w x) = broken_w x
  whole_as f (over_w d h) = over_w d h

  abbrev Ends : (D : ℕ → Type 0) → W F S P → Comp → Comp → Type 0
  Ends D v a b = Known D v × CompV (K F S P) v a b

  abbrev I : W F S P → Type 0
  I = Known End

  pub kept : {D : ℕ → Type 0} {w : W F S P} {m m' : M Comp} → ((h : ℕ) → D h → End h) → Known D w → Sim TF (CompV (K F S P)) w m m' → Whole TF I (Ends D) w m m'
  kept {D = D} {w = w} f k h s t ti le le' = split (λ v j. known_more f j) (whole_of TF {I = Known D} exact (known_later k) h s t ti le le')

  -- what comes after a statement
  after_end : {D : ℕ → Type 0} {w : W F S P} {a b : Comp} {m m' : M Comp} → ((h : ℕ) → D h → End h) → Known D w → CompV (K F S P) w a b → Whole TF I (λ v x y. CompV (K F S P) v x y) w m m' → Whole TF I (λ v x y. CompV (K F S P) v x y) w (next_by a m) (next_by b m')
  unfolding next_by
  after_end f k normal_t h = h
  after_end f k (returns_t {v = x} {v' = y} s q) h = whole_of TF exact (λ v l. known_more f (known_later k v l)) (sim_ret TF _ _ (returns_t s q))
  after_end f k breaks_t h = whole_of TF exact (λ v l. known_more f (known_later k v l)) (sim_ret TF _ _ breaks_t)
  after_end f k continues_t h = whole_of TF exact (λ v l. known_more f (known_later k v l)) (sim_ret TF _ _ continues_t)

  module _ (P0 Q0 : Program) (d d' : ℕ) (all : (u : W F S P) → AllBodiesT (K F S P) P0 Q0 u) where
    abbrev pub B : Bodies
    B = bodies checked P0 d

    abbrev pub B' : Bodies
    B' = bodies checked Q0 d'

    abbrev pub below_at : (w : W F S P) → w.l ≤ d → w.r ≤ d' → Below (K F S P)
    below_at w le le' = below_of (K F S P) P0 Q0 d d' w (all w w d d' (omega arith) le le')

    abbrev one : Bodies → Stmt → M Comp
    one C s = with_tables (λ T. ex checked C (record top { declares = declared_by T s }) [] s)

    -- the lists, from worlds with no more to pay on, in which these holders are declared
    pub record OwnT (D : ℕ → Type 0) (ss ss' : Stmts) : Type 0 where
      pub by : (w : W F S P) → w.l ≤ d → w.r ≤ d' → Known D w → Whole TF I (λ v x y. CompV (K F S P) v x y) w (ex_chunk checked B top ss) (ex_chunk checked B' top ss')

    pub record StepT (D E : ℕ → Type 0) (s s' : Stmt) : Type 0 where
      pub by : (w : W F S P) → w.l ≤ d → w.r ≤ d' → Known D w → Whole TF I (Ends E) w (one B s) (one B' s')

    pub own_none : {D : ℕ → Type 0} → ((h : ℕ) → D h → End h) → OwnT D no_stmts no_stmts
    unfolding ex_chunk
    own_none f = record { by = λ w le le' k. whole_of TF exact (λ v l. known_more f (known_later k v l)) (sim_ret TF _ _ normal_t) }

    pub own_more : {D E : ℕ → Type 0} {s s' : Stmt} {ss ss' : Stmts} → ((h : ℕ) → E h → End h) → StepT D E s s' → OwnT E ss ss' → OwnT D (more_stmts s ss) (more_stmts s' ss')
    unfolding ex_chunk
    own_more {E = E} f h k = record { by = λ w le le' q. whole_bind TF {I = I} {R = Ends E} (h.by w le le' q) (λ v l i a b x. after_end f x.0 x.1 (k.by v (omega arith) (omega arith) x.0)) }

    -- ---- statements that are tied as they stand

    pub step_same : {D : ℕ → Type 0} {s s' : Stmt} → ((h : ℕ) → D h → End h) → DeclaresI (declared_by S s) (declared_by (Rattle.cc_collapse.proofs.FlatReads.R F S P) s') → ((w : W F S P) → (le : w.l ≤ d) → (le' : w.r ≤ d') → St.FollowsStmt (K F S P) (below_at w le le') (at None 0) [] s s') → StepT D D s s'
    step_same {s = s} {s' = s'} f e h = record { by = λ w le le' k. kept f k (sim_tables TF _ _ ((h w le le').by w (now TF w) _ _ (env_top F S (flat_other S P) e))) }

    -- ---- a holder is declared

    sets_then : {J : W F S P → Type 0} {w : W F S P} {m m' : M (Unit {0})} → ((v u : W F S P) → J v → Later TF v u → J u) → Whole TF J (λ v a b. Unit {0}) w m m' → Whole TF J (λ v a b. CompV (K F S P) v a b) w (m >>= λ _. ret normal) (m' >>= λ _. ret normal)
    sets_then {J = J} f h = whole_bind TF {I = J} {R = λ v a b. Unit {0}} h (λ v l j _ _ _. whole_of TF exact (λ u k. f v u j k) (sim_ret TF normal normal normal_t))

    step_sets : {D : ℕ → Type 0} {h : ℕ} {s s' : Stmt} (m m' : Env → M (Unit {0})) → ((g : Env) → ex checked B g [] s ≡ (m g >>= λ _. ret normal)) → ((g : Env) → ex checked B' g [] s' ≡ (m' g >>= λ _. ret normal)) → ((i : ℕ) → With D h i → End i) → ((w : W F S P) → Known D w → (g g' : Env) → Whole TF (Known (With D h)) (λ v a b. Unit {0}) w (m g) (m' g')) → StepT D (With D h) s s'
    unfolding with_tables
    step_sets {D = D} {h = h} {s = s} {s' = s'} m m' e e' f r = record {
      by = λ w le le' k z t ti lb lb'.
          let g : Env = record top { declares = declared_by z.tables s } in
          let g' : Env = record top { declares = declared_by t.tables s' } in
          split (λ v j. known_more f j)
          (subst (λ x. WholeT TF (Known (With D h)) (λ v a b. CompV (K F S P) v a b) w (x z) (ex checked B' g' [] s' t)) (sym (e g))
          (subst (λ x. WholeT TF (Known (With D h)) (λ v a b. CompV (K F S P) v a b) w ((m g >>= λ _. ret normal) z) (x t)) (sym (e' g'))
          (sets_then {J = Known (With D h)} (λ v u j l. known_later j u l) (r w k g g') z t ti lb lb')));
    }

    -- a global, by its declaration
    pub step_root_var : {D : ℕ → Type 0} (h : ℕ) → P.Root h → ((D h → ⊥)) → ((n : ℕ) → P.Near h n → n ≡ c) → ((i : ℕ) → With D h i → End i) → (i i' j j' l l' : ℕ) → StepT D (With D h) (vars i ((record { site = j; variable = Ref.Global (P.var h); value = Some (object l no_fields) }) ∷ [])) (vars i' ((record { site = j'; variable = Ref.Global (P.var h); value = Some (object l' no_fields) }) ∷ []))
    step_root_var h root new near f i i' j j' l l' = step_sets {h = h} (λ g. written B g j (Ref.Global (P.var h)) (object l no_fields)) (λ g. written B' g j' (Ref.Global (P.var h)) (object l' no_fields)) (λ g. var_runs B g i j (Ref.Global (P.var h)) (object l no_fields)) (λ g. var_runs B' g i' j' (Ref.Global (P.var h)) (object l' no_fields)) f (λ w k g g'.
        root_set F S P G w h root (λ m n q. new (k.among h m n q)) (λ n q. subst (λ z. In z w.w.begun) (sym (near n q)) k.loaded) (λ m n. known_next k h m n) B B' g g' _ _ (at_site j) (at_site j') l l')

    -- a global, by an assignment
    pub step_root : {D : ℕ → Type 0} (h : ℕ) → P.Root h → ((D h → ⊥)) → ((n : ℕ) → P.Near h n → n ≡ c) → ((i : ℕ) → With D h i → End i) → (i i' j j' x x' l l' : ℕ) → StepT D (With D h) (simple i (assign x None (to_var j (Ref.Global (P.var h))) (object l no_fields))) (simple i' (assign x' None (to_var j' (Ref.Global (P.var h))) (object l' no_fields)))
    step_root h root new near f i i' j j' x x' l l' = step_sets {h = h} (λ g. written B g j (Ref.Global (P.var h)) (object l no_fields)) (λ g. written B' g j' (Ref.Global (P.var h)) (object l' no_fields)) (λ g. assign_runs B g i x (to_var j (Ref.Global (P.var h))) (object l no_fields) ∙ ap (λ z. z >>= λ _. ret normal) (to_var_sets B g j (Ref.Global (P.var h)) (object l no_fields))) (λ g. assign_runs B' g i' x' (to_var j' (Ref.Global (P.var h))) (object l' no_fields) ∙ ap (λ z. z >>= λ _. ret normal) (to_var_sets B' g j' (Ref.Global (P.var h)) (object l' no_fields))) f (λ w k g g'.
        root_set F S P G w h root (λ m n q. new (k.among h m n q)) (λ n q. subst (λ z. In z w.w.begun) (sym (near n q)) k.loaded) (λ m n. known_next k h m n) B B' g g' _ _ (at_site j) (at_site j') l l')

    -- a property of a holder: its global is declared with it, or was declared before
    pub step_inner_var : {D : ℕ → Type 0} (q p h : ℕ) (inner : P.Inner q p h) → ((D h → ⊥)) → ((n : ℕ) → P.Near h n → n ≡ c) → ((i : ℕ) → With D h i → End i) → {e : Expr} → HolderAt S P q e → (i i' j j' x l l' : ℕ) → StepT D (With D h) (simple i (assign x None (to_member j e p) (object l no_fields))) (vars i' ((record { site = j'; variable = Ref.Global (P.fresh q p); value = Some (object l' no_fields) }) ∷ []))
    step_inner_var q p h inner new near f {e = e} a i i' j j' x l l' = step_sets {h = h} (λ g. sets_to B g (to_member j e p) (object l no_fields)) (λ g. written B' g j' (Ref.Global (P.fresh q p)) (object l' no_fields)) (λ g. assign_runs B g i x (to_member j e p) (object l no_fields)) (λ g. var_runs B' g i' j' (Ref.Global (P.fresh q p)) (object l' no_fields)) f (λ w k g g'.
        inner_set F S P G q p h inner B g _ l j w (λ m n q. new (k.among h m n q)) (λ n q. subst (λ z. In z w.w.begun) (sym (near n q)) k.loaded) (λ m n. known_next k h m n) a B' g' _ (at_site j') l')

    pub step_inner : {D : ℕ → Type 0} (q p h : ℕ) (inner : P.Inner q p h) → ((D h → ⊥)) → ((n : ℕ) → P.Near h n → n ≡ c) → ((i : ℕ) → With D h i → End i) → {e : Expr} → HolderAt S P q e → (i i' j j' x x' l l' : ℕ) → StepT D (With D h) (simple i (assign x None (to_member j e p) (object l no_fields))) (simple i' (assign x' None (to_var j' (Ref.Global (P.fresh q p))) (object l' no_fields)))
    step_inner q p h inner new near f {e = e} a i i' j j' x x' l l' = step_sets {h = h} (λ g. sets_to B g (to_member j e p) (object l no_fields)) (λ g. written B' g j' (Ref.Global (P.fresh q p)) (object l' no_fields)) (λ g. assign_runs B g i x (to_member j e p) (object l no_fields)) (λ g. assign_runs B' g i' x' (to_var j' (Ref.Global (P.fresh q p))) (object l' no_fields) ∙ ap (λ z. z >>= λ _. ret normal) (to_var_sets B' g j' (Ref.Global (P.fresh q p)) (object l' no_fields))) f (λ w k g g'.
        inner_set F S P G q p h inner B g _ l j w (λ m n q. new (k.among h m n q)) (λ n q. subst (λ z. In z w.w.begun) (sym (near n q)) k.loaded) (λ m n. known_next k h m n) a B' g' _ (at_site j') l')

    -- ---- declarations that the right has instead of an assignment, or alone

    none_declared : (U : Tables) (i x j : ℕ) (r : Ref) (e : Expr) → declared_by U (simple i (assign x None (to_var j r) e)) ≡ []
    unfolding declared_by Rattle.cc_meaning.specs.Shapes.declared_in Rattle.cc_meaning.specs.Shapes.prototype_target
    none_declared U i x j r e = refl

    declares_none : (U : Tables) (i : ℕ) (ds : List Declarator) → declared_by U (vars i ds) ≡ []
    unfolding declared_by
    declares_none U i ds = refl

    one_as : (i j x : ℕ) (r : Ref) (e : Expr) (t : State) → one B' (vars i ((record { site = j; variable = r; value = Some e }) ∷ [])) t ≡ one B' (simple i (assign x None (to_var j r) e)) t
    unfolding with_tables
    one_as i j x r e t =
        ap (λ z. ex checked B' (record top { declares = z }) [] (vars i ((record { site = j; variable = r; value = Some e }) ∷ [])) t) (declares_none t.tables i ((record { site = j; variable = r; value = Some e }) ∷ []) ∙ sym (none_declared t.tables i x j r e))
        ∙ ap (λ z. z t) (var_assigns B' (record top { declares = declared_by t.tables (simple i (assign x None (to_var j r) e)) }) i j x r e)

    pub step_declared : {D E : ℕ → Type 0} {s : Stmt} (i j x : ℕ) (r : Ref) (e : Expr) → StepT D E s (simple i (assign x None (to_var j r) e)) → StepT D E s (vars i ((record { site = j; variable = r; value = Some e }) ∷ []))
    step_declared {E = E} {s = s} i j x r e h = record { by = λ w le le' k z t ti lb lb'. subst (λ y. WholeT TF I (Ends E) w (one B s z) y) (sym (one_as i j x r e t)) (h.by w le le' k z t ti lb lb') }

    bare_runs : (g : Env) (i j : ℕ) (r : Ref) → ex checked B' g [] (vars i ((record { site = j; variable = r; value = None }) ∷ [])) ≡ ret normal
    unfolding ex declare set_variable
    bare_runs g i j r = ap (λ z. z >>= λ _. ret normal) (ret_bind tt (λ _. skip)) ∙ ret_bind tt (λ _. ret normal)

    bare_list : (i j : ℕ) (r : Ref) (ss : Stmts) (t : State) → ex_chunk checked B' top (more_stmts (vars i ((record { site = j; variable = r; value = None }) ∷ [])) ss) t ≡ ex_chunk checked B' top ss t
    unfolding ex_chunk with_tables ◌>>=◌ after ret next_by
    bare_list i j r ss t = ap (λ z. after (z t) (λ k. next_by k (ex_chunk checked B' top ss))) (bare_runs (record top { declares = declared_by t.tables (vars i ((record { site = j; variable = r; value = None }) ∷ [])) }) i j r) ∙ said_none _

    pub own_bare : {D : ℕ → Type 0} {ss ss' : Stmts} (i j : ℕ) (r : Ref) → OwnT D ss ss' → OwnT D ss (more_stmts (vars i ((record { site = j; variable = r; value = None }) ∷ [])) ss')
    own_bare {ss = ss} {ss' = ss'} i j r h = record { by = λ w le le' k z t ti lb lb'. subst (λ y. WholeT TF I (λ v a b. CompV (K F S P) v a b) w (ex_chunk checked B top ss z) y) (sym (bare_list i j r ss' t)) (h.by w le le' k z t ti lb lb') }

    -- ---- lists of declarators, one by one

    pub own_split : {D : ℕ → Type 0} {ss ss' : Stmts} (i : ℕ) (x : Declarator) (xs : List Declarator) → OwnT D (more_stmts (vars i (x ∷ [])) (more_stmts (vars i xs) ss)) ss' → OwnT D (more_stmts (vars i (x ∷ xs)) ss) ss'
    own_split {ss = ss} {ss' = ss'} i x xs h = record { by = λ w le le' k. subst (λ z. Whole TF I (λ v a b. CompV (K F S P) v a b) w z (ex_chunk checked B' top ss')) (sym (chunk_split B i x xs ss)) (h.by w le le' k) }

    pub own_split_right : {D : ℕ → Type 0} {ss ss' : Stmts} (i : ℕ) (x : Declarator) (xs : List Declarator) → OwnT D ss (more_stmts (vars i (x ∷ [])) (more_stmts (vars i xs) ss')) → OwnT D ss (more_stmts (vars i (x ∷ xs)) ss')
    own_split_right {ss = ss} {ss' = ss'} i x xs h = record { by = λ w le le' k. subst (λ z. Whole TF I (λ v a b. CompV (K F S P) v a b) w (ex_chunk checked B top ss) z) (sym (chunk_split B' i x xs ss')) (h.by w le le' k) }

-- ---- functions are bound before: declarations that the right has alone bind none

pub hoist_right : (K : Kit) (X : Below K) (c : K.Ctx) (i : ℕ) (ds : List Declarator) {ss ss' : Stmts} → St.FollowsHoist K X c ss ss' → St.FollowsHoist K X c ss (more_stmts (vars i ds) ss')
unfolding Rattle.cc_meaning.specs.Meaning.hoist Rattle.cc_meaning.specs.Meaning.hoist_one
hoist_right K X c i ds {ss = ss} {ss' = ss'} h = record { by = λ v l g g' t. subst (λ z. K.Rel (λ w a b. Unit {0}) v (Rattle.cc_meaning.specs.Meaning.hoist K.J g ss) z) (sym (ret_bind tt (λ _. Rattle.cc_meaning.specs.Meaning.hoist K.J' g' ss'))) (h.by v l g g' t) }
