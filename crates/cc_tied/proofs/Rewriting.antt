-- Rewriting from the leaves up keeps what each step and each call keeps: expressions and declarators.
use Rattle.std.proofs.Common.{◌≡◌, refl, ℕ, Bool, true, false, List, [], Option, Some, None}
use Rattle.std.specs.Prelude.{not, ◌&&◌, ◌||◌, is_some}
use Rattle.cc_ast.specs.Syntax.{Prim, undefined, null, truth, whole, text, Expr, lit, var, this, fun, list, object, unary, binary, and, or, cond, assign, step as step_of, member, index, call, new, comma, cast, tick, Target, to_var, to_member, to_index, Exprs, no_exprs, more_exprs, Fields, no_fields, more_fields, Declarator, Stmt, return, Stmts, Cases, more_cases}
use Rattle.cc_ast.specs.declared.operator.BinOp.{BinOp}
use Rattle.cc_ast.specs.declared.operator.UnOp.TheVariants.{Delete}
use Rattle.cc_ast.specs.declared.tree.Ref.{Ref}
use Rattle.cc_meaning.specs.State.{Path}
use Rattle.cc_meaning.specs.Monad.{pick}
use Rattle.cc_meaning.specs.Shapes.{literal_text}
use Rattle.cc_meaning.specs.Meaning as M
use Rattle.cc_tied.specs.Placed.{Place, a_value, an_assigned, a_callee, a_deleted, an_object, accesses, variable, functions, builds, reaches, keeps, guard, operand}
use Rattle.cc_tied.specs.Rewrites.{put, put_call, put_on_value, re, re_target, re_all, re_fields, re_value, re_option, re_declarator}
use Rattle.cc_tied.specs.Fine.{Allowed, FineRead, Fine, FineTarget, FineAll, FineFields, FineOption, FineDeclarator}
use Rattle.cc_tied.proofs.Kit.{Kit}
use Rattle.cc_tied.specs.Tied.{variable_t, slot_t}
use Rattle.cc_tied.proofs.Parts.{Below}
use Rattle.cc_tied.proofs.Expressions as E
use Rattle.cc_tied.proofs.Valued as W
use Rattle.cc_tied.proofs.Nodes as N
use Rattle.cc_tied.proofs.Statements as S

-- ---- what a guard leaves

and_first : (x y : Bool) → y ≡ false → x && not y ≡ false → x ≡ false
and_first true true e h = absurd (cc)
and_first true false e h = h
and_first false y e h = refl

or_first : (x y : Bool) → x || y ≡ false → x ≡ false
or_first true y h = absurd (cc)
or_first false y h = refl

module _ (K : Kit) (X : Below K) (built : Ref → Bool) (c : K.Ctx) where
  -- what ties two expressions at their place
  abbrev pub At : Place → Expr → Expr → Type 0
  At a_value e e' = W.FollowsValue K X built c e e'
  At an_assigned e e' = W.FollowsValue K X built c e e'
  At a_callee e e' = E.FollowsRef K X c None None e e'
  At a_deleted e e' = E.FollowsRef K X c None None e e'
  At an_object e e' = W.FollowsFrom K X built c e e'

  one_value : (b : Bool) {e before after : Expr} → W.FollowsValue K X built c e before → W.FollowsValue K X built c e after → W.FollowsValue K X built c e (pick b before after)
  one_value true h k = h
  one_value false h k = k

  one_reached : (b : Bool) {e before after : Expr} → (b ≡ false → reaches built after ≡ false) → accesses e ≡ false → variable e ≡ false → E.FollowsRef K X c None None e before → W.FollowsValue K X built c e after → E.FollowsRef K X c None None e (pick b before after)
  one_reached true d x y h k = h
  one_reached false d x y h k = W.ref_of_plain K X built c x y (k.plain (d refl))

  one_object : (b : Bool) {e before after : Expr} → (b ≡ false → builds built after ≡ false) → variable e ≡ false → E.FollowsRef K X c None None e before → W.FollowsValue K X built c e after → W.FollowsFrom K X built c e (pick b before after)
  one_object true d y h k = W.reached_t h
  one_object false d y h k = W.valued_t k y (d refl)

  -- an expression that gives a value alone, which is left or exchanged
  placed : (t : Bool) (q : Place) {e : Expr} (before after : Expr) → accesses e ≡ false → variable e ≡ false → reaches built before ≡ false → W.FollowsValue K X built c e before → W.FollowsValue K X built c e after → At q e (guard built t q before after)
  unfolding guard keeps
  placed t a_value before after x y r h k = k
  placed t an_assigned before after x y r h k = one_value (functions after && not (functions before)) h k
  placed t a_callee before after x y r h k = one_reached (reaches built after && not (reaches built before)) (λ d. and_first (reaches built after) (reaches built before) r d) x y (W.ref_of_plain K X built c x y (h.plain r)) k
  placed t a_deleted before after x y r h k = one_reached ((reaches built after && not (reaches built before)) || variable after) (λ d. and_first (reaches built after) (reaches built before) r (or_first (reaches built after && not (reaches built before)) (variable after) d)) x y (W.ref_of_plain K X built c x y (h.plain r)) k
  placed t an_object before after x y r h k = one_object (builds built after || (t && ((variable after || accesses after) && not (variable before || accesses before)))) (λ d. or_first (builds built after) (t && ((variable after || accesses after) && not (variable before || accesses before))) d) y (W.ref_of_plain K X built c x y (h.plain r)) k

  one_ref : (b : Bool) {e before after : Expr} → E.FollowsRef K X c None None e before → E.FollowsRef K X c None None e after → E.FollowsRef K X c None None e (pick b before after)
  one_ref true h k = h
  one_ref false h k = k

  -- a variable, which reaches what it becomes wherever it stands
  placed_variable : (t : Bool) (q : Place) {e : Expr} (before after : Expr) → E.FollowsRef K X c None None e before → W.FollowsValue K X built c e before → E.FollowsRef K X c None None e after → W.FollowsValue K X built c e after → At q e (guard built t q before after)
  unfolding guard keeps
  placed_variable t a_value before after h hv k kv = kv
  placed_variable t an_assigned before after h hv k kv = one_value (functions after && not (functions before)) hv kv
  placed_variable t a_callee before after h hv k kv = one_ref (reaches built after && not (reaches built before)) h k
  placed_variable t a_deleted before after h hv k kv = one_ref ((reaches built after && not (reaches built before)) || variable after) h k
  placed_variable t an_object before after h hv k kv = W.reached_t (one_ref (builds built after || (t && ((variable after || accesses after) && not (variable before || accesses before)))) h k)

  -- what stays
  placed_same : (q : Place) {e e' : Expr} → E.FollowsRef K X c None None e e' → W.FollowsValue K X built c e e' → At q e e'
  placed_same a_value h k = k
  placed_same an_assigned h k = k
  placed_same a_callee h k = h
  placed_same a_deleted h k = h
  placed_same an_object h k = W.reached_t h

-- functions that are bound to a variable, and values that a declarator sets one to
pub data BindsT (K : Kit) (c : K.Ctx) (r : Ref) (f : ℕ) : Type 0 where
  bound_by_write : K.WriteT c r r → BindsT K c r f
  bound_alone : K.BindT c r f → BindsT K c r f

pub data SetsT (K : Kit) (c : K.Ctx) (r : Ref) : Option Expr → Type 0 where
  set_by_write : {o : Option Expr} → K.WriteT c r r → SetsT K c r o
  set_alone : {i : ℕ} {p : Prim} → K.SetT c r p → SetsT K c r (Some (lit i p))

-- what a pass asks beside what the kit ties: of statements under the labels in force, and of variables
-- that declarators stand for
pub record Standing (C : Type 0) : Type 1 where
  pub of_stmt : C → List (List ℕ) → Stmt → Type 0
  pub of_declared : C → Ref → Type 0

-- a pass that asks nothing more
abbrev pub anything : {C : Type 0} → Standing C
anything = record { of_stmt = λ c ls s. Unit {0}; of_declared = λ c r. Unit {0} }

-- what a kit ties to itself, and what a pass asks
abbrev pub allowed : (K : Kit) → (Stands : Standing K.Ctx) → Allowed K.Ctx
allowed K Stands = record { caught = K.in_catch; reads = λ c r. K.ReadT c r r; writes = λ c r. K.WriteT c r r; binds = BindsT K; sets = λ c r o. SetsT K c r o × Stands.of_declared c r; this_here = K.ThisT; makes = λ c f. K.StandT c f f; stands = Stands.of_stmt }

module _ (K : Kit) (X : Below K) (built : Ref → Bool) (Here : K.Ctx → Type 0) (Stands : Standing K.Ctx) (step : Expr → Expr) (step_call : ℕ → Expr → Exprs → Expr) where
  abbrev pub new_declarator : Declarator → Declarator
  new_declarator d = re_declarator built step step_call d

  -- what the steps of a pass owe, in the contexts where it rewrites
  pub record StepRules : Type 0 where
    pub caught : (c : K.Ctx) → Here c → Here (K.in_catch c)
    -- a variable that is read, wherever it stands
    pub reads : (c : K.Ctx) → Here c → (i : ℕ) (r : Ref) → K.ReadT c r r → E.FollowsRef K X c None None (var i r) (step (var i r)) × W.FollowsValue K X built c (var i r) (step (var i r))
    -- a node with its parts
    pub steps : (c : K.Ctx) → Here c → (e e' : Expr) → N.NodeT K X built c e e' → W.FollowsValue K X built c e (step e')
    pub calls : (c : K.Ctx) → Here c → (i : ℕ) (f f' : Expr) (es es' : Exprs) → E.FollowsRef K X c None None f f' → E.FollowsAll K X c es es' → W.FollowsValue K X built c (call i f es) (step_call i f' es')

  module _ (same : N.SameTables K X built) (rules : StepRules) where
    module _ (c : K.Ctx) (here : Here c) where
      abbrev pub New : (t : Bool) → Place → Expr → Expr
      New t q e = re built step step_call t q e

      abbrev pub FE : Expr → Type 0
      FE e = Fine K.Ctx (allowed K Stands) c e

      put_like : (t : Bool) (q : Place) {e e' : Expr} → N.NodeT K X built c e e' → accesses e ≡ false → variable e ≡ false → reaches built e' ≡ false → At K X built c q e (put built step step_call t q e')
      unfolding put
      put_like t q n x y r = placed K X built c t q _ _ x y r (N.node_valued K X built same c n) (rules.steps c here _ _ n)

      call_like : (t : Bool) (q : Place) (i : ℕ) {f f' : Expr} {es es' : Exprs} → E.FollowsRef K X c None None f f' → E.FollowsAll K X c es es' → At K X built c q (call i f es) (put_call built step step_call t q i f' es')
      unfolding put_call accesses variable reaches builds
      call_like t q i h k = placed K X built c t q _ _ refl refl refl (N.call_valued K X built same c i h k) (rules.calls c here i _ _ _ _ h k)

      var_like : (t : Bool) (q : Place) (i : ℕ) (r : Ref) → K.ReadT c r r → At K X built c q (var i r) (put built step step_call t q (var i r))
      unfolding put
      var_like t q i r rd = placed_variable K X built c t q _ _ (E.follows_var K X c (same.sites i) rd) (N.var_valued K X built same c i r rd) (rules.reads c here i r rd).0 (rules.reads c here i r rd).1

      -- an access where it stands
      access_like : (q : Place) {e e' : Expr} → N.NodeT K X built c e e' → E.FollowsRef K X c None None e e' → At K X built c q e (put_on_value built step step_call q e')
      unfolding put_on_value
      access_like a_value n h = rules.steps c here _ _ n
      access_like an_assigned n h = rules.steps c here _ _ n
      access_like a_callee n h = h
      access_like a_deleted n h = h
      access_like an_object n h = W.reached_t h

      cast_object : (i d : ℕ) {e e' : Expr} → W.FollowsFrom K X built c e e' → W.FollowsFrom K X built c (cast i d e) (cast i d e')
      unfolding variable builds
      cast_object i d (W.reached_t h) = W.reached_t (E.follows_cast K X c (same.sites i) (same.docs d) h)
      cast_object i d (W.valued_t h b y) = W.valued_t (W.valued_cast K X built c (same.sites i) (same.docs d) h) b y

      cast_like : (q : Place) (i d : ℕ) (e e' : Expr) → At K X built c q e e' → At K X built c q (cast i d e) (put_on_value built step step_call q (cast i d e'))
      unfolding put_on_value
      cast_like a_value i d e e' h = rules.steps c here _ _ (N.cast_n h)
      cast_like an_assigned i d e e' h = rules.steps c here _ _ (N.cast_n h)
      cast_like a_callee i d e e' h = E.follows_cast K X c (same.sites i) (same.docs d) h
      cast_like a_deleted i d e e' h = E.follows_cast K X c (same.sites i) (same.docs d) h
      cast_like an_object i d e e' h = cast_object i d h

      tick_object : (i n : ℕ) {e e' : Expr} → W.FollowsFrom K X built c e e' → W.FollowsFrom K X built c (tick i n e) (tick i n e')
      unfolding variable builds
      tick_object i n (W.reached_t h) = W.reached_t (E.follows_tick K X c n h)
      tick_object i n (W.valued_t h b y) = W.valued_t (W.valued_tick K X built c n (same.sites i) h) b y

      tick_like : (q : Place) (i n : ℕ) (e e' : Expr) → At K X built c q e e' → At K X built c q (tick i n e) (put_on_value built step step_call q (tick i n e'))
      unfolding put_on_value
      tick_like a_value i n e e' h = rules.steps c here _ _ (N.tick_n h)
      tick_like an_assigned i n e e' h = rules.steps c here _ _ (N.tick_n h)
      tick_like a_callee i n e e' h = E.follows_tick K X c n h
      tick_like a_deleted i n e e' h = E.follows_tick K X c n h
      tick_like an_object i n e e' h = tick_object i n h

      new_key : (t : Bool) (k : Expr) → E.BracketsT K X k (New t a_value k)
      unfolding re literal_text
      new_key t (lit i (text u)) = E.texts_t (same.quoted u)
      new_key t (lit i undefined) = E.values_t refl refl
      new_key t (lit i null) = E.values_t refl refl
      new_key t (lit i (truth b)) = E.values_t refl refl
      new_key t (lit i (whole z)) = E.values_t refl refl
      new_key t k = N.brackets_new K X built same c k _ refl

      -- what the tree says of a variable that is written
      pub data ReadWhere (b : Bool) : Ref → Ref → Type 0 where
        read_where : {r : Ref} → FineRead K.Ctx (allowed K Stands) c b r → ReadWhere b r r

      place_as : {Reads Reads' : Ref → Ref → Type 0} → ((r r' : Ref) → Reads r r' → Reads' r r') → {v : K.World} {a b : M.Place} → E.PlaceS K X c Reads v a b → E.PlaceS K X c Reads' v a b
      place_as f (E.known_t (variable_t s rd wr)) = E.known_t (variable_t s (f _ _ rd) wr)
      place_as f (E.known_t (slot_t h)) = E.known_t (slot_t h)
      place_as f (E.served_t h) = E.served_t h

      target_as : {Reads Reads' : Ref → Ref → Type 0} → ((r r' : Ref) → Reads r r' → Reads' r r') → {u u' : Target} → E.FollowsTarget K X c Reads u u' → E.FollowsTarget K X c Reads' u u'
      target_as f h = record { by = λ v l g g' t. K.rel_as (λ u lu a b q. place_as f q) (h.by v l g g' t) }

      by_operator : (op : Option BinOp) (r r' : Ref) → ReadWhere (is_some op) r r' → E.ReadsBy K X c op r r'
      unfolding FineRead
      by_operator None r r' h = E.not_read
      by_operator (Some op) r r' (read_where h) = E.is_read h

      by_step : (r r' : Ref) → ReadWhere true r r' → K.ReadT c r r'
      unfolding FineRead
      by_step r r' (read_where h) = h

      mutual
        unfolding re Fine accesses variable reaches builds operand E.deletes

        pub re_like : (t : Bool) (q : Place) (e : Expr) → FE e → At K X built c q e (New t q e)
        re_like t q (lit i p) o = placed_same K X built c q (E.follows_lit K X c p) (N.lit_valued K X built same c i p)
        re_like t q (var i r) o = var_like t q i r o
        re_like t q (this i) o = put_like t q (N.this_n o) refl refl refl
        re_like t q (fun i f) o = put_like t q (N.fun_n o) refl refl refl
        re_like t q (list i es) o = put_like t q (N.list_n (re_like_all t es o)) refl refl refl
        re_like t q (object i fs) o = put_like t q (N.object_n (λ p p'. re_like_fields t p p' fs o)) refl refl refl
        re_like t q (unary i Delete e) o = put_like t q (N.delete_n (re_like t a_deleted e o)) refl refl refl
        re_like t q (unary i op e) o = put_like t q (N.unary_n refl (re_like t a_value e o)) refl refl refl
        re_like t q (binary i op a b) o = put_like t q (N.binary_n (re_like t a_value a o.0) (re_like t a_value b o.1)) refl refl refl
        re_like t q (and i a b) o = put_like t q (N.and_n (re_like t a_value a o.0) (re_like t a_value b o.1)) refl refl refl
        re_like t q (or i a b) o = put_like t q (N.or_n (re_like t a_value a o.0) (re_like t a_value b o.1)) refl refl refl
        re_like t q (cond i e a b) o = put_like t q (N.cond_n (re_like t a_value e o.0) (re_like t a_value a o.1) (re_like t a_value b o.2)) refl refl refl
        re_like t q (assign i op u e) o = put_like t q (N.assign_n (target_as (λ r r' h. by_operator op r r' h) (re_like_target (is_some op) u o.0)) (re_like t an_assigned e o.1)) refl refl refl
        re_like t q (step_of i up prefix u) o = put_like t q (N.step_n (target_as (λ r r' h. by_step r r' h) (re_like_target true u o))) refl refl refl
        re_like t q (member i e p) o = let h = re_like t an_object e o in access_like q (N.member_n h) (E.follows_member K X c (same.sites i) (same.paths _ _) (same.props p) (W.from_on K X built c h))
        re_like t q (index i e k) o = let h = re_like t an_object e o.0 in let j = re_like t a_value k o.1 in access_like q (N.index_n h (new_key t k) j) (E.follows_index K X c (same.sites i) (W.from_value K X built c h) (new_key t k) (j.values None None))
        re_like t q (call i f es) o = call_like t q i (re_like t a_callee f o.0) (re_like_all t es o.1)
        re_like t q (new i f es) o = put_like t q (N.new_n (re_like t a_callee f o.0) (re_like_all t es o.1)) refl refl refl
        re_like t q (comma i a b) o = put_like t q (N.comma_n (re_like t a_value a o.0) (re_like t a_value b o.1)) refl refl refl
        re_like t q (cast i d e) o = cast_like q i d e _ (re_like t q e o)
        re_like t q (tick i n e) o = tick_like q i n e _ (re_like t q e o)

        pub re_like_target : (b : Bool) (u : Target) → FineTarget K.Ctx (allowed K Stands) c b u → E.FollowsTarget K X c (ReadWhere b) u (re_target built step step_call u)
        re_like_target b (to_var i r) o = E.target_var K X c (same.sites i) (read_where o.0) o.1
        re_like_target b (to_member i e p) o = E.target_member K X c (same.sites i) (same.paths _ _) (same.props p) (W.from_value K X built c (re_like true an_object e o))
        re_like_target b (to_index i e k) o = E.target_index K X c (same.sites i) (W.from_value K X built c (re_like true an_object e o.0)) (new_key true k) ((re_like true a_value k o.1).values None None)

        pub re_like_all : (t : Bool) (es : Exprs) → FineAll K.Ctx (allowed K Stands) c es → E.FollowsAll K X c es (re_all built step step_call t es)
        re_like_all t no_exprs o = E.follows_no_exprs K X c
        re_like_all t (more_exprs e es) o = E.follows_more_exprs K X c ((re_like t a_value e o.0).values None None) (re_like_all t es o.1)

        pub re_like_fields : (t : Bool) (p p' : Option Path) (fs : Fields) → FineFields K.Ctx (allowed K Stands) c fs → E.FollowsFields K X c p p' fs (re_fields built step step_call t fs)
        re_like_fields t p p' no_fields o = E.follows_no_fields K X c
        re_like_fields t p p' (more_fields k e fs) o = let h = re_like t a_value e o.0 in E.follows_more_fields K X c h.site (same.keys k) (same.paths _ _) (h.values _ _) (re_like_fields t p p' fs o.1)

      -- ---- values and declarators

      abbrev pub NewValue : Expr → Expr
      NewValue e = re_value built step step_call e

      abbrev pub NewOption : Option Expr → Option Expr
      NewOption o = re_option built step step_call o

      pub re_like_value : (e : Expr) → FE e → E.Follows K X c e (NewValue e)
      unfolding re_value
      re_like_value e o = (re_like false a_value e o).values None None

      pub re_like_test : (o : Option Expr) → FineOption K.Ctx (allowed K Stands) c o → S.FollowsTest K X c o (NewOption o)
      unfolding re_option FineOption
      re_like_test None o = S.follows_no_test K X c
      re_like_test (Some e) o = S.follows_test K X c (re_like_value e o)

      pub re_like_only : (o : Option Expr) → FineOption K.Ctx (allowed K Stands) c o → S.FollowsOnly K X c o (NewOption o)
      unfolding re_option FineOption
      re_like_only None o = S.follows_no_only K X c
      re_like_only (Some e) o = S.follows_only K X c (re_like_value e o)

      pub re_like_return : (ls : List (List ℕ)) (i : ℕ) (o : Option Expr) → FineOption K.Ctx (allowed K Stands) c o → S.FollowsStmt K X c ls (return i o) (return i (NewOption o))
      unfolding re_option FineOption
      re_like_return ls i None o = S.follows_return_none K X c (same.sites i)
      re_like_return ls i (Some e) o = S.follows_return K X c (same.sites i) (re_like_value e o)

      pub re_like_case : (v : Option Expr) {b b' : Stmts} {cs cs' : Cases} → FineOption K.Ctx (allowed K Stands) c v → S.FollowsStmts K X c [] b b' → S.FollowsCases K X c cs cs' → S.FollowsCases K X c (more_cases v b cs) (more_cases (NewOption v) b' cs')
      unfolding re_option FineOption
      re_like_case None o h k = S.follows_default K X c h k
      re_like_case (Some e) o h k = S.follows_case K X c (re_like_value e o) h k

      pub set_like : (i : ℕ) (r : Ref) (v : Option Expr) → SetsT K c r v → FineOption K.Ctx (allowed K Stands) c v → S.FollowsSet K X c (record { site = i; variable = r; value = v }) (record { site = i; variable = r; value = NewOption v })
      unfolding re_option FineOption re_value re
      set_like i r None h o = S.follows_bare K X c
      set_like i r (Some e) (set_by_write wr) o = S.follows_set K X c (same.sites i) wr ((re_like false a_value e o).values _ _)
      set_like i r (Some _) (set_alone {i = j} {p = p} h) o = S.follows_set_literal K X c (same.sites i) j j h

      pub re_like_declarator : (d : Declarator) → FineDeclarator K.Ctx (allowed K Stands) c d → S.FollowsSet K X c d (new_declarator d)
      unfolding re_declarator FineDeclarator
      re_like_declarator d o = set_like d.site d.variable d.value o.0.0 o.1
