-- A node whose parts follow, and that it follows itself, for two programs with the same tables.
use Rattle.std.proofs.Common.{◌≡◌, refl, sym, ℕ, Bool, false, List, Option, Some, None, subst}
use Rattle.cc_ast.specs.Syntax.{Prim, undefined, null, truth, whole, text, Expr, lit, var, this, fun, list, object, unary, binary, and, or, cond, assign, step, member, index, call, new, comma, cast, tick, Target, Exprs, Fields}
use Rattle.cc_ast.specs.declared.operator.BinOp.{BinOp}
use Rattle.cc_ast.specs.declared.operator.UnOp.{UnOp}
use Rattle.cc_ast.specs.declared.operator.UnOp.TheVariants.{Delete}
use Rattle.cc_ast.specs.declared.tree.Ref.{Ref}
use Rattle.cc_ast.specs.declared.tree.Key.{Key}
use Rattle.cc_meaning.specs.State.{Path}
use Rattle.cc_meaning.specs.Shapes.{site_of, literal_text}
use Rattle.cc_tied.specs.Tied.{built_of}
use Rattle.cc_tied.specs.Placed.{accesses, variable, builds, reaches}
use Rattle.cc_tied.proofs.Kit.{Kit}
use Rattle.cc_tied.proofs.Parts.{PathT, SiteT, Below}
use Rattle.cc_tied.proofs.Expressions.{FollowsRef, Follows, FollowsAll, FollowsFields, FollowsTarget, ReadsBy, PropT, BracketsT, values_t, written_t, NewKeyT, deletes, as_value, follows_var, follows_lit, follows_this, follows_fun, follows_list, follows_object, follows_binary, follows_and, follows_or, follows_cond, follows_comma, follows_assign, follows_step, follows_member, follows_index, follows_call, follows_new, follows_delete, follows_unary}
use Rattle.cc_tied.proofs.Valued.{FollowsValue, FollowsFrom, from_value, from_on, valued_alone, valued_access, valued_cast, valued_tick, var_plain}

-- the literal that is written as a text
pub text_literal : (e : Expr) (t : List ℕ) → literal_text e ≡ Some t → (i : ℕ) × (e ≡ lit i (text t))
unfolding literal_text
text_literal (lit i (text u)) t h = (i, cc)
text_literal (lit i undefined) t h = absurd (cc)
text_literal (lit i null) t h = absurd (cc)
text_literal (lit i (truth b)) t h = absurd (cc)
text_literal (lit i (whole z)) t h = absurd (cc)
text_literal _ t h = absurd (cc)

module _ (K : Kit) (X : Below K) (built : Ref → Bool) where
  open K use {tables', DocT, ReadT, ThisT, StandT, QuotedT, WrittenT, Ctx}

  -- two programs that differ in their trees alone and have no flat paths
  pub record SameTables : Type 0 where
    pub sites : (i : ℕ) → SiteT K i i
    pub paths : (p p' : Option Path) → PathT K p p'
    pub props : (p : ℕ) → PropT K X p p
    pub keys : (k : Key) → NewKeyT K X k k
    pub docs : (d : ℕ) → DocT d d
    pub quoted : (t : List ℕ) → QuotedT t
    pub written : (t : List ℕ) → WrittenT t
    pub builts : (r : Ref) → built r ≡ false → built_of tables' r ≡ None

  -- two nodes of one kind, with their parts
  pub data NodeT (c : Ctx) : Expr → Expr → Type 0 where
    this_n : {i : ℕ} → ThisT c → NodeT c (this i) (this i)
    fun_n : {i f : ℕ} → StandT c f f → NodeT c (fun i f) (fun i f)
    list_n : {i : ℕ} {es es' : Exprs} → FollowsAll K X c es es' → NodeT c (list i es) (list i es')
    object_n : {i : ℕ} {fs fs' : Fields} → ((p p' : Option Path) → FollowsFields K X c p p' fs fs') → NodeT c (object i fs) (object i fs')
    delete_n : {i : ℕ} {e e' : Expr} → FollowsRef K X c None None e e' → NodeT c (unary i Delete e) (unary i Delete e')
    unary_n : {i : ℕ} {op : UnOp} {e e' : Expr} → deletes op ≡ false → FollowsValue K X built c e e' → NodeT c (unary i op e) (unary i op e')
    binary_n : {i : ℕ} {op : BinOp} {a a' b b' : Expr} → FollowsValue K X built c a a' → FollowsValue K X built c b b' → NodeT c (binary i op a b) (binary i op a' b')
    and_n : {i : ℕ} {a a' b b' : Expr} → FollowsValue K X built c a a' → FollowsValue K X built c b b' → NodeT c (and i a b) (and i a' b')
    or_n : {i : ℕ} {a a' b b' : Expr} → FollowsValue K X built c a a' → FollowsValue K X built c b b' → NodeT c (or i a b) (or i a' b')
    cond_n : {i : ℕ} {e e' a a' b b' : Expr} → FollowsValue K X built c e e' → FollowsValue K X built c a a' → FollowsValue K X built c b b' → NodeT c (cond i e a b) (cond i e' a' b')
    assign_n : {i : ℕ} {op : Option BinOp} {u u' : Target} {e e' : Expr} → FollowsTarget K X c (ReadsBy K X c op) u u' → FollowsValue K X built c e e' → NodeT c (assign i op u e) (assign i op u' e')
    step_n : {i : ℕ} {up prefix : Bool} {u u' : Target} → FollowsTarget K X c (ReadT c) u u' → NodeT c (step i up prefix u) (step i up prefix u')
    member_n : {i p : ℕ} {e e' : Expr} → FollowsFrom K X built c e e' → NodeT c (member i e p) (member i e' p)
    index_n : {i : ℕ} {e e' k k' : Expr} → FollowsFrom K X built c e e' → BracketsT K X k k' → FollowsValue K X built c k k' → NodeT c (index i e k) (index i e' k')
    new_n : {i : ℕ} {f f' : Expr} {es es' : Exprs} → FollowsRef K X c None None f f' → FollowsAll K X c es es' → NodeT c (new i f es) (new i f' es')
    comma_n : {i : ℕ} {a a' b b' : Expr} → FollowsValue K X built c a a' → FollowsValue K X built c b b' → NodeT c (comma i a b) (comma i a' b')
    cast_n : {i d : ℕ} {e e' : Expr} → FollowsValue K X built c e e' → NodeT c (cast i d e) (cast i d e')
    tick_n : {i n : ℕ} {e e' : Expr} → FollowsValue K X built c e e' → NodeT c (tick i n e) (tick i n e')

  module _ (same : SameTables) (c : Ctx) where
    value_of_node : {e e' : Expr} → FollowsValue K X built c e e' → Follows K X c e e'
    value_of_node h = h.values None None

    pub lit_valued : (i : ℕ) (p : Prim) → FollowsValue K X built c (lit i p) (lit i p)
    unfolding accesses variable site_of
    lit_valued i p = valued_alone K X built c refl refl (same.sites i) (λ q q'. follows_lit K X c p)

    -- a variable that stays
    pub var_valued : (i : ℕ) (r : Ref) → ReadT c r r → FollowsValue K X built c (var i r) (var i r)
    unfolding site_of reaches accesses builds
    var_valued i r rd = record { site = same.sites i; values = λ p p'. as_value K X c (follows_var K X c (same.sites i) rd); plain = λ q. var_plain K X built c (same.sites i) rd (same.builts r q) }

    pub node_valued : {e e' : Expr} → NodeT c e e' → FollowsValue K X built c e e'
    unfolding accesses variable reaches builds site_of
    node_valued (this_n {i = i} h) = valued_alone K X built c refl refl (same.sites i) (λ p p'. follows_this K X c (same.sites i) h)
    node_valued (fun_n {i = i} h) = valued_alone K X built c refl refl (same.sites i) (λ p p'. follows_fun K X c (same.sites i) h)
    node_valued (list_n {i = i} h) = valued_alone K X built c refl refl (same.sites i) (λ p p'. follows_list K X c h)
    node_valued (object_n {i = i} h) = valued_alone K X built c refl refl (same.sites i) (λ p p'. follows_object K X c (h p p'))
    node_valued (delete_n {i = i} h) = valued_alone K X built c refl refl (same.sites i) (λ p p'. follows_delete K X c (same.sites i) h)
    node_valued (unary_n {i = i} {op = op} d h) = valued_alone K X built c refl refl (same.sites i) (λ p p'. follows_unary K X c (same.sites i) op d (value_of_node h))
    node_valued (binary_n {i = i} {op = op} h k) = valued_alone K X built c refl refl (same.sites i) (λ p p'. follows_binary K X c (same.sites i) op (value_of_node h) (value_of_node k))
    node_valued (and_n {i = i} h k) = valued_alone K X built c refl refl (same.sites i) (λ p p'. follows_and K X c (value_of_node h) (value_of_node k))
    node_valued (or_n {i = i} h k) = valued_alone K X built c refl refl (same.sites i) (λ p p'. follows_or K X c (value_of_node h) (value_of_node k))
    node_valued (cond_n {i = i} h k m) = valued_alone K X built c refl refl (same.sites i) (λ p p'. follows_cond K X c (value_of_node h) (value_of_node k) (value_of_node m))
    node_valued (assign_n {i = i} {op = op} hu h) = valued_alone K X built c refl refl (same.sites i) (λ p p'. follows_assign K X c (same.sites i) op hu (h.values _ _))
    node_valued (step_n {i = i} {up = up} {prefix = prefix} hu) = valued_alone K X built c refl refl (same.sites i) (λ p p'. follows_step K X c (same.sites i) up prefix hu)
    node_valued (member_n {i = i} {p = q} h) = valued_access K X built c refl (same.sites i) (λ p p'. follows_member K X c (same.sites i) (same.paths _ _) (same.props q) (from_on K X built c h))
    node_valued (index_n {i = i} h b k) = valued_access K X built c refl (same.sites i) (λ p p'. follows_index K X c (same.sites i) (from_value K X built c h) b (value_of_node k))
    node_valued (new_n {i = i} h k) = valued_alone K X built c refl refl (same.sites i) (λ p p'. follows_new K X c (same.sites i) (as_value K X c h) k)
    node_valued (comma_n {i = i} h k) = valued_alone K X built c refl refl (same.sites i) (λ p p'. follows_comma K X c (value_of_node h) (value_of_node k))
    node_valued (cast_n {i = i} {d = d} h) = valued_cast K X built c (same.sites i) (same.docs d) h
    node_valued (tick_n {i = i} {n = n} h) = valued_tick K X built c n (same.sites i) h

    pub call_valued : (i : ℕ) {f f' : Expr} {es es' : Exprs} → FollowsRef K X c None None f f' → FollowsAll K X c es es' → FollowsValue K X built c (call i f es) (call i f' es')
    unfolding accesses variable site_of
    call_valued i h k = valued_alone K X built c refl refl (same.sites i) (λ p p'. follows_call K X c (same.sites i) h k)

    brackets_by : (k k' : Expr) → literal_text k ≡ None → (o : Option (List ℕ)) → literal_text k' ≡ o → BracketsT K X k k'
    brackets_by k k' e None d = values_t e d
    brackets_by k k' e (Some t) d = let l = text_literal k' t d in subst (λ z. BracketsT K X k z) (sym l.1) (written_t e (same.written t))

    -- a key between brackets that is no literal may become one
    pub brackets_new : (k k' : Expr) → literal_text k ≡ None → BracketsT K X k k'
    brackets_new k k' e = brackets_by k k' e (literal_text k') refl
