-- Each expression keeps a relation between runs.
use Rattle.std.proofs.Common.{◌≡◌, refl, sym, ap, ◌∙◌, ℕ, Bool, true, false, List, [], ◌∷◌, ◌++◌, Option, Some, None, subst}
use Rattle.cc_ast.specs.Syntax.{Prim, text, Expr, lit, var, this, fun, list, object, unary, binary, and, or, cond, assign, step, member, index, call, new, comma, cast, tick, Target, to_var, to_member, to_index, Exprs, no_exprs, more_exprs, Fields, no_fields, more_fields}
use Rattle.cc_ast.specs.declared.operator.BinOp.{BinOp}
use Rattle.cc_ast.specs.declared.tree.Ref.{Ref}
use Rattle.cc_ast.specs.declared.tree.Key.{Key}
use Rattle.cc_ast.specs.declared.operator.UnOp.{UnOp}
use Rattle.cc_ast.specs.declared.operator.UnOp.TheVariants.{Plus, Delete}
use Rattle.cc_ast.specs.declared.operator.BinOp.TheVariants.{Add, Sub}
use Rattle.cc_meaning.specs.Values.{Val, prim, at_site}
use Rattle.cc_meaning.specs.State.{Env, Path}
use Rattle.cc_meaning.specs.Monad.{M, ret, ◌>>=◌, with_tables, pick, Mode}
use Rattle.cc_meaning.specs.Operators.{truthy, key_text}
use Rattle.cc_meaning.specs.Store.{Access, dotted, quoted, runtime, Built, Global, extern, built_in, of_chunk, global_kind, name_of, flat_of}
use Rattle.cc_meaning.specs.Acts.{operate_one, read_var, is_whole, runtime_key, key_given}
use Rattle.cc_meaning.specs.Shapes.{site_of, longer, path_of, path_of_target, path_of_key, literal_text, literal_key}
use Rattle.cc_meaning.specs.Calls.{Reach, plain, access, built_global, built_member, value_of, value, member_use, Bodies, apply_unary, delete_at, cast_reach, callee_of, apply}
use Rattle.cc_meaning.specs.Meaning.{Place, variable_place, slot_place, reference, reach_global, reach_var, reach_member, put_key, key_by, stepped, ev, ev_target, evs, ev_fields, updated, get_place, put_place}
use Rattle.cc_tied.specs.Tied.{built_of, built_at, RuntimeT, runtime_t, nil_t, cons_t, none_t, prim_t, out_t, obj_t, plain_t, access_t, global_t, member_t, variable_t, slot_t}
use Rattle.cc_tied.proofs.Kit.{Kit}
use Rattle.cc_tied.proofs.Parts.{list_on, rel_pick, truthy_tied, V, ListV, ReferenceV, ReachV, PlaceV, CalleeV, Done, PathT, Below, val_later, place_later, callee_later}
use Rattle.cc_tied.proofs.Laws.{ret_bind, bind_assoc, bind_alike}
use Rattle.cc_tied.proofs.Judged.{rel_operate, rel_operate_one, rel_runtime_key, rel_read_this, rel_remove_on}
use Rattle.cc_tied.proofs.Calls.{rel_get, rel_put_to, rel_put_on, rel_keep_flat, rel_value, rel_value_of, rel_callee_of, rel_apply, rel_construct}

-- a variable, or what a built-in global stands for
unfoldable pub reach_built : Mode → ℕ → Env → Ref → Option Built → M Reach
reach_built J i g r None = read_var J (at_site i) g r >>= λ v. ret (plain v)
reach_built J i g r (Some b) = ret (built_global i b)

reach_kind : (J : Mode) (i : ℕ) (g : Env) (n : ℕ) (k : Global) → reach_global J i g n k ≡ reach_built J i g (Ref.Global n) (built_at k)
unfolding reach_global reach_built built_at
reach_kind J i g n extern = refl
reach_kind J i g n (built_in b) = refl
reach_kind J i g n (of_chunk c) = refl

pub reach_by : (J : Mode) (i : ℕ) (g : Env) (r : Ref) → reach_var J i g r ≡ with_tables (λ T. reach_built J i g r (built_of T r))
unfolding reach_var reach_built built_of with_tables
reach_by J i g (Ref.Frame up n) = refl
reach_by J i g (Ref.Global n) = λ j. with_tables (λ T. reach_kind J i g n (global_kind T n) j)

-- the value of a literal
pub value_literal : (J : Mode) (B : Bodies) (g : Env) (p : Option Path) (i : ℕ) (q : Prim) → value J B (ev J B g p (lit i q)) ≡ ret (prim q)
unfolding ev value value_of
value_literal J B g p i q = ret_bind (plain (prim q)) (value_of J B)

-- `delete` alone doesn't take the value of its operand
unfoldable pub deletes : UnOp → Bool
deletes Delete = true
deletes _ = false

unary_on_value : (J : Mode) (B : Bodies) (i : ℕ) (op : UnOp) → deletes op ≡ false → (r : Reach) → apply_unary J B i op r ≡ (value_of J B r >>= λ v. operate_one J (at_site i) op v)
unfolding apply_unary deletes
unary_on_value J B i Delete e r = absurd (cc)
unary_on_value J B i op e r = refl

unary_values : (J : Mode) (B : Bodies) (i : ℕ) (op : UnOp) → deletes op ≡ false → (m : M Reach) → (m >>= λ r. apply_unary J B i op r >>= λ v. ret (plain v)) ≡ (value J B m >>= λ v. operate_one J (at_site i) op v >>= λ x. ret (plain x))
unfolding value
unary_values J B i op e m =
    bind_alike m _ _ (λ r. ap (λ z. z >>= λ v. ret (plain v)) (unary_on_value J B i op e r) ∙ bind_assoc (value_of J B r) (λ v. operate_one J (at_site i) op v) (λ v. ret (plain v)))
    ∙ sym (bind_assoc m (value_of J B) (λ v. operate_one J (at_site i) op v >>= λ x. ret (plain x)))

-- a call: its callee with the receiver, and then its arguments
pub call_by : (J : Mode) (B : Bodies) (g : Env) (p : Option Path) (i : ℕ) (f : Expr) (es : Exprs) → ev J B g p (call i f es) ≡ ((ev J B g None f >>= λ r. callee_of J B r) >>= λ c. evs J B g es >>= λ vs. apply J B (at_site i) c vs >>= λ v. ret (plain v))
unfolding ev
call_by J B g p i f es = sym (bind_assoc (ev J B g None f) (λ r. callee_of J B r) (λ c. evs J B g es >>= λ vs. apply J B (at_site i) c vs >>= λ v. ret (plain v)))

module _ (K : Kit) (X : Below K) where
  open K use {J, J', tables, tables', World, Later, later, now, SpotT, FlatT, DocT, StandT, ReadT, WriteT, ThisT, QuotedT, WrittenT, read_built, NewT, new_later, new_value, KeyT, key_later, key_runtime, key_quoted, key_written, EnvT, env_later, env_this, Ctx, Rel, rel_as, rel_ret, rel_bind, rel_mark, rel_fault, rel_given, rel_tables, rel_object, rel_array, rel_function, rel_read_var, rel_write_var, rel_cast}
  open X use {B, B', w}

  -- two expressions reach what is tied, where the paths that are set to them are p and p'
  pub record FollowsRef (c : Ctx) (p p' : Option Path) (e e' : Expr) : Type 0 where
    pub by : (v : World) → Later w v → (g g' : Env) → EnvT c v g g' → Rel (ReachV K) v (ev J B g p e) (ev J' B' g' p' e')

  -- their values are tied, and so by R
  pub record FollowsAs (R : World → Val → Val → Type 0) (c : Ctx) (p p' : Option Path) (e e' : Expr) : Type 0 where
    pub by : (v : World) → Later w v → (g g' : Env) → EnvT c v g g' → Rel R v (value J B (ev J B g p e)) (value J' B' (ev J' B' g' p' e'))

  abbrev pub Follows : Ctx → Expr → Expr → Type 0
  Follows c e e' = FollowsAs (V K) c None None e e'

  pub record FollowsAll (c : Ctx) (es es' : Exprs) : Type 0 where
    pub by : (v : World) → Later w v → (g g' : Env) → EnvT c v g g' → Rel (ListV K) v (evs J B g es) (evs J' B' g' es')

  -- the keys of two object literals, whose objects are tied as new ones
  pub record FollowsFields (c : Ctx) (p p' : Option Path) (fs fs' : Fields) : Type 0 where
    pub by : (v : World) → Later w v → (g g' : Env) → EnvT c v g g' → (o o' : Val) → NewT v o o' → Rel (Done K) v (ev_fields J B g p o fs) (ev_fields J' B' g' p' o' fs')

  -- a property that is reached with a dot
  pub record PropT (p p' : ℕ) : Type 0 where
    pub keys : (v : World) → Later w v → (x y : Val) → V K v x y → KeyT v x (dotted p) (dotted p')
    pub uses : (b : Built) → member_use b (name_of tables (dotted p)) ≡ member_use b (name_of tables' (dotted p'))

  -- a key of a literal
  pub record NewKeyT (k k' : Key) : Type 0 where
    pub keys : (v : World) → Later w v → (x y : Val) → NewT v x y → KeyT v x (literal_key k) (literal_key k')

  -- keys between brackets: values on both sides, or one text; or a text that the right has written
  pub data BracketsT : Expr → Expr → Type 0 where
    values_t : {k k' : Expr} → literal_text k ≡ None → literal_text k' ≡ None → BracketsT k k'
    texts_t : {i i' : ℕ} {t : List ℕ} → QuotedT t → BracketsT (lit i (text t)) (lit i' (text t))
    written_t : {k : Expr} {i' : ℕ} {t : List ℕ} → literal_text k ≡ None → WrittenT t → BracketsT k (lit i' (text t))

  pub rel_reference : {v : World} {i i' : ℕ} {p p' : Option Path} {x y : Val} {a b : Access} → SpotT (at_site i) (at_site i') → PathT K p p' → V K v x y → KeyT v x a b → Rel (ReferenceV K) v (reference i p x a) (reference i' p' y b)
  unfolding reference
  rel_reference {i = i} {i' = i'} {p = p} {p' = p'} {x = x} {y = y} {a = a} {b = b} s pt h k = rel_tables _ _ (rel_ret (record { site = i; on = x; key = a; path = flat_of tables p; casts = [] }) (record { site = i'; on = y; key = b; path = flat_of tables' p'; casts = [] }) (record { site = s; on = h; key = k; path = pt.flat; casts = nil_t }))

  -- a value that is reached as one
  rel_plain : {v : World} {m m' : M Val} → Rel (V K) v m m' → Rel (ReachV K) v (m >>= λ x. ret (plain x)) (m' >>= λ x. ret (plain x))
  rel_plain h = rel_bind h (λ v2 l2 x y q. rel_ret (plain x) (plain y) (plain_t q))

  no_path : PathT K None None
  unfolding flat_of
  no_path = record { flat = none_t }

  module _ (c : Ctx) where
    pub as_value : {p p' : Option Path} {e e' : Expr} → FollowsRef c p p' e e' → FollowsAs (V K) c p p' e e'
    as_value h = record { by = λ v l g g' t. rel_value K X l (h.by v l g g' t) }

    -- ---- values

    pub follows_lit : (q : Prim) {i i' : ℕ} {p p' : Option Path} → FollowsRef c p p' (lit i q) (lit i' q)
    unfolding ev
    follows_lit q = record { by = λ v l g g' t. rel_ret (plain (prim q)) (plain (prim q)) (plain_t prim_t) }

    rel_reach_built : {v : World} {i i' : ℕ} {g g' : Env} {r r' : Ref} → SpotT (at_site i) (at_site i') → EnvT c v g g' → ReadT c r r' → (o : Option Built) → Rel (ReachV K) v (reach_built J i g r o) (reach_built J' i' g' r' o)
    unfolding reach_built
    rel_reach_built s t rd None = rel_plain (rel_read_var s t rd)
    rel_reach_built {i = i} {i' = i'} s t rd (Some b) = rel_ret (built_global i b) (built_global i' b) (global_t s)

    rel_reach_var : {v : World} {i i' : ℕ} {g g' : Env} {r r' : Ref} → SpotT (at_site i) (at_site i') → EnvT c v g g' → ReadT c r r' → Rel (ReachV K) v (reach_var J i g r) (reach_var J' i' g' r')
    rel_reach_var {v = v} {i = i} {i' = i'} {g = g} {g' = g'} {r = r} {r' = r'} s t rd = rw (reach_by J i g r, reach_by J' i' g' r') (rel_tables _ _ (subst (λ z. Rel (ReachV K) v (reach_built J i g r (built_of tables r)) (reach_built J' i' g' r' z)) (read_built rd) (rel_reach_built s t rd (built_of tables r))))

    pub follows_var : {i i' : ℕ} → SpotT (at_site i) (at_site i') → {r r' : Ref} → ReadT c r r' → {p p' : Option Path} → FollowsRef c p p' (var i r) (var i' r')
    unfolding ev
    follows_var s rd = record { by = λ v l g g' t. rel_reach_var s t rd }

    pub follows_this : {i i' : ℕ} → SpotT (at_site i) (at_site i') → ThisT c → {p p' : Option Path} → FollowsRef c p p' (this i) (this i')
    unfolding ev
    follows_this s h = record { by = λ v l g g' t. rel_plain (rel_read_this K s (env_this h t)) }

    pub follows_fun : {i i' : ℕ} → SpotT (at_site i) (at_site i') → {f f' : ℕ} → StandT c f f' → {p p' : Option Path} → FollowsRef c p p' (fun i f) (fun i' f')
    unfolding ev
    follows_fun s h = record { by = λ v l g g' t. rel_plain (rel_function s h t) }

    pub follows_list : {i i' : ℕ} {es es' : Exprs} → FollowsAll c es es' → {p p' : Option Path} → FollowsRef c p p' (list i es) (list i' es')
    unfolding ev
    follows_list h = record { by = λ v l g g' t. rel_bind (h.by v l g g' t) (λ v2 l2 vs vs' q. rel_plain (rel_array q)) }

    pub follows_no_exprs : FollowsAll c no_exprs no_exprs
    unfolding ev
    follows_no_exprs = record { by = λ v l g g' t. rel_ret [] [] nil_t }

    pub follows_more_exprs : {e e' : Expr} {es es' : Exprs} → Follows c e e' → FollowsAll c es es' → FollowsAll c (more_exprs e es) (more_exprs e' es')
    unfolding ev
    follows_more_exprs h k = record {
      by = λ v l g g' t.
          rel_bind (h.by v l g g' t) (λ v2 l2 x y q.
          rel_bind (k.by v2 (later l l2) g g' (env_later l2 t)) (λ v3 l3 vs vs' r. rel_ret (x ∷ vs) (y ∷ vs') (cons_t (val_later K l3 q) r)));
    }

    pub follows_object : {i i' : ℕ} {p p' : Option Path} {fs fs' : Fields} → FollowsFields c p p' fs fs' → FollowsRef c p p' (object i fs) (object i' fs')
    unfolding ev
    follows_object h = record {
      by = λ v l g g' t.
          rel_bind rel_object (λ v2 l2 o o' q.
          rel_bind (h.by v2 (later l l2) g g' (env_later l2 t) o o' q) (λ v3 l3 _ _ _. rel_ret (plain o) (plain o') (plain_t (val_later K l3 (new_value q)))));
    }

    pub follows_no_fields : {p p' : Option Path} → FollowsFields c p p' no_fields no_fields
    unfolding ev
    follows_no_fields = record { by = λ v l g g' t o o' q. rel_ret tt tt tt }

    rel_put_key : {v : World} {i i' : ℕ} → SpotT (at_site i) (at_site i') → {o o' x y : Val} {a b : Access} {p p' : Option Path} → PathT K p p' → V K v o o' → KeyT v o a b → V K v x y → Rel (Done K) v (put_key J i o a p x) (put_key J' i' o' b p' y)
    unfolding put_key
    rel_put_key s pt o k h = rel_bind (rel_put_on K X s o k h) (λ v2 l2 _ _ _. rel_tables _ _ (rel_keep_flat K X s pt.flat (val_later K l2 h)))

    pub follows_more_fields : {p p' : Option Path} {k k' : Key} {e e' : Expr} {fs fs' : Fields} → SpotT (at_site (site_of e)) (at_site (site_of e')) → NewKeyT k k' → PathT K (path_of_key p k) (path_of_key p' k') → FollowsAs (V K) c (path_of_key p k) (path_of_key p' k') e e' → FollowsFields c p p' fs fs' → FollowsFields c p p' (more_fields k e fs) (more_fields k' e' fs')
    unfolding ev
    follows_more_fields s kt pt h hs = record {
      by = λ v l g g' t o o' q.
          rel_bind (h.by v l g g' t) (λ v2 l2 x y r.
          rel_bind (rel_put_key s pt (val_later K l2 (new_value q)) (kt.keys v2 (later l l2) o o' (new_later l2 q)) r) (λ v3 l3 _ _ _.
          hs.by v3 (later l (later l2 l3)) g g' (env_later (later l2 l3) t) o o' (new_later (later l2 l3) q)));
    }

    -- ---- operators

    pub follows_binary : {i i' : ℕ} → SpotT (at_site i) (at_site i') → (op : BinOp) {a a' b b' : Expr} → Follows c a a' → Follows c b b' → {p p' : Option Path} → FollowsRef c p p' (binary i op a b) (binary i' op a' b')
    unfolding ev
    follows_binary s op h k = record {
      by = λ v l g g' t.
          rel_bind (h.by v l g g' t) (λ v2 l2 x x' q.
          rel_bind (k.by v2 (later l l2) g g' (env_later l2 t)) (λ v3 l3 y y' r. rel_plain (rel_operate K s op (val_later K l3 q) r)));
    }

    pub follows_and : {i i' : ℕ} {a a' b b' : Expr} → Follows c a a' → Follows c b b' → {p p' : Option Path} → FollowsRef c p p' (and i a b) (and i' a' b')
    unfolding ev
    follows_and h k = record {
      by = λ v l g g' t.
          rel_bind (h.by v l g g' t) (λ v2 l2 x y q. rel_plain (rel_pick K (truthy x) (truthy y) (truthy_tied K q) (k.by v2 (later l l2) g g' (env_later l2 t)) (rel_ret x y q)));
    }

    pub follows_or : {i i' : ℕ} {a a' b b' : Expr} → Follows c a a' → Follows c b b' → {p p' : Option Path} → FollowsRef c p p' (or i a b) (or i' a' b')
    unfolding ev
    follows_or h k = record {
      by = λ v l g g' t.
          rel_bind (h.by v l g g' t) (λ v2 l2 x y q. rel_plain (rel_pick K (truthy x) (truthy y) (truthy_tied K q) (rel_ret x y q) (k.by v2 (later l l2) g g' (env_later l2 t))));
    }

    pub follows_cond : {i i' : ℕ} {e e' a a' b b' : Expr} → Follows c e e' → Follows c a a' → Follows c b b' → {p p' : Option Path} → FollowsRef c p p' (cond i e a b) (cond i' e' a' b')
    unfolding ev
    follows_cond h k m = record {
      by = λ v l g g' t.
          rel_bind (h.by v l g g' t) (λ v2 l2 x y q. rel_plain (rel_pick K (truthy x) (truthy y) (truthy_tied K q) (k.by v2 (later l l2) g g' (env_later l2 t)) (m.by v2 (later l l2) g g' (env_later l2 t))));
    }

    pub follows_comma : {i i' : ℕ} {a a' b b' : Expr} → Follows c a a' → Follows c b b' → {p p' : Option Path} → FollowsRef c p p' (comma i a b) (comma i' a' b')
    unfolding ev
    follows_comma h k = record {
      by = λ v l g g' t.
          rel_bind (h.by v l g g' t) (λ v2 l2 x y q. rel_plain (k.by v2 (later l l2) g g' (env_later l2 t)));
    }

    pub follows_tick : (n : ℕ) {i i' : ℕ} {e e' : Expr} → FollowsRef c None None e e' → {p p' : Option Path} → FollowsRef c p p' (tick i n e) (tick i' n e')
    unfolding ev
    follows_tick n h = record { by = λ v l g g' t. rel_bind (rel_mark n) (λ v2 l2 _ _ _. h.by v2 (later l l2) g g' (env_later l2 t)) }

    -- ---- what is reached

    rel_member_on : {v : World} → Later w v → {i i' : ℕ} → SpotT (at_site i) (at_site i') → {p p' : Option Path} → PathT K p p' → {q q' : ℕ} → PropT q q' → {a b : Reach} → ReachV K v a b → Rel (ReachV K) v (reach_member J B i p q a) (reach_member J' B' i' p' q' b)
    unfolding reach_member
    rel_member_on l {i = i} {i' = i'} s pt {q = q} {q' = q'} kt (global_t {b = b} j) = rel_tables _ _ (rel_ret (built_member i b (name_of tables (dotted q))) (built_member i' b (name_of tables' (dotted q'))) (member_t s (kt.uses b)))
    rel_member_on l s pt kt (plain_t h) = rel_bind (rel_value_of K X l (plain_t h)) (λ v2 l2 x y r. rel_bind (rel_reference s pt r (kt.keys v2 (later l l2) x y r)) (λ v3 l3 a b h. rel_ret (access a) (access b) (access_t h)))
    rel_member_on l s pt kt (access_t h) = rel_bind (rel_value_of K X l (access_t h)) (λ v2 l2 x y r. rel_bind (rel_reference s pt r (kt.keys v2 (later l l2) x y r)) (λ v3 l3 a b h. rel_ret (access a) (access b) (access_t h)))
    rel_member_on l s pt kt (member_t j e) = rel_bind (rel_value_of K X l (member_t j e)) (λ v2 l2 x y r. rel_bind (rel_reference s pt r (kt.keys v2 (later l l2) x y r)) (λ v3 l3 a b h. rel_ret (access a) (access b) (access_t h)))

    -- two expressions before a dot
    pub record FollowsOn (e e' : Expr) : Type 0 where
      pub by : (v : World) → Later w v → (g g' : Env) → EnvT c v g g' → {i i' : ℕ} → SpotT (at_site i) (at_site i') → {p p' : Option Path} → PathT K p p' → {q q' : ℕ} → PropT q q' → Rel (ReachV K) v (ev J B g None e >>= λ r. reach_member J B i p q r) (ev J' B' g' None e' >>= λ r. reach_member J' B' i' p' q' r)

    pub on_reached : {e e' : Expr} → FollowsRef c None None e e' → FollowsOn e e'
    on_reached h = record { by = λ v l g g' t s pt kt. rel_bind (h.by v l g g' t) (λ v2 l2 r r' q. rel_member_on (later l l2) s pt kt q) }

    pub follows_member : {i i' : ℕ} → SpotT (at_site i) (at_site i') → {e e' : Expr} {q q' : ℕ} → PathT K (longer (path_of e) q) (longer (path_of e') q') → PropT q q' → FollowsOn e e' → {p p' : Option Path} → FollowsRef c p p' (member i e q) (member i' e' q')
    unfolding ev
    follows_member s pt kt h = record { by = λ v l g g' t. h.by v l g g' t s pt kt }

    rel_runtime_by : {v : World} {i i' : ℕ} → SpotT (at_site i) (at_site i') → {y y' : Val} → V K v y y' → Rel (λ u a b. (x : Val) → KeyT u x a b) v (key_by J i None y) (key_by J' i' None y')
    unfolding key_by
    rel_runtime_by s h = rel_as (λ u l a b k x. as_key k x) (rel_runtime_key K s h)
      where
        as_key : {u : World} {a b : Access} → RuntimeT a b → (x : Val) → KeyT u x a b
        as_key (runtime_t y e) x = key_runtime x y e

    rel_quoted_by : {v : World} (i i' : ℕ) {t : List ℕ} → QuotedT t → (y y' : Val) → Rel (λ u a b. (x : Val) → KeyT u x a b) v (key_by J i (Some t) y) (key_by J' i' (Some t) y')
    unfolding key_by
    rel_quoted_by i i' {t = t} h y y' = rel_ret (quoted t) (quoted t) (λ x. key_quoted x h)

    text_tied : {v : World} {y y' : Val} {t : List ℕ} → V K v y y' → y' ≡ prim (text t) → y ≡ prim (text t)
    text_tied prim_t e = e
    text_tied out_t e = e
    text_tied (obj_t h) e = absurd (cc)

    rel_written_by : {v : World} (i i' : ℕ) {t : List ℕ} → WrittenT t → (y y' : Val) → y ≡ prim (text t) → Rel (λ u a b. (x : Val) → KeyT u x a b) v (key_by J i None y) (key_by J' i' (Some t) y')
    unfolding key_by runtime_key key_given is_whole key_text
    rel_written_by {v = v} i i' {t = t} h y y' e = subst (λ z. Rel (λ u a b. (x : Val) → KeyT u x a b) v (key_by J i None z) (key_by J' i' (Some t) y')) (sym e) (rel_ret (runtime t false) (quoted t) (λ x. key_written x h))

    -- a part whose right side only gives a text
    rel_text : {A B : Type 0} {R : World → A → B → Type 0} {v : World} {m m' : M Val} {k : Val → M A} {k' : Val → M B} (t : List ℕ) → m' ≡ ret (prim (text t)) → Rel (V K) v m m' → ((u : World) → Later v u → (y y' : Val) → y ≡ prim (text t) → Rel R u (k y) (k' y')) → Rel R v (m >>= k) (m' >>= k')
    rel_text {R = R} {v = v} {m = m} {m' = m'} {k = k} {k' = k'} t e h f = subst (λ z. Rel R v (m >>= k) (z >>= k')) (sym e) (rel_bind (rel_given (prim (text t)) (subst (λ z. Rel (V K) v m z) e h)) (λ u l y y' q. f u l y y' (text_tied q.0 q.1)))

    -- a key between brackets
    rel_brackets : {v : World} → Later w v → {g g' : Env} → EnvT c v g g' → {i i' : ℕ} → SpotT (at_site i) (at_site i') → {k k' : Expr} → BracketsT k k' → Follows c k k' → {A A' : Type 0} {R : World → A → A' → Type 0} {n : Access → M A} {n' : Access → M A'} → ((u : World) → Later v u → (a b : Access) → ((x : Val) → KeyT u x a b) → Rel R u (n a) (n' b)) → Rel R v (value J B (ev J B g None k) >>= λ y. key_by J i (literal_text k) y >>= n) (value J' B' (ev J' B' g' None k') >>= λ y. key_by J' i' (literal_text k') y >>= n')
    unfolding literal_text
    rel_brackets {v = v} l {g = g} {g' = g'} t s (values_t e e') h f = rw (e, e') (rel_bind (h.by v l g g' t) (λ v2 l2 y y' q. rel_bind (rel_runtime_by s q) (λ v3 l3 a b k. f v3 (later l2 l3) a b k)))
    rel_brackets {v = v} l {g = g} {g' = g'} t {i = i} {i' = i'} s (texts_t d) h f = rel_bind (h.by v l g g' t) (λ v2 l2 y y' q. rel_bind (rel_quoted_by i i' d y y') (λ v3 l3 a b k. f v3 (later l2 l3) a b k))
    rel_brackets {v = v} l {g = g} {g' = g'} t {i = i} {i' = i'} s (written_t {i' = n} {t = u} e d) h f = rw e (rel_text u (value_literal J' B' g' None n (text u)) (h.by v l g g' t) (λ v2 l2 y y' q. rel_bind (rel_written_by i i' d y y' q) (λ v3 l3 a b k. f v3 (later l2 l3) a b k)))

    pub follows_index : {i i' : ℕ} → SpotT (at_site i) (at_site i') → {e e' k k' : Expr} → Follows c e e' → BracketsT k k' → Follows c k k' → {p p' : Option Path} → FollowsRef c p p' (index i e k) (index i' e' k')
    unfolding ev
    follows_index s h bt hk = record {
      by = λ v l g g' t.
          rel_bind (h.by v l g g' t) (λ v2 l2 o o' q.
          rel_brackets (later l l2) (env_later l2 t) s bt hk (λ v3 l3 a b kt.
          rel_bind (rel_reference s no_path (val_later K l3 q) (kt o)) (λ v4 l4 r r' rt. rel_ret (access r) (access r') (access_t rt))));
    }

    pub follows_call : {i i' : ℕ} → SpotT (at_site i) (at_site i') → {f f' : Expr} {es es' : Exprs} → FollowsRef c None None f f' → FollowsAll c es es' → {p p' : Option Path} → FollowsRef c p p' (call i f es) (call i' f' es')
    unfolding ev
    follows_call s h k = record {
      by = λ v l g g' t.
          rel_bind (h.by v l g g' t) (λ v2 l2 r r' q.
          rel_bind (rel_callee_of K X (later l l2) q) (λ v3 l3 f f' ft.
          rel_bind (k.by v3 (later l (later l2 l3)) g g' (env_later (later l2 l3) t)) (λ v4 l4 vs vs' vt.
          rel_bind (rel_apply K X (later l (later l2 (later l3 l4))) s (callee_later K l4 ft) vt) (λ v5 l5 x y r. rel_ret (plain x) (plain y) (plain_t r)))));
    }

    -- two callees, with their receivers
    pub record FollowsCallee (f f' : Expr) : Type 0 where
      pub by : (v : World) → Later w v → (g g' : Env) → EnvT c v g g' → Rel (CalleeV K) v (ev J B g None f >>= λ r. callee_of J B r) (ev J' B' g' None f' >>= λ r. callee_of J' B' r)

    pub callee_reached : {f f' : Expr} → FollowsRef c None None f f' → FollowsCallee f f'
    callee_reached h = record { by = λ v l g g' t. rel_bind (h.by v l g g' t) (λ v2 l2 r r' q. rel_callee_of K X (later l l2) q) }

    pub follows_called : {i i' : ℕ} → SpotT (at_site i) (at_site i') → {f f' : Expr} {es es' : Exprs} → FollowsCallee f f' → FollowsAll c es es' → {p p' : Option Path} → FollowsRef c p p' (call i f es) (call i' f' es')
    follows_called {i = i} {i' = i'} s {f = f} {f' = f'} {es = es} {es' = es'} h k {p = p} {p' = p'} = record {
      by = λ v l g g' t. rw (call_by J B g p i f es, call_by J' B' g' p' i' f' es')
          (rel_bind (h.by v l g g' t) (λ v3 l3 f f' ft.
          rel_bind (k.by v3 (later l l3) g g' (env_later l3 t)) (λ v4 l4 vs vs' vt.
          rel_bind (rel_apply K X (later l (later l3 l4)) s (callee_later K l4 ft) vt) (λ v5 l5 x y r. rel_ret (plain x) (plain y) (plain_t r)))));
    }

    pub called_tick : (n : ℕ) {i i' : ℕ} {f f' : Expr} → FollowsCallee f f' → FollowsCallee (tick i n f) (tick i' n f')
    unfolding ev
    called_tick n {f = f} {f' = f'} h = record {
      by = λ v l g g' t. rw (bind_assoc (J.mark n) (λ _. ev J B g None f) (λ r. callee_of J B r), bind_assoc (J'.mark n) (λ _. ev J' B' g' None f') (λ r. callee_of J' B' r))
          (rel_bind (rel_mark n) (λ v2 l2 _ _ _. h.by v2 (later l l2) g g' (env_later l2 t)));
    }

    pub on_tick : (n : ℕ) {j j' : ℕ} {e e' : Expr} → FollowsOn e e' → FollowsOn (tick j n e) (tick j' n e')
    unfolding ev
    on_tick n {e = e} {e' = e'} h = record {
      by = λ v l g g' t {i} {i'} s {p} {p'} pt {q} {q'} kt. rw (bind_assoc (J.mark n) (λ _. ev J B g None e) (λ r. reach_member J B i p q r), bind_assoc (J'.mark n) (λ _. ev J' B' g' None e') (λ r. reach_member J' B' i' p' q' r))
          (rel_bind (rel_mark n) (λ v2 l2 _ _ _. h.by v2 (later l l2) g g' (env_later l2 t) s pt kt));
    }

    -- ---- what is written to

    -- places that are read and written alike from a world on, whatever they are
    pub record Served (v : World) (a b : Place) : Type 0 where
      pub gets : (u : World) → Later v u → (g g' : Env) → EnvT c u g g' → Rel (V K) u (get_place J B g a) (get_place J' B' g' b)
      pub puts : (u : World) → Later v u → (g g' : Env) → EnvT c u g g' → (x y : Val) → V K u x y → Rel (Done K) u (put_place J g a x) (put_place J' g' b y)

    pub data PlaceS (Reads : Ref → Ref → Type 0) (v : World) : Place → Place → Type 0 where
      known_t : {a b : Place} → PlaceV K Reads (WriteT c) v a b → PlaceS Reads v a b
      served_t : {a b : Place} → Served v a b → PlaceS Reads v a b

    pub served_later : {u v : World} → Later u v → {a b : Place} → Served u a b → Served v a b
    served_later l h = record { gets = λ z m. h.gets z (later l m); puts = λ z m. h.puts z (later l m) }

    pub places_later : {Reads : Ref → Ref → Type 0} {u v : World} → Later u v → {a b : Place} → PlaceS Reads u a b → PlaceS Reads v a b
    places_later l (known_t h) = known_t (place_later K l h)
    places_later l (served_t h) = served_t (served_later l h)

    -- a target, whose variable is also read where Reads asks for it
    pub record FollowsTarget (Reads : Ref → Ref → Type 0) (t t' : Target) : Type 0 where
      pub by : (v : World) → Later w v → (g g' : Env) → EnvT c v g g' → Rel (PlaceS Reads) v (ev_target J B g t) (ev_target J' B' g' t')

    -- what an assignment by an operator reads, and one without an operator doesn't
    pub data ReadsBy : Option BinOp → Ref → Ref → Type 0 where
      not_read : {r r' : Ref} → ReadsBy None r r'
      is_read : {op : BinOp} {r r' : Ref} → ReadT c r r' → ReadsBy (Some op) r r'

    reads_by : {op : BinOp} {r r' : Ref} → ReadsBy (Some op) r r' → ReadT c r r'
    reads_by (is_read rd) = rd

    rel_get_place : {v : World} → Later w v → {g g' : Env} → EnvT c v g g' → {Reads : Ref → Ref → Type 0} → ((r r' : Ref) → Reads r r' → ReadT c r r') → {a b : Place} → PlaceS Reads v a b → Rel (V K) v (get_place J B g a) (get_place J' B' g' b)
    unfolding get_place
    rel_get_place l t reads (known_t (variable_t s rd wr)) = rel_read_var s t (reads _ _ rd)
    rel_get_place l t reads (known_t (slot_t h)) = rel_get K X l h
    rel_get_place {v = v} l {g = g} {g' = g'} t reads (served_t h) = h.gets v (now v) g g' t

    pub rel_put_place : {Reads : Ref → Ref → Type 0} {v : World} {g g' : Env} → EnvT c v g g' → {a b : Place} {x y : Val} → PlaceS Reads v a b → V K v x y → Rel (Done K) v (put_place J g a x) (put_place J' g' b y)
    unfolding put_place
    rel_put_place t (known_t (variable_t s rd wr)) h = rel_write_var s t wr h
    rel_put_place t (known_t (slot_t r)) h = rel_put_to K X t r h
    rel_put_place {v = v} {g = g} {g' = g'} t {x = x} {y = y} (served_t r) h = r.puts v (now v) g g' t x y h

    rel_updated : {v : World} → Later w v → {g g' : Env} → EnvT c v g g' → {i i' : ℕ} → SpotT (at_site i) (at_site i') → (op : Option BinOp) {a b : Place} → PlaceS (ReadsBy op) v a b → {m m' : M Val} → ((u : World) → Later v u → Rel (V K) u m m') → Rel (V K) v (updated J B g i op a m) (updated J' B' g' i' op b m')
    unfolding updated
    rel_updated {v = v} l t s None h k = k v (now v)
    rel_updated l t s (Some op) h k = rel_bind (rel_get_place l t (λ r r' rd. reads_by rd) h) (λ v2 l2 x x' q. rel_bind (k v2 l2) (λ v3 l3 y y' r. rel_operate K s op (val_later K l3 q) r))

    pub follows_assign : {i i' : ℕ} → SpotT (at_site i) (at_site i') → (op : Option BinOp) {u u' : Target} {e e' : Expr} → FollowsTarget (ReadsBy op) u u' → FollowsAs (V K) c (path_of_target u) (path_of_target u') e e' → {p p' : Option Path} → FollowsRef c p p' (assign i op u e) (assign i' op u' e')
    unfolding ev
    follows_assign s op hu h = record {
      by = λ v l g g' t.
          rel_bind (hu.by v l g g' t) (λ v2 l2 a b pt.
          rel_bind (rel_updated (later l l2) (env_later l2 t) s op pt (λ u lu. h.by u (later l (later l2 lu)) g g' (env_later (later l2 lu) t))) (λ v3 l3 x y q.
          rel_bind (rel_put_place (env_later (later l2 l3) t) (places_later l3 pt) q) (λ v4 l4 _ _ _. rel_ret (plain x) (plain y) (plain_t (val_later K l4 q)))));
    }

    rel_stepped : {v : World} → Later w v → {g g' : Env} → EnvT c v g g' → {i i' : ℕ} → SpotT (at_site i) (at_site i') → (up prefix : Bool) {a b : Place} → PlaceS (ReadT c) v a b → Rel (V K) v (stepped J B g i up prefix a) (stepped J' B' g' i' up prefix b)
    unfolding stepped
    rel_stepped l t s up prefix h =
        rel_bind (rel_get_place l t (λ r r' rd. rd) h) (λ v2 l2 x x' q.
        rel_bind (rel_operate_one K s Plus q) (λ v3 l3 o o' r.
        rel_bind (rel_operate K s (pick up Add Sub) r prim_t) (λ v4 l4 y y' k.
        rel_bind (rel_put_place (env_later (later l2 (later l3 l4)) t) (places_later (later l2 (later l3 l4)) h) k) (λ v5 l5 _ _ _. chosen v5 prefix y y' o o' (val_later K l5 k) (val_later K (later l4 l5) r)))))
      where
        chosen : (u : World) (b : Bool) (y y' o o' : Val) → V K u y y' → V K u o o' → Rel (V K) u (ret (pick b y o)) (ret (pick b y' o'))
        chosen u true y y' o o' k r = rel_ret y y' k
        chosen u false y y' o o' k r = rel_ret o o' r

    pub follows_step : {i i' : ℕ} → SpotT (at_site i) (at_site i') → (up prefix : Bool) {u u' : Target} → FollowsTarget (ReadT c) u u' → {p p' : Option Path} → FollowsRef c p p' (step i up prefix u) (step i' up prefix u')
    unfolding ev
    follows_step s up prefix hu = record { by = λ v l g g' t. rel_bind (hu.by v l g g' t) (λ v2 l2 a b pt. rel_plain (rel_stepped (later l l2) (env_later l2 t) s up prefix pt)) }

    pub target_var : {Reads : Ref → Ref → Type 0} {i i' : ℕ} → SpotT (at_site i) (at_site i') → {r r' : Ref} → Reads r r' → WriteT c r r' → FollowsTarget Reads (to_var i r) (to_var i' r')
    unfolding ev
    target_var {i = i} {i' = i'} s {r = r} {r' = r'} rd wr = record { by = λ v l g g' t. rel_ret (variable_place i r) (variable_place i' r') (known_t (variable_t s rd wr)) }

    pub target_member : {Reads : Ref → Ref → Type 0} {i i' : ℕ} → SpotT (at_site i) (at_site i') → {e e' : Expr} {q q' : ℕ} → PathT K (longer (path_of e) q) (longer (path_of e') q') → PropT q q' → Follows c e e' → FollowsTarget Reads (to_member i e q) (to_member i' e' q')
    unfolding ev
    target_member s pt kt h = record {
      by = λ v l g g' t.
          rel_bind (h.by v l g g' t) (λ v2 l2 o o' q.
          rel_bind (rel_reference s pt q (kt.keys v2 (later l l2) o o' q)) (λ v3 l3 r r' rt. rel_ret (slot_place r) (slot_place r') (known_t (slot_t rt))));
    }

    pub target_index : {Reads : Ref → Ref → Type 0} {i i' : ℕ} → SpotT (at_site i) (at_site i') → {e e' k k' : Expr} → Follows c e e' → BracketsT k k' → Follows c k k' → FollowsTarget Reads (to_index i e k) (to_index i' e' k')
    unfolding ev
    target_index s h bt hk = record {
      by = λ v l g g' t.
          rel_bind (h.by v l g g' t) (λ v2 l2 o o' q.
          rel_brackets (later l l2) (env_later l2 t) s bt hk (λ v3 l3 a b kt.
          rel_bind (rel_reference s no_path (val_later K l3 q) (kt o)) (λ v4 l4 r r' rt. rel_ret (slot_place r) (slot_place r') (known_t (slot_t rt)))));
    }

    -- ---- `new`, `delete`, casts

    pub follows_new : {i i' : ℕ} → SpotT (at_site i) (at_site i') → {f f' : Expr} {es es' : Exprs} → Follows c f f' → FollowsAll c es es' → {p p' : Option Path} → FollowsRef c p p' (new i f es) (new i' f' es')
    unfolding ev
    follows_new s h k = record {
      by = λ v l g g' t.
          rel_bind (h.by v l g g' t) (λ v2 l2 x y q.
          rel_bind (k.by v2 (later l l2) g g' (env_later l2 t)) (λ v3 l3 vs vs' r. rel_plain (rel_construct K X (later l (later l2 l3)) s (val_later K l3 q) r)));
    }

    rel_delete_at : {v : World} {i i' : ℕ} → SpotT (at_site i) (at_site i') → {a b : Reach} → ReachV K v a b → Rel (V K) v (delete_at J i a) (delete_at J' i' b)
    unfolding delete_at
    rel_delete_at s (plain_t h) = rel_fault s 2
    rel_delete_at s (access_t h) = rel_remove_on K h.site h.on h.key
    rel_delete_at s (global_t j) = rel_fault s 2
    rel_delete_at s (member_t j e) = rel_fault s 2

    pub follows_delete : {i i' : ℕ} → SpotT (at_site i) (at_site i') → {e e' : Expr} → FollowsRef c None None e e' → {p p' : Option Path} → FollowsRef c p p' (unary i Delete e) (unary i' Delete e')
    unfolding ev apply_unary
    follows_delete s h = record { by = λ v l g g' t. rel_bind (h.by v l g g' t) (λ v2 l2 r r' q. rel_plain (rel_delete_at s q)) }

    pub follows_unary : {i i' : ℕ} → SpotT (at_site i) (at_site i') → (op : UnOp) → deletes op ≡ false → {e e' : Expr} → Follows c e e' → {p p' : Option Path} → FollowsRef c p p' (unary i op e) (unary i' op e')
    unfolding ev
    follows_unary {i = i} {i' = i'} s op d {e = e} {e' = e'} h = record { by = λ v l g g' t. rw (unary_values J B i op d (ev J B g None e), unary_values J' B' i' op d (ev J' B' g' None e')) (rel_bind (h.by v l g g' t) (λ v2 l2 x y q. rel_plain (rel_operate_one K s op q))) }

    rel_cast_reach : {v : World} {i i' : ℕ} → SpotT (at_site i) (at_site i') → {d d' : ℕ} → DocT d d' → {a b : Reach} → ReachV K v a b → Rel (ReachV K) v (cast_reach J i d a) (cast_reach J' i' d' b)
    unfolding cast_reach
    rel_cast_reach s dt (plain_t {v = x} {v' = y} h) = rel_bind (rel_cast s dt h) (λ v2 l2 _ _ _. rel_ret (plain x) (plain y) (plain_t (val_later K l2 h)))
    rel_cast_reach {i = i} {i' = i'} s {d = d} {d' = d'} dt (access_t {a = a} {b = b} h) = rel_ret (access (record a { casts = a.casts ++ (i, d) ∷ [] })) (access (record b { casts = b.casts ++ (i', d') ∷ [] })) (access_t (record { site = h.site; on = h.on; key = h.key; path = h.path; casts = list_on h.casts (cons_t (record { site = s; doc = dt }) nil_t) }))
    rel_cast_reach s dt (global_t {i = j} {j = k} {b = b} h) = rel_ret (built_global j b) (built_global k b) (global_t h)
    rel_cast_reach s dt (member_t {i = j} {j = k} {b = b} {n = n} {n' = n'} h e) = rel_ret (built_member j b n) (built_member k b n') (member_t h e)

    pub follows_cast : {i i' : ℕ} → SpotT (at_site i) (at_site i') → {d d' : ℕ} → DocT d d' → {e e' : Expr} → FollowsRef c None None e e' → {p p' : Option Path} → FollowsRef c p p' (cast i d e) (cast i' d' e')
    unfolding ev
    follows_cast s dt h = record { by = λ v l g g' t. rel_bind (h.by v l g g' t) (λ v2 l2 r r' q. rel_cast_reach s dt q) }
