-- Pure expressions, which the left run alone evaluates, keep the injection.
use Rattle.std.proofs.Common.{refl, ℕ, Bool, true, false, List, [], ◌∷◌, Option, Some, None, is_some}
use Rattle.cc_ast.specs.Syntax.{Prim, Expr, Exprs, Fields}
use Rattle.cc_ast.specs.declared.operator.BinOp.{BinOp}
use Rattle.cc_ast.specs.declared.operator.BinOp.TheVariants.{Instance, Has}
use Rattle.cc_ast.specs.declared.operator.UnOp.{UnOp}
use Rattle.cc_ast.specs.declared.operator.UnOp.TheVariants.{Typeof, Delete}
use Rattle.cc_ast.specs.declared.tree.Ref.{Ref}
use Rattle.cc_meaning.specs.Values.{Val, prim, obj, out, Spot, at_site}
use Rattle.cc_meaning.specs.Operators.{truthy, binary_of, unary_of, key_text}
use Rattle.cc_meaning.specs.Builtins.{or_undefined}
use Rattle.cc_meaning.specs.State.{FrameKind, of_call, of_catch, of_own_name, Frame, Env, Path, State, Tables}
use Rattle.cc_meaning.specs.Monad.{M, ret, skip, ◌>>=◌, pick}
use Rattle.cc_meaning.specs.Store.{Access, runtime, kind_by, Global, extern, built_in, of_chunk, global_kind, Built, frame_up, frame_at, flat_of}
use Rattle.cc_meaning.specs.Typed.{flat, local, variable_type, value_in, doc_at}
use Rattle.cc_meaning.specs.Rules.{binary_op, unary_op}
use Rattle.cc_meaning.specs.Judge.{operates, probes, takes, keeps, reads_this, casts}
use Rattle.cc_meaning.specs.Acts.{reading, changing, read_by_kind, read_place, place_in, is_loaded, global_value, read_global, read_var, read_this, probe, outcome_value, key_name, operate, operate_one, cast_to, keep}
use Rattle.cc_meaning.specs.Shapes.{site_of, literal_key, path_of_key}
use Rattle.cc_meaning.specs.Calls.{Reach, plain, built_global, built_member, Bodies, value_of, value, apply_unary, delete_at, cast_reach, put_on, keep_path}
use Rattle.cc_meaning.specs.Meaning.{reach_global, reach_var, put_key, ev, evs, ev_fields}
use Rattle.cc_meaning.specs.Script.{checked}
use Rattle.cc_tied.specs.Facts.{Facts}
use Rattle.cc_tied.specs.Pure.{IsPure, pure_lit, pure_var, pure_this, pure_fun, pure_list, pure_object, pure_unary, pure_binary, pure_and, pure_or, pure_cond, pure_comma, pure_cast, ArePure, no_pure, more_pure, HasPureFields, no_pure_fields, more_pure_fields}
use Rattle.cc_tied.proofs.Sim.{Tie, World, Later, now}
use Rattle.cc_tied.proofs.Left as L
use Rattle.cc_tied.proofs.Injection.Tie.{Other, inject}
use Rattle.cc_tied.proofs.Injection.Left as A
use Rattle.cc_tied.proofs.Injection.Left.{Silent, Any, silent_judged, silent_any, silent_then, silent_as, silent_tables, silent_stop, Spare, spare, spare_more, left_object, left_array, left_function, left_receives, left_writes}

-- a value, or what is built in: no access
pub data IsBare : Reach → Type 0 where
  bare_value : {v : Val} → IsBare (plain v)
  bare_global : {i : ℕ} {b : Built} → IsBare (built_global i b)
  bare_member : {i : ℕ} {b : Built} {n : List ℕ} → IsBare (built_member i b n)

module _ (F : Facts) (S : Tables) (set' : Other S) where
  abbrev T : Tie
  T = inject F S set'

  abbrev W : Type 0
  W = World T

  abbrev Quiet : {A : Type 0} → W → M A → Type 0
  Quiet {A = A} w m = Silent F S set' {A = A} (λ v a. Unit {0}) w m

  abbrev BareV : W → Reach → Type 0
  BareV v r = IsBare r

  abbrev Bares : W → M Reach → Type 0
  Bares w m = Silent F S set' BareV w m

  quiet : {A : Type 0} {w : W} (a : A) → Quiet w (ret a)
  quiet a = silent_any F S set' a

  on : {A B : Type 0} {P : W → B → Type 0} {w : W} {m : M A} {k : A → M B} → Quiet w m → ((v : W) → Later T w v → (a : A) → Silent F S set' P v (k a)) → Silent F S set' P w (m >>= k)
  on h f = silent_then F S set' h f

  bares : {w : W} (r : Reach) → IsBare r → Bares w (ret r)
  bares r h = L.silent_ret T tt r h

  -- a value is all that is reached
  valued : {w : W} {m : M Val} → Quiet w m → Bares w (m >>= λ v. ret (plain v))
  valued h = on h (λ v l x. bares (plain x) bare_value)

  quiet_reading : {A : Type 0} {w : W} (f : State → A) → Quiet w (reading f)
  unfolding reading ret
  quiet_reading {w = w} f = record { by = λ s t ti le le'. L.alone_ok refl w (now T w) tt tt ti le le' }

  -- ---- variables

  reads_by_kind : {w : W} (i : Spot) (k : FrameKind) (n : ℕ) (o : Option Val) → Quiet w (read_by_kind checked i k n o)
  unfolding read_by_kind
  reads_by_kind i (of_call c) n o = silent_judged F S set' i (takes (local c n) true (is_some o)) (ret (or_undefined o)) (quiet _)
  reads_by_kind i of_catch n o = quiet _
  reads_by_kind i of_own_name n o = quiet _

  reads_place_alone : {w : W} (i : Spot) (o : Option Frame) (n : ℕ) → Quiet w (read_place checked i o n)
  unfolding read_place
  reads_place_alone i None n = silent_stop F S set' 3 i
  reads_place_alone i (Some f) n = reads_by_kind i f.kind n (place_in (Some f) n)

  reads_global_alone : {w : W} (i : Spot) (n : ℕ) (k : Global) → Quiet w (read_global checked i n k)
  unfolding read_global
  reads_global_alone i n extern = quiet _
  reads_global_alone i n (built_in b) = silent_stop F S set' 2 i
  reads_global_alone i n (of_chunk c) = record { by = λ s t ti le le'. A.judged_alone F S set' i (takes (Rattle.cc_meaning.specs.Typed.global n) (is_loaded s c) (is_some (global_value s n))) (ret (or_undefined (global_value s n))) s (A.still F S set' _ tt ti le le') }

  pub left_reads : {w : W} (i : Spot) (g : Env) (r : Ref) → Quiet w (read_var checked i g r)
  unfolding read_var
  left_reads i g (Ref.Frame u n) = record { by = λ s t ti le le'. (reads_place_alone i (frame_at s.frames (frame_up u s.frames g.at)) n).by s t ti le le' }
  left_reads i g (Ref.Global n) = record { by = λ s t ti le le'. (reads_global_alone i n (global_kind s.tables n)).by s t ti le le' }

  reaches_global : {w : W} (i : ℕ) (g : Env) (n : ℕ) (k : Global) → Bares w (reach_global checked i g n k)
  unfolding reach_global
  reaches_global i g n (built_in b) = bares _ bare_global
  reaches_global i g n extern = valued (left_reads (at_site i) g (Ref.Global n))
  reaches_global i g n (of_chunk c) = valued (left_reads (at_site i) g (Ref.Global n))

  left_reaches : {w : W} (i : ℕ) (g : Env) (r : Ref) → Bares w (reach_var checked i g r)
  unfolding reach_var
  left_reaches i g (Ref.Frame u n) = valued (left_reads (at_site i) g (Ref.Frame u n))
  left_reaches i g (Ref.Global n) = silent_tables F S set' _ (reaches_global i g n (global_kind S n))

  left_this : {w : W} (i : Spot) (o : Option Val) → Quiet w (read_this checked i o)
  unfolding read_this
  left_this i o = silent_judged F S set' i (reads_this o) _ (quiet _)

  -- ---- what is reached, as a value

  left_value_of : {w : W} (B : Bodies) {r : Reach} → IsBare r → Quiet w (value_of checked B r)
  unfolding value_of
  left_value_of B bare_value = quiet _
  left_value_of B (bare_global {i = i}) = silent_stop F S set' 2 (at_site i)
  left_value_of B (bare_member {i = i}) = silent_stop F S set' 2 (at_site i)

  left_value : {w : W} (B : Bodies) {m : M Reach} → Bares w m → Quiet w (value checked B m)
  unfolding value
  left_value B h = L.silent_bind T tt h (λ v l r q. left_value_of B q)

  -- ---- operators

  left_probes : {w : W} (i : Spot) (x : Val) (n : List ℕ) → Quiet w (probe checked i x n)
  unfolding probe
  left_probes i x n = silent_judged F S set' i (probes x (runtime n false)) _ (quiet_reading _)

  left_operates : {w : W} (i : Spot) (op : BinOp) (a b : Val) → Quiet w (operate checked i op a b)
  unfolding operate
  left_operates i Has a b = on (silent_judged F S set' i (operates (binary_op Has) (a ∷ b ∷ [])) skip (quiet tt)) (λ v l _. on (left_probes i b (key_name (key_text a))) (λ v2 l2 r. quiet _))
  left_operates i Instance a b = silent_judged F S set' i (operates (binary_op Instance) (a ∷ b ∷ [])) _ (quiet_reading _)
  left_operates i op a b = silent_judged F S set' i (operates (binary_op op) (a ∷ b ∷ [])) (ret (outcome_value (binary_of op a b))) (quiet _)

  left_operates_one : {w : W} (i : Spot) (op : UnOp) (a : Val) → Quiet w (operate_one checked i op a)
  unfolding operate_one
  left_operates_one i Typeof (obj n) = silent_judged F S set' i (operates (unary_op Typeof) (obj n ∷ [])) _ (quiet_reading _)
  left_operates_one i Typeof (out n) = silent_judged F S set' i (operates (unary_op Typeof) (out n ∷ [])) (ret (outcome_value (unary_of Typeof (out n)))) (quiet _)
  left_operates_one i Typeof (prim p) = silent_judged F S set' i (operates (unary_op Typeof) (prim p ∷ [])) (ret (outcome_value (unary_of Typeof (prim p)))) (quiet _)
  left_operates_one i op a = silent_judged F S set' i (operates (unary_op op) (a ∷ [])) (ret (outcome_value (unary_of op a))) (quiet _)

  left_deletes : {w : W} (i : ℕ) {r : Reach} → IsBare r → Quiet w (delete_at checked i r)
  unfolding delete_at
  left_deletes i bare_value = silent_stop F S set' 2 (at_site i)
  left_deletes i bare_global = silent_stop F S set' 2 (at_site i)
  left_deletes i bare_member = silent_stop F S set' 2 (at_site i)

  left_applies : {w : W} (B : Bodies) (i : ℕ) (op : UnOp) {r : Reach} → IsBare r → Quiet w (apply_unary checked B i op r)
  unfolding apply_unary
  left_applies B i Delete h = left_deletes i h
  left_applies B i op h = on (left_value_of B h) (λ v l x. left_operates_one (at_site i) op x)

  left_casts : {w : W} (i : Spot) (d : ℕ) (v : Val) → Quiet w (cast_to checked i d v)
  unfolding cast_to
  left_casts i d v = on (silent_judged F S set' i (casts d v) skip (quiet tt)) (λ u l _. silent_tables F S set' _ (left_receives F S set' (value_in (doc_at S (Some d))) v))

  left_casts_reached : {w : W} (i d : ℕ) {r : Reach} → IsBare r → Bares w (cast_reach checked i d r)
  unfolding cast_reach
  left_casts_reached i d (bare_value {v = x}) = on (left_casts (at_site i) d x) (λ v l _. bares (plain x) bare_value)
  left_casts_reached i d bare_global = bares _ bare_global
  left_casts_reached i d bare_member = bares _ bare_member

  -- ---- keys of literals

  keeps_path : {w : W} (i : Spot) (p : Option (ℕ × ℕ)) (v : Val) → Quiet w (keep_path checked i p v)
  unfolding keep_path keep changing ret
  keeps_path i None v = quiet tt
  keeps_path {w = w} i (Some p) v = on (silent_judged F S set' i (keeps (flat p.0 p.1) v) _ (record { by = λ s t ti le le'. L.alone_ok refl w (now T w) tt tt ti le le' })) (λ u l _. silent_tables F S set' _ (left_receives F S set' (variable_type S (flat p.0 p.1)) v))

  puts_on : {w : W} (i : Spot) {o : Val} → Spare F S set' w.w o → (a : Access) (v : Val) → Quiet w (put_on checked i o a (kind_by a) v false)
  unfolding put_on
  puts_on i (spare q) a v = left_writes F S set' i (spare q) a (kind_by a) v false

  puts_key : {w : W} (i : ℕ) {o : Val} → Spare F S set' w.w o → (a : Access) (p : Option Path) (v : Val) → Quiet w (put_key checked i o a p v)
  unfolding put_key
  puts_key i q a p v = on (puts_on (at_site i) q a v) (λ u l _. silent_tables F S set' _ (keeps_path (at_site i) (flat_of S p) v))

  -- ---- expressions

  on_pick : {A : Type 0} {w : W} {m n : M A} (b : Bool) → Quiet w m → Quiet w n → Quiet w (pick b m n)
  on_pick true h k = h
  on_pick false h k = k

  module _ (B : Bodies) (g : Env) where
    mutual
      unfolding ev

      pub left_pure : {e : Expr} → IsPure e → (p : Option Path) (w : W) → Bares w (ev checked B g p e)
      left_pure (pure_lit {p = q}) p w = bares (plain (prim q)) bare_value
      left_pure (pure_var {i = i} {r = r}) p w = left_reaches i g r
      left_pure (pure_this {i = i}) p w = valued (left_this (at_site i) g.this)
      left_pure (pure_fun {i = i} {f = f}) p w = valued (left_function F S set' f i g)
      left_pure (pure_list h) p w = on (left_all h w) (λ v l vs. L.silent_bind T tt (left_array F S set' vs) (λ v2 l2 x q. bares (plain x) bare_value))
      left_pure (pure_object h) p w = L.silent_bind T tt (left_object F S set') (λ v l o q. on (left_fields h p v o q) (λ v2 l2 _. bares (plain o) bare_value))
      left_pure (pure_unary {i = i} {op = op} h) p w = L.silent_bind T tt (left_pure h None w) (λ v l r q. valued (left_applies B i op q))
      left_pure (pure_binary {i = i} {op = op} h k) p w = on (left_value B (left_pure h None w)) (λ v l x. on (left_value B (left_pure k None v)) (λ v2 l2 y. valued (left_operates (at_site i) op x y)))
      left_pure (pure_and h k) p w = on (left_value B (left_pure h None w)) (λ v l x. valued (on_pick (truthy x) (left_value B (left_pure k None v)) (quiet x)))
      left_pure (pure_or h k) p w = on (left_value B (left_pure h None w)) (λ v l x. valued (on_pick (truthy x) (quiet x) (left_value B (left_pure k None v))))
      left_pure (pure_cond h j k) p w = on (left_value B (left_pure h None w)) (λ v l x. valued (on_pick (truthy x) (left_value B (left_pure j None v)) (left_value B (left_pure k None v))))
      left_pure (pure_comma h k) p w = on (left_value B (left_pure h None w)) (λ v l x. valued (left_value B (left_pure k None v)))
      left_pure (pure_cast {i = i} {d = d} h) p w = L.silent_bind T tt (left_pure h None w) (λ v l r q. left_casts_reached i d q)

      left_all : {es : Exprs} → ArePure es → (w : W) → Quiet w (evs checked B g es)
      left_all no_pure w = quiet []
      left_all (more_pure h k) w = on (left_value B (left_pure h None w)) (λ v l x. on (left_all k v) (λ v2 l2 xs. quiet (x ∷ xs)))

      left_fields : {fs : Fields} → HasPureFields fs → (p : Option Path) (w : W) (o : Val) → Spare F S set' w.w o → Quiet w (ev_fields checked B g p o fs)
      left_fields no_pure_fields p w o q = quiet tt
      left_fields (more_pure_fields {k = n} {e = e} h k) p w o q = on (left_value B (left_pure h (path_of_key p n) w)) (λ v l x. on (puts_key (site_of e) (spare_more F S set' l.2.ext q) (literal_key n) (path_of_key p n) x) (λ v2 l2 _. left_fields k p v2 o (spare_more F S set' l2.2.ext (spare_more F S set' l.2.ext q))))

    -- the value of a pure expression
    pub left_pure_value : {e : Expr} → IsPure e → (p : Option Path) (w : W) → Quiet w (value checked B (ev checked B g p e))
    left_pure_value h p w = left_value B (left_pure h p w)
