-- Expressions, statements and lists of alike programs keep the tie of their plain runs.
use Rattle.std.proofs.Common.{◌≡◌, ℕ, suc, pos, negsuc, false, List, [], ◌∷◌, Option, Some, None, refl, sym, ap, subst, ◌∙◌}
use Rattle.std.specs.Prelude.{IsTrue}
use Rattle.cc_ast.specs.Syntax.{Prim, undefined, whole, text, Expr, lit, unary, member, index, call, cast, tick, Target, to_index, Exprs, Fields, Program}
use Rattle.cc_ast.specs.declared.operator.BinOp.{BinOp}
use Rattle.cc_ast.specs.declared.operator.UnOp.{UnOp}
use Rattle.cc_ast.specs.declared.operator.UnOp.TheVariants.{Minus, Void, Delete}
use Rattle.cc_ast.specs.declared.tree.Ref.{Ref}
use Rattle.cc_ast.specs.declared.tree.Key.{Key}
use Rattle.cc_meaning.specs.Values.{Val, prim, Spot, at_site}
use Rattle.cc_meaning.specs.Operators.{is_exact, key_text}
use Rattle.cc_meaning.specs.State.{Env, Path, State, Tables}
use Rattle.cc_meaning.specs.Monad.{passed, seen, M, Res, ok, ret, say, said, after, ◌>>=◌}
use Rattle.cc_meaning.specs.Store.{Access, dotted, quoted, runtime, name_of, flat_of}
use Rattle.cc_meaning.specs.Acts.{is_whole, runtime_key, key_given}
use Rattle.cc_meaning.specs.Shapes.{tables_of, plain_tables, longer, path_of, path_of_key, literal_text, literal_key}
use Rattle.cc_meaning.specs.Calls.{Bodies, Reach, plain, access, built_global, built_member, value, cast_reach, apply_unary, member_use}
use Rattle.cc_meaning.specs.Meaning.{Place, slot_place, key_by, ev}
use Rattle.cc_meaning.specs.Script as Sc
use Rattle.cc_meaning.specs.Alike.{Around, catch_pair, Alike}
use Rattle.cc_meaning.specs.Alike as A
use Rattle.cc_tied.specs.Tied.{OptT, none_t, ValT, variable_t, slot_t, access_t}
use Rattle.cc_tied.proofs.Kit.{Kit}
use Rattle.cc_tied.proofs.Laws.{bind_ret, said_none}
use Rattle.cc_tied.proofs.Parts.{V, PathT, Below, callee_later}
use Rattle.cc_tied.proofs.Calls.{rel_apply}
use Rattle.cc_tied.proofs.Expressions as E
use Rattle.cc_tied.proofs.Sim.{Tie, World, Later, now, later, ResT, ok_t, ahead_t, Sim, said_t, sim_as, sim_bind, sim_ret, sim_fault}
use Rattle.cc_tied.proofs.Equality.Equal.{Eq, same_val}
use Rattle.cc_tied.proofs.Alike.Frames.{EnvA}
use Rattle.cc_tied.proofs.Fatal.{whole_key}
use Rattle.cc_tied.proofs.Alike.Tie.{KeyN, key_of_texts, alike, silent_skip, left_silent, right_silent}
use Rattle.cc_tied.proofs.Alike.Upkeep.{alike_kit}
use Rattle.cc_tied.proofs.Alike.Reach as R

module _ (P Q : Program) (al : Alike P Q) where
  abbrev T : Tie
  T = alike P Q al

  abbrev W : Type 0
  W = World T

  abbrev K : Kit
  K = alike_kit P Q al

  abbrev N : A.Numbering
  N = al.N

  abbrev S : Tables
  S = tables_of P

  abbrev S' : Tables
  S' = tables_of Q

  abbrev Vals : W → Val → Val → Type 0
  Vals v = ValT Eq

  abbrev Done : W → Unit {0} → Unit {0} → Type 0
  Done v a b = Unit {0}

  abbrev Reaches : W → Reach → Reach → Type 0
  Reaches v = R.ReachC P Q al

  -- ---- a price mark of one run alone

  pub mark_left : {A B : Type 0} {R : W → A → B → Type 0} {w : W} (p : ℕ) (m : M A) (m' : M B) → Sim T R w m m' → Sim T R w (say (passed p) >>= λ _. m) m'
  unfolding say ◌>>=◌ after seen
  mark_left {R = R} {w = w} p m m' h s t ti le le' = subst (λ z. ResT T R w (said (passed p ∷ []) (m s)) z) (said_none (m' t)) (said_t T (passed p ∷ []) [] refl (now T w) tt (h s t ti le le'))

  pub mark_right : {A B : Type 0} {R : W → A → B → Type 0} {w : W} (p : ℕ) (m : M A) (m' : M B) → Sim T R w m m' → Sim T R w m (say (passed p) >>= λ _. m')
  unfolding say ◌>>=◌ after seen
  mark_right {R = R} {w = w} p m m' h s t ti le le' = subst (λ z. ResT T R w z (said (passed p ∷ []) (m' t))) (said_none (m s)) (said_t T [] (passed p ∷ []) refl (now T w) tt (h s t ti le le'))

  -- ---- what a part gives that only gives a value

  given_left : {A B : Type 0} {R : W → A → B → Type 0} {w : W} {a : A} {s : State} {y : Res B} → ResT T R w (ok [] a s) y → ResT T (λ v x y. R v x y × (x ≡ a)) w (ok [] a s) y
  given_left (ok_t d v e st h t le le') = ok_t d v e st (h, refl) t le le'
  given_left (ahead_t u x d e h) = absurd h

  sim_given_left : {A B : Type 0} {R : W → A → B → Type 0} {w : W} (a : A) {m' : M B} → Sim T R w (ret a) m' → Sim T (λ v x y. R v x y × (x ≡ a)) w (ret a) m'
  unfolding ret
  sim_given_left a h s t ti le le' = given_left (h s t ti le le')

  -- ---- names and paths

  paths_c : (p p' : Option Path) → PathT K p p'
  paths_c p p' = record { flat = subst (λ z. OptT T.FlatT z (flat_of (plain_tables Q) p')) (sym (R.no_flat P p)) (subst (λ z. OptT T.FlatT None z) (sym (R.no_flat Q p')) none_t) }

  plain_name : (H : Program) (a : Access) → name_of (plain_tables H) a ≡ name_of (tables_of H) a
  unfolding name_of plain_tables tables_of
  plain_name H a = refl

  prop_key : {p q : ℕ} → A.PropA S S' N p q → KeyN P Q al (dotted p) (dotted q)
  unfolding whole_key
  prop_key {p = p} {q = q} h = key_of_texts P Q al (plain_name P (dotted p) ∙ h ∙ sym (plain_name Q (dotted q))) refl refl

  -- a text that is written between brackets is the value there
  abbrev Written : Expr → Val → Type 0
  Written k x = (t : List ℕ) → literal_text k ≡ Some t → x ≡ prim (text t)

  written_left : (B : Bodies) (g : Env) (k : Expr) {R : W → Val → Val → Type 0} {v : W} {m' : M Val} → Sim T R v (value Sc.plain B (ev Sc.plain B g None k)) m' → Sim T (λ u x y. R u x y × Written k x) v (value Sc.plain B (ev Sc.plain B g None k)) m'
  unfolding literal_text
  written_left B g (lit i (text t)) {R = R} {v = v} {m' = m'} h = subst (λ z. Sim T (λ u x y. R u x y × Written (lit i (text t)) x) v z m') (sym (E.value_literal Sc.plain B g None i (text t))) (sim_as T (λ u l x y q. (q.0, λ t' e. q.1 ∙ ap (λ z. prim (text z)) (cc))) (sim_given_left (prim (text t)) (subst (λ z. Sim T R v z m') (E.value_literal Sc.plain B g None i (text t)) h)))
  written_left B g k h = sim_as T (λ u l x y q. (q, λ t e. absurd (cc))) h

  written_right : (B : Bodies) (g : Env) (k : Expr) {R : W → Val → Val → Type 0} {v : W} {m : M Val} → Sim T R v m (value Sc.plain B (ev Sc.plain B g None k)) → Sim T (λ u x y. R u x y × Written k y) v m (value Sc.plain B (ev Sc.plain B g None k))
  unfolding literal_text
  written_right B g (lit i (text t)) {R = R} {v = v} {m = m} h = subst (λ z. Sim T (λ u x y. R u x y × Written (lit i (text t)) y) v m z) (sym (E.value_literal Sc.plain B g None i (text t))) (sim_as T (λ u l x y q. (q.0, λ t' e. q.1 ∙ ap (λ z. prim (text z)) (cc))) (K.rel_given (prim (text t)) (subst (λ z. Sim T R v m z) (E.value_literal Sc.plain B g None i (text t)) h)))
  written_right B g k h = sim_as T (λ u l x y q. (q, λ t e. absurd (cc))) h

  -- keys between brackets, of equal values
  given_key : {w : W} (i i' : Spot) (x : Val) (o : Option (List ℕ)) → key_text x ≡ o → Sim T (λ v. KeyN P Q al) w (key_given Sc.plain i (is_whole x) o) (key_given Sc.plain i' (is_whole x) o)
  unfolding key_given
  given_key i i' x None e = sim_fault T tt 2
  given_key i i' x (Some t) e = sim_ret T (runtime t (is_whole x)) (runtime t (is_whole x)) (Rattle.cc_tied.proofs.Alike.Tie.runtime_same P Q al x e)

  keys_c : {w : W} (i i' : ℕ) (o o' : Option (List ℕ)) (x y : Val) → x ≡ y → ((t : List ℕ) → o ≡ Some t → x ≡ prim (text t)) → ((t : List ℕ) → o' ≡ Some t → y ≡ prim (text t)) → Sim T (λ v. KeyN P Q al) w (key_by Sc.plain i o x) (key_by Sc.plain i' o' y)
  unfolding key_by runtime_key key_given is_whole key_text name_of whole_key
  keys_c {w = w} i i' None None x y e h k = subst (λ z. Sim T (λ v. KeyN P Q al) w (key_given Sc.plain (at_site i) (is_whole x) (key_text x)) (key_given Sc.plain (at_site i') (is_whole z) (key_text z))) e (given_key (at_site i) (at_site i') x (key_text x) refl)
  keys_c {w = w} i i' (Some t) None x y e h k = subst (λ z. Sim T (λ v. KeyN P Q al) w (ret (quoted t)) (key_given Sc.plain (at_site i') (is_whole z) (key_text z))) (sym (h t refl) ∙ e) (sim_ret T (quoted t) (runtime t false) (key_of_texts P Q al refl refl refl))
  keys_c {w = w} i i' None (Some t) x y e h k = subst (λ z. Sim T (λ v. KeyN P Q al) w (key_given Sc.plain (at_site i) (is_whole z) (key_text z)) (ret (quoted t))) (sym (e ∙ k t refl)) (sim_ret T (runtime t false) (quoted t) (key_of_texts P Q al refl refl refl))
  keys_c i i' (Some t) (Some u) x y e h k = let d : prim (text t) ≡ prim (text u) = sym (h t refl) ∙ e ∙ k u refl in sim_ret T (quoted t) (quoted u) (key_of_texts P Q al (cc) refl refl)

  module _ (X : Below K) where
    open X use {B, B', w}

    module _ (c : Around) where
      -- two expressions reach what is tied, up to casts
      pub record FollowsC (e e' : Expr) : Type 0 where
        pub by : (p p' : Option Path) (v : W) → Later T w v → (g g' : Env) → EnvA c v.w g g' → Sim T Reaches v (ev Sc.plain B g p e) (ev Sc.plain B' g' p' e')

      lift : {e e' : Expr} → ((p p' : Option Path) → E.FollowsRef K X c p p' e e') → FollowsC e e'
      lift h = record { by = λ p p' v l g g' t. sim_as T (λ u lu a b q. R.as_reach P Q al u q) ((h p p').by v l g g' t) }

      pub as_val : {e e' : Expr} → FollowsC e e' → (p p' : Option Path) → E.FollowsAs K X (V K) c p p' e e'
      as_val h p p' = record { by = λ v l g g' t. R.value_c P Q al X l (h.by p p' v l g g' t) }

      pub val : {e e' : Expr} → FollowsC e e' → E.Follows K X c e e'
      val h = as_val h None None

      prop_c : {p q : ℕ} → A.PropA S S' N p q → E.PropT K X p q
      prop_c {p = p} {q = q} h = record { keys = λ v l x y k. prop_key h; uses = λ b. ap (λ z. member_use b z) (plain_name P (dotted p) ∙ h ∙ sym (plain_name Q (dotted q))) }

      new_key : {k l : Key} → A.KeyA S S' N k l → E.NewKeyT K X k l
      unfolding literal_key
      new_key (A.dotted_a h) = record { keys = λ v l x y k. prop_key h }
      new_key (A.quoted_a {t = t}) = record { keys = λ v l x y k. Rattle.cc_tied.proofs.Alike.Tie.quoted_same P Q al t }

      -- ---- constructs that see what their parts reach

      cast_left : {w2 : W} (i d : ℕ) {a b : Reach} → R.ReachC P Q al a b → Sim T Reaches w2 (cast_reach Sc.plain i d a) (ret b)
      unfolding cast_reach
      cast_left i d (R.plain_c {x = x} {y = y} h) = left_silent P Q al (ret (plain x)) (ret (plain y)) (R.silent_cast P Q al (at_site i) d x) (sim_ret T (plain x) (plain y) (R.plain_c h))
      cast_left i d (R.access_c {a = a} {b = b} h) = sim_ret T _ (access b) (R.access_c (record { on = h.on; key = h.key; path = h.path; path' = h.path' }))
      cast_left i d (R.global_c {i = m} {j = n} {b = b}) = sim_ret T (built_global m b) (built_global n b) R.global_c
      cast_left i d (R.member_c {i = m} {j = k} {b = b} {n = n} {n' = n'} e) = sim_ret T (built_member m b n) (built_member k b n') (R.member_c e)

      cast_right : {w2 : W} (i d : ℕ) {a b : Reach} → R.ReachC P Q al a b → Sim T Reaches w2 (ret a) (cast_reach Sc.plain i d b)
      unfolding cast_reach
      cast_right i d (R.plain_c {x = x} {y = y} h) = right_silent P Q al (ret (plain x)) (ret (plain y)) (R.silent_cast P Q al (at_site i) d y) (sim_ret T (plain x) (plain y) (R.plain_c h))
      cast_right i d (R.access_c {a = a} {b = b} h) = sim_ret T (access a) _ (R.access_c (record { on = h.on; key = h.key; path = h.path; path' = h.path' }))
      cast_right i d (R.global_c {i = m} {j = n} {b = b}) = sim_ret T (built_global m b) (built_global n b) R.global_c
      cast_right i d (R.member_c {i = m} {j = k} {b = b} {n = n} {n' = n'} e) = sim_ret T (built_member m b n) (built_member k b n') (R.member_c e)

      left_cast_c : (i d : ℕ) {e e' : Expr} → FollowsC e e' → FollowsC (cast i d e) e'
      unfolding ev
      left_cast_c i d {e = e} {e' = e'} h = record { by = λ p p' v l g g' t. subst (λ z. Sim T Reaches v (ev Sc.plain B g None e >>= λ r. cast_reach Sc.plain i d r) z) (bind_ret (ev Sc.plain B' g' p' e')) (sim_bind T (h.by None p' v l g g' t) (λ v2 l2 r r' q. cast_left i d q)) }

      right_cast_c : (i d : ℕ) {e e' : Expr} → FollowsC e e' → FollowsC e (cast i d e')
      unfolding ev
      right_cast_c i d {e = e} {e' = e'} h = record { by = λ p p' v l g g' t. subst (λ z. Sim T Reaches v z (ev Sc.plain B' g' None e' >>= λ r. cast_reach Sc.plain i d r)) (bind_ret (ev Sc.plain B g p e)) (sim_bind T (h.by p None v l g g' t) (λ v2 l2 r r' q. cast_right i d q)) }

      left_mark_c : (i n : ℕ) {e e' : Expr} → FollowsC e e' → FollowsC (tick i n e) e'
      unfolding ev
      left_mark_c i n h = record { by = λ p p' v l g g' t. mark_left n _ _ (h.by None p' v l g g' t) }

      right_mark_c : (i n : ℕ) {e e' : Expr} → FollowsC e e' → FollowsC e (tick i n e')
      unfolding ev
      right_mark_c i n h = record { by = λ p p' v l g g' t. mark_right n _ _ (h.by p None v l g g' t) }

      member_c : (i i' : ℕ) {e e' : Expr} {p q : ℕ} → A.PropA S S' N p q → FollowsC e e' → FollowsC (member i e p) (member i' e' q)
      member_c i i' {e = e} {e' = e'} {p = p} {q = q} h k = lift (λ w1 w2. E.follows_member K X c tt (paths_c (longer (path_of e) p) (longer (path_of e') q)) (prop_c h) (record { by = λ v l g g' t s pt kt. sim_bind T (k.by None None v l g g' t) (λ v2 l2 r r' q. R.member_on_c P Q al X (later T l l2) _ _ pt kt q) }))

      delete_c : (i i' : ℕ) {e e' : Expr} → FollowsC e e' → FollowsC (unary i Delete e) (unary i' Delete e')
      unfolding ev apply_unary
      delete_c i i' h = record { by = λ p p' v l g g' t. sim_bind T (h.by None None v l g g' t) (λ v2 l2 r r' q. sim_bind T (R.delete_c P Q al X i i' q) (λ v3 l3 x y k. sim_ret T (plain x) (plain y) (R.plain_c k))) }

      unary_c : (i i' : ℕ) (op : UnOp) {e e' : Expr} → FollowsC e e' → FollowsC (unary i op e) (unary i' op e')
      unfolding E.deletes
      unary_c i i' Delete h = delete_c i i' h
      unary_c i i' op h = lift (λ p p'. E.follows_unary K X c tt op refl (val h))

      call_c : (i i' : ℕ) {f f' : Expr} {es es' : Exprs} → FollowsC f f' → E.FollowsAll K X c es es' → FollowsC (call i f es) (call i' f' es')
      unfolding ev
      call_c i i' h k = record {
        by = λ p p' v l g g' t.
            sim_bind T (h.by None None v l g g' t) (λ v2 l2 r r' q.
            sim_bind T (R.callee_c P Q al X (later T l l2) q) (λ v3 l3 f f' ft.
            sim_bind T (k.by v3 (later T l (later T l2 l3)) g g' (K.env_later (later T l2 l3) t)) (λ v4 l4 vs vs' vt.
            sim_bind T (rel_apply K X (later T l (later T l2 (later T l3 l4))) tt (callee_later K l4 ft) vt) (λ v5 l5 x y r. sim_ret T (plain x) (plain y) (R.plain_c r)))));
      }

      -- the value between brackets
      bracket : {v : W} → Later T w v → (g g' : Env) → EnvA c v.w g g' → {k k' : Expr} → FollowsC k k' → Sim T (λ u x y. (ValT Eq x y × Written k x) × Written k' y) v (value Sc.plain B (ev Sc.plain B g None k)) (value Sc.plain B' (ev Sc.plain B' g' None k'))
      bracket l g g' t {k = k} {k' = k'} h = written_right B' g' k' (written_left B g k ((val h).by _ l g g' t))

      index_c : (i i' : ℕ) {e e' k k' : Expr} → FollowsC e e' → FollowsC k k' → FollowsC (index i e k) (index i' e' k')
      unfolding ev
      index_c i i' {k = k} {k' = k'} h hk = record {
        by = λ p p' v l g g' t.
            sim_bind T ((val h).by v l g g' t) (λ v2 l2 o o' q.
            sim_bind T (bracket (later T l l2) g g' (K.env_later l2 t) hk) (λ v3 l3 y y' r.
            sim_bind T (keys_c i i' (literal_text k) (literal_text k') y y' (same_val r.0.0) r.0.1 r.1) (λ v4 l4 a b kt.
            sim_bind T (E.rel_reference K X tt (paths_c None None) q kt) (λ v5 l5 a b h. sim_ret T (access a) (access b) (R.as_reach P Q al v5 (access_t h))))));
      }

      index_target : {Reads : Ref → Ref → Type 0} (i i' : ℕ) {e e' k k' : Expr} → FollowsC e e' → FollowsC k k' → E.FollowsTarget K X c Reads (to_index i e k) (to_index i' e' k')
      unfolding ev
      index_target i i' {k = k} {k' = k'} h hk = record {
        by = λ v l g g' t.
            sim_bind T ((val h).by v l g g' t) (λ v2 l2 o o' q.
            sim_bind T (bracket (later T l l2) g g' (K.env_later l2 t) hk) (λ v3 l3 y y' r.
            sim_bind T (keys_c i i' (literal_text k) (literal_text k') y y' (same_val r.0.0) r.0.1 r.1) (λ v4 l4 a b kt.
            sim_bind T (E.rel_reference K X tt (paths_c None None) q kt) (λ v5 l5 a b h. sim_ret T (slot_place a) (slot_place b) (E.known_t (slot_t h))))));
      }

      -- ---- signs and `void` of literals

      left_minus_c : (i j k n : ℕ) {e : Expr} → IsTrue (is_exact (negsuc n)) → FollowsC e (lit k (whole (pos (suc n)))) → FollowsC (unary i Minus e) (lit j (whole (negsuc n)))
      unfolding ev
      left_minus_c i j k n {e = e} x h = record { by = λ p p' v l g g' t. subst (λ z. Sim T Reaches v (ev Sc.plain B g p (unary i Minus e)) z) (R.minus_literal B' g' p' i k n x) ((unary_c i i Minus h).by p p' v l g g' t) }

      right_minus_c : (i j k n : ℕ) {e : Expr} → IsTrue (is_exact (negsuc n)) → FollowsC (lit k (whole (pos (suc n)))) e → FollowsC (lit i (whole (negsuc n))) (unary j Minus e)
      unfolding ev
      right_minus_c i j k n {e = e} x h = record { by = λ p p' v l g g' t. subst (λ z. Sim T Reaches v z (ev Sc.plain B' g' p' (unary j Minus e))) (R.minus_literal B g p j k n x) ((unary_c j j Minus h).by p p' v l g g' t) }

      left_void_c : (i j k : ℕ) {q : Prim} {e : Expr} → FollowsC e (lit k q) → FollowsC (unary i Void e) (lit j undefined)
      unfolding ev
      left_void_c i j k {q = q} {e = e} h = record { by = λ p p' v l g g' t. subst (λ z. Sim T Reaches v (ev Sc.plain B g p (unary i Void e)) z) (R.void_literal B' g' p' i k q) ((unary_c i i Void h).by p p' v l g g' t) }

      right_void_c : (i j k : ℕ) {q : Prim} {e : Expr} → FollowsC (lit k q) e → FollowsC (lit i undefined) (unary j Void e)
      unfolding ev
      right_void_c i j k {q = q} {e = e} h = record { by = λ p p' v l g g' t. subst (λ z. Sim T Reaches v z (ev Sc.plain B' g' p' (unary j Void e))) (R.void_literal B g p j k q) ((unary_c j j Void h).by p p' v l g g' t) }

      -- ---- targets

      read_by : (op : Option BinOp) {r r' : Ref} → A.RefA S S' N c r r' → E.ReadsBy K X c op r r'
      read_by None rd = E.not_read
      read_by (Some op) rd = E.is_read rd

      place_as : (op : Option BinOp) (u : W) {a b : Place} → E.PlaceS K X c (K.ReadT c) u a b → E.PlaceS K X c (E.ReadsBy K X c op) u a b
      place_as op u (E.known_t (variable_t s rd wr)) = E.known_t (variable_t s (read_by op rd) wr)
      place_as op u (E.known_t (slot_t h)) = E.known_t (slot_t h)
      place_as op u (E.served_t h) = E.served_t h

      written_to : (op : Option BinOp) {t t' : Target} → E.FollowsTarget K X c (K.ReadT c) t t' → E.FollowsTarget K X c (E.ReadsBy K X c op) t t'
      written_to op h = record { by = λ v l g g' t. sim_as T (λ u lu a b q. place_as op u q) (h.by v l g g' t) }

      -- ---- expressions

      mutual
        pub expr : {e e' : Expr} → A.ExprA S S' N c e e' → FollowsC e e'
        expr (A.lit_a {p = q}) = lift (λ p p'. E.follows_lit K X c q)
        expr (A.var_a r) = lift (λ p p'. E.follows_var K X c tt r)
        expr A.this_a = lift (λ p p'. E.follows_this K X c tt tt)
        expr (A.fun_a f) = lift (λ p p'. E.follows_fun K X c tt f)
        expr (A.list_a es) = lift (λ p p'. E.follows_list K X c (exprs es))
        expr (A.object_a fs) = lift (λ p p'. E.follows_object K X c (fields p p' fs))
        expr (A.unary_a {i = i} {j = j} {op = op} e) = unary_c i j op (expr e)
        expr (A.binary_a {op = op} a b) = lift (λ p p'. E.follows_binary K X c tt op (val (expr a)) (val (expr b)))
        expr (A.and_a a b) = lift (λ p p'. E.follows_and K X c (val (expr a)) (val (expr b)))
        expr (A.or_a a b) = lift (λ p p'. E.follows_or K X c (val (expr a)) (val (expr b)))
        expr (A.cond_a t a b) = lift (λ p p'. E.follows_cond K X c (val (expr t)) (val (expr a)) (val (expr b)))
        expr (A.assign_a {op = op} t e) = lift (λ p p'. E.follows_assign K X c tt op (written_to op (target t)) (as_val (expr e) _ _))
        expr (A.step_a {up = up} {before = before} t) = lift (λ p p'. E.follows_step K X c tt up before (target t))
        expr (A.member_a {i = i} {j = j} e h) = member_c i j h (expr e)
        expr (A.index_a {i = i} {j = j} e k) = index_c i j (expr e) (expr k)
        expr (A.call_a {i = i} {j = j} f es) = call_c i j (expr f) (exprs es)
        expr (A.new_a f es) = lift (λ p p'. E.follows_new K X c tt (val (expr f)) (exprs es))
        expr (A.comma_a a b) = lift (λ p p'. E.follows_comma K X c (val (expr a)) (val (expr b)))
        expr (A.left_cast {i = i} {t = d} e) = left_cast_c i d (expr e)
        expr (A.right_cast {i = i} {t = d} e) = right_cast_c i d (expr e)
        expr (A.left_mark {i = i} {p = n} e) = left_mark_c i n (expr e)
        expr (A.right_mark {i = i} {p = n} e) = right_mark_c i n (expr e)
        expr (A.left_minus {i = i} {j = j} {k = k} {n = n} x e) = left_minus_c i j k n x (expr e)
        expr (A.right_minus {i = i} {j = j} {k = k} {n = n} x e) = right_minus_c i j k n x (expr e)
        expr (A.left_void {i = i} {j = j} {k = k} e) = left_void_c i j k (expr e)
        expr (A.right_void {i = i} {j = j} {k = k} e) = right_void_c i j k (expr e)

        pub target : {t t' : Target} → A.TargetA S S' N c t t' → E.FollowsTarget K X c (K.ReadT c) t t'
        target (A.to_var_a r) = E.target_var K X c tt r r
        target (A.to_member_a {p = p} {q = q} {e = e} {d = d} h k) = E.target_member K X c tt (paths_c (longer (path_of e) p) (longer (path_of d) q)) (prop_c k) (val (expr h))
        target (A.to_index_a {i = i} {j = j} e k) = index_target i j (expr e) (expr k)

        exprs : {es es' : Exprs} → A.ExprsA S S' N c es es' → E.FollowsAll K X c es es'
        exprs A.no_exprs_a = E.follows_no_exprs K X c
        exprs (A.more_exprs_a e es) = E.follows_more_exprs K X c (val (expr e)) (exprs es)

        fields : (p p' : Option Path) {fs fs' : Fields} → A.FieldsA S S' N c fs fs' → E.FollowsFields K X c p p' fs fs'
        fields p p' A.no_fields_a = E.follows_no_fields K X c
        fields p p' (A.more_fields_a {k = k} {l = l} kt e fs) = E.follows_more_fields K X c tt (new_key kt) (paths_c (path_of_key p k) (path_of_key p' l)) (as_val (expr e) (path_of_key p k) (path_of_key p' l)) (fields p p' fs)
