-- A body whose parameters have arguments in their place does what it did in a frame of its own.
use Rattle.std.proofs.Common.{◌≡◌, ℕ, ◌<◌, Bool, true, false, List, [], Option, Some, None, is_some, refl, sym, ap, subst}
use Rattle.std.specs.Prelude.{slice_get}
use Rattle.cc_ast.specs.Syntax.{Prim, text, Expr, lit, var, unary, Exprs, Fields}
use Rattle.cc_ast.specs.declared.operator.UnOp.{UnOp}
use Rattle.cc_ast.specs.declared.operator.UnOp.TheVariants.{Delete}
use Rattle.cc_ast.specs.declared.tree.Ref.{Ref}
use Rattle.cc_meaning.specs.Values.{Val, Spot, at_site}
use Rattle.cc_meaning.specs.Builtins.{or_undefined}
use Rattle.cc_meaning.specs.State.{FrameKind, of_call, of_catch, of_own_name, Frame, Env, Path, State, Tables}
use Rattle.cc_meaning.specs.Monad.{ok, ret}
use Rattle.cc_meaning.specs.Store.{frame_up, frame_at, flat_option}
use Rattle.cc_meaning.specs.Typed.{local}
use Rattle.cc_meaning.specs.Judge.{takes}
use Rattle.cc_meaning.specs.Acts.{place_in, read_by_kind, read_place, read_var}
use Rattle.cc_meaning.specs.Shapes.{literal_text}
use Rattle.cc_meaning.specs.Calls.{Reach, plain, Bodies, value}
use Rattle.cc_meaning.specs.Meaning.{reach_var, ev}
use Rattle.cc_meaning.specs.Script.{checked}
use Rattle.cc_meaning.specs.Alike.{In}
use Rattle.cc_tied.specs.Tied.{plain_t}
use Rattle.cc_tied.specs.Facts.{Facts}
use Rattle.cc_tied.specs.Placed.{accesses, variable, builds, reaches}
use Rattle.cc_tied.specs.Injection.{Holds, holds}
use Rattle.cc_tied.specs.Inlined.{argument, in_place, copy, copy_all, copy_fields, IsCopyable, copy_lit, copy_param, copy_global, copy_list, copy_object, copy_unary, copy_binary, copy_and, copy_or, copy_cond, copy_member, copy_index, copy_call, copy_new, copy_comma, copy_cast, copy_tick, AreCopyable, copy_none, copy_more, HasCopyableFields, copy_no_fields, copy_more_fields}
use Rattle.cc_tied.proofs.Kit.{Kit}
use Rattle.cc_tied.proofs.Parts.{ReachV, Below}
use Rattle.cc_tied.proofs.Laws.{bind_ret}
use Rattle.cc_tied.proofs.AtValues.{plain_value}
use Rattle.cc_tied.proofs.Expressions as E
use Rattle.cc_tied.proofs.Valued as Vd
use Rattle.cc_tied.proofs.Nodes.{SameTables, text_literal, brackets_new}
use Rattle.cc_tied.proofs.Sim.{Tie, World, ResT, Sim, fine}
use Rattle.cc_tied.proofs.Left as L
use Rattle.cc_tied.proofs.Injection.World.{Tabs, ext_same}
use Rattle.cc_tied.proofs.Injection.Tie.{Other, Ctx, inlined, EnvI, env_inlined, ArgI, arg_more, reads_inlined, TiedI, inject}
use Rattle.cc_tied.proofs.Injection.Left.{Silent, silent_judged}
use Rattle.cc_tied.proofs.Injection.Upkeep.{inject_kit}

module _ (F : Facts) (S : Tables) (set' : Other S) where
  abbrev T : Tie
  T = inject F S set'

  abbrev W : Type 0
  W = World T

  abbrev K : Kit
  K = inject_kit F S set'

  abbrev Tied : Tabs → State → State → Type 0
  Tied = TiedI F S set'

  -- ---- a parameter

  abbrev value_at : Frame → ℕ → Val
  value_at fr n = or_undefined (flat_option (slice_get fr.values n))

  kind_reads : {w : W} (i : Spot) (k : FrameKind) (n : ℕ) (o : Option Val) → Silent F S set' (λ v x. x ≡ or_undefined o) w (read_by_kind checked i k n o)
  unfolding read_by_kind
  kind_reads i (of_call c) n o = silent_judged F S set' i (takes (local c n) true (is_some o)) (ret (or_undefined o)) (L.silent_ret T tt (or_undefined o) refl)
  kind_reads i of_catch n o = L.silent_ret T tt (or_undefined o) refl
  kind_reads i of_own_name n o = L.silent_ret T tt (or_undefined o) refl

  frame_reads : {w : W} (i : Spot) (fr : Frame) (n : ℕ) → Silent F S set' (λ v x. x ≡ value_at fr n) w (read_place checked i (Some fr) n)
  unfolding read_place place_in
  frame_reads i fr n = kind_reads i fr.kind n (flat_option (slice_get fr.values n))

  lone_frame : {fr : Frame} {o : Option Frame} → Holds (λ a. a ≡ fr) o → o ≡ Some fr
  lone_frame (holds e) = ap Some e

  param_read : {w : W} (i : Spot) (g : Env) (m n : ℕ) (fr : Frame) → g.at ≡ Some m → In (record { place = m; entry = fr }) w.w.alone → Silent F S set' (λ v x. x ≡ value_at fr n) w (read_var checked i g (Ref.Frame 0 n))
  unfolding read_var frame_up frame_at
  param_read {w = w} i g m n fr e q = record {
    by = λ s t ti le le'.
        subst (λ z. L.Alone T tt (λ v x. x ≡ value_at fr n) w t (read_place checked i (frame_at s.frames z) n s)) (sym e)
        (subst (λ z. L.Alone T tt (λ v x. x ≡ value_at fr n) w t (read_place checked i z n s)) (sym (lone_frame (ti.frames.lone _ q)))
        ((frame_reads {w = w} i fr n).by s t ti le le'));
  }

  param_reached : {w : W} (B : Bodies) (i : ℕ) (g : Env) (p : Option Path) (m n : ℕ) (fr : Frame) → g.at ≡ Some m → In (record { place = m; entry = fr }) w.w.alone → Silent F S set' (λ v r. r ≡ plain (value_at fr n)) w (ev checked B g p (var i (Ref.Frame 0 n)))
  unfolding ev reach_var
  param_reached B i g p m n fr e q = L.silent_bind T tt {Q = λ v x. x ≡ value_at fr n} (param_read (at_site i) g m n fr e q) (λ v l x d. L.silent_ret T tt (plain x) (ap plain d))

  -- a value of the left, and what the right gives for it
  given_reach : {w : W} (B' : Bodies) {h : Env} {e : Expr} {x : Val} {r : Reach} (p : Option Path) → r ≡ plain x → ArgI F S set' w.w h e x → Sim T (ReachV K) w (ret r) (ev checked B' h p e)
  unfolding ret
  given_reach {w = w} B' {h = h} {e = e} {x = x} {r = r} p d a s t ti le le' =
      let k = a.by w.w (record { ext = ext_same w.w; still = refl; stage = refl }) s t ti B' in
      subst (λ z. ResT T (ReachV K) w (ok [] r s) z) (sym (k.reached p)) (subst (λ z. ResT T (ReachV K) w (ok [] z s) (ok [] (plain k.value) t)) (sym d) (fine T (plain x) (plain k.value) (plain_t k.tied) ti le le'))

  param_value : {w : W} (B : Bodies) (i : ℕ) (g : Env) (m n : ℕ) (fr : Frame) → g.at ≡ Some m → In (record { place = m; entry = fr }) w.w.alone → Silent F S set' (λ v x. x ≡ value_at fr n) w (value checked B (ev checked B g None (var i (Ref.Frame 0 n))))
  unfolding value ev reach_var
  param_value {w = w} B i g m n fr e q = subst (λ z. Silent F S set' (λ v x. x ≡ value_at fr n) w z) (sym (plain_value checked B (read_var checked (at_site i) g (Ref.Frame 0 n)))) (param_read (at_site i) g m n fr e q)

  given_plain : (X : Below K) (built : Ref → Bool) {w : W} (B' : Bodies) {h : Env} {e : Expr} {x y : Val} → y ≡ x → ArgI F S set' w.w h e x → Sim T (Vd.PlainT K X built) w (ret y) (ev checked B' h None e)
  unfolding ret
  given_plain X built {w = w} B' {h = h} {e = e} {x = x} {y = y} d a s t ti le le' =
      let k = a.by w.w (record { ext = ext_same w.w; still = refl; stage = refl }) s t ti B' in
      subst (λ z. ResT T (Vd.PlainT K X built) w (ok [] y s) z) (sym (k.reached None)) (subst (λ z. ResT T (Vd.PlainT K X built) w (ok [] z s) (ok [] (plain k.value) t)) (sym d) (fine T x (plain k.value) (Vd.plain_p k.tied) ti le le'))

  module _ (X : Below K) (built : Ref → Bool) (same : SameTables K X built) (params : ℕ) (args : Exprs) where
    open X use {B, B', w}

    abbrev Here : Ctx
    Here = inlined params args

    param_follows : (i n : ℕ) → n < params → (q q' : Option Path) → E.FollowsRef K X Here q q' (var i (Ref.Frame 0 n)) (argument i args n)
    param_follows i n less q q' = record { by = λ v l g h t. by_env v l g h t }
      where
        by_env : (v : W) → K.Later w v → (g h : Env) → EnvI F S set' v.w Here g h → Sim T (ReachV K) v (ev checked B g q (var i (Ref.Frame 0 n))) (ev checked B' h q' (argument i args n))
        by_env v l g h (env_inlined {m = m} {fr = fr} e d k a) =
            subst (λ z. Sim T (ReachV K) v z (ev checked B' h q' (argument i args n))) (bind_ret (ev checked B g q (var i (Ref.Frame 0 n))))
            (L.rel_left T tt (param_reached B i g q m n fr e k) (λ v2 l2 r c. given_reach B' q' c (arg_more F S set' l2.2 (a i n less))))

    abbrev Ref2 : Expr → Expr → Type 0
    Ref2 e e' = (q q' : Option Path) → E.FollowsRef K X Here q q' e e'

    as_values : {e e' : Expr} → Ref2 e e' → E.Follows K X Here e e'
    as_values h = E.as_value K X Here (h None None)

    one_text : (i : ℕ) (t : List ℕ) → E.BracketsT K X (lit i (text t)) (copy args (lit i (text t)))
    unfolding copy
    one_text i t = E.texts_t (same.quoted t)

    brackets_copy : (k : Expr) (o : Option (List ℕ)) → literal_text k ≡ o → E.BracketsT K X k (copy args k)
    brackets_copy k None e = brackets_new K X built same Here k (copy args k) e
    brackets_copy k (Some t) e = let l = text_literal k t e in subst (λ z. E.BracketsT K X z (copy args z)) (sym l.1) (one_text l.0 t)

    unary_copy : (i : ℕ) (op : UnOp) {e e' : Expr} → Ref2 e e' → Ref2 (unary i op e) (unary i op e')
    unfolding E.deletes
    unary_copy i Delete h q q' = E.follows_delete K X Here (same.sites i) (h None None)
    unary_copy i op h q q' = E.follows_unary K X Here (same.sites i) op refl (as_values h)

    module _ (Reads : ℕ → Type 0) (read : (n : ℕ) → Reads n → (F.Unread n → ⊥) × (set'.Foreign n → ⊥)) where
      mutual
        unfolding copy in_place

        pub copies : {e : Expr} → IsCopyable params Reads e → Ref2 e (copy args e)
        copies (copy_lit {p = p}) q q' = E.follows_lit K X Here p
        copies (copy_param {i = i} {n = n} less) q q' = param_follows i n less q q'
        copies (copy_global {i = i} {n = n} r) q q' = E.follows_var K X Here (same.sites i) (reads_inlined (read n r).0 (read n r).1)
        copies (copy_list h) q q' = E.follows_list K X Here (copies_all h)
        copies (copy_object h) q q' = E.follows_object K X Here (copies_fields h q q')
        copies (copy_unary {i = i} {op = op} h) q q' = unary_copy i op (copies h) q q'
        copies (copy_binary {i = i} {op = op} h k) q q' = E.follows_binary K X Here (same.sites i) op (as_values (copies h)) (as_values (copies k))
        copies (copy_and h k) q q' = E.follows_and K X Here (as_values (copies h)) (as_values (copies k))
        copies (copy_or h k) q q' = E.follows_or K X Here (as_values (copies h)) (as_values (copies k))
        copies (copy_cond h j k) q q' = E.follows_cond K X Here (as_values (copies h)) (as_values (copies j)) (as_values (copies k))
        copies (copy_member {i = i} {p = p} h) q q' = E.follows_member K X Here (same.sites i) (same.paths _ _) (same.props p) (E.on_reached K X Here (copies h None None))
        copies (copy_index {i = i} {k = j} h k) q q' = E.follows_index K X Here (same.sites i) (as_values (copies h)) (brackets_copy j (literal_text j) refl) (as_values (copies k))
        copies (copy_call {i = i} h k) q q' = E.follows_call K X Here (same.sites i) (copies h None None) (copies_all k)
        copies (copy_new {i = i} h k) q q' = E.follows_new K X Here (same.sites i) (as_values (copies h)) (copies_all k)
        copies (copy_comma h k) q q' = E.follows_comma K X Here (as_values (copies h)) (as_values (copies k))
        copies (copy_cast {i = i} {d = d} h) q q' = E.follows_cast K X Here (same.sites i) (same.docs d) (copies h None None)
        copies (copy_tick {n = n} h) q q' = E.follows_tick K X Here n (copies h None None)

        copies_all : {es : Exprs} → AreCopyable params Reads es → E.FollowsAll K X Here es (copy_all args es)
        copies_all copy_none = E.follows_no_exprs K X Here
        copies_all (copy_more h k) = E.follows_more_exprs K X Here (as_values (copies h)) (copies_all k)

        copies_fields : {fs : Fields} → HasCopyableFields params Reads fs → (q q' : Option Path) → E.FollowsFields K X Here q q' fs (copy_fields args fs)
        copies_fields copy_no_fields q q' = E.follows_no_fields K X Here
        copies_fields (copy_more_fields {k = k} h j) q q' = E.follows_more_fields K X Here tt (same.keys k) (same.paths _ _) (E.as_value K X Here (copies h _ _)) (copies_fields j q q')

      -- .. and reaches its value as one, where its shape says so
      param_plain : (i n : ℕ) → n < params → Vd.FollowsPlain K X built Here (var i (Ref.Frame 0 n)) (argument i args n)
      param_plain i n less = record { by = λ v l g h t. by_env v l g h t }
        where
          by_env : (v : W) → K.Later w v → (g h : Env) → EnvI F S set' v.w Here g h → Sim T (Vd.PlainT K X built) v (value checked B (ev checked B g None (var i (Ref.Frame 0 n)))) (ev checked B' h None (argument i args n))
          by_env v l g h (env_inlined {m = m} {fr = fr} e d k a) =
              subst (λ z. Sim T (Vd.PlainT K X built) v z (ev checked B' h None (argument i args n))) (bind_ret (value checked B (ev checked B g None (var i (Ref.Frame 0 n)))))
              (L.rel_left T tt (param_value B i g m n fr e k) (λ v2 l2 x c. given_plain X built B' c (arg_more F S set' l2.2 (a i n less))))

      plain_copy : {e e' : Expr} → Ref2 e e' → accesses e' ≡ false → variable e' ≡ false → Vd.FollowsPlain K X built Here e e'
      plain_copy h a b = Vd.plain_of_values K X built Here a b (as_values h)

      pub copies_plain : {e : Expr} → (able : IsCopyable params Reads e) → reaches built (copy args e) ≡ false → Vd.FollowsPlain K X built Here e (copy args e)
      unfolding copy in_place reaches accesses builds variable
      copies_plain (copy_param {i = i} {n = n} less) r = param_plain i n less
      copies_plain (copy_global {i = i} {n = n} k) r = Vd.var_plain K X built Here (same.sites i) (reads_inlined (read n k).0 (read n k).1) (same.builts (Ref.Global n) r)
      copies_plain (copy_cast {i = i} {d = d} h) r = Vd.cast_plain K X built Here (same.sites i) (same.docs d) (copies_plain h r)
      copies_plain (copy_tick {n = n} h) r = Vd.tick_plain K X built Here n (copies_plain h r)
      copies_plain (copy_member h) r = absurd (cc)
      copies_plain (copy_index h k) r = absurd (cc)
      copies_plain (copy_lit {p = p}) r = plain_copy (copies (copy_lit {p = p})) refl refl
      copies_plain (copy_list h) r = plain_copy (copies (copy_list h)) refl refl
      copies_plain (copy_object h) r = plain_copy (copies (copy_object h)) refl refl
      copies_plain (copy_unary h) r = plain_copy (copies (copy_unary h)) refl refl
      copies_plain (copy_binary h k) r = plain_copy (copies (copy_binary h k)) refl refl
      copies_plain (copy_and h k) r = plain_copy (copies (copy_and h k)) refl refl
      copies_plain (copy_or h k) r = plain_copy (copies (copy_or h k)) refl refl
      copies_plain (copy_cond h j k) r = plain_copy (copies (copy_cond h j k)) refl refl
      copies_plain (copy_call h k) r = plain_copy (copies (copy_call h k)) refl refl
      copies_plain (copy_new h k) r = plain_copy (copies (copy_new h k)) refl refl
      copies_plain (copy_comma h k) r = plain_copy (copies (copy_comma h k)) refl refl
