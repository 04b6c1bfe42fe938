-- Calls of functions and of the outside, and reads and writes of what was reached, keep a relation.
use Rattle.std.proofs.Common.{◌≡◌, ap, ℕ, Bool, true, false, List, [], ◌∷◌, Option, Some, None, subst, arith}
use Rattle.cc_ast.specs.Syntax.{Prim, undefined}
use Rattle.cc_meaning.specs.Values.{Val, prim, out, shown_out, handle, Spot, at_site, called, constructed, got, put}
use Rattle.cc_meaning.specs.State.{Kind, Code, Inner, Answer, gives, throws, Env}
use Rattle.cc_meaning.specs.Monad.{M, ret, skip, raise, ◌>>=◌}
use Rattle.cc_meaning.specs.Store.{Access, name_of, kind_by, Use, Built, object_global, math_global, string_global}
use Rattle.cc_meaning.specs.Acts.{judged}
use Rattle.cc_meaning.specs.Calls.{Reference, Reach, Callee, called_value, called_use, begin, begin_at, call_object, inner_call, inner, inners, answered, ask, call_out, construct_out, get_on, put_on, take_path, keep_path, cast_all, get, put_to, value_of, value, read_method, receiver_of, receiver_by, callee_by, callee_of, member_callee, global_callee, call_value, apply, construct_by, construct, built_result, views, declares_on}
use Rattle.cc_meaning.specs.Rules.{is_prim}
use Rattle.cc_tied.specs.Tied.{nil_t, cons_t, OptT, none_t, some_t, prim_t, out_t, obj_t, value_t, use_t, plain_t, access_t, global_t, member_t}
use Rattle.cc_tied.proofs.Kit.{Kit}
use Rattle.cc_tied.proofs.Parts.{V, OptV, ListV, CodeV, ReferenceV, ReachV, CalleeV, CastsT, Done, Below, val_later, opt_later, list_later, code_later, reference_later, rel_skip, rel_tell, rel_tell_end, rel_show_all, rel_show_receiver, list_on}
use Rattle.cc_tied.proofs.Judged.{rel_prim_called, rel_out_called, rel_calls_inner, rel_answers, rel_prim_write}

-- the first of some values, and those after it
unfoldable pub first_of_views : List Val → Val
first_of_views [] = prim undefined
first_of_views (v ∷ vs) = v

unfoldable pub rest_of_views : List Val → List Val
rest_of_views [] = []
rest_of_views (v ∷ vs) = vs

module _ (K : Kit) where
  open K use {J, J', World, Later, later, now, bound, bound', bound_later, bound_later', SpotT, FunT, RunsT, runs_code, O, KeyT, key_later, Rel, rel_ret, rel_bind, rel_raise, rel_attempt, rel_pay_less, rel_tables, rel_fault, rel_say, rel_show, rel_next_reply, rel_view, rel_views, rel_runs, rel_enters, rel_leaves, rel_read, rel_out_read, rel_prim_read, rel_take_path, rel_cast, rel_method, rel_method_read, rel_reach_method, rel_instance, rel_use, DeclaresT, declares_none, env_declares, rel_write, rel_out_write, rel_keep_path}

  pub first_t : {v : World} {vs vs' : List Val} → ListV K v vs vs' → V K v (first_of_views vs) (first_of_views vs')
  unfolding first_of_views
  first_t nil_t = prim_t
  first_t (cons_t h t) = h

  pub rest_t : {v : World} {vs vs' : List Val} → ListV K v vs vs' → ListV K v (rest_of_views vs) (rest_of_views vs')
  unfolding rest_of_views
  rest_t nil_t = nil_t
  rest_t (cons_t h t) = t

  module _ (X : Below K) where
    open X use {B, B', w, tied}

    pub rel_begin : {v : World} → Later w v → {i i' : Spot} → SpotT i i' → {a b : Code} → CodeV K v a b → (built : Bool) {t t' : Option Val} {vs vs' : List Val} → OptV K v t t' → ListV K v vs vs' → Rel (V K) v (begin J B i a built t vs) (begin J' B' i' b built t' vs')
    unfolding begin
    rel_begin l i c built tt' vt =
        rel_bind (rel_enters i c tt' vt) (λ v2 l2 _ _ _.
        rel_pay_less (λ v3 l3 less less'.
        rel_bind (tied.by v3 (later l (later l2 l3)) (omega (arith, less, bound_later l, bound_later l2)) (omega (arith, less', bound_later' l, bound_later' l2)) _ _ (code_later K (later l2 l3) c) _ _ _ _ (opt_later K (later l2 l3) tt') (list_later K (later l2 l3) vt)) (λ v4 l4 r r' q.
        rel_bind (rel_leaves q.site c.function built q.value) (λ v5 l5 _ _ _. rel_ret r.value r'.value (val_later K l5 q.value)))))

    pub rel_call_object : {v : World} → Later w v → {i i' : Spot} → SpotT i i' → {m n : ℕ} → O v m n → {t t' : Option Val} {vs vs' : List Val} → OptV K v t t' → ListV K v vs vs' → Rel (V K) v (call_object J B i m t vs) (call_object J' B' i' n t' vs')
    unfolding call_object begin_at
    rel_call_object l {i = i} {i' = i'} s h {t = t} {t' = t'} {vs = vs} {vs' = vs'} tt' vt = rel_runs (λ o. begin_at J B i o t vs) (λ o. begin_at J' B' i' o t' vs') s h (λ a b r. rel_begin l s (runs_code r) false tt' vt)

    -- ---- the outside

    pub rel_inner_call : {v : World} → Later w v → {i i' : Spot} → SpotT i i' → {x x' y y' : Val} {vs vs' : List Val} → V K v x x' → V K v y y' → ListV K v vs vs' → Rel (Done K) v (inner_call J B i x y vs) (inner_call J' B' i' x' y' vs')
    unfolding inner_call
    rel_inner_call l s (obj_t h) yt vt = rel_bind (rel_attempt (rel_call_object l s h (some_t yt) vt)) (λ v2 l2 a b q. rel_tell_end K q)
    rel_inner_call l s out_t yt vt = rel_fault s 13
    rel_inner_call l s prim_t yt vt = rel_fault s 13

    pub rel_inner : {v : World} → Later w v → {i i' : Spot} → SpotT i i' → (c : Inner) → Rel (Done K) v (inner J B i c) (inner J' B' i' c)
    unfolding inner views first_of_views rest_of_views
    rel_inner l {i = i} {i' = i'} s c = rel_views (handle c.callee ∷ c.this ∷ c.args)
        (λ given vs. judged J i (Rattle.cc_meaning.specs.Judge.calls_inner given) (inner_call J B i (first_of_views vs) (first_of_views (rest_of_views vs)) (rest_of_views (rest_of_views vs))))
        (λ given vs. judged J' i' (Rattle.cc_meaning.specs.Judge.calls_inner given) (inner_call J' B' i' (first_of_views vs) (first_of_views (rest_of_views vs)) (rest_of_views (rest_of_views vs))))
        (λ given vs vs' h. rel_calls_inner K given _ _ s (rel_inner_call l s (first_t h) (first_t (rest_t h)) (rest_t (rest_t h))))

    pub rel_inners : {i i' : Spot} → SpotT i i' → (cs : List Inner) {v : World} → Later w v → Rel (Done K) v (inners J B i cs) (inners J' B' i' cs)
    unfolding inners
    rel_inners s [] l = rel_skip K
    rel_inners s (c ∷ cs) l = rel_bind (rel_inner l s c) (λ v2 l2 a b u. rel_inners s cs (later l l2))

    pub rel_answered : {v : World} {i i' : Spot} → SpotT i i' → (a : Answer) → Rel (V K) v (answered J i a) (answered J' i' a)
    unfolding answered
    rel_answered {i = i} {i' = i'} s (gives x) = rel_view x (λ given y. judged J i (Rattle.cc_meaning.specs.Judge.answers_with given) (ret y)) (λ given y. judged J' i' (Rattle.cc_meaning.specs.Judge.answers_with given) (ret y)) (λ given y y' h. rel_answers K given _ _ s (rel_ret y y' h))
    rel_answered {i = i} {i' = i'} s (throws x) = rel_view x (λ given y. judged J i (Rattle.cc_meaning.specs.Judge.answers_with given) (raise y)) (λ given y. judged J' i' (Rattle.cc_meaning.specs.Judge.answers_with given) (raise y)) (λ given y y' h. rel_answers K given _ _ s (rel_raise h))

    pub rel_ask : {v : World} → Later w v → {i i' : Spot} → SpotT i i' → Rel (V K) v (ask J B i) (ask J' B' i')
    unfolding ask
    rel_ask l {i = i} {i' = i'} s = rel_bind rel_next_reply (λ v2 l2 r r' e. subst (λ z. Rel (V K) v2 (inners J B i r.first >>= λ _. answered J i r.answer) (inners J' B' i' z.first >>= λ _. answered J' i' z.answer)) e (rel_bind (rel_inners s r.first (later l l2)) (λ v3 l3 a b u. rel_answered s r.answer)))

    pub rel_call_out : {v : World} → Later w v → {i i' : Spot} → SpotT i i' → (n : ℕ) {t t' : Option Val} {vs vs' : List Val} → OptV K v t t' → ListV K v vs vs' → Rel (V K) v (call_out J B i n t vs) (call_out J' B' i' n t' vs')
    unfolding call_out
    rel_call_out l s n tt' vt = rel_pay_less (λ v1 l1 less less'. rel_bind (rel_show_receiver K (opt_later K l1 tt')) (λ v2 l2 x x' e. rel_bind (rel_show_all K _ _ (list_later K (later l1 l2) vt)) (λ v3 l3 xs xs' d. rel_bind (rel_tell K (called (shown_out n) x xs) (called (shown_out n) x' xs') (cc)) (λ v4 l4 a b u. rel_ask (later l (later l1 (later l2 (later l3 l4)))) s))))

    -- ---- reads

    pub rel_get_on : {v : World} → Later w v → {i i' : Spot} → SpotT i i' → {x y : Val} {a b : Access} → V K v x y → KeyT v x a b → Rel (V K) v (get_on J B i x a) (get_on J' B' i' y b)
    unfolding get_on
    rel_get_on l s (obj_t h) k = rel_read s h k
    rel_get_on l s (prim_t {p = p}) k = rel_prim_read s k
    rel_get_on {v = v} l {i = i} {i' = i'} s {a = a} {b = b} (out_t {n = n}) k = rel_out_read s k (λ e. rel_tables _ _ (rel_bind (rel_tell K (got (shown_out n) (name_of K.tables a)) (got (shown_out n) (name_of K.tables' b)) (ap (λ z. got (shown_out n) z) e)) (λ v2 l2 p q u. rel_ask (later l l2) s)))

    -- ---- callees

    receiver_tied : {v : World} {a b : Reference} → ReferenceV K v a b → OptV K v (receiver_of a) (receiver_of b)
    unfolding receiver_of receiver_by
    receiver_tied {v = v} {a = a} {b = b} h = by_path h.path h.on
      where
        by_path : {p p' : Option (ℕ × ℕ)} {x y : Val} → OptT K.FlatT p p' → V K v x y → OptV K v (receiver_by p x) (receiver_by p' y)
        by_path none_t k = some_t k
        by_path (some_t q) k = none_t

    pub rel_take_flat : {v : World} {i i' : Spot} → SpotT i i' → {p p' : Option (ℕ × ℕ)} {x y : Val} {a b : Access} → OptT K.FlatT p p' → V K v x y → KeyT v x a b → Rel (Done K) v (take_path J i p x a) (take_path J' i' p' y b)
    unfolding take_path
    rel_take_flat s none_t h k = rel_skip K
    rel_take_flat s (some_t f) h k = rel_take_path s f h k

    pub rel_cast_all : {cs cs' : List (ℕ × ℕ)} → CastsT K cs cs' → {v : World} {x y : Val} → V K v x y → Rel (Done K) v (cast_all J cs x) (cast_all J' cs' y)
    unfolding cast_all
    rel_cast_all nil_t h = rel_skip K
    rel_cast_all (cons_t c cs) h = rel_bind (rel_cast c.site c.doc h) (λ v2 l2 a b u. rel_cast_all cs (val_later K l2 h))

    pub rel_get : {v : World} → Later w v → {a b : Reference} → ReferenceV K v a b → Rel (V K) v (get J B a) (get J' B' b)
    unfolding get
    rel_get l h =
        rel_bind (rel_get_on l h.site h.on h.key) (λ v2 l2 x y q.
        rel_bind (rel_take_flat h.site h.path (val_later K l2 h.on) (key_later l2 h.key)) (λ v3 l3 _ _ _.
        rel_bind (rel_cast_all h.casts (val_later K l3 q)) (λ v4 l4 _ _ _. rel_ret x y (val_later K (later l3 l4) q))))

    pub rel_value_of : {v : World} → Later w v → {a b : Reach} → ReachV K v a b → Rel (V K) v (value_of J B a) (value_of J' B' b)
    unfolding value_of
    rel_value_of l (plain_t {v = x} {v' = y} h) = rel_ret x y h
    rel_value_of l (access_t h) = rel_get l h
    rel_value_of l (global_t i) = rel_fault i 2
    rel_value_of l (member_t i e) = rel_fault i 2

    pub rel_value : {v : World} → Later w v → {m m' : M Reach} → Rel (ReachV K) v m m' → Rel (V K) v (value J B m) (value J' B' m')
    unfolding value
    rel_value l h = rel_bind h (λ v2 l2 r r' q. rel_value_of (later l l2) q)

    rel_read_method : {v : World} {a b : Reference} → ReferenceV K v a b → {cs cs' : List (ℕ × ℕ)} → CastsT K cs cs' → Rel (Done K) v (read_method J a cs) (read_method J' b cs')
    unfolding read_method
    rel_read_method h nil_t = rel_skip K
    rel_read_method h (cons_t c cs) = rel_method_read h.site h.on h.key

    rel_callee_by : {v : World} → Later w v → {a b : Reference} → ReferenceV K v a b → (u : Option Use) → Rel (CalleeV K) v (callee_by J B a u) (callee_by J' B' b u)
    unfolding callee_by
    rel_callee_by l {a = a} {b = b} h None = rel_bind (rel_get l h) (λ v2 l2 x y q. rel_ret (called_value x (receiver_of a)) (called_value y (receiver_of b)) (value_t q (receiver_tied (reference_later K l2 h))))
    rel_callee_by l {a = a} {b = b} h (Some u) =
        rel_bind (rel_reach_method h.site h.on h.key) (λ v2 l2 _ _ _.
        rel_bind (rel_read_method (reference_later K l2 h) h.casts) (λ v3 l3 _ _ _. rel_ret (called_use u (a.on ∷ [])) (called_use u (b.on ∷ [])) (use_t (cons_t (val_later K (later l2 l3) h.on) nil_t))))

    rel_member_callee : {v : World} {i i' : ℕ} → SpotT (at_site i) (at_site i') → (u u' : Option Use) → u ≡ u' → Rel (CalleeV K) v (member_callee J i u) (member_callee J' i' u')
    unfolding member_callee
    rel_member_callee s None None e = rel_fault s 2
    rel_member_callee s None (Some u) e = absurd (cc)
    rel_member_callee s (Some u) None e = absurd (cc)
    rel_member_callee {v = v} s (Some u) (Some u') e = subst (λ z. Rel (CalleeV K) v (ret (called_use u [])) (ret (called_use z []))) (cc) (rel_ret (called_use u []) (called_use u []) (use_t nil_t))

    rel_global_callee : {v : World} {i i' : ℕ} → SpotT (at_site i) (at_site i') → (b : Built) → Rel (CalleeV K) v (global_callee J i b) (global_callee J' i' b)
    unfolding global_callee
    rel_global_callee s string_global = rel_ret _ _ (use_t nil_t)
    rel_global_callee s object_global = rel_fault s 2
    rel_global_callee s math_global = rel_fault s 2

    -- a callee, with its receiver or with the method that is built in
    pub rel_callee_of : {v : World} → Later w v → {a b : Reach} → ReachV K v a b → Rel (CalleeV K) v (callee_of J B a) (callee_of J' B' b)
    unfolding callee_of
    rel_callee_of l (plain_t {v = x} {v' = y} h) = rel_ret (called_value x None) (called_value y None) (value_t h none_t)
    rel_callee_of l (access_t {a = a} {b = b} h) = rel_method (λ u. callee_by J B a u) (λ u. callee_by J' B' b u) h.on h.key (λ u. rel_callee_by l h u)
    rel_callee_of l (global_t {b = b} i) = rel_global_callee i b
    rel_callee_of l (member_t i e) = rel_member_callee i _ _ e

    pub rel_call_value : {v : World} → Later w v → {i i' : Spot} → SpotT i i' → {x y : Val} {t t' : Option Val} {vs vs' : List Val} → V K v x y → OptV K v t t' → ListV K v vs vs' → Rel (V K) v (call_value J B i x t vs) (call_value J' B' i' y t' vs')
    unfolding call_value
    rel_call_value l s (obj_t h) tt' vt = rel_call_object l s h tt' vt
    rel_call_value l {i = i} {i' = i'} s (out_t {n = n}) tt' vt = rel_out_called K i i' n _ _ (rel_call_out l s n tt' vt)
    rel_call_value l s (prim_t {p = p}) tt' vt = rel_prim_called K p _ _ s

    pub rel_apply : {v : World} → Later w v → {i i' : Spot} → SpotT i i' → {c c' : Callee} {vs vs' : List Val} → CalleeV K v c c' → ListV K v vs vs' → Rel (V K) v (apply J B i c vs) (apply J' B' i' c' vs')
    unfolding apply
    rel_apply l s (value_t h k) vt = rel_call_value l s h k vt
    rel_apply l s (use_t {u = u} h) vt = rel_use B B' s u (list_on h vt) (λ m n x y us us' o h k. rel_call_object l s o (some_t h) k)

    -- ---- writes

    -- a write to an object of the outside
    rel_out_put : {v : World} {i i' : Spot} → SpotT i i' → (n : ℕ) {x y : Val} {a b : Access} → KeyT v (out n) a b → (made made' : Kind) → V K v x y → (d d' : Bool) → Rel (Done K) v (put_on J i (out n) a made x d) (put_on J' i' (out n) b made' y d')
    unfolding put_on
    rel_out_put s n {x = x} {y = y} {a = a} {b = b} k made made' h d d' = rel_out_write x y d d' s k (λ e. rel_tables _ _ (rel_bind (rel_show h) (λ v2 l2 z z' q. rel_tell K (put (shown_out n) (name_of K.tables a) z) (put (shown_out n) (name_of K.tables' b) z') (cc))))

    rel_prim_put : {v : World} {i i' : Spot} → SpotT i i' → (p : Prim) (x y : Val) (a b : Access) (made made' : Kind) (d d' : Bool) → Rel (Done K) v (put_on J i (prim p) a made x d) (put_on J' i' (prim p) b made' y d')
    unfolding put_on
    rel_prim_put s p x y a b made made' d d' = rel_prim_write K p a b x y d d' skip skip s

    rel_put_by : {v : World} {i i' : Spot} → SpotT i i' → (d d' : List ℕ) → DeclaresT d d' → {o o' x y : Val} {a b : Access} → V K v o o' → KeyT v o a b → V K v x y → Rel (Done K) v (λ s. put_on J i o a (kind_by a) x (declares_on s d o) s) (λ s. put_on J' i' o' b (kind_by b) y (declares_on s d' o') s)
    unfolding put_on declares_on
    rel_put_by s d d' dt (obj_t o) k h = rel_write s dt o k h
    rel_put_by s [] [] dt {x = x} {y = y} {a = a} {b = b} (out_t {n = n}) k h = rel_out_put s n k (kind_by a) (kind_by b) h false false
    rel_put_by s [] (f' ∷ fs') dt {x = x} {y = y} {a = a} {b = b} (out_t {n = n}) k h = rel_out_put s n k (kind_by a) (kind_by b) h false false
    rel_put_by s (f ∷ fs) [] dt {x = x} {y = y} {a = a} {b = b} (out_t {n = n}) k h = rel_out_put s n k (kind_by a) (kind_by b) h false false
    rel_put_by s (f ∷ fs) (f' ∷ fs') dt {x = x} {y = y} {a = a} {b = b} (out_t {n = n}) k h = rel_out_put s n k (kind_by a) (kind_by b) h false false
    rel_put_by s [] [] dt {x = x} {y = y} {a = a} {b = b} (prim_t {p = p}) k h = rel_prim_put s p x y a b (kind_by a) (kind_by b) false false
    rel_put_by s [] (f' ∷ fs') dt {x = x} {y = y} {a = a} {b = b} (prim_t {p = p}) k h = rel_prim_put s p x y a b (kind_by a) (kind_by b) false false
    rel_put_by s (f ∷ fs) [] dt {x = x} {y = y} {a = a} {b = b} (prim_t {p = p}) k h = rel_prim_put s p x y a b (kind_by a) (kind_by b) false false
    rel_put_by s (f ∷ fs) (f' ∷ fs') dt {x = x} {y = y} {a = a} {b = b} (prim_t {p = p}) k h = rel_prim_put s p x y a b (kind_by a) (kind_by b) false false

    -- a write that declares nothing
    pub rel_put_on : {v : World} {i i' : Spot} → SpotT i i' → {o o' x y : Val} {a b : Access} → V K v o o' → KeyT v o a b → V K v x y → Rel (Done K) v (put_on J i o a (kind_by a) x false) (put_on J' i' o' b (kind_by b) y false)
    unfolding declares_on
    rel_put_on s o k h = rel_put_by s [] [] declares_none o k h

    pub rel_keep_flat : {v : World} {i i' : Spot} → SpotT i i' → {p p' : Option (ℕ × ℕ)} {x y : Val} → OptT K.FlatT p p' → V K v x y → Rel (Done K) v (keep_path J i p x) (keep_path J' i' p' y)
    unfolding keep_path
    rel_keep_flat s none_t h = rel_skip K
    rel_keep_flat s (some_t f) h = rel_keep_path s f h

    pub rel_put_to : {c : K.Ctx} {v : World} {g g' : Env} → K.EnvT c v g g' → {a b : Reference} {x y : Val} → ReferenceV K v a b → V K v x y → Rel (Done K) v (put_to J g a x) (put_to J' g' b y)
    unfolding put_to
    rel_put_to t h q = rel_bind (rel_put_by h.site _ _ (env_declares t) h.on h.key q) (λ v2 l2 _ _ _. rel_keep_flat h.site h.path (val_later K l2 q))

    -- ---- `new`

    built_tied : {v : World} {o o' x y : Val} → V K v o o' → V K v x y → V K v (built_result o x) (built_result o' y)
    unfolding built_result is_prim
    built_tied h prim_t = h
    built_tied h out_t = out_t
    built_tied h (obj_t k) = obj_t k

    pub rel_construct_out : {v : World} → Later w v → {i i' : Spot} → SpotT i i' → (n : ℕ) {vs vs' : List Val} → ListV K v vs vs' → Rel (V K) v (construct_out J B i n vs) (construct_out J' B' i' n vs')
    unfolding construct_out
    rel_construct_out l s n vt = rel_pay_less (λ v1 l1 less less'. rel_bind (rel_show_all K _ _ (list_later K l1 vt)) (λ v3 l3 xs xs' d. rel_bind (rel_tell K (constructed (shown_out n) xs) (constructed (shown_out n) xs') (cc)) (λ v4 l4 a b u. rel_ask (later l (later l1 (later l3 l4))) s)))

    pub rel_construct : {v : World} → Later w v → {i i' : Spot} → SpotT i i' → {x y : Val} {vs vs' : List Val} → V K v x y → ListV K v vs vs' → Rel (V K) v (construct J B i x vs) (construct J' B' i' y vs')
    unfolding construct construct_by
    rel_construct l {i = i} {i' = i'} s {vs = vs} {vs' = vs'} (obj_t {m = m} {n = n} h) vt =
        rel_runs (λ c. construct_by J B i m c vs) (λ c. construct_by J' B' i' n c vs') s h (λ a b r.
        rel_bind (rel_instance h r) (λ v2 l2 o o' q.
        rel_bind (rel_begin (later l l2) s (code_later K l2 (runs_code r)) true (some_t q) (list_later K l2 vt)) (λ v3 l3 x y p.
        rel_ret (built_result o x) (built_result o' y) (built_tied (val_later K l3 q) p))))
    rel_construct l {i = i} {i' = i'} s (out_t {n = n}) vt = rel_out_called K i i' n _ _ (rel_construct_out l s n vt)
    rel_construct l s (prim_t {p = p}) vt = rel_prim_called K p _ _ s
