-- Acts that are judged by their own parts alone, and what the operators of the language come to.
use Rattle.std.proofs.Common.{◌≡◌, refl, ℕ, Bool, true, false, List, [], ◌∷◌, Option, Some, None, subst}
use Rattle.cc_ast.specs.Syntax.{Prim, undefined, null, truth, whole, text}
use Rattle.cc_ast.specs.declared.operator.BinOp.{BinOp}
use Rattle.cc_ast.specs.declared.operator.BinOp.TheVariants.{Instance, Has}
use Rattle.cc_ast.specs.declared.operator.UnOp.{UnOp}
use Rattle.cc_ast.specs.declared.operator.UnOp.TheVariants.{Typeof}
use Rattle.cc_meaning.specs.Values.{Val, prim, obj, out, Spot}
use Rattle.cc_meaning.specs.Operators.{Outcome, binary_of, unary_of, key_text}
use Rattle.cc_meaning.specs.Monad.{M, ret, skip}
use Rattle.cc_meaning.specs.Store.{Access, runtime}
use Rattle.cc_meaning.specs.SlotRules.{rule_unless, remove_rule, probe_rule, walk_rule, write_rule}
use Rattle.cc_meaning.specs.Rules.{Op, callee_rule, this_rule, operate_rule, binary_rule, unary_rule, outcome_rule, has_rule, is_key, unary_op, binary_op}
use Rattle.cc_meaning.specs.Judge.{Act, operates, writes, calls, calls_inner, answers_with, least_broken}
use Rattle.cc_meaning.specs.Acts.{judged, allowed, refused, is_fatal, remove, probe, walk, operate, operate_one, outcome_value, is_whole, runtime_key, key_given, read_this, key_name}
use Rattle.cc_meaning.specs.Builtins.{or_undefined}
use Rattle.cc_tied.specs.Tied.{none_t, some_t, prim_t, out_t, obj_t, RuntimeT, runtime_t}
use Rattle.cc_tied.proofs.Kit.{Kit}
use Rattle.cc_tied.proofs.Parts.{V, OptV, Done, Equal, val_later}
use Rattle.cc_tied.proofs.Outcomes.{OutcomeT, gives_t, breaks_t, binary_tied, unary_tied, is_whole_tied, key_text_tied}

module _ (K : Kit) where
  open K use {J, J', World, Later, now, SpotT, O, KeyT, Rel, rel_ret, rel_bind, rel_fault, rel_breach, rel_equal, rel_remove, rel_probe, rel_walk, rel_typeof, rel_instance_of}

  -- a callee that is no object
  pub rel_prim_called : {A B : Type 0} {R : World → A → B → Type 0} {w : World} {i i' : Spot} (p : Prim) (m : M A) (m' : M B) → SpotT i i' → Rel R w (judged J i (calls (prim p)) m) (judged J' i' (calls (prim p)) m')
  unfolding judged allowed refused is_fatal least_broken callee_rule
  rel_prim_called undefined m m' i = rel_fault i 3
  rel_prim_called null m m' i = rel_fault i 3
  rel_prim_called (truth b) m m' i = rel_fault i 2
  rel_prim_called (whole z) m m' i = rel_fault i 2
  rel_prim_called (text t) m m' i = rel_fault i 2

  pub rel_out_called : {A B : Type 0} {R : World → A → B → Type 0} {w : World} (i i' : Spot) (n : ℕ) (m : M A) (m' : M B) → Rel R w m m' → Rel R w (judged J i (calls (out n)) m) (judged J' i' (calls (out n)) m')
  unfolding judged allowed least_broken callee_rule
  rel_out_called i i' n m m' h = h

  -- a handle that was given out, or one that wasn't
  pub rel_calls_inner : {A B : Type 0} {R : World → A → B → Type 0} {w : World} {i i' : Spot} (given : Bool) (m : M A) (m' : M B) → SpotT i i' → Rel R w m m' → Rel R w (judged J i (calls_inner given) m) (judged J' i' (calls_inner given) m')
  unfolding judged allowed refused is_fatal least_broken rule_unless
  rel_calls_inner true m m' i h = h
  rel_calls_inner false m m' i h = rel_fault i 13

  pub rel_answers : {A B : Type 0} {R : World → A → B → Type 0} {w : World} {i i' : Spot} (given : Bool) (m : M A) (m' : M B) → SpotT i i' → Rel R w m m' → Rel R w (judged J i (answers_with given) m) (judged J' i' (answers_with given) m')
  unfolding judged allowed refused is_fatal least_broken rule_unless
  rel_answers true m m' i h = h
  rel_answers false m m' i h = rel_fault i 13

  -- a write to a value that is no object
  pub rel_prim_write : {A B : Type 0} {R : World → A → B → Type 0} {w : World} {i i' : Spot} (p : Prim) (a b : Access) (x y : Val) (d d' : Bool) (m : M A) (m' : M B) → SpotT i i' → Rel R w (judged J i (writes (prim p) a x d) m) (judged J' i' (writes (prim p) b y d') m')
  unfolding judged allowed refused is_fatal least_broken write_rule
  rel_prim_write p a b x y d d' m m' i = rel_fault i 2

  -- ---- operators

  pub rel_refused : {A B : Type 0} {R : World → A → B → Type 0} {w : World} {i i' : Spot} → SpotT i i' → (fatal : Bool) (r : ℕ) {m : M A} {m' : M B} → ((v : World) → Later w v → Rel R v m m') → Rel R w (refused J i fatal r m) (refused J' i' fatal r m')
  unfolding refused
  rel_refused i true r h = rel_fault i r
  rel_refused i false r h = rel_bind (rel_breach i r) (λ v l a b u. h v l)

  -- two acts that break the same rule
  pub rel_allowed : {A B : Type 0} {R : World → A → B → Type 0} {w : World} {i i' : Spot} → SpotT i i' → (a a' : Act) → ((r : ℕ) → is_fatal a r ≡ is_fatal a' r) → (o : Option ℕ) {m : M A} {m' : M B} → ((v : World) → Later w v → Rel R v m m') → Rel R w (allowed J i a o m) (allowed J' i' a' o m')
  unfolding allowed
  rel_allowed {w = w} i a a' e None h = h w (now w)
  rel_allowed {R = R} {w = w} {i = i} {i' = i'} s a a' e (Some r) {m = m} {m' = m'} h = subst (λ z. Rel R w (refused J i (is_fatal a r) r m) (refused J' i' z r m')) (e r) (rel_refused s (is_fatal a r) r h)

  rel_outcome : {w : World} {i i' : Spot} → SpotT i i' → (op op' : Op) (vs vs' : List Val) {o o' : Outcome} → OutcomeT o o' → Rel (V K) w (allowed J i (operates op vs) (outcome_rule o) (ret (outcome_value o))) (allowed J' i' (operates op' vs') (outcome_rule o') (ret (outcome_value o')))
  unfolding allowed is_fatal outcome_rule outcome_value
  rel_outcome i op op' vs vs' (gives_t {p = p}) = rel_ret (prim p) (prim p) prim_t
  rel_outcome i op op' vs vs' (breaks_t {r = r}) = rel_refused i _ r (λ v l. rel_ret (prim undefined) (prim undefined) prim_t)

  rel_binary : {w : World} {i i' : Spot} → SpotT i i' → (op : BinOp) {a b x y : Val} → V K w a b → V K w x y → Rel (V K) w (allowed J i (operates (binary_op op) (a ∷ x ∷ [])) (outcome_rule (binary_of op a x)) (ret (outcome_value (binary_of op a x)))) (allowed J' i' (operates (binary_op op) (b ∷ y ∷ [])) (outcome_rule (binary_of op b y)) (ret (outcome_value (binary_of op b y))))
  rel_binary {w = w} i op {a = a} {b = b} {x = x} {y = y} h k = rel_equal h k (λ e. rel_outcome i (binary_op op) (binary_op op) (a ∷ x ∷ []) (b ∷ y ∷ []) (binary_tied (O w) op h k e))

  -- whether a name is on the chain of a value
  pub rel_probe_on : {w : World} {i i' : Spot} → SpotT i i' → {x y : Val} → V K w x y → (t : List ℕ) → Rel (Equal K) w (probe J i x t) (probe J' i' y t)
  unfolding probe judged allowed refused is_fatal least_broken probe_rule
  rel_probe_on i (obj_t h) t = rel_probe i h t
  rel_probe_on i out_t t = rel_fault i 2
  rel_probe_on i prim_t t = rel_fault i 2

  -- what an object that is like an object of the program is asked for, where it is none
  pub rel_walk_on : {w : World} {i i' : Spot} → SpotT i i' → {x y : Val} → V K w x y → Rel (Equal K) w (walk J i x) (walk J' i' y)
  unfolding walk judged allowed refused is_fatal least_broken walk_rule
  rel_walk_on i (obj_t h) = rel_walk i h
  rel_walk_on i out_t = rel_fault i 2
  rel_walk_on i (prim_t {p = undefined}) = rel_ret [] [] refl
  rel_walk_on i (prim_t {p = null}) = rel_ret [] [] refl
  rel_walk_on i (prim_t {p = truth b}) = rel_fault i 2
  rel_walk_on i (prim_t {p = whole z}) = rel_fault i 2
  rel_walk_on i (prim_t {p = text t}) = rel_fault i 2

  pub rel_remove_on : {w : World} {i i' : Spot} → SpotT i i' → {x y : Val} {a b : Access} → V K w x y → KeyT w x a b → Rel (V K) w (remove J i x a) (remove J' i' y b)
  unfolding remove judged allowed refused is_fatal least_broken remove_rule
  rel_remove_on i (obj_t h) k = rel_remove i h k
  rel_remove_on i out_t k = rel_fault i 2
  rel_remove_on i prim_t k = rel_fault i 2

  -- `in` (11.8.7)
  rel_is_key : {w : World} {i i' : Spot} → SpotT i i' → (vs vs' : List Val) (t t' : Option (List ℕ)) → t ≡ t' → Rel (Done K) w (allowed J i (operates (binary_op Has) vs) (rule_unless (is_key t) 2) skip) (allowed J' i' (operates (binary_op Has) vs') (rule_unless (is_key t') 2) skip)
  unfolding allowed refused is_fatal rule_unless is_key
  rel_is_key {w = w} {i = i} {i' = i'} s vs vs' t t' e = subst (λ z. Rel (Done K) w (allowed J i (operates (binary_op Has) vs) (rule_unless (is_key t) 2) skip) (allowed J' i' (operates (binary_op Has) vs') (rule_unless (is_key z) 2) skip)) e (same t)
    where
      same : (t : Option (List ℕ)) → Rel (Done K) w (allowed J i (operates (binary_op Has) vs) (rule_unless (is_key t) 2) skip) (allowed J' i' (operates (binary_op Has) vs') (rule_unless (is_key t) 2) skip)
      same None = rel_fault s 2
      same (Some t) = rel_ret tt tt tt

  rel_has_kinds : {w : World} {i i' : Spot} → SpotT i i' → {a b x y : Val} → V K w a b → V K w x y → Rel (Done K) w (judged J i (operates (binary_op Has) (a ∷ x ∷ [])) skip) (judged J' i' (operates (binary_op Has) (b ∷ y ∷ [])) skip)
  unfolding judged allowed refused is_fatal least_broken operate_rule binary_rule has_rule
  rel_has_kinds {w = w} i {a = a} {b = b} h (obj_t {m = m} {n = n} k) = rel_is_key i (a ∷ obj m ∷ []) (b ∷ obj n ∷ []) (key_text a) (key_text b) (key_text_tied (O w) h)
  rel_has_kinds i h out_t = rel_fault i 2
  rel_has_kinds i h prim_t = rel_fault i 2

  rel_has : {w : World} {i i' : Spot} → SpotT i i' → {a b x y : Val} → V K w a b → V K w x y → Rel (V K) w (operate J i Has a x) (operate J' i' Has b y)
  unfolding operate
  rel_has {w = w} {i = i} {i' = i'} s {a = a} {b = b} {x = x} {y = y} h k =
      rel_bind (rel_has_kinds s h k) (λ v l _ _ _.
      rel_bind (subst (λ z. Rel (Equal K) v (probe J i x (key_name (key_text a))) (probe J' i' y (key_name z))) (key_text_tied (O w) h) (rel_probe_on s (val_later K l k) (key_name (key_text a)))) (λ u l2 r r' e.
      subst (λ z. Rel (V K) u (ret (prim (truth r))) (ret (prim (truth z)))) e (rel_ret (prim (truth r)) (prim (truth r)) prim_t)))

  pub rel_operate : {w : World} {i i' : Spot} → SpotT i i' → (op : BinOp) {a b x y : Val} → V K w a b → V K w x y → Rel (V K) w (operate J i op a x) (operate J' i' op b y)
  unfolding operate judged least_broken operate_rule binary_rule
  rel_operate i Has h k = rel_has i h k
  rel_operate i Instance h k = rel_instance_of i h k
  rel_operate i op h k = rel_binary i op h k

  rel_unary : {w : World} {i i' : Spot} → SpotT i i' → (op : UnOp) {a b : Val} → V K w a b → Rel (V K) w (allowed J i (operates (unary_op op) (a ∷ [])) (outcome_rule (unary_of op a)) (ret (outcome_value (unary_of op a)))) (allowed J' i' (operates (unary_op op) (b ∷ [])) (outcome_rule (unary_of op b)) (ret (outcome_value (unary_of op b))))
  rel_unary {w = w} i op {a = a} {b = b} h = rel_outcome i (unary_op op) (unary_op op) (a ∷ []) (b ∷ []) (unary_tied (O w) op h)

  pub rel_operate_one : {w : World} {i i' : Spot} → SpotT i i' → (op : UnOp) {a b : Val} → V K w a b → Rel (V K) w (operate_one J i op a) (operate_one J' i' op b)
  unfolding operate_one judged least_broken operate_rule unary_rule
  rel_operate_one i Typeof (obj_t h) = rel_typeof i h
  rel_operate_one i Typeof (out_t {n = n}) = rel_unary i Typeof (out_t {n = n})
  rel_operate_one i Typeof (prim_t {p = p}) = rel_unary i Typeof (prim_t {p = p})
  rel_operate_one i op h = rel_unary i op h

  -- the key that a value between brackets is
  pub rel_runtime_key : {w : World} {i i' : Spot} → SpotT i i' → {a b : Val} → V K w a b → Rel (λ v. RuntimeT) w (runtime_key J i a) (runtime_key J' i' b)
  unfolding runtime_key key_given
  rel_runtime_key {w = w} {i = i} {i' = i'} s {a = a} {b = b} h =
      subst (λ z. Rel (λ v. RuntimeT) w (key_given J i (is_whole a) (key_text a)) (key_given J' i' (is_whole b) z)) (key_text_tied (O w) h)
      (subst (λ z. Rel (λ v. RuntimeT) w (key_given J i (is_whole a) (key_text a)) (key_given J' i' z (key_text a))) (is_whole_tied (O w) h) (same (key_text a) refl))
    where
      same : (t : Option (List ℕ)) → key_text a ≡ t → Rel (λ v. RuntimeT) w (key_given J i (is_whole a) t) (key_given J' i' (is_whole a) t)
      same None e = rel_fault s 2
      same (Some t) e = rel_ret (runtime t (is_whole a)) (runtime t (is_whole a)) (runtime_t a e)

  pub rel_read_this : {w : World} {i i' : Spot} → SpotT i i' → {a b : Option Val} → OptV K w a b → Rel (V K) w (read_this J i a) (read_this J' i' b)
  unfolding read_this judged allowed is_fatal least_broken this_rule or_undefined
  rel_read_this i none_t = rel_refused i false 4 (λ v l. rel_ret (prim undefined) (prim undefined) prim_t)
  rel_read_this i (some_t {a = x} {b = y} h) = rel_ret x y h
