-- Removals, questions for names, `instanceof` and `typeof` keep the injection.
use Rattle.std.proofs.Common.{◌≡◌, ℕ, Bool, true, false, List, [], ◌∷◌, Option, None, refl, sym, ap, subst, ◌∙◌}
use Rattle.std.specs.Prelude.{slice_get, nat_eq, is_none}
use Rattle.std.specs.List.{list_any}
use Rattle.cc_ast.specs.Syntax.{Prim, truth, text}
use Rattle.cc_ast.specs.declared.operator.BinOp.TheVariants.{Instance}
use Rattle.cc_ast.specs.declared.operator.UnOp.TheVariants.{Typeof}
use Rattle.cc_meaning.specs.Values.{Val, prim, obj, Spot}
use Rattle.cc_meaning.specs.Operators.{list_eq}
use Rattle.cc_meaning.specs.State.{Slot, Code, Obj, State, Tables}
use Rattle.cc_meaning.specs.Monad.{ret, ◌>>=◌, after, said, pick}
use Rattle.cc_meaning.specs.Store.{Access, dotted, quoted, runtime, name_of, drop_slot, change, has_name}
use Rattle.cc_meaning.specs.SlotRules.{rule_if, rule_unless, object_remove, remove_rule, probe_rule, walk_rule}
use Rattle.cc_meaning.specs.Rules.{unary_op, binary_op, prototype_at, binary_rule, unary_rule, operate_rule}
use Rattle.cc_meaning.specs.Judge.{removes, probes, walks, operates, least_broken}
use Rattle.cc_meaning.specs.Acts.{reading, changing, drop_own, dropped_from, remove, is_there, probe, names_of, walk, is_on, instance_value, operate, object_type, operate_one}
use Rattle.cc_meaning.specs.Calls.{reach_method}
use Rattle.cc_meaning.specs.Script.{checked}
use Rattle.cc_tied.specs.Tied.{ListT, nil_t, cons_t, OptT, none_t, some_t, prim_t, out_t, obj_t}
use Rattle.cc_tied.specs.Facts.{Facts}
use Rattle.cc_tied.proofs.Sim.{Tie, World, Sim, fine, sim_ret}
use Rattle.cc_tied.proofs.Injection.World.{Tabs, Mates, Vals, SlotT, ObjT}
use Rattle.cc_tied.proofs.Injection.Tie.{Other, KeyI, same_key, written_key, with_set, TiedI, once, inject}
use Rattle.cc_tied.proofs.Injection.Rules.{least_none, none_least, name_same, slots_none, walk_same}
use Rattle.cc_tied.proofs.Injection.Objects.{has_slot_same, slots_at, chain_at, type_same, is_none_same, found_is_value, look_up_tied, chain_of_tied, slots_on_tied, names_on_same}
use Rattle.cc_tied.proofs.Injection.Acts.{judged_i, judged_left, at_of, change_both}
use Rattle.cc_tied.proofs.Injection.Made.{prototype_at_tied}
use Rattle.cc_tied.proofs.Injection.Store.{name_in_states}

module _ {O : ℕ → ℕ → Type 0} where
  slots_chosen : (b b' : Bool) → b ≡ b' → {xs ys xs' ys' : List Slot} → ListT (SlotT O) xs ys → ListT (SlotT O) xs' ys' → ListT (SlotT O) (pick b xs xs') (pick b' ys ys')
  slots_chosen true true e h k = h
  slots_chosen true false e h k = absurd (cc)
  slots_chosen false true e h k = absurd (cc)
  slots_chosen false false e h k = k

  slots_dropped : {xs ys : List Slot} → ListT (SlotT O) xs ys → (n : List ℕ) → ListT (SlotT O) (drop_slot xs n) (drop_slot ys n)
  unfolding drop_slot
  slots_dropped nil_t n = nil_t
  slots_dropped (cons_t h t) n = slots_chosen _ _ (ap (λ z. list_eq z n) h.name) t (cons_t h (slots_dropped t n))

module _ (F : Facts) (S : Tables) (set' : Other S) where
  abbrev R : Tables
  R = with_set S set'

  abbrev T : Tie
  T = inject F S set'

  abbrev W : Type 0
  W = World T

  abbrev Tied : Tabs → State → State → Type 0
  Tied = TiedI F S set'

  -- ---- `delete`

  dropped : {w : Tabs} (n : List ℕ) (x : Option Code) (a b : Obj) → ObjT F S w x a b → ObjT F S w x (drop_own n a) (drop_own n b)
  unfolding drop_own
  dropped n x a b h = record { label = h.label; class = h.class; chain = h.chain; slots = slots_dropped h.slots n; code = h.code; elements = h.elements; wanted = h.wanted }

  object_remove_none : {w : Tabs} {s t : State} → Tied w s t → {m n : ℕ} → Mates w m n → {a b : Access} → KeyI a b → (c : List ℕ) → object_remove S s m a c ≡ None → object_remove R t n b c ≡ None
  unfolding object_remove
  object_remove_none {w = w} ti {m = m} {n = n} o k c e =
      let at = at_of F S set' ti m n o in let p = least_none _ _ e in
      none_least (ap (λ z. rule_unless z 2) (sym (has_slot_same F S w at c)) ∙ p.0) (slots_none S set' k c (slots_at F S w at) p.1)

  remove_none : {w : Tabs} {s t : State} → Tied w s t → {m n : ℕ} → Mates w m n → {a b : Access} → KeyI a b → remove_rule S s (obj m) a ≡ None → remove_rule R t (obj n) b ≡ None
  unfolding remove_rule
  remove_none {t = t} ti {n = n} o {a = a} {b = b} k e = subst (λ z. object_remove R t n b z ≡ None) (name_same S set' k) (object_remove_none ti o k (name_of S a) e)

  drop_t : {w : W} {m n : ℕ} → Mates w.w m n → {a b : Access} → KeyI a b → Sim T (λ v. Vals v.w) w (λ s. (changing (dropped_from (obj m) (name_of s.tables a)) >>= λ _. ret (prim (truth true))) s) (λ s. (changing (dropped_from (obj n) (name_of s.tables b)) >>= λ _. ret (prim (truth true))) s)
  unfolding changing dropped_from change ret ◌>>=◌ after said
  drop_t {w = w} {m = m} {n = n} o {a = a} {b = b} k s t ti le le' =
      fine T _ _ prim_t
      (subst (λ z. Tied w.w (change m (drop_own (name_of s.tables a)) s) (change n (drop_own z) t)) (name_in_states F S set' ti k)
      (change_both F S set' ti o _ _ (λ x c d h. dropped (name_of s.tables a) x c d h))) le le'

  pub remove_t : {w : W} (i i' : Spot) {m n : ℕ} → Mates w.w m n → {a b : Access} → KeyI a b → Sim T (λ v. Vals v.w) w (remove checked i (obj m) a) (remove checked i' (obj n) b)
  unfolding remove least_broken
  remove_t i i' {m = m} {n = n} o {a = a} {b = b} k = judged_i F S set' i i' (removes (obj m) a) (removes (obj n) b) _ _ (λ s t ti e. remove_none ti o k e) (drop_t o k)

  -- ---- questions for names

  there_t : {w : W} {m n : ℕ} → Mates w.w m n → (c : List ℕ) → Sim T (λ v p q. p ≡ q) w (reading (λ s. is_there s (obj m) c)) (reading (λ s. is_there s (obj n) c))
  unfolding reading is_there has_name ret
  there_t {w = w} o c s t ti le le' = fine T _ _ (found_is_value (look_up_tied F S w.w s.objs t.objs (at_of F S set' ti) o c)) ti le le'

  pub probe_none : {w : Tabs} {s t : State} → Tied w s t → {m n : ℕ} → Mates w m n → (c : List ℕ) (b : Bool) → probe_rule S s (obj m) (runtime c b) ≡ None → probe_rule R t (obj n) (runtime c b) ≡ None
  unfolding probe_rule name_of
  probe_none {w = w} {s = s} {t = t} ti o c b e = let at = at_of F S set' ti in slots_none S set' (same_key {a = runtime c b}) c (slots_on_tied F S w s.objs t.objs at (chain_of_tied F S w s.objs t.objs at o)) e

  pub probe_t : {w : W} (i i' : Spot) {m n : ℕ} → Mates w.w m n → (c : List ℕ) → Sim T (λ v p q. p ≡ q) w (probe checked i (obj m) c) (probe checked i' (obj n) c)
  unfolding probe least_broken
  probe_t i i' {m = m} {n = n} o c = judged_i F S set' i i' (probes (obj m) (runtime c false)) (probes (obj n) (runtime c false)) _ _ (λ s t ti e. probe_none ti o c false e) (there_t o c)

  -- what is met on the way to a built-in method
  pub reach_t : {w : W} (i i' : Spot) {x y : Val} → Vals w.w x y → {a b : Access} → KeyI a b → Sim T (λ v p q. Unit {0}) w (reach_method checked i x a) (reach_method checked i' y b)
  unfolding reach_method least_broken
  reach_t i i' prim_t k = sim_ret T tt tt tt
  reach_t i i' out_t k = sim_ret T tt tt tt
  reach_t i i' (obj_t {m = m} {n = n} o) (same_key {a = runtime c b}) = judged_i F S set' i i' (probes (obj m) (runtime c b)) (probes (obj n) (runtime c b)) _ _ (λ s t ti e. probe_none ti o c b e) (sim_ret T tt tt tt)
  reach_t i i' (obj_t o) (same_key {a = quoted c}) = sim_ret T tt tt tt
  reach_t i i' (obj_t o) (same_key {a = dotted p}) = sim_ret T tt tt tt
  reach_t i i' (obj_t {m = m} o) (written_key {t = c}) = judged_left F S set' i (probes (obj m) (runtime c false)) _ _ (sim_ret T tt tt tt)

  walk_none : {w : Tabs} {s t : State} → Tied w s t → {m n : ℕ} → Mates w m n → walk_rule s (obj m) ≡ None → walk_rule t (obj n) ≡ None
  unfolding walk_rule
  walk_none {w = w} {s = s} {t = t} ti o e = let at = at_of F S set' ti in sym (walk_same S set' (slots_on_tied F S w s.objs t.objs at (chain_of_tied F S w s.objs t.objs at o))) ∙ e

  names_t : {w : W} {m n : ℕ} → Mates w.w m n → Sim T (λ v p q. p ≡ q) w (reading (λ s. names_of s (obj m))) (reading (λ s. names_of s (obj n)))
  unfolding reading names_of ret
  names_t {w = w} o s t ti le le' = let at = at_of F S set' ti in fine T _ _ (names_on_same F S w.w s.objs t.objs at [] (chain_of_tied F S w.w s.objs t.objs at o)) ti le le'

  pub walk_t : {w : W} (i i' : Spot) {m n : ℕ} → Mates w.w m n → Sim T (λ v p q. p ≡ q) w (walk checked i (obj m)) (walk checked i' (obj n))
  unfolding walk least_broken
  walk_t i i' {m = m} {n = n} o = judged_i F S set' i i' (walks (obj m)) (walks (obj n)) _ _ (λ s t ti e. walk_none ti o e) (names_t o)

  -- ---- operators

  pub on_same : {w : Tabs} {s t : State} → Tied w s t → {c d : List ℕ} → ListT (Mates w) c d → {p q : ℕ} → Mates w p q → list_any (λ m. nat_eq m p) c ≡ list_any (λ m. nat_eq m q) d
  on_same ti nil_t o = refl
  on_same ti (cons_t k h) o = rw (once F S set' ti k o, on_same ti h o) refl

  is_on_same : {w : Tabs} {s t : State} → Tied w s t → {c d : List ℕ} → ListT (Mates w) c d → {o p : Option ℕ} → OptT (Mates w) o p → is_on c o ≡ is_on d p
  unfolding is_on
  is_on_same ti h none_t = refl
  is_on_same ti h (some_t o) = on_same ti h o

  instance_same : {w : Tabs} {s t : State} → Tied w s t → {a b x y : Val} → Vals w a b → Vals w x y → instance_value s a x ≡ instance_value t b y
  unfolding instance_value
  instance_same ti prim_t k = refl
  instance_same ti out_t k = refl
  instance_same {w = w} ti (obj_t o) k = is_on_same ti (chain_at F S w (at_of F S set' ti _ _ o)) (prototype_at_tied F S set' ti k)

  is_instance_t : {w : W} {a b x y : Val} → Vals w.w a b → Vals w.w x y → Sim T (λ v. Vals v.w) w (reading (λ s. prim (truth (instance_value s a x)))) (reading (λ s. prim (truth (instance_value s b y))))
  unfolding reading ret
  is_instance_t {w = w} {a = a} {x = x} h k s t ti le le' = fine T _ _ (subst (λ z. Vals w.w (prim (truth (instance_value s a x))) (prim (truth z))) (instance_same ti h k) prim_t) ti le le'

  instance_none : {w : Tabs} {s t : State} → Tied w s t → {x y : Val} → Vals w x y → rule_if (is_none (prototype_at s x)) 2 ≡ None → rule_if (is_none (prototype_at t y)) 2 ≡ None
  instance_none ti k e = ap (λ z. rule_if z 2) (sym (is_none_same (prototype_at_tied F S set' ti k))) ∙ e

  pub instance_of_t : {w : W} (i i' : Spot) {a b x y : Val} → Vals w.w a b → Vals w.w x y → Sim T (λ v. Vals v.w) w (operate checked i Instance a x) (operate checked i' Instance b y)
  unfolding operate least_broken operate_rule binary_rule
  instance_of_t i i' {a = a} {b = b} {x = x} {y = y} h k = judged_i F S set' i i' (operates (binary_op Instance) (a ∷ x ∷ [])) (operates (binary_op Instance) (b ∷ y ∷ [])) _ _ (λ s t ti e. instance_none ti k e) (is_instance_t h k)

  type_t : {w : W} {m n : ℕ} → Mates w.w m n → Sim T (λ v. Vals v.w) w (reading (λ s. prim (text (object_type (slice_get s.objs m))))) (reading (λ s. prim (text (object_type (slice_get s.objs n)))))
  unfolding reading ret
  type_t {w = w} {m = m} {n = n} o s t ti le le' = fine T _ _ (subst (λ z. Vals w.w (prim (text (object_type (slice_get s.objs m)))) (prim (text z))) (type_same F S w.w (at_of F S set' ti m n o)) prim_t) ti le le'

  pub typeof_t : {w : W} (i i' : Spot) {m n : ℕ} → Mates w.w m n → Sim T (λ v. Vals v.w) w (operate_one checked i Typeof (obj m)) (operate_one checked i' Typeof (obj n))
  unfolding operate_one least_broken operate_rule unary_rule
  typeof_t i i' {m = m} {n = n} o = judged_i F S set' i i' (operates (unary_op Typeof) (obj m ∷ [])) (operates (unary_op Typeof) (obj n ∷ [])) _ _ (λ s t ti e. refl) (type_t o)
