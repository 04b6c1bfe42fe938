-- Reads, writes and questions of tied objects keep the injection.
use Rattle.std.proofs.Common.{◌≡◌, ℕ, Bool, true, false, List, Option, Some, None, is_some, refl, sym, ap, subst, ◌∙◌}
use Rattle.std.specs.Prelude.{not, ◌&&◌, ◌||◌}
use Rattle.cc_ast.specs.Syntax.{Prim}
use Rattle.cc_meaning.specs.Values.{Val, prim, obj, Spot}
use Rattle.cc_meaning.specs.State.{State, Tables}
use Rattle.cc_meaning.specs.Monad.{ret, skip}
use Rattle.cc_meaning.specs.Store.{Access, name_of, is_kept, look_up, value_found}
use Rattle.cc_meaning.specs.Typed.{of_all_types}
use Rattle.cc_meaning.specs.SlotRules.{fields_reached, field_rule, object_read, read_rule, prim_read}
use Rattle.cc_meaning.specs.Judge.{reads, least_broken}
use Rattle.cc_meaning.specs.Acts.{judged, reading, receive_all, read_slot}
use Rattle.cc_meaning.specs.Calls.{method_on}
use Rattle.cc_meaning.specs.Script.{checked}
use Rattle.cc_tied.specs.Tied.{prim_t, out_t, obj_t}
use Rattle.cc_tied.specs.Facts.{Facts}
use Rattle.cc_tied.proofs.Sim.{Tie, World, ResT, Sim, fine, sim_bind, sim_ret}
use Rattle.cc_tied.proofs.Injection.World.{Tabs, Mates, Vals, val_more, SlotT, ObjT}
use Rattle.cc_tied.proofs.Injection.Tie.{Other, KeyI, with_set, TiedI, inject}
use Rattle.cc_tied.proofs.Injection.Rules.{least_none, none_least, unless_none, none_unless, name_same, whole_key_none, slots_none, outside_none}
use Rattle.cc_tied.proofs.Injection.Objects.{elements_at, found_value_tied, found_use_same, unfound_same, look_up_tied, chain_of_tied, slots_on_tied, function_rule_same}
use Rattle.cc_tied.proofs.Injection.Types.{of_all_types_same, fields_reached_same}
use Rattle.cc_tied.proofs.Injection.Acts.{judged_i, at_of, receive_all_t}

or_true : (b : Bool) → b || true ≡ true
or_true true = refl
or_true false = refl

-- nothing is broken, so that the types count
types_count : (o : Option ℕ) (k b : Bool) → o ≡ None → (is_some o && k) || b ≡ true → b ≡ true
types_count None k b e h = h
types_count (Some r) k b e h = absurd (cc)

module _ (F : Facts) (S : Tables) (set' : Other S) where
  abbrev R : Tables
  R = with_set S set'

  abbrev T : Tie
  T = inject F S set'

  abbrev W : Type 0
  W = World T

  abbrev Tied : Tabs → State → State → Type 0
  Tied = TiedI F S set'

  abbrev Done : W → Unit {0} → Unit {0} → Type 0
  Done v a b = Unit {0}

  -- the name of a key in the two states
  pub name_in_states : {w : Tabs} {s t : State} → Tied w s t → {a b : Access} → KeyI a b → name_of s.tables a ≡ name_of t.tables b
  name_in_states ti {a = a} {b = b} k = ap (λ z. name_of z a) ti.tables ∙ name_same S set' k ∙ sym (ap (λ z. name_of z b) ti.tables')

  -- ---- types of fields

  pub field_none : {w : Tabs} {s t : State} → Tied w s t → {m n : ℕ} → Mates w m n → {a b : Access} → KeyI a b → (c d : List ℕ) (r r' : Option ℕ) {x y : Val} → Vals w x y → r ≡ None → field_rule S s m a c r x ≡ None → field_rule R t n b d r' y ≡ None
  unfolding field_rule
  field_none {w = w} {s = s} {t = t} ti {m = m} {n = n} o {a = a} {b = b} k c d r r' {x = x} {y = y} v e h =
      let at = at_of F S set' ti in
      let g : of_all_types S s.objs (fields_reached S s.objs m a) x ≡ true = types_count r (not (is_kept S c)) _ e (unless_none _ 6 h) in
      let p : of_all_types R t.objs (fields_reached R t.objs n b) y ≡ true = ap (λ z. of_all_types R t.objs z y) (sym (fields_reached_same S set' F w s.objs t.objs at o k)) ∙ sym (of_all_types_same S set' F w s.objs t.objs at (fields_reached S s.objs m a) v) ∙ g in
      none_unless 6 (ap (λ z. (is_some r' && not (is_kept R d)) || z) p ∙ or_true _)

  -- the types of the field enter
  pub fields_t : {w : W} {m n : ℕ} → Mates w.w m n → {a b : Access} → KeyI a b → {x y : Val} → Vals w.w x y → Sim T Done w (λ s. receive_all (fields_reached s.tables s.objs m a) x s) (λ s. receive_all (fields_reached s.tables s.objs n b) y s)
  fields_t {w = w} {m = m} {n = n} o {a = a} {b = b} k {x = x} {y = y} v s t ti le le' =
      subst (λ z. ResT T Done w (receive_all (fields_reached z s.objs m a) x s) (receive_all (fields_reached t.tables t.objs n b) y t)) (sym ti.tables)
      (subst (λ z. ResT T Done w (receive_all (fields_reached S s.objs m a) x s) (receive_all (fields_reached z t.objs n b) y t)) (sym ti.tables')
      (subst (λ z. ResT T Done w (receive_all (fields_reached S s.objs m a) x s) (receive_all z y t)) (fields_reached_same S set' F w.w s.objs t.objs (at_of F S set' ti) o k)
      (receive_all_t F S set' (fields_reached S s.objs m a) v s t ti le le')))

  -- ---- reads

  object_read_none : {w : Tabs} {s t : State} → Tied w s t → {m n : ℕ} → Mates w m n → {a b : Access} → KeyI a b → (c : List ℕ) → object_read S s m a c ≡ None → object_read R t n b c ≡ None
  unfolding object_read
  object_read_none {w = w} {s = s} {t = t} ti {m = m} {n = n} o {a = a} {b = b} k c h =
      let at = at_of F S set' ti in
      let found = look_up_tied F S w s.objs t.objs at o c in
      let whole = least_none _ _ h in let p = least_none _ _ whole.1 in let q = least_none _ _ p.1 in let r = least_none _ _ q.1 in
      none_least (whole_key_none (elements_at F S w (at m n o)) k whole.0)
      (none_least (field_none ti o k c c _ _ (found_value_tied found) q.0 p.0)
      (none_least (slots_none S set' k c (slots_on_tied F S w s.objs t.objs at (chain_of_tied F S w s.objs t.objs at o)) q.0)
      (none_least (sym (function_rule_same F S w s.objs t.objs at o c) ∙ r.0) (sym (unfound_same F S w s.objs t.objs at (chain_of_tied F S w s.objs t.objs at o) c found) ∙ r.1))))

  pub read_none : {w : Tabs} {s t : State} → Tied w s t → {x y : Val} → Vals w x y → {a b : Access} → KeyI a b → read_rule S s x a ≡ None → read_rule R t y b ≡ None
  unfolding read_rule
  read_none {t = t} ti (obj_t {n = n} o) {a = a} {b = b} k h = subst (λ z. object_read R t n b z ≡ None) (name_same S set' k) (object_read_none ti o k (name_of S a) h)
  read_none ti out_t k h = outside_none S set' k h
  read_none ti (prim_t {p = p}) k h = subst (λ z. prim_read p z ≡ None) (name_same S set' k) h

  found_t : {w : W} {m n : ℕ} → Mates w.w m n → {a b : Access} → KeyI a b → Sim T (λ v. Vals v.w) w (reading (λ s. value_found (look_up s.objs m (name_of s.tables a)))) (reading (λ s. value_found (look_up s.objs n (name_of s.tables b))))
  unfolding reading ret
  found_t {w = w} {m = m} {n = n} o {a = a} {b = b} k s t ti le le' = fine T _ _ (subst (λ z. Vals w.w (value_found (look_up s.objs m (name_of s.tables a))) (value_found (look_up t.objs n z))) (name_in_states ti k) (found_value_tied (look_up_tied F S w.w s.objs t.objs (at_of F S set' ti) o (name_of s.tables a)))) ti le le'

  pub read_slot_t : {w : W} (i i' : Spot) {m n : ℕ} → Mates w.w m n → {a b : Access} → KeyI a b → Sim T (λ v. Vals v.w) w (read_slot checked i m a) (read_slot checked i' n b)
  unfolding read_slot least_broken
  read_slot_t i i' {m = m} {n = n} o {a = a} {b = b} k =
      sim_bind T {R = λ v. Vals v.w} (judged_i F S set' i i' (reads (obj m) a) (reads (obj n) b) _ _ (λ s t ti h. read_none ti (obj_t o) k h) (found_t o k)) (λ v2 l2 x y h.
      sim_bind T {R = Done} (fields_t (Rattle.cc_tied.proofs.Injection.World.mates_more l2.2.ext o) k h) (λ v3 l3 _ _ _. sim_ret T x y (val_more l3.2.ext _ _ h)))

  -- ---- built-in methods

  pub method_same : {w : Tabs} {s t : State} → Tied w s t → {x y : Val} → Vals w x y → {a b : Access} → KeyI a b → method_on s x (name_of s.tables a) ≡ method_on t y (name_of t.tables b)
  unfolding method_on
  method_same {w = w} {s = s} {t = t} ti (obj_t {n = n} o) {a = a} k = found_use_same (look_up_tied F S w s.objs t.objs (at_of F S set' ti) o (name_of s.tables a)) ∙ ap (λ z. method_on t (obj n) z) (name_in_states ti k)
  method_same ti out_t k = refl
  method_same {t = t} ti (prim_t {p = p}) k = ap (λ z. method_on t (prim p) z) (name_in_states ti k)

  pub method_read_t : {w : W} (i i' : Spot) {x y : Val} → Vals w.w x y → {a b : Access} → KeyI a b → Sim T Done w (judged checked i (reads x a) skip) (judged checked i' (reads y b) skip)
  unfolding least_broken
  method_read_t i i' {x = x} {y = y} v {a = a} {b = b} k = judged_i F S set' i i' (reads x a) (reads y b) _ _ (λ s t ti h. read_none ti v k h) (sim_ret T tt tt tt)
