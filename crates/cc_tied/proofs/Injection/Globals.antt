-- Arguments that stand for parameters: what the right reads of a global that holds a function, it reads
-- again wherever the argument stands.
use Rattle.std.proofs.Common.{◌≡◌, ◌⊎◌, inl, inr, ℕ, Bool, true, List, [], ◌∷◌, Option, None, is_some, refl, sym, ap, subst, ◌∙◌}
use Rattle.std.specs.Prelude.{slice_get, nat_eq}
use Rattle.std.specs.List.{list_any}
use Rattle.cc_ast.specs.Syntax.{Prim, var}
use Rattle.cc_ast.specs.declared.tree.Ref.{Ref}
use Rattle.cc_meaning.specs.Values.{Val, out, Spot, at_site}
use Rattle.cc_meaning.specs.Builtins.{or_undefined}
use Rattle.cc_meaning.specs.State.{Env, Path, State, Tables}
use Rattle.cc_meaning.specs.Monad.{ok, ret, stop, ◌>>=◌, after, said, with_tables}
use Rattle.cc_meaning.specs.Store.{Built, Global, extern, built_in, of_chunk, global_kind, flat_option}
use Rattle.cc_meaning.specs.Typed.{Variable, global}
use Rattle.cc_meaning.specs.Rules.{take_rule}
use Rattle.cc_meaning.specs.Judge.{takes}
use Rattle.cc_meaning.specs.Acts.{is_loaded, global_value, read_global, read_var}
use Rattle.cc_meaning.specs.Calls.{plain, built_global, Bodies, value_of, value}
use Rattle.cc_meaning.specs.Meaning.{reach_global, reach_var, ev}
use Rattle.cc_meaning.specs.Script.{checked}
use Rattle.cc_meaning.specs.Alike.{In, here, there}
use Rattle.cc_tied.specs.Tied.{OptT, out_t}
use Rattle.cc_tied.specs.Facts.{holds_function, Facts}
use Rattle.cc_tied.proofs.Parts.{list_as}
use Rattle.cc_tied.proofs.AtValues.{plain_value}
use Rattle.cc_tied.proofs.RightRuns.{Gives, gives_broken, gives_ret}
use Rattle.cc_tied.proofs.Injection.Table.{in_cases, table_more}
use Rattle.cc_tied.proofs.Injection.Places.{places_more}
use Rattle.cc_tied.proofs.Injection.World.{Tabs, Ext, ext_same, mates_more, Vals, val_more, KnownT, function_k, known_more, obj_more, frame_more}
use Rattle.cc_tied.proofs.Injection.Acts.{with_begun, ext_begun, begun_now}
use Rattle.cc_tied.proofs.Injection.Tie.{Other, ExtI, Given, ArgI, with_set, TiedI}
use Rattle.cc_tied.proofs.Injection.Rules.{least_none, unless_none}
use Rattle.cc_tied.proofs.Injection.Frames.{undefined_tied}
use Rattle.cc_tied.proofs.Injection.Arguments.{judged_free, gives_judged, taken, free_of, set_same, val_one}

module _ (F : Facts) (S : Tables) (set' : Other S) where
  abbrev Right : Tables
  Right = with_set S set'

  abbrev Tied : Tabs → State → State → Type 0
  Tied = TiedI F S set'

  -- ---- a global that holds a function

  -- what the right reads of it
  pub data GlobalRead (t : State) (n : ℕ) : Global → Val → Type 0 where
    read_extern : GlobalRead t n extern (out n)
    read_set : {c : ℕ} → is_loaded t c ≡ true → take_rule Right (global n) true (is_some (global_value t n)) ≡ None → GlobalRead t n (of_chunk c) (or_undefined (global_value t n))

  loaded_of : (x : Variable) (l b : Bool) → take_rule Right x l b ≡ None → l ≡ true
  unfolding take_rule
  loaded_of x l b e = unless_none l 3 (least_none _ _ e).0

  set_read : {t : State} {n c : ℕ} (l : Bool) → is_loaded t c ≡ l → take_rule Right (global n) l (is_some (global_value t n)) ≡ None → GlobalRead t n (of_chunk c) (or_undefined (global_value t n))
  set_read {t = t} {n = n} l e d = let q = loaded_of (global n) l (is_some (global_value t n)) d in read_set (e ∙ q) (subst (λ z. take_rule Right (global n) z (is_some (global_value t n)) ≡ None) q d)

  pub global_gives : (i : Spot) (t : State) (n : ℕ) → t.tables ≡ Right → (k : Global) → Gives (GlobalRead t n k) 0 t (read_global checked i n k t)
  unfolding read_global stop
  global_gives i t n e extern = gives_ret (out n) read_extern
  global_gives i t n e (built_in b) = gives_broken
  global_gives i t n e (of_chunk c) = gives_judged i (takes (global n) (is_loaded t c) (is_some (global_value t n))) (ret (or_undefined (global_value t n))) t (λ d. gives_ret _ (set_read (is_loaded t c) refl (free_of F S set' t e (global n) (is_loaded t c) (is_some (global_value t n)) d)))

  built_gives : (B : Bodies) (i : ℕ) (b : Built) {Q : Val → Type 0} (t : State) → Gives Q 0 t ((ret (built_global i b) >>= value_of checked B) t)
  unfolding value_of ret ◌>>=◌ after said stop
  built_gives B i b t = gives_broken

  read_gives : (B : Bodies) (h : Env) (i n : ℕ) (t : State) → t.tables ≡ Right → (k : Global) → global_kind t.tables n ≡ k → Gives (GlobalRead t n k) 0 t (((read_var checked (at_site i) h (Ref.Global n) >>= λ v. ret (plain v)) >>= value_of checked B) t)
  unfolding read_var
  read_gives B h i n t e k d =
      subst (λ z. Gives (GlobalRead t n k) 0 t z) (sym (ap (λ z. z t) (plain_value checked B (read_var checked (at_site i) h (Ref.Global n)))))
      (subst (λ z. Gives (GlobalRead t n k) 0 t (read_global checked (at_site i) n z t)) (sym d) (global_gives (at_site i) t n e k))

  reach_gives : (B : Bodies) (h : Env) (i n : ℕ) (t : State) → t.tables ≡ Right → (k : Global) → global_kind t.tables n ≡ k → Gives (GlobalRead t n k) 0 t ((reach_global checked i h n k >>= value_of checked B) t)
  unfolding reach_global
  reach_gives B h i n t e (built_in b) d = built_gives B i b t
  reach_gives B h i n t e extern d = read_gives B h i n t e extern d
  reach_gives B h i n t e (of_chunk c) d = read_gives B h i n t e (of_chunk c) d

  -- the right run of a global
  pub global_read : {w : Tabs} {s t : State} → Tied w s t → (B : Bodies) (h : Env) (i n : ℕ) → Gives (GlobalRead t n (global_kind Right n)) 0 t (value checked B (ev checked B h None (var i (Ref.Global n))) t)
  unfolding value ev reach_var with_tables ◌>>=◌
  global_read {t = t} ti B h i n =
      subst (λ z. Gives (GlobalRead t n (global_kind z n)) 0 t ((reach_global checked i h n (global_kind t.tables n) >>= value_of checked B) t)) ti.tables' (reach_gives B h i n t ti.tables' (global_kind t.tables n) refl)

  -- .. gives the same wherever the variable stands
  still_held : {w : Tabs} {s t : State} → Tied w s t → {n f : ℕ} → F.Known n (holds_function f) → flat_option (slice_get s.globals n) ≡ flat_option (slice_get w.still n)
  still_held ti {n = n} {f = f} k = by_known (ti.known n (holds_function f) k)
    where
      by_known : {w : Tabs} {x : List (Option Val)} {o : Option Val} → KnownT w x n (holds_function f) o → o ≡ flat_option (slice_get x n)
      by_known (function_k h e) = e

  still_tied : {w : Tabs} {s t : State} → Tied w s t → {n f : ℕ} → F.Known n (holds_function f) → (F.Unread n → ⊥) → OptT (Vals w) (flat_option (slice_get w.still n)) (global_value t n)
  unfolding global_value
  still_tied {w = w} {t = t} ti {n = n} k u = subst (λ z. OptT (Vals w) z (flat_option (slice_get t.globals n))) (still_held ti k) (ti.globals.each n u)

  pub reach_once : (h : Env) (i n : ℕ) (k : Global) → ((b : Built) → k ≡ built_in b → ⊥) → reach_global checked i h n k ≡ (read_var checked (at_site i) h (Ref.Global n) >>= λ v. ret (plain v))
  unfolding reach_global
  reach_once h i n extern nb = refl
  reach_once h i n (of_chunk c) nb = refl
  reach_once h i n (built_in b) nb = absurd (nb b refl)

  after_read : (h : Env) (i n : ℕ) (v : Val) (t : State) → read_var checked (at_site i) h (Ref.Global n) t ≡ ok [] v t → (read_var checked (at_site i) h (Ref.Global n) >>= λ v. ret (plain v)) t ≡ ok [] (plain v) t
  unfolding ◌>>=◌ after ret said
  after_read h i n v t e = rw e refl

  read_by : (h : Env) (i n : ℕ) (v : Val) (t : State) (k : Global) → global_kind t.tables n ≡ k → read_global checked (at_site i) n k t ≡ ok [] v t → read_var checked (at_site i) h (Ref.Global n) t ≡ ok [] v t
  unfolding read_var
  read_by h i n v t k d e = ap (λ z. read_global checked (at_site i) n z t) d ∙ e

  var_again : (B : Bodies) (h : Env) (i n : ℕ) (v : Val) (t : State) (k : Global) → global_kind t.tables n ≡ k → ((b : Built) → k ≡ built_in b → ⊥) → read_global checked (at_site i) n k t ≡ ok [] v t → (p : Option Path) → ev checked B h p (var i (Ref.Global n)) t ≡ ok [] (plain v) t
  unfolding ev reach_var with_tables
  var_again B h i n v t k d nb e p = ap (λ z. reach_global checked i h n z t) d ∙ ap (λ z. z t) (reach_once h i n k nb) ∙ after_read h i n v t (read_by h i n v t k d e)

  kind_at : {w : Tabs} {s t : State} → Tied w s t → (n : ℕ) → global_kind t.tables n ≡ global_kind Right n
  kind_at ti n = ap (λ z. global_kind z n) ti.tables'

  extern_again : {w : Tabs} {s t : State} → Tied w s t → (B : Bodies) (h : Env) (i n : ℕ) → global_kind Right n ≡ extern → Given F S set' w t B h (var i (Ref.Global n)) (out n)
  unfolding read_global ret
  extern_again {t = t} ti B h i n e = record { value = out n; tied = out_t; reached = var_again B h i n (out n) t extern (kind_at ti n ∙ e) (λ b d. absurd (cc)) refl }

  set_free : (i : Spot) (t : State) (n c : ℕ) → t.tables ≡ Right → is_loaded t c ≡ true → take_rule Right (global n) true (is_some (global_value t n)) ≡ None → read_global checked i n (of_chunk c) t ≡ ok [] (or_undefined (global_value t n)) t
  unfolding read_global ret
  set_free i t n c e l d = rw l (judged_free i (takes (global n) true (is_some (global_value t n))) (ret (or_undefined (global_value t n))) t (taken F S set' t e (global n) true (is_some (global_value t n)) d))

  set_again : {w : Tabs} {s t : State} → Tied w s t → (B : Bodies) (h : Env) (i n c : ℕ) {f : ℕ} → F.Known n (holds_function f) → (F.Unread n → ⊥) → global_kind Right n ≡ of_chunk c → is_loaded t c ≡ true → take_rule Right (global n) true (is_some (flat_option (slice_get w.still n))) ≡ None → Given F S set' w t B h (var i (Ref.Global n)) (or_undefined (flat_option (slice_get w.still n)))
  set_again {t = t} ti B h i n c k u e l d =
      let o = still_tied ti k u in record {
        value = or_undefined (global_value t n);
        tied = undefined_tied o;
        reached = var_again B h i n (or_undefined (global_value t n)) t (of_chunk c) (kind_at ti n ∙ e) (λ b q. absurd (cc)) (set_free (at_site i) t n c ti.tables' l (ap (λ z. take_rule Right (global n) true z) (set_same F S set' o) ∙ d));
      }

  -- ---- what a run of the right says of the left run that it follows

  pub record Back {A : Type 0} (Q : Tabs → A → Type 0) (w : Tabs) (s t : State) (x : A) : Type 0 where
    pub world : Tabs
    pub ext : ExtI w world
    pub tied : Tied world s t
    pub says : Q world x

  pub back_now : {A : Type 0} {Q : Tabs → A → Type 0} {w : Tabs} {s t : State} (x : A) → Tied w s t → Q w x → Back Q w s t x
  back_now {w = w} x ti q = record { world = w; ext = record { ext = ext_same w; still = refl; stage = refl }; tied = ti; says = q }

  -- the value of the left run at such a global
  left_held : {w : Tabs} {s t : State} {x : Val} {n f : ℕ} → Tied w s t → F.Known n (holds_function f) → (F.Unread n → ⊥) → Vals w x (or_undefined (global_value t n)) → x ≡ or_undefined (flat_option (slice_get w.still n))
  left_held ti k u c = val_one F S set' ti c (undefined_tied (still_tied ti k u))

  loaded_left : {w : Tabs} {s t : State} → Tied w s t → (c : ℕ) → is_loaded t c ≡ true → list_any (λ d. nat_eq d c) s.loaded ≡ true
  unfolding is_loaded
  loaded_left ti c e = ap (λ z. list_any (λ d. nat_eq d c) z) ti.loaded ∙ e

  loaded_right : {w : Tabs} {s t : State} → Tied w s t → (c : ℕ) → In c w.begun → is_loaded t c ≡ true
  unfolding is_loaded
  loaded_right ti c h = sym (ap (λ z. list_any (λ d. nat_eq d c) z) ti.loaded) ∙ ti.begun c h

  given_by : {w : Tabs} {s t : State} (n : ℕ) {x v : Val} (h : Env) (i f : ℕ) → Tied w s t → F.Known n (holds_function f) → (F.Unread n → ⊥) → (k : Global) → global_kind Right n ≡ k → GlobalRead t n k v → Vals w x v → Back (λ u y. ArgI F S set' u h (var i (Ref.Global n)) y) w s t x
  given_by n h i f ti k u _ e read_extern out_t = back_now (out n) ti (record { by = λ z l s2 t2 ti2 B. extern_again ti2 B h i n e })
  given_by {w = w} {s = s} {t = t} n {x = x} h i f ti k u _ e (read_set {c = c} ld d) q =
      let p : x ≡ or_undefined (flat_option (slice_get w.still n)) = left_held ti k u q in
      let free : take_rule Right (global n) true (is_some (flat_option (slice_get w.still n))) ≡ None = ap (λ z. take_rule Right (global n) true z) (sym (set_same F S set' (still_tied ti k u))) ∙ d in
      record {
        world = with_begun F S set' w c;
        ext = record { ext = ext_begun F S set' w c; still = refl; stage = refl };
        tied = begun_now F S set' ti c (loaded_left ti c ld);
        says = record {
          by = λ z l s2 t2 ti2 B.
              subst (λ y. Given F S set' z t2 B h (var i (Ref.Global n)) y) (sym (p ∙ ap (λ y. or_undefined (flat_option (slice_get y n))) l.still))
              (set_again ti2 B h i n c k u e (loaded_right ti2 c (l.ext.begun c here)) (ap (λ y. take_rule Right (global n) true (is_some (flat_option (slice_get y n)))) (sym l.still) ∙ free));
        };
      }

  pub global_given : {w : Tabs} {s t : State} {x v : Val} (h : Env) (i n f : ℕ) → Tied w s t → F.Known n (holds_function f) → (F.Unread n → ⊥) → GlobalRead t n (global_kind Right n) v → Vals w x v → Back (λ u y. ArgI F S set' u h (var i (Ref.Global n)) y) w s t x
  global_given h i n f ti k u r q = given_by n h i f ti k u (global_kind Right n) refl r q
