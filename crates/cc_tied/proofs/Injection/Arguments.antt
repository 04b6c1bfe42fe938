-- Arguments that stand for parameters: what the right reads of a place that is never assigned, or of a
-- global that holds a function, it reads again wherever the argument stands.
use Rattle.std.proofs.Common.{◌≡◌, ℕ, suc, Bool, true, false, [], Option, Some, None, is_some, refl, sym, ap, subst, ◌∙◌}
use Rattle.std.specs.Prelude.{slice_get}
use Rattle.cc_ast.specs.Syntax.{Prim, var}
use Rattle.cc_ast.specs.declared.tree.Ref.{Ref}
use Rattle.cc_meaning.specs.Values.{Val, obj, Spot, at_site}
use Rattle.cc_meaning.specs.Builtins.{or_undefined}
use Rattle.cc_meaning.specs.State.{of_call, Frame, Env, Path, State, Tables}
use Rattle.cc_meaning.specs.Monad.{ok, M, ret, stop, ◌>>=◌, after, said}
use Rattle.cc_meaning.specs.Store.{up_in, frame_up, frame_at, flat_option}
use Rattle.cc_meaning.specs.Typed.{Variable, local}
use Rattle.cc_meaning.specs.Rules.{take_rule}
use Rattle.cc_meaning.specs.Judge.{Act, takes, least_broken}
use Rattle.cc_meaning.specs.Acts.{judged, allowed, refused, is_fatal, place_in, read_by_kind, read_place, read_var}
use Rattle.cc_meaning.specs.Calls.{plain, Bodies}
use Rattle.cc_meaning.specs.Meaning.{reach_var, ev}
use Rattle.cc_meaning.specs.Script.{checked}
use Rattle.cc_meaning.specs.Alike.{In}
use Rattle.cc_tied.specs.Tied.{OptT, none_t, some_t, ValT, prim_t, out_t, obj_t}
use Rattle.cc_tied.specs.Facts.{Level, called, Facts, outward, Above, above_here, above_more, frame_kind, DeadAt, FixedAt}
use Rattle.cc_tied.specs.Injection.{Pair, Both, both}
use Rattle.cc_tied.proofs.RightRuns.{Gives, gives_broken, gives_ret}
use Rattle.cc_tied.proofs.Injection.World.{Label, Tabs, Vals, UpT, an_up, FrameT}
use Rattle.cc_tied.proofs.Injection.Tie.{Other, ExtI, Given, ArgI, with_set, TiedI}
use Rattle.cc_tied.proofs.Injection.Frames.{undefined_tied}

-- ---- acts of the right

pub judged_free : {A : Type 0} (i : Spot) (a : Act) (m : M A) (t : State) → least_broken t.tables t a ≡ None → judged checked i a m t ≡ m t
unfolding judged allowed
judged_free i a m t e = rw e refl

gives_refused : {A : Type 0} {Q : A → Type 0} {q : ℕ} {t : State} (i : Spot) (b : Bool) (r : ℕ) (m : M A) → Gives Q q t (refused checked i b r m t)
unfolding refused stop ◌>>=◌ after
gives_refused i true r m = gives_broken
gives_refused i false r m = gives_broken

pub gives_judged : {A : Type 0} {Q : A → Type 0} {q : ℕ} (i : Spot) (a : Act) (m : M A) (t : State) → (least_broken t.tables t a ≡ None → Gives Q q t (m t)) → Gives Q q t (judged checked i a m t)
unfolding judged allowed
gives_judged {Q = Q} {q = q} i a m t f = by_rule (least_broken t.tables t a) refl
  where
    by_rule : (o : Option ℕ) → least_broken t.tables t a ≡ o → Gives Q q t (allowed checked i a o m t)
    by_rule None e = f e
    by_rule (Some r) e = gives_refused i (is_fatal a r) r m

module _ (F : Facts) (S : Tables) (set' : Other S) where
  abbrev Right : Tables
  Right = with_set S set'

  abbrev Tied : Tabs → State → State → Type 0
  Tied = TiedI F S set'

  -- ---- the frame that is so many steps outwards

  pub data Walk (w : Tabs) : Option ℕ → ℕ → Pair Label → Type 0 where
    walk_here : {q : Pair Label} → In q w.frames → Walk w (Some q.right) 0 q
    walk_more : {q r : Pair Label} {u : ℕ} → In q w.frames → Walk w q.label.up' u r → Walk w (Some q.right) (suc u) r

  pub walk_later : {v w : Tabs} → ExtI v w → {a : Option ℕ} {u : ℕ} {q : Pair Label} → Walk v a u q → Walk w a u q
  walk_later l (walk_here h) = walk_here (l.ext.frames _ h)
  walk_later l (walk_more h k) = walk_more (l.ext.frames _ h) (walk_later l k)

  walk_in : {w : Tabs} {a : Option ℕ} {u : ℕ} {q : Pair Label} → Walk w a u q → In q w.frames
  walk_in (walk_here h) = h
  walk_in (walk_more h k) = walk_in k

  up_is : {w : Tabs} {x : Label} {a b : Option Frame} → Both (FrameT F S w x) a b → up_in b ≡ x.up'
  unfolding up_in
  up_is (both h) = h.up'

  walk_up : {w : Tabs} {s t : State} → Tied w s t → {a : Option ℕ} {u : ℕ} {q : Pair Label} → Walk w a u q → frame_up u t.frames a ≡ Some q.right
  unfolding frame_up frame_at
  walk_up ti (walk_here h) = refl
  walk_up {t = t} ti (walk_more {u = u} h k) = ap (λ z. frame_up u t.frames z) (up_is (ti.frames.tied _ h)) ∙ walk_up ti k

  -- the frame at this level
  pub record Walked (w : Tabs) (b : Option ℕ) (u : ℕ) (l : Level) : Type 0 where
    pub pair : Pair Label
    pub walk : Walk w b u pair
    pub level : pair.label.level ≡ l

  around_label : {w : Tabs} {x : Label} {a b : Option Frame} → Both (FrameT F S w x) a b → UpT F S w (outward F S x.level) x.up x.up'
  around_label (both h) = h.around

  pub walk_from : {w : Tabs} {s t : State} → Tied w s t → {o : Option Level} {u : ℕ} {l : Level} → Above F S o u l → {a b : Option ℕ} → UpT F S w o a b → Walked w b u l
  walk_from ti above_here (an_up x {m = m} {n = n} e h) = record { pair = record { label = x; left = m; right = n }; walk = walk_here h; level = e }
  walk_from {w = w} ti (above_more k) (an_up x {m = m} {n = n} e h) =
      let r = walk_from ti k (subst (λ z. UpT F S w (outward F S z) x.up x.up') e (around_label (ti.frames.tied _ h))) in
      record { pair = r.pair; walk = walk_more h r.walk; level = r.level }

  -- two values that are tied to one are one
  pub val_one : {w : Tabs} {s t : State} → Tied w s t → {a b c : Val} → Vals w a c → Vals w b c → a ≡ b
  val_one ti prim_t prim_t = refl
  val_one ti out_t out_t = refl
  val_one ti (obj_t h) (obj_t k) = ap (λ p. obj p.left) (ti.objs.right_one _ _ h.1 k.1 refl)

  pub taken : (t : State) → t.tables ≡ Right → (x : Variable) (l b : Bool) → take_rule Right x l b ≡ None → least_broken t.tables t (takes x l b) ≡ None
  unfolding least_broken
  taken t e x l b d = ap (λ z. take_rule z x l b) e ∙ d

  pub free_of : (t : State) → t.tables ≡ Right → (x : Variable) (l b : Bool) → least_broken t.tables t (takes x l b) ≡ None → take_rule Right x l b ≡ None
  unfolding least_broken
  free_of t e x l b d = sym (ap (λ z. take_rule z x l b) e) ∙ d

  -- ---- a place of a call's frame that is never assigned

  abbrev held : Frame → ℕ → Option Val
  held b n = flat_option (slice_get b.values n)

  -- what the right reads there
  pub record PlaceRead (t : State) (m f n : ℕ) (v : Val) : Type 0 where
    pub frame : Frame
    pub there : slice_get t.frames m ≡ Some frame
    pub free : take_rule Right (local f n) true (is_some (held frame n)) ≡ None
    pub value : v ≡ or_undefined (held frame n)

  read_free : (i : Spot) (t : State) (b : Frame) (f n : ℕ) → t.tables ≡ Right → b.kind ≡ of_call f → take_rule Right (local f n) true (is_some (held b n)) ≡ None → read_place checked i (Some b) n t ≡ ok [] (or_undefined (held b n)) t
  unfolding read_place read_by_kind place_in ret
  read_free i t b f n e k d = rw k (judged_free i (takes (local f n) true (is_some (held b n))) (ret (or_undefined (held b n))) t (taken t e (local f n) true (is_some (held b n)) d))

  place_gives : (i : Spot) (t : State) (m : ℕ) (b : Frame) (f n : ℕ) → t.tables ≡ Right → b.kind ≡ of_call f → slice_get t.frames m ≡ Some b → Gives (PlaceRead t m f n) 0 t (read_place checked i (Some b) n t)
  unfolding read_place read_by_kind place_in
  place_gives i t m b f n e k h = rw k (gives_judged i (takes (local f n) true (is_some (held b n))) (ret (or_undefined (held b n))) t (λ d. gives_ret _ (record { frame = b; there = h; free = free_of t e (local f n) true (is_some (held b n)) d; value = refl })))

  call_kind : (x : Label) {f : ℕ} (b : Frame) → b.kind ≡ frame_kind x.level → x.level ≡ called f → b.kind ≡ of_call f
  unfolding frame_kind
  call_kind x b k e = k ∙ ap frame_kind e

  both_gives : {w : Tabs} {t : State} (i : Spot) (m : ℕ) {x : Label} {f : ℕ} (n : ℕ) → t.tables ≡ Right → x.level ≡ called f → {a b : Option Frame} → slice_get t.frames m ≡ b → Both (FrameT F S w x) a b → Gives (PlaceRead t m f n) 0 t (read_place checked i b n t)
  both_gives {t = t} i m {x = x} {f = f} n e l h (both {b = b} k) = place_gives i t m b f n e (call_kind x b k.kind' l) h

  -- the right run of such a place
  pub place_read : {w : Tabs} {s t : State} → Tied w s t → (i : Spot) (h : Env) {u f : ℕ} (n : ℕ) (r : Walked w h.at u (called f)) → Gives (PlaceRead t r.pair.right f n) 0 t (read_var checked i h (Ref.Frame u n) t)
  unfolding read_var frame_at
  place_read {t = t} ti i h n r = rw (walk_up ti r.walk) (both_gives i r.pair.right n ti.tables' r.level refl (ti.frames.tied _ (walk_in r.walk)))

  -- .. gives the same wherever the variable stands
  record Settled (w : Tabs) (x : Label) (f n : ℕ) (a b : Frame) : Type 0 where
    tied : Vals w (or_undefined (flat_option (slice_get x.first n))) (or_undefined (held b n))
    set : is_some (held b n) ≡ is_some (flat_option (slice_get x.first n))
    kind : b.kind ≡ of_call f

  pub set_same : {O : ℕ → ℕ → Type 0} {a b : Option Val} → OptT (ValT O) a b → is_some b ≡ is_some a
  set_same none_t = refl
  set_same (some_t h) = refl

  settled_frame : {w : Tabs} {x : Label} {a b : Frame} {f : ℕ} (n : ℕ) → x.level ≡ called f → F.Fixed f n → (F.Dead f n → ⊥) → FrameT F S w x a b → Settled w x f n a b
  settled_frame {w = w} {x = x} {a = a} {b = b} {f = f} n l fx d k =
      let e : slice_get a.values n ≡ slice_get x.first n = k.fixed n (subst (λ z. FixedAt F z n) (sym l) fx) in
      let o : OptT (Vals w) (flat_option (slice_get x.first n)) (held b n) = subst (λ z. OptT (Vals w) (flat_option z) (held b n)) e (k.places.each n (λ q. d (subst (λ z. DeadAt F z n) l q))) in
      record { tied = undefined_tied o; set = set_same o; kind = call_kind x b k.kind' l }

  var_reached : (B : Bodies) (h : Env) (i u n : ℕ) (v : Val) (t : State) → read_var checked (at_site i) h (Ref.Frame u n) t ≡ ok [] v t → (p : Option Path) → ev checked B h p (var i (Ref.Frame u n)) t ≡ ok [] (plain v) t
  unfolding ev reach_var ◌>>=◌ after ret said
  var_reached B h i u n v t e p = rw e refl

  place_again : {w : Tabs} {t : State} (B : Bodies) (h : Env) (i u : ℕ) {f : ℕ} (n : ℕ) {x : Label} → t.tables ≡ Right → x.level ≡ called f → F.Fixed f n → (F.Dead f n → ⊥) → take_rule Right (local f n) true (is_some (flat_option (slice_get x.first n))) ≡ None → {a b : Option Frame} → frame_at t.frames (frame_up u t.frames h.at) ≡ b → Both (FrameT F S w x) a b → Given F S set' w t B h (var i (Ref.Frame u n)) (or_undefined (flat_option (slice_get x.first n)))
  unfolding read_var
  place_again {t = t} B h i u {f = f} n e l fx d free found (both {b = b} k) =
      let p = settled_frame n l fx d k in record {
        value = or_undefined (held b n);
        tied = p.tied;
        reached = var_reached B h i u n (or_undefined (held b n)) t (ap (λ z. read_place checked (at_site i) z n t) found ∙ read_free (at_site i) t b f n e p.kind (ap (λ z. take_rule Right (local f n) true z) p.set ∙ free));
      }

  at_place : {w : Tabs} {s t : State} → Tied w s t → {a : Option ℕ} {u : ℕ} {q : Pair Label} → Walk w a u q → frame_at t.frames (frame_up u t.frames a) ≡ slice_get t.frames q.right
  unfolding frame_at
  at_place {t = t} ti k = ap (λ z. frame_at t.frames z) (walk_up ti k)

  found_place : {w : Tabs} {s t : State} {x v : Val} {m f n : ℕ} {l : Label} → Tied w s t → l.level ≡ called f → F.Fixed f n → (F.Dead f n → ⊥) → (r : PlaceRead t m f n v) → {a b : Option Frame} → slice_get t.frames m ≡ b → Both (FrameT F S w l) a b → Vals w x v → (x ≡ or_undefined (flat_option (slice_get l.first n))) × (take_rule Right (local f n) true (is_some (flat_option (slice_get l.first n))) ≡ None)
  found_place {w = w} {v = v} {f = f} {n = n} {l = l} ti e fx d r h (both {b = b} k) q =
      let same : b ≡ r.frame = cc in
      let p = settled_frame n e fx d k in
      let value : v ≡ or_undefined (held b n) = r.value ∙ ap (λ z. or_undefined (held z n)) (sym same) in
      (val_one ti q (subst (λ z. Vals w (or_undefined (flat_option (slice_get l.first n))) z) (sym value) p.tied), ap (λ z. take_rule Right (local f n) true z) (sym p.set) ∙ ap (λ z. take_rule Right (local f n) true (is_some (held z n))) same ∙ r.free)

  pub place_given : {w : Tabs} {s t : State} {x v : Val} {h : Env} {u f n : ℕ} {q : Pair Label} (i : ℕ) → Tied w s t → Walk w h.at u q → q.label.level ≡ called f → F.Fixed f n → (F.Dead f n → ⊥) → PlaceRead t q.right f n v → Vals w x v → ArgI F S set' w h (var i (Ref.Frame u n)) x
  place_given {w = w} {x = x} {h = h} {u = u} {f = f} {n = n} {q = q} i ti k e fx d r c =
      let p = found_place {l = q.label} ti e fx d r refl (ti.frames.tied _ (walk_in k)) c in
      record { by = λ z l s2 t2 ti2 B. subst (λ y. Given F S set' z t2 B h (var i (Ref.Frame u n)) y) (sym p.0) (place_again B h i u n ti2.tables' e fx d p.1 (at_place ti2 (walk_later l k)) (ti2.frames.tied _ (walk_in (walk_later l k)))) }
