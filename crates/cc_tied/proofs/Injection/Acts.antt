-- Acts of two checked runs, where the left one excuses the right one by a broken rule; and changes of tied objects.
use Rattle.std.proofs.Common.{◌≡◌, ◌≢◌, ◌⊎◌, inl, inr, ℕ, zero, suc, Bool, true, false, List, [], ◌∷◌, ◌++◌, length, Option, Some, None, is_some, refl, sym, ap, subst, ◌∙◌, arith}
use Rattle.std.specs.Prelude.{slice_get, slice_set, nat_eq}
use Rattle.std.specs.List.{list_any}
use Rattle.cc_ast.specs.Syntax.{Prim}
use Rattle.cc_ast.specs.declared.tables.TypeSet.{TypeSet}
use Rattle.cc_ast.specs.declared.tables.Element.{Element}
use Rattle.cc_meaning.specs.Values.{Val, obj, Spot}
use Rattle.cc_meaning.specs.State.{Code, Obj, State, Tables}
use Rattle.cc_meaning.specs.Monad.{M, broken, over, ret, skip, stop, ◌>>=◌, after, pick}
use Rattle.cc_meaning.specs.Store.{changed_at, change}
use Rattle.cc_meaning.specs.Typed.{entered_in}
use Rattle.cc_meaning.specs.SlotRules.{prototype_of_function}
use Rattle.cc_meaning.specs.Judge.{Act, least_broken}
use Rattle.cc_meaning.specs.Acts.{judged, allowed, refused, is_fatal, changing, enter_element, receive, receive_all, receive_each, add_obj}
use Rattle.cc_meaning.specs.Script.{checked}
use Rattle.cc_meaning.specs.Alike.{In, here, there}
use Rattle.cc_tied.specs.Tied.{ListT, nil_t, cons_t, prim_t, out_t, obj_t}
use Rattle.cc_tied.specs.Facts.{Facts}
use Rattle.cc_tied.specs.Injection.{Pair, Both, both, Table}
use Rattle.cc_tied.proofs.Parts.{list_as}
use Rattle.cc_tied.proofs.Lists.{place_cases, get_new, get_set_other}
use Rattle.cc_tied.proofs.Sim.{Tie, World, ResT, ok_t, broken_t, Sim, fine, sim_bind, sim_ret}
use Rattle.cc_tied.proofs.Injection.Table.{in_cases, table_more, add_both, set_both, set_left}
use Rattle.cc_tied.proofs.Injection.Places.{places_more}
use Rattle.cc_tied.proofs.Injection.World.{Tabs, Ext, Mates, Mate, Mated, AllMated, mates_more, Vals, val_more, ObjT, obj_more, frame_more, known_more}
use Rattle.cc_tied.proofs.Injection.Tie.{Other, view, Owned, with_set, TiedI, inject}
use Rattle.cc_tied.proofs.Injection.Objects.{ObjAt, obj_at, is_some_same}
use Rattle.cc_tied.proofs.Injection.Types.{entered_both}

-- ---- one more entry

pub get_beside : {A : Type 0} (xs : List A) (y : A) (j : ℕ) → j ≢ length xs → slice_get (xs ++ y ∷ []) j ≡ slice_get xs j
get_beside [] y zero d = absurd (d refl)
get_beside [] y (suc j) d = refl
get_beside (x ∷ xs) y zero d = refl
get_beside (x ∷ xs) y (suc j) d = get_beside xs y j (λ e. d (ap suc e))

pub one_longer : {A : Type 0} (xs : List A) (y : A) → length (xs ++ y ∷ []) ≡ suc (length xs)
one_longer [] y = refl
one_longer (x ∷ xs) y = ap suc (one_longer xs y)

pub set_length : {A : Type 0} (xs : List A) (n : ℕ) (x : A) → length (slice_set xs n x) ≡ length xs
set_length [] n x = refl
set_length (y ∷ xs) zero x = refl
set_length (y ∷ xs) (suc n) x = ap suc (set_length xs n x)

-- ---- prototypes of functions, where a pair is added or an object changes

owned_more : (ps : List (Pair (Option Code))) (q : Pair (Option Code)) (os : List Obj) (x : Obj) → q.left ≡ length os → {m p : ℕ} → Owned ps os m p → Owned (q ∷ ps) (os ++ x ∷ []) m p
owned_more ps q os x e (inl h) = inl (record { label = h.label; right = h.right; mates = there h.mates })
owned_more ps q os x e {p = p} (inr h) = inr (let d = one_longer os x in let k = h.0 in omega arith, λ j. unmated (in_cases j.mates))
  where
    unmated : {n : ℕ} {y : Option Code} → (record { label = y; left = p; right = n } ≡ q) ⊎ In (record { label = y; left = p; right = n }) ps → ⊥
    unmated (inl g) = let k : p ≡ q.left = ap (λ z. z.left) g in let f = h.0 in omega arith
    unmated {n = n} {y = y} (inr g) = h.1 (record { label = y; right = n; mates = g })

abbrev pub AllOwned : List (Pair (Option Code)) → List Obj → Type 0
AllOwned ps os = (m p : ℕ) → prototype_of_function (slice_get os m) ≡ Some (obj p) → Owned ps os m p

owned_by : (ps : List (Pair (Option Code))) (os : List Obj) (q : Pair (Option Code)) (x : Obj) → q.left ≡ length os → AllOwned ps os → (m p : ℕ) → (m ≡ length os) ⊎ (m ≢ length os) → prototype_of_function (slice_get (os ++ x ∷ []) m) ≡ Some (obj p) → Owned (q ∷ ps) (os ++ x ∷ []) m p
owned_by ps os q x e o m p (inl d) k = inl (record { label = q.label; right = q.right; mates = subst (λ z. In (record { label = q.label; left = z; right = q.right }) (q ∷ ps)) (e ∙ sym d) here })
owned_by ps os q x e o m p (inr d) k = owned_more ps q os x e (o m p (sym (ap prototype_of_function (get_beside os x m d)) ∙ k))

pub owned_new : (ps : List (Pair (Option Code))) (os : List Obj) (q : Pair (Option Code)) (x : Obj) → q.left ≡ length os → AllOwned ps os → AllOwned (q ∷ ps) (os ++ x ∷ [])
owned_new ps os q x e o m p k = owned_by ps os q x e o m p (place_cases m (length os)) k

owned_as : (ps : List (Pair (Option Code))) (os os' : List Obj) → length os ≡ length os' → {m p : ℕ} → Owned ps os m p → Owned ps os' m p
owned_as ps os os' e (inl h) = inl h
owned_as ps os os' e (inr h) = inr (let k = h.0 in omega arith, h.1)

owned_one : (ps : List (Pair (Option Code))) (os : List Obj) → AllOwned ps os → (m : ℕ) → Mate ps m → (x : Obj) (j p : ℕ) → (m ≡ j) ⊎ (m ≢ j) → prototype_of_function (slice_get (slice_set os m x) j) ≡ Some (obj p) → Owned ps (slice_set os m x) j p
owned_one ps os o m h x j p (inl e) k = inl (rw (← e) h)
owned_one ps os o m h x j p (inr e) k = owned_as ps os (slice_set os m x) (sym (set_length os m x)) (o j p (sym (ap prototype_of_function (get_set_other os m j x e)) ∙ k))

-- an object of a pair changes
pub owned_set : (ps : List (Pair (Option Code))) (os : List Obj) → AllOwned ps os → (m : ℕ) → Mate ps m → (x : Obj) → AllOwned ps (slice_set os m x)
owned_set ps os o m h x j p k = owned_one ps os o m h x j p (place_cases m j) k

-- ---- objects of the right run, where a pair is added

pub mated_on : {ps qs : List (Pair (Option Code))} → ((p : Pair (Option Code)) → In p ps → In p qs) → {n : ℕ} → Mated ps n → Mated qs n
mated_on f h = record { label = h.label; left = h.left; mates = f _ h.mates }

abbrev MatedAt : List (Pair (Option Code)) → (o : Obj) → ℕ → Type 0
MatedAt ps o n = Mated ps n ⊎ (o.chain ≡ [])

pub mated_more : {ps qs : List (Pair (Option Code))} → ((p : Pair (Option Code)) → In p ps → In p qs) → (os : List Obj) → AllMated ps os → AllMated qs os
mated_more {ps = ps} {qs = qs} f os h n o e = more (h n o e)
  where
    more : MatedAt ps o n → MatedAt qs o n
    more (inl m) = inl (mated_on f m)
    more (inr c) = inr c

pub mated_new : (ps : List (Pair (Option Code))) (os : List Obj) (q : Pair (Option Code)) (x : Obj) → q.right ≡ length os → AllMated ps os → AllMated (q ∷ ps) (os ++ x ∷ [])
mated_new ps os q x e h n o d = by_place (place_cases n (length os))
  where
    by_place : (n ≡ length os) ⊎ (n ≢ length os) → MatedAt (q ∷ ps) o n
    by_place (inl c) = inl (record { label = q.label; left = q.left; mates = subst (λ z. In (record { label = q.label; left = q.left; right = z }) (q ∷ ps)) (e ∙ sym c) here })
    by_place (inr c) = mated_more (λ p i. there i) os h n o (sym (get_beside os x n c) ∙ d)

-- the right alone makes an object with nothing on its chain
pub mated_apart : (ps : List (Pair (Option Code))) (os : List Obj) (x : Obj) → x.chain ≡ [] → AllMated ps os → AllMated ps (os ++ x ∷ [])
mated_apart ps os x e h n o d = by_place (place_cases n (length os))
  where
    by_place : (n ≡ length os) ⊎ (n ≢ length os) → MatedAt ps o n
    by_place (inl c) = let f : slice_get (os ++ x ∷ []) n ≡ Some x = ap (λ z. slice_get (os ++ x ∷ []) z) c ∙ get_new os x in let g : Some o ≡ Some x = sym d ∙ f in let k : o ≡ x = cc in inr (ap (λ z. z.chain) k ∙ e)
    by_place (inr c) = h n o (sym (get_beside os x n c) ∙ d)

-- an object of a pair changes
pub mated_set : (ps : List (Pair (Option Code))) (os : List Obj) (m : ℕ) (x : Obj) → Mated ps m → AllMated ps os → AllMated ps (slice_set os m x)
mated_set ps os m x k h n o d = by_place (place_cases m n)
  where
    by_place : (m ≡ n) ⊎ (m ≢ n) → MatedAt ps o n
    by_place (inl c) = inl (subst (λ z. Mated ps z) c k)
    by_place (inr c) = h n o (sym (get_set_other os m n x c) ∙ d)

module _ (F : Facts) (S : Tables) (set' : Other S) where
  abbrev R : Tables
  R = with_set S set'

  abbrev T : Tie
  T = inject F S set'

  abbrev W : Type 0
  W = World T

  abbrev Tied : Tabs → State → State → Type 0
  Tied = TiedI F S set'

  abbrev VV : W → Val → Val → Type 0
  VV v = Vals v.w

  abbrev Done : W → Unit {0} → Unit {0} → Type 0
  Done v a b = Unit {0}

  -- ---- acts

  refused_left : {A B : Type 0} {Q : W → A → B → Type 0} {w : W} (i : Spot) (b : Bool) (r : ℕ) (m : M A) (s : State) {y : Rattle.cc_meaning.specs.Monad.Res B} → ResT T Q w (refused checked i b r m s) y
  unfolding refused stop ◌>>=◌ after
  refused_left i true r m s = broken_t tt
  refused_left i false r m s = broken_t tt

  pub stopped_left : {A B : Type 0} {Q : W → A → B → Type 0} {w : W} (r : ℕ) (i : Spot) (m' : M B) → Sim T {A = A} Q w (stop (broken r i)) m'
  unfolding stop
  stopped_left r i m' s t ti le le' = broken_t tt

  -- in two states: where the left act breaks no rule, the right one breaks none
  pub judged_at : {A B : Type 0} {Q : W → A → B → Type 0} {w : W} (i i' : Spot) (a a' : Act) (m : M A) (m' : M B) (s t : State) → (least_broken s.tables s a ≡ None → (least_broken t.tables t a' ≡ None) × ResT T Q w (m s) (m' t)) → ResT T Q w (judged checked i a m s) (judged checked i' a' m' t)
  unfolding judged allowed
  judged_at {Q = Q} {w = w} i i' a a' m m' s t h = by_rule (least_broken s.tables s a) refl
    where
      by_rule : (o : Option ℕ) → least_broken s.tables s a ≡ o → ResT T Q w (allowed checked i a o m s) (allowed checked i' a' (least_broken t.tables t a') m' t)
      by_rule None e = let k = h e in subst (λ z. ResT T Q w (m s) (allowed checked i' a' z m' t)) (sym k.0) k.1
      by_rule (Some r) e = refused_left i (is_fatal a r) r m s

  pub judged_in : {A B : Type 0} {Q : W → A → B → Type 0} {w : W} (i i' : Spot) (a a' : Act) (m : M A) (m' : M B) {s t : State} → Tied w.w s t → (least_broken S s a ≡ None → (least_broken R t a' ≡ None) × ResT T Q w (m s) (m' t)) → ResT T Q w (judged checked i a m s) (judged checked i' a' m' t)
  judged_in i i' a a' m m' {s = s} {t = t} ti h = judged_at i i' a a' m m' s t (λ e. let k = h (sym (ap (λ z. least_broken z s a) ti.tables) ∙ e) in (ap (λ z. least_broken z t a') ti.tables' ∙ k.0, k.1))

  -- what happens is tied whatever the act
  pub judged_i : {A B : Type 0} {Q : W → A → B → Type 0} {w : W} (i i' : Spot) (a a' : Act) (m : M A) (m' : M B) → ((s t : State) → Tied w.w s t → least_broken S s a ≡ None → least_broken R t a' ≡ None) → Sim T Q w m m' → Sim T Q w (judged checked i a m) (judged checked i' a' m')
  judged_i i i' a a' m m' e h s t ti le le' = judged_in i i' a a' m m' ti (λ d. (e s t ti d, h s t ti le le'))

  -- an act of the left run alone
  pub judged_left : {A B : Type 0} {Q : W → A → B → Type 0} {w : W} (i : Spot) (a : Act) (m : M A) (m' : M B) → Sim T Q w m m' → Sim T Q w (judged checked i a m) m'
  unfolding judged allowed
  judged_left {Q = Q} {w = w} i a m m' h s t ti le le' = by_rule (least_broken s.tables s a)
    where
      by_rule : (o : Option ℕ) → ResT T Q w (allowed checked i a o m s) (m' t)
      by_rule None = h s t ti le le'
      by_rule (Some r) = refused_left i (is_fatal a r) r m s

  -- ---- objects

  at_both : {w : Tabs} {x : Option Code} {a b : Option Obj} → Both (ObjT F S w x) a b → ObjAt F S w a b
  at_both (both h) = obj_at h

  pub at_of : {w : Tabs} {s t : State} → Tied w s t → (m n : ℕ) → Mates w m n → ObjAt F S w (slice_get s.objs m) (slice_get t.objs n)
  at_of ti m n o = at_both (ti.objs.tied _ o.1)

  abbrev pub with_obj : Tabs → Pair (Option Code) → Tabs
  with_obj w p = record w { objs = p ∷ w.objs }

  pub ext_obj : (w : Tabs) (p : Pair (Option Code)) → Ext w (with_obj w p)
  ext_obj w p = record { objs = λ q h. there h; frames = λ q h. h; spare = λ q h. h; alone = λ q h. h; begun = λ c h. h }

  -- both add an object
  pub add_tied : {w : Tabs} {s t : State} (x y : Obj) → Tied w s t → ObjT F S w x.code x y → Tied (with_obj w (record { label = x.code; left = length s.objs; right = length t.objs })) (record s { objs = s.objs ++ x ∷ [] }) (record t { objs = t.objs ++ y ∷ [] })
  add_tied {w = w} {s = s} {t = t} x y ti h =
      let q : Pair (Option Code) = record { label = x.code; left = length s.objs; right = length t.objs } in
      let e = ext_obj w q in record {
        tables = ti.tables;
        tables' = ti.tables';
        objs = add_both (table_more ti.objs (obj_more F S e)) x.code x y (obj_more F S e x.code x y h);
        owned = owned_new w.objs s.objs q x refl ti.owned;
        mated = mated_new w.objs t.objs q y refl ti.mated;
        frames = table_more ti.frames (frame_more F S e);
        globals = places_more (val_more e) ti.globals;
        known = λ g k d. known_more e (ti.known g k d);
        loaded = ti.loaded;
        begun = ti.begun;
        failed = ti.failed;
        constructed = ti.constructed;
        handles = list_as (λ a b o. mates_more e o) ti.handles;
        replies = ti.replies;
        budget = ti.budget;
        extra = set'.rider.both_made (view w s t) x.code x y ti.extra;
      }

  pub add_t : {w : W} (x y : Obj) → ObjT F S w.w x.code x y → Sim T (λ v. Vals v.w) w (add_obj x) (add_obj y)
  unfolding add_obj ret
  add_t {w = w} x y h s t ti le le' =
      let q : Pair (Option Code) = record { label = x.code; left = length s.objs; right = length t.objs } in
      ok_t refl (record { l = w.l; r = w.r; w = with_obj w.w q }) (omega arith, omega arith, record { ext = ext_obj w.w q; still = refl; stage = refl }) tt (obj_t (x.code, here)) (add_tied x y ti h) le le'

  -- ---- a chunk that is loaded

  abbrev pub with_begun : Tabs → ℕ → Tabs
  with_begun w c = record w { begun = c ∷ w.begun }

  pub ext_begun : (w : Tabs) (c : ℕ) → Ext w (with_begun w c)
  ext_begun w c = record { objs = λ q h. h; frames = λ q h. h; spare = λ q h. h; alone = λ q h. h; begun = λ d h. there h }

  pub begun_now : {w : Tabs} {s t : State} → Tied w s t → (c : ℕ) → list_any (λ d. nat_eq d c) s.loaded ≡ true → Tied (with_begun w c) s t
  begun_now {w = w} {s = s} ti c l = let e = ext_begun w c in record {
    tables = ti.tables;
    tables' = ti.tables';
    objs = table_more ti.objs (obj_more F S e);
    owned = ti.owned;
    mated = ti.mated;
    frames = table_more ti.frames (frame_more F S e);
    globals = places_more (val_more e) ti.globals;
    known = λ g h k. known_more e (ti.known g h k);
    loaded = ti.loaded;
    begun = λ d q. by_case d (in_cases q);
    failed = ti.failed;
    constructed = ti.constructed;
    handles = list_as (λ m n o. mates_more e o) ti.handles;
    replies = ti.replies;
    budget = ti.budget;
    extra = ti.extra;
  }
    where
      by_case : (d : ℕ) → (d ≡ c) ⊎ In d w.begun → list_any (λ k. nat_eq k d) s.loaded ≡ true
      by_case d (inl e) = rw e l
      by_case d (inr q) = ti.begun d q

  -- ---- tied objects change

  pub with_objs : {w : Tabs} {s t : State} (os ps : List Obj) → Tied w s t → Table (ObjT F S w) (λ y a. a.code ≡ None) w.objs w.spare os ps → AllOwned w.objs os → AllMated w.objs ps → set'.rider.Rides (view w (record s { objs = os }) (record t { objs = ps })) → Tied w (record s { objs = os }) (record t { objs = ps })
  with_objs os ps ti h o m x = record { tables = ti.tables; tables' = ti.tables'; objs = h; owned = o; mated = m; frames = ti.frames; globals = ti.globals; known = ti.known; loaded = ti.loaded; begun = ti.begun; failed = ti.failed; constructed = ti.constructed; handles = ti.handles; replies = ti.replies; budget = ti.budget; extra = x }

  -- both change an object
  pub change_both : {w : Tabs} {s t : State} → Tied w s t → {m n : ℕ} → Mates w m n → (f g : Obj → Obj) → ((x : Option Code) (a b : Obj) → ObjT F S w x a b → ObjT F S w x (f a) (g b)) → Tied w (change m f s) (change n g t)
  unfolding change changed_at
  change_both {w = w} {s = s} {t = t} ti {m = m} {n = n} o f g keep = by_both (slice_get s.objs m) (slice_get t.objs n) refl refl (ti.objs.tied _ o.1)
    where
      by_both : (a b : Option Obj) → slice_get s.objs m ≡ a → slice_get t.objs n ≡ b → Both (ObjT F S w o.0) a b → Tied w (record s { objs = changed_at s.objs m a f }) (record t { objs = changed_at t.objs n b g })
      by_both _ _ e d (both {a = a} {b = b} h) = with_objs _ _ ti (set_both ti.objs _ o.1 (f a) (g b) (keep o.0 a b h) a b e d) (owned_set w.objs s.objs ti.owned m (record { label = o.0; right = n; mates = o.1 }) (f a)) (mated_set w.objs t.objs n (g b) (record { label = o.0; left = m; mates = o.1 }) ti.mated) (set'.rider.both_changed (view w s t) _ o.1 (f a) (g b) ti.extra)

  -- the left one alone changes it
  pub change_left : {w : Tabs} {s t : State} → Tied w s t → {m n : ℕ} → Mates w m n → (f : Obj → Obj) → ((x : Option Code) (a b : Obj) → ObjT F S w x a b → ObjT F S w x (f a) b) → Tied w (change m f s) t
  unfolding change changed_at
  change_left {w = w} {s = s} {t = t} ti {m = m} {n = n} o f keep = by_both (slice_get s.objs m) (slice_get t.objs n) refl refl (ti.objs.tied _ o.1)
    where
      by_both : (a b : Option Obj) → slice_get s.objs m ≡ a → slice_get t.objs n ≡ b → Both (ObjT F S w o.0) a b → Tied w (record s { objs = changed_at s.objs m a f }) t
      by_both _ _ e d (both {a = a} {b = b} h) = with_objs (slice_set s.objs m (f a)) t.objs ti (set_left ti.objs _ o.1 (f a) b (keep o.0 a b h) a e d) (owned_set w.objs s.objs ti.owned m (record { label = o.0; right = n; mates = o.1 }) (f a)) ti.mated (set'.rider.left_changed (view w s t) _ o.1 (f a) ti.extra)

  pub change_t : {w : W} {m n : ℕ} → Mates w.w m n → (f g : Obj → Obj) → ((x : Option Code) (a b : Obj) → ObjT F S w.w x a b → ObjT F S w.w x (f a) (g b)) → Sim T Done w (changing (change m f)) (changing (change n g))
  unfolding changing change ret
  change_t o f g keep s t ti le le' = fine T tt tt tt (change_both ti o f g keep) le le'

  -- ---- element types

  entered_by : (c : Bool) {w : Tabs} {x : Option Code} {a b : Obj} (es ds : List Element) → ((e : Element) → In e ds → In e es) → ObjT F S w x a b → ObjT F S w x (pick c (record a { wanted = es }) a) (pick c (record b { wanted = ds }) b)
  entered_by true es ds f h = record { label = h.label; class = h.class; chain = h.chain; slots = h.slots; code = h.code; elements = h.elements; wanted = f }
  entered_by false es ds f h = h

  entered_tied : {w : Tabs} (e : Element) (x : Option Code) (a b : Obj) → ObjT F S w x a b → ObjT F S w x (entered_in e a) (entered_in e b)
  unfolding entered_in
  entered_tied e x a b h = rw (← is_some_same h.elements) (entered_by (is_some a.elements) _ _ (entered_both e a.wanted b.wanted h.wanted) h)

  element_t : {w : W} (e : Option Element) {a b : Val} → Vals w.w a b → Sim T Done w (enter_element e a) (enter_element e b)
  unfolding enter_element
  element_t None h = sim_ret T tt tt tt
  element_t (Some e) prim_t = sim_ret T tt tt tt
  element_t (Some e) out_t = sim_ret T tt tt tt
  element_t (Some e) (obj_t o) = change_t o _ _ (λ x a b h. entered_tied e x a b h)

  pub receive_t : {w : W} (t : Option TypeSet) {a b : Val} → Vals w.w a b → Sim T Done w (receive t a) (receive t b)
  unfolding receive
  receive_t None h = sim_ret T tt tt tt
  receive_t (Some t) h = element_t t.element h

  pub receive_all_t : {w : W} (ts : List TypeSet) {a b : Val} → Vals w.w a b → Sim T Done w (receive_all ts a) (receive_all ts b)
  unfolding receive_all
  receive_all_t [] h = sim_ret T tt tt tt
  receive_all_t (t ∷ ts) h = sim_bind T {R = Done} (receive_t (Some t) h) (λ v l _ _ _. receive_all_t ts (val_more l.2.ext _ _ h))

  pub receive_each_t : {w : W} (ts : List (Option TypeSet)) {vs us : List Val} → ListT (Vals w.w) vs us → Sim T Done w (receive_each ts vs) (receive_each ts us)
  unfolding receive_each
  receive_each_t [] h = sim_ret T tt tt tt
  receive_each_t (t ∷ ts) nil_t = sim_ret T tt tt tt
  receive_each_t (t ∷ ts) (cons_t h k) = sim_bind T {R = Done} (receive_t t h) (λ v l _ _ _. receive_each_t ts (list_as (val_more l.2.ext) k))
