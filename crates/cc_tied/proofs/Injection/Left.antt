-- What the left run makes and changes alone keeps the injection: objects, functions, slots of its own objects, element types, frames.
use Rattle.std.proofs.Common.{◌≡◌, ◌≢◌, ◌⊎◌, inl, inr, ℕ, suc, ◌<◌, Bool, true, false, List, [], ◌∷◌, ◌++◌, length, append_assoc, Option, Some, None, is_some, refl, sym, ap, subst, ◌∙◌, arith}
use Rattle.std.specs.Prelude.{slice_get, slice_set}
use Rattle.cc_ast.specs.Syntax.{Prim}
use Rattle.cc_ast.specs.declared.tables.TypeSet.{TypeSet}
use Rattle.cc_ast.specs.declared.tables.Element.{Element}
use Rattle.cc_meaning.specs.Values.{Val, prim, obj, out, Spot}
use Rattle.cc_meaning.specs.State.{Kind, Code, Obj, bare, FrameKind, of_own_name, Frame, Env, State, Tables}
use Rattle.cc_meaning.specs.Monad.{M, Res, broken, ret, stop, ◌>>=◌, after, said, with_tables, pick}
use Rattle.cc_meaning.specs.Store.{flat_option, Access, name_of, kind_for, find_slot, change, changed_at, put_own, put_by, put_in_array}
use Rattle.cc_meaning.specs.Names.{index_value, name_prototype}
use Rattle.cc_meaning.specs.Typed.{entered, entered_in}
use Rattle.cc_meaning.specs.SlotRules.{prototype_of_function, fields_reached}
use Rattle.cc_meaning.specs.Judge.{Act, writes, least_broken}
use Rattle.cc_meaning.specs.Acts.{judged, allowed, refused, is_fatal, changing, enter_element, receive, receive_all, receive_each, add_obj, make_object, make_array, function_object, add_function, push_frame, has_own_name, add_function_by, make_function, write_slot}
use Rattle.cc_meaning.specs.Script.{checked}
use Rattle.cc_meaning.specs.Alike.{In, here, there}
use Rattle.cc_tied.specs.Facts.{Facts}
use Rattle.cc_tied.specs.Injection.{Pair, Holds, holds, Table}
use Rattle.cc_tied.proofs.Lists.{place_cases, get_set_same, get_set_other}
use Rattle.cc_tied.proofs.Parts.{list_as}
use Rattle.cc_tied.proofs.Sim.{Tie, World, Later, now}
use Rattle.cc_tied.proofs.Left as L
use Rattle.cc_tied.proofs.Injection.Table.{fresh_left, table_more, add_left, add_lone, set_lone, set_any}
use Rattle.cc_tied.proofs.Injection.Places.{places_more}
use Rattle.cc_tied.proofs.Injection.World.{Tabs, Ext, ext_same, KnownT, Mate, mates_more, val_more, ObjT, obj_more, FrameT, frame_more, known_more}
use Rattle.cc_tied.proofs.Injection.Tie.{Other, view, Owned, TiedI, inject}
use Rattle.cc_tied.proofs.Injection.Types.{entered_old}
use Rattle.cc_tied.proofs.Injection.Acts.{get_beside, one_longer, set_length, AllOwned, mated_more, with_objs}

-- ---- prototypes of functions, where the left alone makes an object or changes one

-- the prototype of such an object stands in no pair, and it is there
abbrev pub Lonely : List (Pair (Option Code)) → List Obj → Obj → Type 0
Lonely ps os x = (p : ℕ) → prototype_of_function (Some x) ≡ Some (obj p) → (p < length os) × (Mate ps p → ⊥)

pub no_code_lonely : (ps : List (Pair (Option Code))) (os : List Obj) (x : Obj) → x.code ≡ None → Lonely ps os x
unfolding prototype_of_function
no_code_lonely ps os x e p d = absurd (nothing (x.code) e d)
  where
    nothing : (c : Option Code) → c ≡ None → pick (is_some c) (find_slot x.slots name_prototype) None ≡ Some (obj p) → ⊥
    nothing None e d = absurd (cc)
    nothing (Some c) e d = absurd (cc)

owned_longer : (ps : List (Pair (Option Code))) (os : List Obj) (x : Obj) {m p : ℕ} → Owned ps os m p → Owned ps (os ++ x ∷ []) m p
owned_longer ps os x (inl h) = inl h
owned_longer ps os x (inr h) = inr (let d = one_longer os x in let k = h.0 in omega arith, h.1)

owned_at : (ps : List (Pair (Option Code))) (os : List Obj) (x : Obj) → Lonely ps os x → AllOwned ps os → (m p : ℕ) → (m ≡ length os) ⊎ (m ≢ length os) → prototype_of_function (slice_get (os ++ x ∷ []) m) ≡ Some (obj p) → Owned ps (os ++ x ∷ []) m p
owned_at ps os x h o m p (inl d) k =
    let q = h p (sym (ap prototype_of_function (ap (λ z. slice_get (os ++ x ∷ []) z) d ∙ Rattle.cc_tied.proofs.Lists.get_new os x)) ∙ k) in
    inr (let e = one_longer os x in let r = q.0 in omega arith, q.1)
owned_at ps os x h o m p (inr d) k = owned_longer ps os x (o m p (sym (ap prototype_of_function (get_beside os x m d)) ∙ k))

pub owned_left : (ps : List (Pair (Option Code))) (os : List Obj) (x : Obj) → Lonely ps os x → AllOwned ps os → AllOwned ps (os ++ x ∷ [])
owned_left ps os x h o m p k = owned_at ps os x h o m p (place_cases m (length os)) k

owned_shorter : (ps : List (Pair (Option Code))) (os os' : List Obj) → length os ≡ length os' → {m p : ℕ} → Owned ps os m p → Owned ps os' m p
owned_shorter ps os os' e (inl h) = inl h
owned_shorter ps os os' e (inr h) = inr (let k = h.0 in omega arith, h.1)

owned_change : (ps : List (Pair (Option Code))) (os : List Obj) → AllOwned ps os → (n : ℕ) (o x : Obj) → slice_get os n ≡ Some o → prototype_of_function (Some x) ≡ prototype_of_function (Some o) → (m p : ℕ) → (n ≡ m) ⊎ (n ≢ m) → prototype_of_function (slice_get (slice_set os n x) m) ≡ Some (obj p) → Owned ps (slice_set os n x) m p
owned_change ps os a n o x e d m p (inl i) k =
    let j : prototype_of_function (slice_get os m) ≡ Some (obj p) = ap prototype_of_function (ap (λ z. slice_get os z) (sym i) ∙ e) ∙ sym d ∙ sym (ap prototype_of_function (ap (λ z. slice_get (slice_set os n x) z) (sym i) ∙ get_set_same os n o x e)) ∙ k in
    owned_shorter ps os (slice_set os n x) (sym (set_length os n x)) (a m p j)
owned_change ps os a n o x e d m p (inr i) k = owned_shorter ps os (slice_set os n x) (sym (set_length os n x)) (a m p (sym (ap prototype_of_function (get_set_other os n m x i)) ∙ k))

-- an object changes that keeps its prototype
pub owned_any : (ps : List (Pair (Option Code))) (os : List Obj) → AllOwned ps os → (n : ℕ) (o x : Obj) → slice_get os n ≡ Some o → prototype_of_function (Some x) ≡ prototype_of_function (Some o) → AllOwned ps (slice_set os n x)
owned_any ps os a n o x e d m p k = owned_change ps os a n o x e d m p (place_cases n m) k

module _ (F : Facts) (S : Tables) (set' : Other S) where
  abbrev T : Tie
  T = inject F S set'

  abbrev W : Type 0
  W = World T

  abbrev Tied : Tabs → State → State → Type 0
  Tied = TiedI F S set'

  abbrev pub Silent : {A : Type 0} → (W → A → Type 0) → W → M A → Type 0
  Silent = L.Silent T tt

  abbrev pub Alone : {A : Type 0} → (W → A → Type 0) → W → State → Res A → Type 0
  Alone = L.Alone T tt

  abbrev pub Any : {A : Type 0} → W → A → Type 0
  Any v a = Unit {0}

  -- ---- acts

  refused_alone : {A : Type 0} {Q : W → A → Type 0} {w : W} {t : State} (i : Spot) (b : Bool) (r : ℕ) (m : M A) (s : State) → Alone Q w t (refused checked i b r m s)
  unfolding refused stop ◌>>=◌ after
  refused_alone i true r m s = L.alone_broken
  refused_alone i false r m s = L.alone_broken

  -- where the act breaks no rule, what happens keeps the tie
  pub judged_alone : {A : Type 0} {Q : W → A → Type 0} {w : W} {t : State} (i : Spot) (a : Act) (m : M A) (s : State) → Alone Q w t (m s) → Alone Q w t (judged checked i a m s)
  unfolding judged allowed
  judged_alone {Q = Q} {w = w} {t = t} i a m s h = by_rule (least_broken s.tables s a)
    where
      by_rule : (o : Option ℕ) → Alone Q w t (allowed checked i a o m s)
      by_rule None = h
      by_rule (Some r) = refused_alone i (is_fatal a r) r m s

  pub silent_judged : {A : Type 0} {Q : W → A → Type 0} {w : W} (i : Spot) (a : Act) (m : M A) → Silent Q w m → Silent Q w (judged checked i a m)
  silent_judged i a m h = record { by = λ s t ti le le'. judged_alone i a m s (h.by s t ti le le') }

  pub silent_any : {A : Type 0} {w : W} (a : A) → Silent Any w (ret a)
  silent_any a = L.silent_ret T tt a tt

  pub silent_then : {A B : Type 0} {P : W → B → Type 0} {w : W} {m : M A} {k : A → M B} → Silent Any w m → ((v : W) → Later T w v → (a : A) → Silent P v (k a)) → Silent P w (m >>= k)
  silent_then h f = L.silent_bind T tt {Q = Any} h (λ v l a q. f v l a)

  alone_as : {A : Type 0} {P Q : W → A → Type 0} {w : W} {t : State} {r : Res A} → ((v : W) → Later T w v → (a : A) → P v a → Q v a) → Alone P w t r → Alone Q w t r
  alone_as f (L.alone_ok d v l st q ti le le') = L.alone_ok d v l st (f v l _ q) ti le le'
  alone_as f L.alone_broken = L.alone_broken

  pub silent_as : {A : Type 0} {P Q : W → A → Type 0} {w : W} {m : M A} → ((v : W) → Later T w v → (a : A) → P v a → Q v a) → Silent P w m → Silent Q w m
  silent_as f h = record { by = λ s t ti le le'. alone_as f (h.by s t ti le le') }

  pub silent_tables : {A : Type 0} {P : W → A → Type 0} {w : W} (f : Tables → M A) → Silent P w (f S) → Silent P w (with_tables f)
  unfolding with_tables
  silent_tables {P = P} {w = w} f h = record { by = λ s t ti le le'. subst (λ z. Alone P w t (f z s)) (sym ti.tables) (h.by s t ti le le') }

  -- a part that leaves the state
  pub still : {A : Type 0} {Q : W → A → Type 0} {w : W} {s t : State} (a : A) → Q w a → Tied w.w s t → Rattle.std.proofs.Common.◌≤◌ s.budget w.l → Rattle.std.proofs.Common.◌≤◌ t.budget w.r → Alone Q w t (ret a s)
  unfolding ret
  still {w = w} a q ti le le' = L.alone_ok refl w (now T w) tt q ti le le'

  pub silent_stop : {A : Type 0} {Q : W → A → Type 0} {w : W} (r : ℕ) (i : Spot) → Silent {A = A} Q w (stop (broken r i))
  unfolding stop
  silent_stop r i = record { by = λ s t ti le le'. L.alone_broken }

  -- ---- objects that the left alone makes

  -- an object of the left alone that is no function
  pub data Spare (w : Tabs) : Val → Type 0 where
    spare : {m : ℕ} → In (record { place = m; entry = tt }) w.spare → Spare w (obj m)

  pub spare_more : {v w : Tabs} {x : Val} → Ext v w → Spare v x → Spare w x
  spare_more l (spare h) = spare (l.spare _ h)

  abbrev with_spare : Tabs → ℕ → Tabs
  with_spare w n = record w { spare = record { place = n; entry = tt } ∷ w.spare }

  ext_spare : (w : Tabs) (n : ℕ) → Ext w (with_spare w n)
  ext_spare w n = record { objs = λ q h. h; frames = λ q h. h; spare = λ q h. there h; alone = λ q h. h; begun = λ c h. h }

  -- the same state in a world with more of the left alone
  in_more : {v w : Tabs} {s t : State} → Ext v w → v.still ≡ w.still → v.begun ≡ w.begun → Tied v s t → (os : List Obj) (fs : List Frame) → Table (ObjT F S w) (λ y a. a.code ≡ None) w.objs w.spare os t.objs → AllOwned w.objs os → Table (FrameT F S w) (λ y a. a ≡ y) w.frames w.alone fs t.frames → set'.rider.Rides (view w (record s { objs = os; frames = fs }) t) → Tied w (record s { objs = os; frames = fs }) t
  in_more {w = w} {s = s} e d b ti os fs objs owned frames x = record {
    tables = ti.tables;
    tables' = ti.tables';
    objs = objs;
    owned = owned;
    mated = mated_more e.objs _ ti.mated;
    frames = frames;
    globals = places_more (val_more e) ti.globals;
    known = λ g h k. subst (λ z. KnownT w z g h (flat_option (slice_get s.globals g))) d (known_more e (ti.known g h k));
    loaded = ti.loaded;
    begun = λ c q. ti.begun c (subst (λ z. In c z) (sym b) q);
    failed = ti.failed;
    constructed = ti.constructed;
    handles = list_as (λ m n o. mates_more e o) ti.handles;
    replies = ti.replies;
    budget = ti.budget;
    extra = x;
  }

  spare_added : {w : Tabs} {s t : State} (x : Obj) → x.code ≡ None → Tied w s t → Tied (with_spare w (length s.objs)) (record s { objs = s.objs ++ x ∷ [] }) t
  spare_added {w = w} {s = s} {t = t} x c ti =
      let e = ext_spare w (length s.objs) in
      in_more e refl refl ti (s.objs ++ x ∷ []) s.frames (add_lone (table_more ti.objs (obj_more F S e)) tt x c) (owned_left w.objs s.objs x (no_code_lonely w.objs s.objs x c) ti.owned) (table_more ti.frames (frame_more F S e)) (set'.rider.spare_made (view w s t) x ti.extra)

  pub left_adds : {w : W} (x : Obj) → x.code ≡ None → Silent (λ v y. Spare v.w y) w (add_obj x)
  unfolding add_obj ret
  left_adds {w = w} x c = record { by = λ s t ti le le'. L.alone_ok refl (record { l = w.l; r = w.r; w = with_spare w.w (length s.objs) }) (omega arith, omega arith, record { ext = ext_spare w.w (length s.objs); still = refl; stage = refl }) tt (spare here) (spare_added x c ti) le le' }

  pub left_object : {w : W} → Silent (λ v y. Spare v.w y) w make_object
  unfolding make_object
  left_object = left_adds bare refl

  pub left_array : {w : W} (vs : List Val) → Silent (λ v y. Spare v.w y) w (make_array vs)
  unfolding make_array
  left_array vs = left_adds (record bare { elements = Some vs }) refl

  -- ---- functions that the left alone makes

  -- a function whose prototype stands in no pair
  function_lonely : (ps : List (Pair (Option Code))) (os : List Obj) (c : Code) (p : ℕ) → p < length os → (Mate ps p → ⊥) → Lonely ps os (function_object c p)
  unfolding prototype_of_function function_object find_slot Rattle.cc_meaning.specs.Operators.list_eq
  function_lonely ps os c p less apart q e = let d : obj p ≡ obj q = cc in let i : p ≡ q = cc in (subst (λ z. z < length os) i less, λ j. apart (subst (λ z. Mate ps z) (sym i) j))

  left_two : {w : Tabs} {s t : State} → Tied w s t → (c : Code) → Table (ObjT F S w) (λ y a. a.code ≡ None) w.objs w.spare (s.objs ++ bare ∷ function_object c (length s.objs) ∷ []) t.objs × AllOwned w.objs (s.objs ++ bare ∷ function_object c (length s.objs) ∷ [])
  left_two {w = w} {s = s} {t = t} ti c =
      let one : AllOwned w.objs (s.objs ++ bare ∷ []) = owned_left w.objs s.objs bare (no_code_lonely w.objs s.objs bare refl) ti.owned in
      let e = append_assoc s.objs (bare ∷ []) (function_object c (length s.objs) ∷ []) in
      let less : length s.objs < length (s.objs ++ bare ∷ []) = let d = one_longer s.objs bare in omega arith in (
        subst (λ z. Table (ObjT F S w) (λ y a. a.code ≡ None) w.objs w.spare z t.objs) e (add_left (add_left ti.objs bare) (function_object c (length s.objs))),
        subst (λ z. AllOwned w.objs z) e (owned_left w.objs (s.objs ++ bare ∷ []) (function_object c (length s.objs)) (function_lonely w.objs (s.objs ++ bare ∷ []) c (length s.objs) less (λ h. fresh_left ti.objs _ h.mates refl)) one),
      )

  function_left : {w : Tabs} {s t : State} (c : Code) (fs : List Frame) → Tied w s t → Table (FrameT F S w) (λ y a. a ≡ y) w.frames w.alone fs t.frames → Tied w (record s { objs = s.objs ++ bare ∷ function_object c (length s.objs) ∷ []; frames = fs }) t
  function_left {w = w} {s = s} {t = t} c fs ti h =
      let k = left_two ti c in
      in_more (ext_same w) refl refl ti (s.objs ++ bare ∷ function_object c (length s.objs) ∷ []) fs k.0 k.1 h
      (subst (λ z. set'.rider.Rides (view w (record s { objs = z }) t)) (append_assoc s.objs (bare ∷ []) (function_object c (length s.objs) ∷ [])) (set'.rider.left_made _ (function_object c (length s.objs)) (set'.rider.left_made (view w s t) bare ti.extra)))

  left_function_by : {w : W} (b : Bool) (f i : ℕ) (u : Option ℕ) → Silent Any w (add_function_by b f i u)
  unfolding add_function_by add_function push_frame ret ◌>>=◌ after said
  left_function_by {w = w} false f i u = record { by = λ s t ti le le'. L.alone_ok refl w (now T w) tt tt (function_left (record { function = f; up = u; site = i }) s.frames ti ti.frames) le le' }
  left_function_by {w = w} true f i u = record { by = λ s t ti le le'. L.alone_ok refl w (now T w) tt tt (function_left (record { function = f; up = Some (length s.frames); site = i }) (s.frames ++ (record { kind = of_own_name; up = u; values = Some (obj (suc (length s.objs))) ∷ [] }) ∷ []) ti (add_left ti.frames _)) le le' }

  pub left_function : {w : W} (f i : ℕ) (g : Env) → Silent Any w (make_function f i g)
  unfolding make_function
  left_function f i g = silent_tables _ (left_function_by (has_own_name (slice_get S.heads f)) f i g.at)

  -- ---- objects that the left alone changes

  -- whichever object it is
  any_changes : {w : Tabs} {s t : State} (n : ℕ) (f : Obj → Obj) → ((x : Option Code) (a b : Obj) → ObjT F S w x a b → ObjT F S w x (f a) b) → ((a : Obj) → (f a).code ≡ a.code) → ((a : Obj) → f a ≡ record a { wanted = (f a).wanted }) → ((a : Obj) → prototype_of_function (Some (f a)) ≡ prototype_of_function (Some a)) → Tied w s t → Tied w (change n f s) t
  unfolding change changed_at
  any_changes {w = w} {s = s} {t = t} n f keep code slots owner ti = by_object (slice_get s.objs n) refl
    where
      by_object : (o : Option Obj) → slice_get s.objs n ≡ o → Tied w (record s { objs = changed_at s.objs n o f }) t
      by_object None e = with_objs F S set' s.objs t.objs ti ti.objs ti.owned ti.mated ti.extra
      by_object (Some o) e = with_objs F S set' (slice_set s.objs n (f o)) t.objs ti (set_any ti.objs n o (f o) e (λ x b h. keep x o b h) (λ y h. code o ∙ h)) (owned_any w.objs s.objs ti.owned n o (f o) e (owner o)) ti.mated (set'.rider.any_changed (view w s t) n o (f o) e (slots o) ti.extra)

  entered_left : {w : Tabs} (e : Element) (x : Option Code) (a b : Obj) → ObjT F S w x a b → ObjT F S w x (entered_in e a) b
  unfolding entered_in
  entered_left {w = w} e x a b h = by_elements (is_some a.elements)
    where
      by_elements : (c : Bool) → ObjT F S w x (pick c (record a { wanted = entered e a.wanted }) a) b
      by_elements true = record { label = h.label; class = h.class; chain = h.chain; slots = h.slots; code = h.code; elements = h.elements; wanted = λ d q. entered_old e d a.wanted (h.wanted d q) }
      by_elements false = h

  entered_code : (e : Element) (a : Obj) → (entered_in e a).code ≡ a.code
  unfolding entered_in
  entered_code e a = by_elements (is_some a.elements)
    where
      by_elements : (c : Bool) → (pick c (record a { wanted = entered e a.wanted }) a).code ≡ a.code
      by_elements true = refl
      by_elements false = refl

  entered_slots : (e : Element) (a : Obj) → entered_in e a ≡ record a { wanted = (entered_in e a).wanted }
  unfolding entered_in
  entered_slots e a = by_elements (is_some a.elements)
    where
      by_elements : (c : Bool) → pick c (record a { wanted = entered e a.wanted }) a ≡ record a { wanted = (pick c (record a { wanted = entered e a.wanted }) a).wanted }
      by_elements true = refl
      by_elements false = refl

  entered_owner : (e : Element) (a : Obj) → prototype_of_function (Some (entered_in e a)) ≡ prototype_of_function (Some a)
  unfolding entered_in prototype_of_function
  entered_owner e a = by_elements (is_some a.elements)
    where
      by_elements : (c : Bool) → pick (is_some (pick c (record a { wanted = entered e a.wanted }) a).code) (find_slot (pick c (record a { wanted = entered e a.wanted }) a).slots name_prototype) None ≡ pick (is_some a.code) (find_slot a.slots name_prototype) None
      by_elements true = refl
      by_elements false = refl

  left_enters : {w : W} (e : Option Element) (v : Val) → Silent Any w (enter_element e v)
  unfolding enter_element changing ret
  left_enters None v = silent_any tt
  left_enters (Some e) (prim p) = silent_any tt
  left_enters (Some e) (out n) = silent_any tt
  left_enters {w = w} (Some e) (obj n) = record { by = λ s t ti le le'. L.alone_ok refl w (now T w) tt tt (any_changes n (entered_in e) (entered_left e) (entered_code e) (entered_slots e) (entered_owner e) ti) le le' }

  pub left_receives : {w : W} (t : Option TypeSet) (v : Val) → Silent Any w (receive t v)
  unfolding receive
  left_receives None v = silent_any tt
  left_receives (Some t) v = left_enters t.element v

  pub left_receives_all : {w : W} (ts : List TypeSet) (v : Val) → Silent Any w (receive_all ts v)
  unfolding receive_all
  left_receives_all [] v = silent_any tt
  left_receives_all (t ∷ ts) v = silent_then (left_receives (Some t) v) (λ u l _. left_receives_all ts v)

  pub left_receives_each : {w : W} (ts : List (Option TypeSet)) (vs : List Val) → Silent Any w (receive_each ts vs)
  unfolding receive_each
  left_receives_each [] vs = silent_any tt
  left_receives_each (t ∷ ts) [] = silent_any tt
  left_receives_each (t ∷ ts) (v ∷ vs) = silent_then (left_receives t v) (λ u l _. left_receives_each ts vs)

  -- a slot of an object of its own
  put_code : (n : List ℕ) (k : Kind) (v : Val) (a : Obj) → (put_own n k v a).code ≡ a.code
  unfolding put_own put_by put_in_array
  put_code n k v a = by_elements a.elements (index_value n)
    where
      by_elements : (o : Option (List Val)) (i : Option ℕ) → (put_by o a n k v).code ≡ a.code
      by_elements None i = refl
      by_elements (Some vs) i = by_index (index_value n)
        where
          by_index : (i : Option ℕ) → (put_in_array a vs n k v i).code ≡ a.code
          by_index None = refl
          by_index (Some i) = refl

  no_owner : (a : Obj) → a.code ≡ None → prototype_of_function (Some a) ≡ None
  unfolding prototype_of_function
  no_owner a e = rw e refl

  spare_put : {w : Tabs} {s t : State} (m : ℕ) (n : List ℕ) (k : Kind) (v : Val) → In (record { place = m; entry = tt }) w.spare → Tied w s t → Tied w (change m (put_own n k v) s) t
  unfolding change changed_at
  spare_put {w = w} {s = s} {t = t} m n k v q ti = by_object (slice_get s.objs m) refl (ti.objs.lone _ q)
    where
      by_object : (o : Option Obj) → slice_get s.objs m ≡ o → Holds (λ a. a.code ≡ None) o → Tied w (record s { objs = changed_at s.objs m o (put_own n k v) }) t
      by_object _ e (holds {a = a} h) =
          let c : (put_own n k v a).code ≡ None = put_code n k v a ∙ h in
          with_objs F S set' (slice_set s.objs m (put_own n k v a)) t.objs ti (set_lone ti.objs _ q (put_own n k v a) (λ y. c) a e) (owned_any w.objs s.objs ti.owned m a (put_own n k v a) e (no_owner (put_own n k v a) c ∙ sym (no_owner a h))) ti.mated (set'.rider.spare_changed (view w s t) _ q (put_own n k v a) ti.extra)

  pub left_writes : {w : W} (i : Spot) {m : ℕ} → Spare w.w (obj m) → (a : Access) (k : Kind) (v : Val) (d : Bool) → Silent Any w (write_slot checked i m a k v d)
  unfolding write_slot changing ret
  left_writes {w = w} i (spare {m = m} q) a k v d =
      silent_then (silent_judged i (writes (obj m) a v d) _ (record { by = λ s t ti le le'. L.alone_ok refl w (now T w) tt tt (spare_put m (name_of s.tables a) (kind_for s.tables (name_of s.tables a) k) v q ti) le le' })) (λ u l _.
      record { by = λ s t ti le le'. (left_receives_all (fields_reached s.tables s.objs m a) v).by s t ti le le' })

  -- ---- frames that the left alone makes

  abbrev with_alone : Tabs → ℕ → Frame → Tabs
  with_alone w n a = record w { alone = record { place = n; entry = a } ∷ w.alone }

  ext_alone : (w : Tabs) (n : ℕ) (a : Frame) → Ext w (with_alone w n a)
  ext_alone w n a = record { objs = λ q h. h; frames = λ q h. h; spare = λ q h. h; alone = λ q h. there h; begun = λ c h. h }

  frame_left : {w : Tabs} {s t : State} (a : Frame) → Tied w s t → Tied (with_alone w (length s.frames) a) (record s { frames = s.frames ++ a ∷ [] }) t
  frame_left {w = w} {s = s} a ti =
      let e = ext_alone w (length s.frames) a in
      in_more e refl refl ti s.objs (s.frames ++ a ∷ []) (table_more ti.objs (obj_more F S e)) ti.owned (add_lone (table_more ti.frames (frame_more F S e)) a a refl) ti.extra

  pub left_pushes : {w : W} (k : FrameKind) (u : Option ℕ) (vs : List (Option Val)) → Silent (λ v n. In (record { place = n; entry = record { kind = k; up = u; values = vs } }) v.w.alone) w (push_frame k u vs)
  unfolding push_frame ret
  left_pushes {w = w} k u vs = record { by = λ s t ti le le'. let a : Frame = record { kind = k; up = u; values = vs } in L.alone_ok refl (record { l = w.l; r = w.r; w = with_alone w.w (length s.frames) a }) (omega arith, omega arith, record { ext = ext_alone w.w (length s.frames) a; still = refl; stage = refl }) tt here (frame_left a ti) le le' }
