-- What makes objects keeps the injection: literals, functions with their prototypes, instances.
use Rattle.std.proofs.Common.{◌≡◌, ◌⊎◌, inl, inr, ℕ, suc, Bool, true, false, List, [], ◌∷◌, ◌++◌, length, append_assoc, Option, Some, None, refl, sym, ap, subst, ◌∙◌, arith}
use Rattle.std.specs.Prelude.{slice_get, nat_eq, ◌||◌}
use Rattle.std.specs.List.{list_any}
use Rattle.std.proofs.lemmas.Bool.{eq-eqb, eqb-true}
use Rattle.cc_meaning.specs.Values.{Val, obj}
use Rattle.cc_meaning.specs.State.{Code, bare, of_own_name, Frame, Env, State, Tables}
use Rattle.cc_meaning.specs.Monad.{ret, ◌>>=◌, after, said, pick}
use Rattle.cc_meaning.specs.Store.{class_of_function}
use Rattle.cc_meaning.specs.Rules.{prototype_object, prototype_at}
use Rattle.cc_meaning.specs.Acts.{make_object, make_array, chain_from, note_constructed, make_instance, function_object, add_function, push_frame, has_own_name, add_function_by, make_function}
use Rattle.cc_meaning.specs.Alike.{here, there, owns}
use Rattle.cc_tied.specs.Tied.{ListT, nil_t, cons_t, OptT, none_t, some_t, ValT, prim_t, out_t, obj_t}
use Rattle.cc_tied.specs.Facts.{Level, called, named, Facts, innermost, around_function, outward, DeadAt}
use Rattle.cc_tied.specs.Injection.{Pair, Table}
use Rattle.cc_tied.proofs.Parts.{list_as}
use Rattle.cc_tied.proofs.Sim.{Tie, World, ok_t, Sim, sim_as, sim_tables}
use Rattle.cc_tied.proofs.Injection.Table.{table_more, add_both}
use Rattle.cc_tied.proofs.Injection.Places.{places_more, places_of_list}
use Rattle.cc_tied.proofs.Injection.World.{FunctionAt, a_function, Label, Tabs, Ext, Mates, mates_more, Vals, val_more, same_kind, UpT, an_up, up_more, Codes, ObjT, obj_more, FrameT, frame_more, known_more}
use Rattle.cc_tied.proofs.Injection.Tie.{Other, view, StandI, stands_at, EnvI, env_at, with_set, TiedI, inject}
use Rattle.cc_tied.proofs.Injection.Objects.{chain_of_tied, prototype_tied}
use Rattle.cc_tied.proofs.Injection.Acts.{one_longer, owned_new, mated_new, at_of, add_t}

prototype_object_tied : {O : ℕ → ℕ → Type 0} {x y : Option Val} → OptT (ValT O) x y → OptT O (prototype_object x) (prototype_object y)
unfolding prototype_object
prototype_object_tied none_t = none_t
prototype_object_tied (some_t prim_t) = none_t
prototype_object_tied (some_t out_t) = none_t
prototype_object_tied (some_t (obj_t o)) = some_t o

-- ---- classes of which an object was made

pub any_front : (f : ℕ → Bool) (xs ys : List ℕ) → list_any f xs ≡ true → list_any f (xs ++ ys) ≡ true
any_front f [] ys e = absurd (cc)
any_front f (x ∷ xs) ys e = by_test (f x) e (λ d. any_front f xs ys d)
  where
    by_test : (b : Bool) → b || list_any f xs ≡ true → (list_any f xs ≡ true → list_any f (xs ++ ys) ≡ true) → b || list_any f (xs ++ ys) ≡ true
    by_test true e k = refl
    by_test false e k = k e

any_end : (f : ℕ → Bool) (xs : List ℕ) (x : ℕ) → f x ≡ true → list_any f (xs ++ x ∷ []) ≡ true
any_end f [] x e = rw e refl
any_end f (y ∷ xs) x e = by_test (f y) (any_end f xs x e)
  where
    by_test : (b : Bool) → list_any f (xs ++ x ∷ []) ≡ true → b || list_any f (xs ++ x ∷ []) ≡ true
    by_test true k = refl
    by_test false k = k

any_both : (f : ℕ → Bool) (xs : List ℕ) (x : ℕ) → list_any f (xs ++ x ∷ []) ≡ true → (list_any f xs ≡ true) ⊎ (f x ≡ true)
any_both f [] x e = inr (by_test (f x) e)
  where
    by_test : (b : Bool) → b || false ≡ true → b ≡ true
    by_test true e = refl
    by_test false e = e
any_both f (y ∷ xs) x e = by_test (f y) e (λ d. any_both f xs x d)
  where
    by_test : (b : Bool) → b || list_any f (xs ++ x ∷ []) ≡ true → (list_any f (xs ++ x ∷ []) ≡ true → (list_any f xs ≡ true) ⊎ (f x ≡ true)) → (b || list_any f xs ≡ true) ⊎ (f x ≡ true)
    by_test true e k = inl refl
    by_test false e k = k e

abbrev Among : ℕ → List ℕ → Type 0
Among c cs = list_any (λ d. nat_eq d c) cs ≡ true

noted_old : (o : Option ℕ) (cs : List ℕ) (c : ℕ) → Among c cs → Among c (note_constructed o cs)
unfolding note_constructed
noted_old None cs c h = h
noted_old (Some e) cs c h = by_test (list_any (λ d. nat_eq d e) cs)
  where
    by_test : (b : Bool) → Among c (pick b cs (cs ++ e ∷ []))
    by_test true = h
    by_test false = any_front (λ d. nat_eq d c) cs (e ∷ []) h

noted_new : (e : ℕ) (cs : List ℕ) → Among e (note_constructed (Some e) cs)
unfolding note_constructed
noted_new e cs = by_test (list_any (λ d. nat_eq d e) cs) refl
  where
    by_test : (b : Bool) → list_any (λ d. nat_eq d e) cs ≡ b → Among e (pick b cs (cs ++ e ∷ []))
    by_test true q = q
    by_test false q = any_end (λ d. nat_eq d e) cs e (eq-eqb e e refl)

noted_cases : (e : ℕ) (cs : List ℕ) (c : ℕ) → Among c (note_constructed (Some e) cs) → Among c cs ⊎ (nat_eq e c ≡ true)
unfolding note_constructed
noted_cases e cs c h = by_test (list_any (λ d. nat_eq d e) cs) h
  where
    by_test : (b : Bool) → Among c (pick b cs (cs ++ e ∷ [])) → Among c cs ⊎ (nat_eq e c ≡ true)
    by_test true k = inl k
    by_test false k = any_both (λ d. nat_eq d c) cs e k

-- both note a class
pub noted_both : (o : Option ℕ) (cs ds : List ℕ) → ((c : ℕ) → list_any (λ d. nat_eq d c) ds ≡ true → list_any (λ d. nat_eq d c) cs ≡ true) → (c : ℕ) → list_any (λ d. nat_eq d c) (note_constructed o ds) ≡ true → list_any (λ d. nat_eq d c) (note_constructed o cs) ≡ true
unfolding note_constructed
noted_both None cs ds f c h = f c h
noted_both (Some e) cs ds f c h = by_cases (noted_cases e ds c h)
  where
    by_cases : Among c ds ⊎ (nat_eq e c ≡ true) → Among c (note_constructed (Some e) cs)
    by_cases (inl k) = noted_old (Some e) cs c (f c k)
    by_cases (inr k) = subst (λ z. Among z (note_constructed (Some e) cs)) (eqb-true e c k) (noted_new e cs)

-- two objects of this function
pub record MadeT (w : Tabs) (f : ℕ) (x y : Val) : Type 0 where
  pub vals : Vals w x y
  pub made : FunctionAt w f (Some x)

module _ (F : Facts) (S : Tables) (set' : Other S) where
  abbrev R : Tables
  R = with_set S set'

  abbrev T : Tie
  T = inject F S set'

  abbrev W : Type 0
  W = World T

  abbrev Tied : Tabs → State → State → Type 0
  Tied = TiedI F S set'

  -- ---- literals

  pub bare_t : {w : Tabs} (es ds : Option (List Val)) → OptT (ListT (Vals w)) es ds → ObjT F S w None (record bare { elements = es }) (record bare { elements = ds })
  bare_t es ds h = record { label = refl; class = refl; chain = nil_t; slots = nil_t; code = none_t; elements = h; wanted = λ e q. q }

  pub object_t : {w : W} → Sim T (λ v. Vals v.w) w make_object make_object
  unfolding make_object
  object_t = add_t F S set' _ _ (bare_t None None none_t)

  pub array_t : {w : W} {vs us : List Val} → ListT (Vals w.w) vs us → Sim T (λ v. Vals v.w) w (make_array vs) (make_array us)
  unfolding make_array
  array_t h = add_t F S set' _ _ (bare_t _ _ (some_t h))

  -- ---- functions

  -- the pairs of a function and its prototype
  abbrev proto_pair : State → State → Pair (Option Code)
  proto_pair s t = record { label = None; left = length s.objs; right = length t.objs }

  abbrev pub function_pair : Code → State → State → Pair (Option Code)
  function_pair c s t = record { label = Some c; left = length (s.objs ++ bare ∷ []); right = length (t.objs ++ bare ∷ []) }

  abbrev pub made_world : Tabs → Code → State → State → List (Pair Label) → Tabs
  made_world w c s t ps = record w { objs = function_pair c s t ∷ proto_pair s t ∷ w.objs; frames = ps }

  two_more : {A : Type 0} (xs : List A) (a b : A) → (xs ++ a ∷ []) ++ b ∷ [] ≡ xs ++ a ∷ b ∷ []
  two_more xs a b = append_assoc xs (a ∷ []) (b ∷ [])

  -- a function and its prototype are made, and perhaps the frame of its own name
  module _ {w : Tabs} {s t : State} (ti : Tied w s t) (c c' : Code) (ps : List (Pair Label)) (fs gs : List Frame) where
    abbrev V : Tabs
    V = made_world w c s t ps

    apart_tied : Ext w V → Codes F S V c c' → Table (FrameT F S V) (λ y a. a ≡ y) ps w.alone fs gs → Tied V (record s { objs = (s.objs ++ bare ∷ []) ++ function_object c (length s.objs) ∷ []; frames = fs }) (record t { objs = (t.objs ++ bare ∷ []) ++ function_object c' (length t.objs) ∷ []; frames = gs })
    unfolding function_object
    apart_tied e k frames = record {
      tables = ti.tables;
      tables' = ti.tables';
      objs = add_both (add_both (table_more ti.objs (obj_more F S e)) None bare bare (bare_t None None none_t)) (Some c) (function_object c (length s.objs)) (function_object c' (length t.objs)) (record { label = refl; class = refl; chain = nil_t; slots = cons_t (record { name = refl; kind = same_kind; value = obj_t (None, there here); index = λ d. absurd (cc) }) nil_t; code = some_t k; elements = none_t; wanted = λ e q. q });
      owned = owned_new (proto_pair s t ∷ w.objs) (s.objs ++ bare ∷ []) (function_pair c s t) (function_object c (length s.objs)) refl (owned_new w.objs s.objs (proto_pair s t) bare refl ti.owned);
      mated = mated_new (proto_pair s t ∷ w.objs) (t.objs ++ bare ∷ []) (function_pair c s t) (function_object c' (length t.objs)) refl (mated_new w.objs t.objs (proto_pair s t) bare refl ti.mated);
      frames = frames;
      globals = places_more (val_more e) ti.globals;
      known = λ g h d. known_more e (ti.known g h d);
      loaded = ti.loaded;
      begun = ti.begun;
      failed = ti.failed;
      constructed = ti.constructed;
      handles = list_as (λ a b o. mates_more e o) ti.handles;
      replies = ti.replies;
      budget = ti.budget;
      extra = set'.rider.both_made _ (Some c) (function_object c (length s.objs)) (function_object c' (length t.objs)) (set'.rider.both_made (view w s t) None bare bare ti.extra);
    }

    pub function_tied : Ext w V → Codes F S V c c' → Table (FrameT F S V) (λ y a. a ≡ y) ps w.alone fs gs → Tied V (record s { objs = s.objs ++ bare ∷ function_object c (length s.objs) ∷ []; frames = fs }) (record t { objs = t.objs ++ bare ∷ function_object c' (length t.objs) ∷ []; frames = gs })
    function_tied e k frames =
        subst (λ z. Tied V (record s { objs = z; frames = fs }) (record t { objs = t.objs ++ bare ∷ function_object c' (length t.objs) ∷ []; frames = gs })) (two_more s.objs bare (function_object c (length s.objs)))
        (subst (λ z. Tied V (record s { objs = (s.objs ++ bare ∷ []) ++ function_object c (length s.objs) ∷ []; frames = fs }) (record t { objs = z; frames = gs })) (two_more t.objs bare (function_object c' (length t.objs)))
        (apart_tied e k frames))

    -- the two function objects
    pub function_vals : Vals V (obj (suc (length s.objs))) (obj (suc (length t.objs)))
    function_vals =
        subst (λ z. Vals V (obj z) (obj (suc (length t.objs)))) (one_longer s.objs bare)
        (subst (λ z. Vals V (obj (length (s.objs ++ bare ∷ []))) (obj z)) (one_longer t.objs bare)
        (obj_t (Some c, here)))

    pub function_made : MadeT V c.function (obj (suc (length s.objs))) (obj (suc (length t.objs)))
    function_made = record {
      vals = function_vals;
      made = subst (λ z. FunctionAt V c.function (Some (obj z))) (one_longer s.objs bare) (a_function {n = length (t.objs ++ bare ∷ [])} refl here);
    }

  plain_function_t : {w : W} (f i i' : ℕ) {u u' : Option ℕ} → F.Reached f → UpT F S w.w (outward F S (called f)) u u' → Sim T (λ v. MadeT v.w f) w (add_function f i u) (add_function f i' u')
  unfolding add_function ret
  plain_function_t {w = w} f i i' {u = u} {u' = u'} r up s t ti le le' =
      let c : Code = record { function = f; up = u; site = i } in let c' : Code = record { function = f; up = u'; site = i' } in
      let e : Ext w.w (made_world w.w c s t w.w.frames) = record { objs = λ q h. there (there h); frames = λ q h. h; spare = λ q h. h; alone = λ q h. h; begun = λ c h. h } in
      ok_t refl (record { l = w.l; r = w.r; w = made_world w.w c s t w.w.frames }) (omega arith, omega arith, record { ext = e; still = refl; stage = refl }) tt (function_made ti c c' w.w.frames s.frames t.frames)
      (function_tied ti c c' w.w.frames s.frames t.frames e (record { function = record { same = refl; reached = r }; up = up_more F S e up; site = tt }) (table_more ti.frames (frame_more F S e))) le le'

  own_label : (f : ℕ) (u u' : Option ℕ) → State → Label
  own_label f u u' s = record { level = named f; up = u; up' = u'; first = Some (obj (suc (length s.objs))) ∷ [] }

  own_frame : State → Option ℕ → Frame
  own_frame s u = record { kind = of_own_name; up = u; values = Some (obj (suc (length s.objs))) ∷ [] }

  own_up : (f : ℕ) → owns S f ≡ true → outward F S (called f) ≡ Some (named f)
  unfolding outward
  own_up f e = rw e refl

  own_around : {w : Tabs} (f : ℕ) {u u' : Option ℕ} → UpT F S w (around_function F f) u u' → UpT F S w (outward F S (named f)) u u'
  unfolding outward
  own_around f h = h

  own_frame_tied : {w : Tabs} (f : ℕ) {u u' : Option ℕ} (s t : State) → UpT F S w (around_function F f) u u' → Vals w (obj (suc (length s.objs))) (obj (suc (length t.objs))) → FrameT F S w (own_label f u u' s) (own_frame s u) (own_frame t u')
  unfolding own_label own_frame Rattle.cc_tied.specs.Facts.frame_kind
  own_frame_tied f s t up v = record { kind = refl; kind' = refl; up = refl; up' = refl; around = own_around f up; places = places_of_list (cons_t (some_t v) nil_t); fixed = λ n d. refl }

  named_function_t : {w : W} (f i i' : ℕ) {u u' : Option ℕ} → F.Reached f → owns S f ≡ true → UpT F S w.w (around_function F f) u u' → Sim T (λ v. MadeT v.w f) w (add_function_by true f i u) (add_function_by true f i' u')
  unfolding add_function_by add_function push_frame ret ◌>>=◌ after said own_label own_frame
  named_function_t {w = w} f i i' {u = u} {u' = u'} r o up s t ti le le' =
      let c : Code = record { function = f; up = Some (length s.frames); site = i } in let c' : Code = record { function = f; up = Some (length t.frames); site = i' } in
      let q : Pair Label = record { label = own_label f u u' s; left = length s.frames; right = length t.frames } in
      let v : Tabs = made_world w.w c s t (q ∷ w.w.frames) in
      let e : Ext w.w v = record { objs = λ q h. there (there h); frames = λ q h. there h; spare = λ q h. h; alone = λ q h. h; begun = λ c h. h } in
      let k : UpT F S v (outward F S (called f)) (Some (length s.frames)) (Some (length t.frames)) = subst (λ z. UpT F S v z (Some (length s.frames)) (Some (length t.frames))) (sym (own_up f o)) (an_up (own_label f u u' s) refl here) in
      ok_t refl (record { l = w.l; r = w.r; w = v }) (omega arith, omega arith, record { ext = e; still = refl; stage = refl }) tt (function_made ti c c' (q ∷ w.w.frames) s.frames t.frames)
      (function_tied ti c c' (q ∷ w.w.frames) (s.frames ++ own_frame s u ∷ []) (t.frames ++ own_frame t u' ∷ []) e (record { function = record { same = refl; reached = r }; up = k; site = tt })
      (add_both (table_more ti.frames (frame_more F S e)) (own_label f u u' s) (own_frame s u) (own_frame t u') (own_frame_tied f s t (up_more F S e up) (function_vals ti c c' (q ∷ w.w.frames) s.frames t.frames)))) le le'

  plain_up : (f : ℕ) → owns S f ≡ false → outward F S (called f) ≡ around_function F f
  unfolding outward
  plain_up f e = rw e refl

  function_by : {w : W} (b : Bool) (f i i' : ℕ) {u u' : Option ℕ} → F.Reached f → owns S f ≡ b → UpT F S w.w (around_function F f) u u' → Sim T (λ v. MadeT v.w f) w (add_function_by b f i u) (add_function_by b f i' u')
  unfolding add_function_by
  function_by {w = w} false f i i' {u = u} {u' = u'} r e up s t ti le le' = plain_function_t f i i' r (subst (λ z. UpT F S w.w z u u') (sym (plain_up f e)) up) s t ti le le'
  function_by true f i i' r e up s t ti le le' = named_function_t f i i' r e up s t ti le le'

  around_is : (f : ℕ) {o : Option ℕ} {c : ℕ} → (F.parent f).0 ≡ o → (F.parent f).1 ≡ c → innermost o c ≡ around_function F f
  unfolding around_function
  around_is f p q = rw (p, q) refl

  owns_by : (f : ℕ) → owns S f ≡ has_own_name (slice_get S.heads f)
  unfolding owns
  owns_by f = refl

  pub function_made_t : {w : W} {c : Rattle.cc_tied.proofs.Injection.Tie.Ctx} {g h : Env} {f f' : ℕ} (i i' : ℕ) → StandI F c f f' → EnvI F S set' w.w c g h → Sim T (λ v. MadeT v.w f) w (make_function f i g) (make_function f' i' h)
  unfolding make_function
  function_made_t {w = w} {g = g} {h = h} i i' (stands_at {f = f} r p q) (env_at u t d) = sim_tables T _ _ (function_by (has_own_name (slice_get S.heads f)) f i i' r (owns_by f) (subst (λ z. UpT F S w.w z g.at h.at) (around_is f p q) u))

  pub function_t : {w : W} {c : Rattle.cc_tied.proofs.Injection.Tie.Ctx} {g h : Env} {f f' : ℕ} (i i' : ℕ) → StandI F c f f' → EnvI F S set' w.w c g h → Sim T (λ v. Vals v.w) w (make_function f i g) (make_function f' i' h)
  function_t {f = f} i i' s e = sim_as T {R = λ v. MadeT v.w f} (λ v l x y q. q.vals) (function_made_t i i' s e)

  -- ---- instances

  pub prototype_at_tied : {w : Tabs} {s t : State} → Tied w s t → {a b : Val} → Vals w a b → OptT (Mates w) (prototype_at s a) (prototype_at t b)
  unfolding prototype_at
  prototype_at_tied ti prim_t = none_t
  prototype_at_tied ti out_t = none_t
  prototype_at_tied {w = w} ti (obj_t o) = prototype_object_tied (prototype_tied F S w (at_of F S set' ti _ _ o))

  chain_from_tied : {w : Tabs} {s t : State} → Tied w s t → {o p : Option ℕ} → OptT (Mates w) o p → ListT (Mates w) (chain_from s o) (chain_from t p)
  unfolding chain_from
  chain_from_tied ti none_t = nil_t
  chain_from_tied {w = w} {s = s} {t = t} ti (some_t o) = chain_of_tied F S w s.objs t.objs (at_of F S set' ti) o

  class_same : (f : ℕ) → class_of_function S f ≡ class_of_function R f
  unfolding class_of_function
  class_same f = refl

  class_in_states : {w : Tabs} {s t : State} → Tied w s t → (f : ℕ) → class_of_function s.tables f ≡ class_of_function t.tables f
  class_in_states ti f = ap (λ z. class_of_function z f) ti.tables ∙ class_same f ∙ sym (ap (λ z. class_of_function z f) ti.tables')

  with_constructed : {w : Tabs} {s t : State} (o p : Option ℕ) → o ≡ p → Tied w s t → Tied w (record s { constructed = note_constructed o s.constructed }) (record t { constructed = note_constructed p t.constructed })
  with_constructed {s = s} {t = t} o p e ti = record { tables = ti.tables; tables' = ti.tables'; objs = ti.objs; owned = ti.owned; mated = ti.mated; frames = ti.frames; globals = ti.globals; known = ti.known; loaded = ti.loaded; begun = ti.begun; failed = ti.failed; constructed = λ c h. noted_both o s.constructed t.constructed ti.constructed c (subst (λ z. Among c (note_constructed z t.constructed)) (sym e) h); handles = ti.handles; replies = ti.replies; budget = ti.budget; extra = ti.extra }

  instance_one : {w : W} {m n : ℕ} → Mates w.w m n → (f : ℕ) → Sim T (λ v. Vals v.w) w (make_instance m f) (make_instance n f)
  unfolding make_instance
  instance_one {w = w} {m = m} {n = n} o f s t ti le le' =
      let c = class_in_states ti f in
      add_t F S set' (record bare { class = class_of_function s.tables f; chain = chain_from s (prototype_at s (obj m)) }) (record bare { class = class_of_function t.tables f; chain = chain_from t (prototype_at t (obj n)) })
      (record { label = refl; class = c; chain = chain_from_tied ti (prototype_at_tied ti (obj_t o)); slots = nil_t; code = none_t; elements = none_t; wanted = λ e q. q })
      (record s { constructed = note_constructed (class_of_function s.tables f) s.constructed }) (record t { constructed = note_constructed (class_of_function t.tables f) t.constructed }) (with_constructed _ _ c ti) le le'

  pub instance_t : {w : W} {m n : ℕ} {a b : Code} → Mates w.w m n → Codes F S w.w a b → Sim T (λ v. Vals v.w) w (make_instance m a.function) (make_instance n b.function)
  instance_t {a = a} o h = rw (← h.function.same) (instance_one o a.function)
