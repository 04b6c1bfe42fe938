-- A declaration of a holder, run: an empty literal that a holder is set to.
use Rattle.std.proofs.Common.{◌≡◌, ◌⊎◌, inl, inr, ℕ, zero, suc, ◌≤◌, List, [], ◌∷◌, ◌++◌, length, Option, Some, None, refl, sym, ap, subst, ◌∙◌, arith}
use Rattle.std.specs.Prelude.{slice_get, slice_set}
use Rattle.cc_ast.specs.Syntax.{object, no_fields}
use Rattle.cc_ast.specs.declared.tables.TypeSet.{TypeSet}
use Rattle.cc_ast.specs.declared.tables.Element.{Element}
use Rattle.cc_ast.specs.declared.tree.Ref.{Ref}
use Rattle.cc_meaning.specs.Values.{Val, obj, Spot}
use Rattle.cc_meaning.specs.State.{Kind, Code, Obj, bare, Env, Path, State, Tables}
use Rattle.cc_meaning.specs.Monad.{M, Res, ok, ret, after, said, ◌>>=◌, with_tables}
use Rattle.cc_meaning.specs.Store.{changed_at, change}
use Rattle.cc_meaning.specs.Typed.{Variable, global, variable_type, of_opt_type, entered_in}
use Rattle.cc_meaning.specs.Rules.{keep_rule}
use Rattle.cc_meaning.specs.Judge.{keeps, least_broken}
use Rattle.cc_meaning.specs.Acts.{judged, allowed, changing, enter_element, receive, set_global, keep, write_var, add_obj, make_object}
use Rattle.cc_meaning.specs.Calls.{Bodies, value, value_of}
use Rattle.cc_meaning.specs.Meaning.{ev, ev_fields}
use Rattle.cc_meaning.specs.Script.{checked}
use Rattle.cc_meaning.specs.Alike.{In, here}
use Rattle.cc_tied.specs.Tied.{none_t, obj_t}
use Rattle.cc_tied.specs.Facts.{Facts}
use Rattle.cc_tied.specs.Injection.{Pair, Table}
use Rattle.cc_tied.proofs.Lists.{get_old, get_new}
use Rattle.cc_tied.proofs.Parts.{list_as}
use Rattle.cc_tied.proofs.Laws.{said_none}
use Rattle.cc_tied.proofs.Whole.{WholeT, ok_w, broken_w, Whole}
use Rattle.cc_tied.proofs.Injection.Table.{in_cases, none_in, table_more, add_left, add_right, fresh_left, fresh_right, fresh_lone}
use Rattle.cc_tied.proofs.Injection.Places.{places_more, places_left}
use Rattle.cc_tied.proofs.Injection.Left.{owned_left, owned_any, no_code_lonely}
use Rattle.cc_tied.proofs.Injection.Acts.{mated_apart}
use Rattle.cc_tied.proofs.Injection.Made.{bare_t}
use Rattle.cc_tied.proofs.Injection.Objects.{ObjAt, obj_at}
use Rattle.cc_tied.proofs.Injection.Types.{of_opt_type_same}
use Rattle.cc_tied.proofs.Injection.Rules.{none_unless, unless_none}
use Rattle.cc_tied.proofs.Injection.Ends.{no_tabs}
use Rattle.cc_tied.proofs.Injection.World.{Tabs, Ext, Mates, mates_more, val_more, obj_more, frame_more}
use Rattle.cc_tied.proofs.Injection.Tie.{view}
use Rattle.cc_collapse.proofs.FlatRider.{Plan, HeldT, Undeclared, once, flat_other}
use Rattle.cc_collapse.proofs.FlatSlots.{with_slot}
use Rattle.cc_collapse.proofs.FlatReads.{Stops, as_any, left_any, R, T, W, Tied}
use Rattle.cc_collapse.proofs.FlatWrites.{Globals, set_apart, places_right, no_owner}
use Rattle.cc_collapse.proofs.FlatDeclares.{root_rides, inner_rides}

-- ---- an empty literal, run

abbrev pub with_bare : State → State
with_bare s = record s { objs = s.objs ++ bare ∷ [] }

pub makes : (B : Bodies) (g : Env) (q : Option Path) (j : ℕ) (s : State) → value checked B (ev checked B g q (object j no_fields)) s ≡ ok [] (obj (length s.objs)) (with_bare s)
unfolding value ev ev_fields make_object add_obj ret ◌>>=◌ after said value_of
makes B g q j s = refl

pub makes_then : {A : Type 0} (B : Bodies) (g : Env) (q : Option Path) (j : ℕ) (s : State) (k : Val → M A) → (value checked B (ev checked B g q (object j no_fields)) >>= k) s ≡ k (obj (length s.objs)) (with_bare s)
unfolding ◌>>=◌ after
makes_then B g q j s k = ap (λ z. after z k) (makes B g q j s) ∙ said_none _

-- ---- a variable receives an object that is no array

set_same : {A : Type 0} (xs : List A) (n : ℕ) (x : A) → slice_get xs n ≡ Some x → slice_set xs n x ≡ xs
set_same [] n x e = refl
set_same (y ∷ xs) zero x e = let d : y ≡ x = cc in ap (λ z. z ∷ xs) (sym d)
set_same (y ∷ xs) (suc n) x e = ap (λ z. y ∷ z) (set_same xs n x e)

entered_bare : (e : Element) (o : Obj) → o.elements ≡ None → entered_in e o ≡ o
unfolding entered_in
entered_bare e o q = rw q refl

enters_nothing : (e : Option Element) (m : ℕ) (s : State) (o : Obj) → slice_get s.objs m ≡ Some o → o.elements ≡ None → enter_element e (obj m) s ≡ ok [] tt s
unfolding enter_element changing change changed_at ret
enters_nothing None m s o d q = refl
enters_nothing (Some e) m s o d q = ap (λ z. ok [] tt (record s { objs = changed_at s.objs m z (entered_in e) })) d ∙ ap (λ z. ok [] tt (record s { objs = slice_set s.objs m z })) (entered_bare e o q) ∙ ap (λ z. ok [] tt (record s { objs = z })) (set_same s.objs m o d)

received_bare : (t : Option TypeSet) (m : ℕ) (s : State) (o : Obj) → slice_get s.objs m ≡ Some o → o.elements ≡ None → receive t (obj m) s ≡ ok [] tt s
unfolding receive ret
received_bare None m s o d q = refl
received_bare (Some t) m s o d q = enters_nothing t.element m s o d q

-- what is left of it once it is judged
kept_bare : (x : Variable) (m : ℕ) (f : State → State) (s : State) (o : Obj) → slice_get (f s).objs m ≡ Some o → o.elements ≡ None → (changing f >>= λ _. with_tables (λ T. receive (variable_type T x) (obj m))) s ≡ ok [] tt (f s)
unfolding changing ◌>>=◌ after ret with_tables
kept_bare x m f s o d q = said_none _ ∙ received_bare (variable_type (f s).tables x) m (f s) o d q

keep_free : (i : Spot) (x : Variable) (m : ℕ) (f : State → State) (s : State) (o : Obj) → least_broken s.tables s (keeps x (obj m)) ≡ None → slice_get (f s).objs m ≡ Some o → o.elements ≡ None → keep checked i x (obj m) f s ≡ ok [] tt (f s)
unfolding keep judged allowed ◌>>=◌
keep_free i x m f s o e d q = ap (λ z. after (allowed checked i (keeps x (obj m)) z (changing f) s) (λ _. with_tables (λ T. receive (variable_type T x) (obj m)))) e ∙ kept_bare x m f s o d q

module _ (F : Facts) (S : Tables) (P : Plan S) (G : Globals F S P) where
  -- ---- the types of two objects that stand in no pair

  abbrev one_pair : (m n : ℕ) → Tabs
  one_pair m n = record no_tabs { objs = record { label = None; left = m; right = n } ∷ [] }

  pair_at : (os ps : List Obj) (m n : ℕ) → slice_get os m ≡ Some bare → slice_get ps n ≡ Some bare → (a b : ℕ) → Mates (one_pair m n) a b → ObjAt F S (one_pair m n) (slice_get os a) (slice_get ps b)
  pair_at os ps m n e d a b o = by_case (in_cases o.1)
    where
      by_case : (◌≡◌ {A = Pair (Option Code)} (record { label = o.0; left = a; right = b }) (record { label = None; left = m; right = n })) ⊎ In {A = Pair (Option Code)} (record { label = o.0; left = a; right = b }) [] → ObjAt F S (one_pair m n) (slice_get os a) (slice_get ps b)
      by_case (inl q) = let x : a ≡ m = ap (λ z. z.left) q in let y : b ≡ n = ap (λ z. z.right) q in rw (x, y, e, d) (obj_at (bare_t F S (flat_other S P) None None none_t))
      by_case (inr k) = absurd (none_in k)

  of_bare : (os ps : List Obj) (m n : ℕ) → slice_get os m ≡ Some bare → slice_get ps n ≡ Some bare → (t : Option TypeSet) → of_opt_type S os t (obj m) ≡ of_opt_type (R F S P) ps t (obj n)
  of_bare os ps m n e d t = of_opt_type_same S (flat_other S P) F (one_pair m n) os ps (pair_at os ps m n e d) t (obj_t (None, here))

  -- ---- states in which a holder is declared

  abbrev pub staged : Tabs → ℕ → State → State → Tabs
  staged w h s t = record w { stage = once h (length s.objs) (length t.objs) ∷ w.stage }

  ext_staged : (w : Tabs) (h : ℕ) (s t : State) → Ext w (staged w h s t)
  ext_staged w h s t = record { objs = λ q k. k; frames = λ q k. k; spare = λ q k. k; alone = λ q k. k; begun = λ c k. k }

  pub root_tied : {w : Tabs} {s t : State} → Tied F S P w s t → (h : ℕ) → Undeclared w.stage h → P.Root h → ((c : ℕ) → P.Near h c → In c w.begun) → Tied F S P (staged w h s t) (set_global (P.var h) (obj (length s.objs)) (with_bare s)) (set_global (P.var h) (obj (length t.objs)) (with_bare t))
  unfolding set_global
  root_tied {w = w} {s = s} {t = t} ti h u root near =
      let e = ext_staged w h s t in record {
        tables = ti.tables;
        tables' = ti.tables';
        objs = add_right (add_left (table_more ti.objs (obj_more F S e)) bare) bare;
        owned = owned_left w.objs s.objs bare (no_code_lonely w.objs s.objs bare refl) ti.owned;
        mated = mated_apart w.objs t.objs bare refl ti.mated;
        frames = table_more ti.frames (frame_more F S e);
        globals = places_right (P.var h) (G.unread_root h root) (places_left (places_more (val_more e) ti.globals) (P.var h) (obj (length s.objs)) (G.unread_root h root)) (obj (length t.objs));
        known = λ g k q. absurd (G.unknown g k q);
        loaded = ti.loaded;
        begun = ti.begun;
        failed = ti.failed;
        constructed = ti.constructed;
        handles = list_as (λ a b o. mates_more e o) ti.handles;
        replies = ti.replies;
        budget = ti.budget;
        extra = root_rides S P (view w s t) ti.extra h u (λ p i. fresh_left ti.objs p i) (λ p i. fresh_right ti.objs p i) (λ l i. fresh_lone ti.objs l i) (λ c q. ti.begun c (near c q)) root;
      }

  pub inner_tied : {w : Tabs} {s t : State} → Tied F S P w s t → (h : ℕ) → Undeclared w.stage h → ((c : ℕ) → P.Near h c → In c w.begun) → (q p a b : ℕ) → In (once q a b) w.stage → P.Inner q p h → (d : HeldT S P (view w s t) q a b) → (k : Kind) → Tied F S P (staged w h s t) (record (with_bare s) { objs = slice_set (s.objs ++ bare ∷ []) a (with_slot S P d.object p k (obj (length s.objs))) }) (set_global (P.fresh q p) (obj (length t.objs)) (with_bare t))
  unfolding set_global
  inner_tied {w = w} {s = s} {t = t} ti h u near q p a b at inner d k =
      let e = ext_staged w h s t in
      let o : Obj = with_slot S P d.object p k (obj (length s.objs)) in
      let more : Table _ _ _ _ (s.objs ++ bare ∷ []) (t.objs ++ bare ∷ []) = add_right (add_left (table_more ti.objs (obj_more F S e)) bare) bare in record {
        tables = ti.tables;
        tables' = ti.tables';
        objs = set_apart more a d.no_pair d.no_spare o;
        owned = owned_any w.objs (s.objs ++ bare ∷ []) (owned_left w.objs s.objs bare (no_code_lonely w.objs s.objs bare refl) ti.owned) a d.object o (get_old s.objs (bare ∷ []) a d.object d.stands) (no_owner o d.plain.code ∙ sym (no_owner d.object d.plain.code));
        mated = mated_apart w.objs t.objs bare refl ti.mated;
        frames = table_more ti.frames (frame_more F S e);
        globals = places_right (P.fresh q p) (G.unread q p (P.inner_is q p h inner).0) (places_more (val_more e) ti.globals) (obj (length t.objs));
        known = λ g k q. absurd (G.unknown g k q);
        loaded = ti.loaded;
        begun = ti.begun;
        failed = ti.failed;
        constructed = ti.constructed;
        handles = list_as (λ a b o. mates_more e o) ti.handles;
        replies = ti.replies;
        budget = ti.budget;
        extra = inner_rides S P (view w s t) ti.extra h u (λ p i. fresh_left ti.objs p i) (λ p i. fresh_right ti.objs p i) (λ l i. fresh_lone ti.objs l i) (λ c q. ti.begun c (near c q)) q p a b at inner d.object d.stands k;
      }

  -- ---- runs

  abbrev pub Never : {A B : Type 0} {I : W F S P → Type 0} {Q : W F S P → A → B → Type 0} {w : W F S P} {y : Res B} → Stops (λ z. WholeT (T F S P) I Q w z y)
  Never u r i = broken_w tt

  keep_fit : (m n : ℕ) (x x' : Variable) → variable_type S x ≡ variable_type (R F S P) x' → (s t : State) → slice_get s.objs m ≡ Some bare → slice_get t.objs n ≡ Some bare → keep_rule S s x (obj m) ≡ None → keep_rule (R F S P) t x' (obj n) ≡ None
  unfolding keep_rule
  keep_fit m n x x' e s t a b r = none_unless 6 (ap (λ z. of_opt_type (R F S P) t.objs z (obj n)) (sym e) ∙ sym (of_bare s.objs t.objs m n a b (variable_type S x)) ∙ unless_none _ 6 r)

  -- a variable of the left, and one of the right of the same type, receive objects that are tied to nothing
  pub keeps_two : {I : W F S P → Type 0} {w : W F S P} (i i' : Spot) (x x' : Variable) → variable_type S x ≡ variable_type (R F S P) x' → (m n : ℕ) (f f' : State → State) (s t : State) → s.tables ≡ S → t.tables ≡ R F S P → slice_get s.objs m ≡ Some bare → slice_get t.objs n ≡ Some bare → slice_get (f s).objs m ≡ Some bare → slice_get (f' t).objs n ≡ Some bare
      → (v : W F S P) → (v.l ≤ w.l) × (v.r ≤ w.r) → I v → Tied F S P v.w (f s) (f' t) → (f s).budget ≤ v.l → (f' t).budget ≤ v.r → WholeT (T F S P) I (λ u a b. Unit {0}) w (keep checked i x (obj m) f s) (keep checked i' x' (obj n) f' t)
  unfolding keep least_broken
  keeps_two {I = I} {w = w} i i' x x' e m n f f' s t q q' a b c d v l j ti le le' =
      left_any (λ z. WholeT (T F S P) I (λ u a b. Unit {0}) w z (keep checked i' x' (obj n) f' t)) Never S i (keeps x (obj m)) (changing f) (λ _. with_tables (λ T. receive (variable_type T x) (obj m))) s q (λ r.
      as_any (λ z. WholeT (T F S P) I (λ u a b. Unit {0}) w z (keep checked i' x' (obj n) f' t)) (kept_bare x m f s bare c refl)
      (subst (λ z. WholeT (T F S P) I (λ u a b. Unit {0}) w (ok [] tt (f s)) z) (sym (keep_free i' x' n f' t bare (ap (λ z. keep_rule z t x' (obj n)) q' ∙ keep_fit m n x x' e s t a b r) d refl))
      (ok_w refl v l j tt ti le le')))

  abbrev pub next : (w : W F S P) (h m n : ℕ) → W F S P
  next w h m n = record { l = w.l; r = w.r; w = record w.w { stage = once h m n ∷ w.w.stage } }

  -- ---- a global is set to an empty literal

  pub root_set : {I : W F S P → Type 0} (w : W F S P) (h : ℕ) → P.Root h → Undeclared w.w.stage h → ((c : ℕ) → P.Near h c → In c w.w.begun) → ((m n : ℕ) → I (next w h m n)) → (B B' : Bodies) (g g' : Env) (q q' : Option Path) (i i' : Spot) (j j' : ℕ) → Whole (T F S P) I (λ u a b. Unit {0}) w (value checked B (ev checked B g q (object j no_fields)) >>= λ v. write_var checked i g (Ref.Global (P.var h)) v) (value checked B' (ev checked B' g' q' (object j' no_fields)) >>= λ v. write_var checked i' g' (Ref.Global (P.var h)) v)
  unfolding write_var set_global
  root_set {I = I} w h root u near ready B B' g g' q q' i i' j j' s t ti le le' =
      as_any (λ z. WholeT (T F S P) I (λ u a b. Unit {0}) w z ((value checked B' (ev checked B' g' q' (object j' no_fields)) >>= λ v. write_var checked i' g' (Ref.Global (P.var h)) v) t)) (makes_then B g q j s (λ v. write_var checked i g (Ref.Global (P.var h)) v))
      (subst (λ z. WholeT (T F S P) I (λ u a b. Unit {0}) w (write_var checked i g (Ref.Global (P.var h)) (obj (length s.objs)) (with_bare s)) z) (sym (makes_then B' g' q' j' t (λ v. write_var checked i' g' (Ref.Global (P.var h)) v)))
      (keeps_two i i' (global (P.var h)) (global (P.var h)) (P.root_type h root) (length s.objs) (length t.objs) (set_global (P.var h) (obj (length s.objs))) (set_global (P.var h) (obj (length t.objs))) (with_bare s) (with_bare t) ti.tables ti.tables' (get_new s.objs bare) (get_new t.objs bare) (get_new s.objs bare) (get_new t.objs bare)
      (next w h (length s.objs) (length t.objs)) (omega arith, omega arith) (ready (length s.objs) (length t.objs)) (root_tied ti h u root near) le le'))
