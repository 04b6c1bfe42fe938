-- What expressions of alike programs reach, up to casts: an access may stand under casts in the one run alone.
use Rattle.std.proofs.Common.{◌≡◌, ℕ, zero, suc, ℤ, pos, negsuc, if◌then◌else◌, Bool, true, false, List, [], ◌∷◌, map, Option, Some, None, is_some, refl, sym, ap, subst, ◌∙◌, ◌≤◌}
use Rattle.std.specs.Prelude.{slice_get, IsTrue, not}
use Rattle.std.specs.Int.{is_negative}
use Rattle.std.proofs.lemmas.Bool.Decides.{nat_tests}
use Rattle.std.proofs.Common.{arith}
use Rattle.cc_ast.specs.Syntax.{Prim, undefined, null, truth, whole, text, lit, unary, Program}
use Rattle.cc_ast.specs.declared.operator.UnOp.{UnOp}
use Rattle.cc_ast.specs.declared.operator.UnOp.TheVariants.{Minus, Void}
use Rattle.cc_ast.specs.declared.tables.GlobalInfo.{GlobalInfo}
use Rattle.cc_meaning.specs.Values.{Val, prim, obj, out, Spot, at_site}
use Rattle.cc_meaning.specs.Operators.{list_eq, is_exact, Outcome, gives, breaks, number, unary_of, prim_unary, on_whole, whole_unary, with_sign}
use Rattle.cc_meaning.specs.Builtins.{TextUse, text_method}
use Rattle.cc_meaning.specs.Names.{name_length}
use Rattle.cc_meaning.specs.State.{Env, Path, State, Tables}
use Rattle.cc_meaning.specs.Monad.{M, ok, ret, skip, ◌>>=◌, pick}
use Rattle.cc_meaning.specs.Store.{Access, dotted, name_of, Built, flat_of, flat_place, flats_in, paired, Use}
use Rattle.cc_meaning.specs.SlotRules.{read_rule, prim_read, text_read}
use Rattle.cc_meaning.specs.Rules.{unary_op, unary_rule, operate_rule, outcome_rule}
use Rattle.cc_meaning.specs.Judge.{Act, operates, reads, casts, least_broken}
use Rattle.cc_meaning.specs.Acts.{judged, operate_one, outcome_value, cast_to}
use Rattle.cc_meaning.specs.Shapes.{tables_of, without_paths, plain_tables}
use Rattle.cc_meaning.specs.Calls.{Bodies, Reference, Reach, plain, access, built_global, built_member, called_value, called_use, take_path, cast_all, get, value_of, value, delete_at, apply_unary, read_method, receiver_of, receiver_by, callee_by, callee_of, method_on, text_use_of, member_use}
use Rattle.cc_meaning.specs.Meaning.{reach_member, ev}
use Rattle.cc_meaning.specs.Typed.{elements_in}
use Rattle.cc_meaning.specs.Script as Sc
use Rattle.cc_meaning.specs.Alike.{Alike}
use Rattle.cc_tied.specs.Tied.{OptT, none_t, some_t, ValT, CalleeT, plain_t, access_t, global_t, member_t, value_t, use_t, cons_t, nil_t}
use Rattle.cc_tied.proofs.Kit.{Kit}
use Rattle.cc_tied.proofs.Laws.{ret_bind}
use Rattle.cc_tied.proofs.Parts.{ReachV, PathT, Below}
use Rattle.cc_tied.proofs.Judged.{rel_remove_on}
use Rattle.cc_tied.proofs.Calls.{rel_get_on, rel_callee_of}
use Rattle.cc_tied.proofs.Expressions as E
use Rattle.cc_tied.proofs.Sim.{Tie, World, Later, later, ResT, Sim, fine, sim_bind, sim_ret, sim_tables, sim_fault}
use Rattle.cc_tied.proofs.Equality.Equal.{Eq, same_val}
use Rattle.cc_tied.proofs.Fatal.{stops, decide, judged_plain, stops_low, is_low, whole_key, broken_key, low_read, no_whole, high_outside}
use Rattle.cc_tied.proofs.DecimalNames.{no_letter, no_method}
use Rattle.cc_tied.proofs.Alike.Frames.{EnvA, env_grows}
use Rattle.cc_tied.proofs.Alike.Tie.{TiedA, KeyN, alike, Silent, silent_skip, silent_bind, silent_tables, silent_act, silent_receive, both_silent}
use Rattle.cc_tied.proofs.Alike.Store as D
use Rattle.cc_tied.proofs.Alike.Upkeep as U

-- ---- the plain run's tables know no flat paths

none_flat : (gs : List GlobalInfo) (n : ℕ) → flats_in (slice_get (map without_paths gs) n) ≡ []
unfolding flats_in without_paths
none_flat [] n = refl
none_flat (g ∷ gs) zero = refl
none_flat (g ∷ gs) (suc n) = none_flat gs n

pub no_flat : (P : Program) (w : Option Path) → flat_of (plain_tables P) w ≡ None
unfolding flat_of plain_tables tables_of flat_place paired
no_flat P None = refl
no_flat P (Some w) = ap (λ z. paired w.0 (flat_place 0 z w.1)) (none_flat P.globals w.0)

-- ---- signs

exact_number : (z : ℤ) → is_exact z ≡ true → number z ≡ gives (prim (whole z))
unfolding number
exact_number z e = subst (λ b. (if b then gives (prim (whole z)) else breaks 1) ≡ gives (prim (whole z))) (sym e) refl

not_negative : (n : ℕ) → is_negative (pos (suc n)) ≡ false
not_negative n = grind (arith, nat_tests)

minus_gives : (n : ℕ) → IsTrue (is_exact (negsuc n)) → unary_of Minus (prim (whole (pos (suc n)))) ≡ gives (prim (whole (negsuc n)))
unfolding unary_of prim_unary on_whole whole_unary with_sign
minus_gives n e = subst (λ b. with_sign (not b) (suc n) ≡ gives (prim (whole (negsuc n)))) (sym (not_negative n)) (exact_number (negsuc n) e)

void_gives : (p : Prim) → unary_of Void (prim p) ≡ gives (prim undefined)
unfolding unary_of prim_unary
void_gives p = refl

operated : (i : Spot) (a : Act) (o : Outcome) (r : Prim) (s : State) → least_broken s.tables s a ≡ outcome_rule o → o ≡ gives (prim r) → judged Sc.plain i a (ret (outcome_value o)) s ≡ ret (prim r) s
unfolding decide stops outcome_rule outcome_value
operated i a o r s d e = judged_plain i a (ret (outcome_value o)) s ∙ ap (λ z. decide i (stops a z) (ret (outcome_value o)) s) d ∙ ap (λ z. decide i (stops a (outcome_rule z)) (ret (outcome_value z)) s) e

minus_done : (i n : ℕ) → IsTrue (is_exact (negsuc n)) → operate_one Sc.plain (at_site i) Minus (prim (whole (pos (suc n)))) ≡ ret (prim (whole (negsuc n)))
unfolding operate_one least_broken operate_rule unary_rule
minus_done i n e = λ j s. operated (at_site i) (operates (unary_op Minus) (prim (whole (pos (suc n))) ∷ [])) (unary_of Minus (prim (whole (pos (suc n))))) (whole (negsuc n)) s refl (minus_gives n e) j

void_done : (i : ℕ) (p : Prim) → operate_one Sc.plain (at_site i) Void (prim p) ≡ ret (prim undefined)
unfolding operate_one least_broken operate_rule unary_rule
void_done i p = λ j s. operated (at_site i) (operates (unary_op Void) (prim p ∷ [])) (unary_of Void (prim p)) undefined s refl (void_gives p) j

on_plain : (B : Bodies) (i : Spot) (op : UnOp) (q : Prim) → (value_of Sc.plain B (plain (prim q)) >>= λ v. operate_one Sc.plain i op v) ≡ operate_one Sc.plain i op (prim q)
unfolding value_of
on_plain B i op q = ret_bind (prim q) (λ v. operate_one Sc.plain i op v)

unary_literal : (B : Bodies) (g : Env) (w : Option Path) (i k : ℕ) (op : UnOp) (q r : Prim) → apply_unary Sc.plain B i op (plain (prim q)) ≡ (value_of Sc.plain B (plain (prim q)) >>= λ v. operate_one Sc.plain (at_site i) op v) → operate_one Sc.plain (at_site i) op (prim q) ≡ ret (prim r) → ev Sc.plain B g w (unary i op (lit k q)) ≡ ret (plain (prim r))
unfolding ev
unary_literal B g w i k op q r d e =
    ret_bind (plain (prim q)) (λ r. apply_unary Sc.plain B i op r >>= λ v. ret (plain v))
    ∙ ap (λ z. z >>= λ v. ret (plain v)) (d ∙ on_plain B (at_site i) op q ∙ e)
    ∙ ret_bind (prim r) (λ v. ret (plain v))

pub minus_literal : (B : Bodies) (g : Env) (w : Option Path) (i k n : ℕ) → IsTrue (is_exact (negsuc n)) → ev Sc.plain B g w (unary i Minus (lit k (whole (pos (suc n))))) ≡ ret (plain (prim (whole (negsuc n))))
unfolding apply_unary
minus_literal B g w i k n e = unary_literal B g w i k Minus (whole (pos (suc n))) (whole (negsuc n)) refl (minus_done i n e)

pub void_literal : (B : Bodies) (g : Env) (w : Option Path) (i k : ℕ) (p : Prim) → ev Sc.plain B g w (unary i Void (lit k p)) ≡ ret (plain (prim undefined))
unfolding apply_unary
void_literal B g w i k p = unary_literal B g w i k Void p undefined refl (void_done i p)

-- ---- a method of a text that is read isn't refused

text_found : (o : Option TextUse) (u : Use) → text_use_of o ≡ Some u → is_some o ≡ true
unfolding text_use_of
text_found None u e = absurd (cc)
text_found (Some x) u e = refl

text_low : (b : Bool) → is_low (pick b None (pick true (Some 10) (Some 2))) ≡ false
unfolding is_low
text_low true = refl
text_low false = refl

prim_method : (s : State) (p : Prim) (n : List ℕ) (u : Use) → method_on s (prim p) n ≡ Some u → is_low (prim_read p n) ≡ false
unfolding method_on prim_read text_read
prim_method s undefined n u e = absurd (cc)
prim_method s null n u e = absurd (cc)
prim_method s (truth b) n u e = absurd (cc)
prim_method s (whole z) n u e = absurd (cc)
prim_method s (text t) n u e = subst (λ z. is_low (pick (list_eq n name_length) None (pick z (Some 10) (Some 2))) ≡ false) (sym (text_found (text_method n) u e)) (text_low (list_eq n name_length))

-- a method isn't named by a whole number
whole_false : (s : State) (o : ℕ) (n : List ℕ) (u : Use) → method_on s (obj o) n ≡ Some u → (w : Bool) → (w ≡ true → no_letter n ≡ true) → w ≡ false
whole_false s o n u e false f = refl
whole_false s o n u e true f = let d = no_method n (f refl) s o in absurd (cc)

method_stands : (R : Tables) (x : Val) (k : Access) (s : State) (u : Use) → method_on s x (name_of R k) ≡ Some u → (whole_key k ≡ true → no_letter (name_of R k) ≡ true) → (s' : State) → s'.tables ≡ R → stops (reads x k) (least_broken s'.tables s' (reads x k)) ≡ false
unfolding least_broken read_rule
method_stands R (obj o) k s u e f s' d = stops_low (reads (obj o) k) refl _ ∙ low_read s'.tables s' o k ∙ ap (λ z. broken_key (elements_in (slice_get s'.objs o)) z (name_of s'.tables k)) (whole_false s o (name_of R k) u e (whole_key k) f) ∙ no_whole (elements_in (slice_get s'.objs o)) (name_of s'.tables k)
method_stands R (out n) k s u e f s' d = stops_low (reads (out n) k) refl _ ∙ high_outside s'.tables k
method_stands R (prim p) k s u e f s' d = stops_low (reads (prim p) k) refl _ ∙ ap (λ z. is_low (prim_read p (name_of z k))) d ∙ prim_method s p (name_of R k) u e

-- a part that does nothing in states with these tables
pub record Still (R : Tables) (m : M (Unit {0})) : Type 0 where
  pub runs : (s : State) → s.tables ≡ R → m s ≡ ok [] tt s

still_method : (R : Tables) (r : Reference) (s : State) (u : Use) → method_on s r.on (name_of R r.key) ≡ Some u → (whole_key r.key ≡ true → no_letter (name_of R r.key) ≡ true) → (cs : List (ℕ × ℕ)) → Still R (read_method Sc.plain r cs)
unfolding read_method ret decide
still_method R r s u e f [] = record { runs = λ s' d. refl }
still_method R r s u e f (c ∷ cs) = record { runs = λ s' d. judged_plain (at_site r.site) (reads r.on r.key) skip s' ∙ ap (λ z. decide (at_site r.site) z skip s') (method_stands R r.on r.key s u e f s' d) }

module _ (P Q : Program) (al : Alike P Q) where
  abbrev T : Tie
  T = alike P Q al

  abbrev W : Type 0
  W = World T

  abbrev K : Kit
  K = U.alike_kit P Q al

  abbrev Tied : State → State → W → Type 0
  Tied s t w = TiedA P Q al w.w s t

  abbrev Vals : W → Val → Val → Type 0
  Vals v = ValT Eq

  abbrev Done : W → Unit {0} → Unit {0} → Type 0
  Done v a b = Unit {0}

  -- an access, up to its site and its casts
  pub record ReferenceC (a b : Reference) : Type 0 where
    pub on : ValT Eq a.on b.on
    pub key : KeyN P Q al a.key b.key
    pub path : a.path ≡ None
    pub path' : b.path ≡ None

  pub data ReachC : Reach → Reach → Type 0 where
    plain_c : {x y : Val} → ValT Eq x y → ReachC (plain x) (plain y)
    access_c : {a b : Reference} → ReferenceC a b → ReachC (access a) (access b)
    global_c : {i j : ℕ} {b : Built} → ReachC (built_global i b) (built_global j b)
    member_c : {i j : ℕ} {b : Built} {n n' : List ℕ} → member_use b n ≡ member_use b n' → ReachC (built_member i b n) (built_member j b n')

  abbrev pub Reaches : W → Reach → Reach → Type 0
  Reaches v = ReachC

  left_none : {p p' : Option (ℕ × ℕ)} → OptT T.FlatT p p' → p ≡ None
  left_none none_t = refl
  left_none (some_t h) = absurd h

  right_none : {p p' : Option (ℕ × ℕ)} → OptT T.FlatT p p' → p' ≡ None
  right_none none_t = refl
  right_none (some_t h) = absurd h

  pub as_reach : (w : W) {a b : Reach} → ReachV K w a b → ReachC a b
  as_reach w (plain_t h) = plain_c h
  as_reach w (access_t h) = access_c (record { on = h.on; key = h.key; path = left_none h.path; path' = right_none h.path })
  as_reach w (global_t s) = global_c
  as_reach w (member_t s e) = member_c e

  -- ---- silent parts of an access

  pub silent_cast : (i : Spot) (d : ℕ) (x : Val) → Silent P Q al (cast_to Sc.plain i d x)
  unfolding cast_to least_broken
  silent_cast i d x = silent_bind P Q al (silent_act P Q al i (casts d x) (λ s. D.never P Q al (casts d x) s refl (Rattle.cc_tied.proofs.Fatal.high_cast s.tables s d x))) (silent_tables P Q al _ (λ R. silent_receive P Q al (Rattle.cc_meaning.specs.Typed.value_in (Rattle.cc_meaning.specs.Typed.doc_at R (Some d))) x))

  silent_casts : (cs : List (ℕ × ℕ)) (x : Val) → Silent P Q al (cast_all Sc.plain cs x)
  unfolding cast_all
  silent_casts [] x = silent_skip P Q al
  silent_casts (c ∷ cs) x = silent_bind P Q al (silent_cast (at_site c.0) c.1 x) (silent_casts cs x)

  silent_path : (i : Spot) (p : Option (ℕ × ℕ)) (x : Val) (a : Access) → p ≡ None → Silent P Q al (take_path Sc.plain i p x a)
  unfolding take_path
  silent_path i p x a e = subst (λ z. Silent P Q al (take_path Sc.plain i z x a)) (sym e) (silent_skip P Q al)

  module _ (X : Below K) where
    open X use {B, B', w}

    get_c : {v : W} → Later T w v → {a b : Reference} → ReferenceC a b → Sim T Vals v (get Sc.plain B a) (get Sc.plain B' b)
    unfolding get
    get_c l {a = a} {b = b} h =
        sim_bind T {R = Vals} (rel_get_on K X l tt h.on h.key) (λ v2 l2 x y q.
        sim_bind T {R = Done} (both_silent P Q al (silent_path _ a.path a.on a.key h.path) (silent_path _ b.path b.on b.key h.path')) (λ v3 l3 _ _ _.
        sim_bind T {R = Done} (both_silent P Q al (silent_casts a.casts x) (silent_casts b.casts y)) (λ v4 l4 _ _ _. sim_ret T x y q)))

    pub value_of_c : {v : W} → Later T w v → {a b : Reach} → ReachC a b → Sim T Vals v (value_of Sc.plain B a) (value_of Sc.plain B' b)
    unfolding value_of
    value_of_c l (plain_c {x = x} {y = y} h) = sim_ret T x y h
    value_of_c l (access_c h) = get_c l h
    value_of_c l global_c = sim_fault T tt 2
    value_of_c l (member_c e) = sim_fault T tt 2

    pub value_c : {v : W} → Later T w v → {m m' : M Reach} → Sim T Reaches v m m' → Sim T Vals v (value Sc.plain B m) (value Sc.plain B' m')
    unfolding value
    value_c l h = sim_bind T h (λ v2 l2 r r' q. value_of_c (later T l l2) q)

    -- ---- a dot

    pub member_on_c : {v : W} → Later T w v → (i i' : ℕ) {p p' : Option Path} → PathT K p p' → {q q' : ℕ} → E.PropT K X q q' → {a b : Reach} → ReachC a b → Sim T (ReachV K) v (reach_member Sc.plain B i p q a) (reach_member Sc.plain B' i' p' q' b)
    unfolding reach_member
    member_on_c l i i' pt {q = q} {q' = q'} kt (global_c {b = b}) = sim_tables T _ _ (sim_ret T (built_member i b (name_of (plain_tables P) (dotted q))) (built_member i' b (name_of (plain_tables Q) (dotted q'))) (member_t tt (kt.uses b)))
    member_on_c l i i' pt kt (plain_c h) = sim_bind T (value_of_c l (plain_c h)) (λ v2 l2 x y r. sim_bind T (E.rel_reference K X tt pt r (kt.keys v2 (later T l l2) x y r)) (λ v3 l3 a b h. sim_ret T (access a) (access b) (access_t h)))
    member_on_c l i i' pt kt (access_c h) = sim_bind T (value_of_c l (access_c h)) (λ v2 l2 x y r. sim_bind T (E.rel_reference K X tt pt r (kt.keys v2 (later T l l2) x y r)) (λ v3 l3 a b h. sim_ret T (access a) (access b) (access_t h)))
    member_on_c l i i' pt kt (member_c e) = sim_bind T (value_of_c l (member_c e)) (λ v2 l2 x y r. sim_bind T (E.rel_reference K X tt pt r (kt.keys v2 (later T l l2) x y r)) (λ v3 l3 a b h. sim_ret T (access a) (access b) (access_t h)))

    -- ---- `delete`

    pub delete_c : {v : W} → (i i' : ℕ) {a b : Reach} → ReachC a b → Sim T Vals v (delete_at Sc.plain i a) (delete_at Sc.plain i' b)
    unfolding delete_at
    delete_c i i' (plain_c h) = sim_fault T tt 2
    delete_c i i' (access_c h) = rel_remove_on K tt h.on h.key
    delete_c i i' global_c = sim_fault T tt 2
    delete_c i i' (member_c e) = sim_fault T tt 2

    -- ---- callees

    both_still : {v : W} {m m' : M (Unit {0})} → Still (plain_tables P) m → Still (plain_tables Q) m' → Sim T Done v m m'
    both_still {v = v} {m' = m'} a b s t ti le le' =
        subst (λ z. ResT T Done v z (m' t)) (sym (a.runs s ti.tables))
        (subst (λ z. ResT T Done v (ok [] tt s) z) (sym (b.runs t ti.tables')) (fine T tt tt tt ti le le'))

    receiver_c : {a b : Reference} → ReferenceC a b → OptT (ValT Eq) (receiver_of a) (receiver_of b)
    unfolding receiver_of receiver_by
    receiver_c {a = a} {b = b} h = subst (λ z. OptT (ValT Eq) (receiver_by z a.on) (receiver_by b.path b.on)) (sym h.path) (subst (λ z. OptT (ValT Eq) (Some a.on) (receiver_by z b.on)) (sym h.path') (some_t h.on))

    callee_at : {v : W} → Later T w v → {a b : Reference} → ReferenceC a b → (s t : State) → TiedA P Q al v.w s t → s.budget ≤ v.l → t.budget ≤ v.r → (o o' : Option Use) → o ≡ o' → method_on s a.on (name_of (plain_tables P) a.key) ≡ o → method_on t b.on (name_of (plain_tables Q) b.key) ≡ o' → ResT T (λ u. CalleeT (ValT Eq)) v (callee_by Sc.plain B a o s) (callee_by Sc.plain B' b o' t)
    unfolding callee_by
    callee_at l {a = a} {b = b} h s t ti le le' None None q e e' = sim_bind T {R = Vals} (get_c l h) (λ v2 l2 x y k. sim_ret T (called_value x (receiver_of a)) (called_value y (receiver_of b)) (value_t k (receiver_c h))) s t ti le le'
    callee_at l h s t ti le le' None (Some u) q e e' = absurd (cc)
    callee_at l h s t ti le le' (Some u) None q e e' = absurd (cc)
    callee_at {v = v} l {a = a} {b = b} h s t ti le le' (Some u) (Some u') q e e' =
        subst (λ z. ResT T (λ u. CalleeT (ValT Eq)) v (callee_by Sc.plain B a (Some u) s) (callee_by Sc.plain B' b (Some z) t)) (same_use q)
        (sim_bind T {R = Done} (both_silent P Q al (U.silent_reach P Q al (at_site a.site) a.on a.key) (U.silent_reach P Q al (at_site b.site) b.on b.key)) (λ v2 l2 _ _ _.
        sim_bind T {R = Done} (both_still (still_method (plain_tables P) a s u e h.key.numeric a.casts) (still_method (plain_tables Q) b t u' e' (numeric_back h.key) b.casts)) (λ v3 l3 _ _ _. sim_ret T (called_use u (a.on ∷ [])) (called_use u (b.on ∷ [])) (use_t (cons_t h.on nil_t)))) s t ti le le')
      where
        same_use : {x y : Use} → Some x ≡ Some y → x ≡ y
        same_use r = cc

        numeric_back : {x y : Access} → KeyN P Q al x y → whole_key y ≡ true → no_letter (name_of (plain_tables Q) y) ≡ true
        numeric_back k r = subst (λ z. no_letter z ≡ true) k.same (k.numeric (k.whole ∙ r))

    methods_same : {w2 : List Rattle.cc_tied.proofs.Alike.Frames.Label} {s t : State} → TiedA P Q al w2 s t → {a b : Reference} → ReferenceC a b → method_on s a.on (name_of s.tables a.key) ≡ method_on t b.on (name_of t.tables b.key)
    methods_same {t = t} ti {a = a} {b = b} h = U.method_t P Q al ti a.on a.key b.key h.key ∙ ap (λ z. method_on t z (name_of t.tables b.key)) (same_val h.on)

    pub callee_c : {v : W} → Later T w v → {a b : Reach} → ReachC a b → Sim T (λ u. CalleeT (ValT Eq)) v (callee_of Sc.plain B a) (callee_of Sc.plain B' b)
    unfolding callee_of
    callee_c l (plain_c {x = x} {y = y} h) s t ti le le' = rel_callee_of K X l (plain_t h) s t ti le le'
    callee_c l (access_c {a = a} {b = b} h) s t ti le le' = callee_at l h s t ti le le' _ _ (methods_same ti h) (ap (λ z. method_on s a.on (name_of z a.key)) (sym ti.tables)) (ap (λ z. method_on t b.on (name_of z b.key)) (sym ti.tables'))
    callee_c l (global_c {i = i} {j = j} {b = b}) s t ti le le' = rel_callee_of K X l (global_t tt) s t ti le le'
    callee_c l (member_c {i = i} {j = j} {b = b} {n = n} {n' = n'} e) s t ti le le' = rel_callee_of K X l (member_t {i = i} {j = j} {b = b} {n = n} {n' = n'} tt e) s t ti le le'
