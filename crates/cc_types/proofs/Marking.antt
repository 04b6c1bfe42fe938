-- What opening classes does to marks, and that a search that has nothing open has marked the
-- ancestors.
use Rattle.std.proofs.Common.{◌≡◌, ◌≢◌, ℕ, zero, suc, ◌<◌, ◌≤◌, ◌⊎◌, ◌↔◌, cond, List, [], ◌∷◌, length, get_or, set, Contains, sum_by, Some, refl, sym, subst, ap, ◌∙◌, inl, inr, arith, get_or-set_same, get_or-set_other}
use Rattle.std.proofs.Math.ListN.{get_or-eq_default}
use Rattle.std.proofs.lemmas.List.{length-set}
use Rattle.std.proofs.lemmas.List.Sums.{sum_by-set}
use Rattle.std.proofs.lemmas.Bool.{cases_lt, cases_eq}
use Rattle.cc_ast.specs.declared.tables.Class.{Class}
use Rattle.cc_types.specs.declared.search.Mark.{Mark}
use Rattle.cc_types.specs.declared.search.Mark.TheVariants.{Unseen, Open, Done}
use Rattle.std.proofs.lemmas.Option.{slice_get_read}
use Rattle.cc_types.specs.Types.{parents, parents_of, Ancestor, itself, above}
use Rattle.cc_types.specs.Marks.{is_unseen, mark_at, opened, opened_all, NoneOpenBelow}
use Rattle.cc_types.proofs.Ancestry.{parents-in}

-- ---- one class

-- what stands in place of a mark past the table doesn't count within it
same_default : (ms : List Mark) (p : ℕ) → p < length ms → get_or ms p Done ≡ get_or ms p Unseen
same_default [] p h = absurd (omega arith)
same_default (m ∷ ms) zero h = refl
same_default (m ∷ ms) (suc p) h = same_default ms p (omega arith)

pub opened_past : (ms : List Mark) (p : ℕ) → length ms ≤ p → opened ms p ≡ ms
unfolding opened
opened_past ms p h = rw (get_or-eq_default ms Done h) refl

pub opened_unseen : (ms : List Mark) (p : ℕ) → p < length ms → mark_at ms p ≡ Unseen → opened ms p ≡ set ms p Open
unfolding opened
opened_unseen ms p h e = rw (same_default ms p h ∙ e) refl

pub opened_seen : (ms : List Mark) (p : ℕ) → mark_at ms p ≢ Unseen → p < length ms → opened ms p ≡ ms
unfolding opened
opened_seen ms p k h = rw (same_default ms p h) (elim (get_or ms p Unseen) as (λ m. m ≢ Unseen → cond (is_unseen m) (set ms p Open) ms ≡ ms) [ Unseen ↦ λ j. absurd (j refl) | Open ↦ λ j. refl | Done ↦ λ j. refl ] k)

unseen_or_not : (m : Mark) → (m ≡ Unseen) ⊎ (m ≢ Unseen)
unseen_or_not Unseen = inl refl
unseen_or_not Open = inr (λ e. cc)
unseen_or_not Done = inr (λ e. cc)

-- either nothing changes, or an unseen class is open
record Opens (ms : List Mark) (p : ℕ) : Type 0 where
  within : p < length ms
  was : mark_at ms p ≡ Unseen
  is : opened ms p ≡ set ms p Open

record Keeps (ms : List Mark) (p : ℕ) : Type 0 where
  seen : p < length ms → mark_at ms p ≢ Unseen
  is : opened ms p ≡ ms

opened_cases : (ms : List Mark) (p : ℕ) → Opens ms p ⊎ Keeps ms p
opened_cases ms p =
    elim (cases_lt p (length ms)) [
      | inl h ↦ elim (unseen_or_not (mark_at ms p)) [ inl e ↦ inl (record { within = h; was = e; is = opened_unseen ms p h e }) | inr k ↦ inr (record { seen = λ _. k; is = opened_seen ms p k h }) ]
      | inr h ↦ inr (record { seen = λ j. absurd (omega arith); is = opened_past ms p h })
    ]

pub length-opened : (ms : List Mark) (p : ℕ) → length (opened ms p) ≡ length ms
length-opened ms p = elim (opened_cases ms p) [ inl o ↦ rw o.is (length-set ms p Open) | inr k ↦ ap length k.is ]

-- a class that is seen keeps its mark
opened-keeps : (ms : List Mark) (p x : ℕ) → mark_at ms x ≢ Unseen → mark_at (opened ms p) x ≡ mark_at ms x
opened-keeps ms p x k =
    elim (opened_cases ms p) [
      | inl o ↦ let other : x ≢ p = λ e. k (ap (mark_at ms) e ∙ o.was) in rw o.is (get_or-set_other ms p x Open Unseen other)
      | inr j ↦ ap (λ (m : List Mark). mark_at m x) j.is
    ]

opened-sees : (ms : List Mark) (p : ℕ) → p < length ms → mark_at (opened ms p) p ≢ Unseen
opened-sees ms p h =
    elim (opened_cases ms p) [
      | inl o ↦ λ e. let there : mark_at (set ms p Open) p ≡ Open = get_or-set_same ms p Open Unseen h in let now : mark_at (set ms p Open) p ≡ Unseen = ap (λ (m : List Mark). mark_at m p) (sym o.is) ∙ e in cc
      | inr j ↦ λ e. j.seen h (ap (λ (m : List Mark). mark_at m p) (sym j.is) ∙ e)
    ]

-- the mark of a class after it, and what it was before
data After (ms : List Mark) (p x : ℕ) : Type 0 where
  as_before : mark_at (opened ms p) x ≡ mark_at ms x → After ms p x
  now_open : x ≡ p → mark_at (opened ms p) x ≡ Open → After ms p x

after : (ms : List Mark) (p x : ℕ) → After ms p x
after ms p x =
    elim (opened_cases ms p) [
      | inl o ↦ elim (cases_eq x p) [
        | inl e ↦ now_open e (subst (λ (y : ℕ). mark_at (opened ms p) y ≡ Open) (sym e) (ap (λ (m : List Mark). mark_at m p) o.is ∙ get_or-set_same ms p Open Unseen o.within))
        | inr other ↦ as_before (ap (λ (m : List Mark). mark_at m x) o.is ∙ get_or-set_other ms p x Open Unseen other)
      ]
      | inr j ↦ as_before (ap (λ (m : List Mark). mark_at m x) j.is)
    ]

opened-new : (ms : List Mark) (p x : ℕ) → mark_at (opened ms p) x ≢ Unseen → (mark_at ms x ≢ Unseen) ⊎ (x ≡ p)
opened-new ms p x k = elim (after ms p x) [ as_before e ↦ inl (λ h. k (e ∙ h)) | now_open e o ↦ inr e ]

opened-done : (ms : List Mark) (p x : ℕ) → mark_at (opened ms p) x ≡ Done → mark_at ms x ≡ Done
opened-done ms p x d = elim (after ms p x) [ as_before e ↦ sym e ∙ d | now_open e o ↦ cc ]

-- ---- what is left to do

pub left_of : Mark → ℕ
left_of Unseen = 2
left_of Open = 1
left_of Done = 0

pub opened-left : (ms : List Mark) (p : ℕ) → sum_by left_of (opened ms p) ≤ sum_by left_of ms
unfolding left_of
opened-left ms p =
    elim (opened_cases ms p) [
      | inl o ↦ let one = sum_by-set left_of ms p Open Unseen o.within in let two : left_of (get_or ms p Unseen) ≡ 2 = ap left_of o.was in rw o.is (omega arith)
      | inr j ↦ rw j.is (omega arith)
    ]

-- ---- several classes

pub length-opened_all : (ms : List Mark) (ps : List ℕ) → length (opened_all ms ps) ≡ length ms
length-opened_all ms [] = refl
length-opened_all ms (p ∷ ps) = length-opened_all (opened ms p) ps ∙ length-opened ms p

all-keeps : (ms : List Mark) (ps : List ℕ) (x : ℕ) → mark_at ms x ≢ Unseen → mark_at (opened_all ms ps) x ≡ mark_at ms x
all-keeps ms [] x k = refl
all-keeps ms (p ∷ ps) x k = let e = opened-keeps ms p x k in all-keeps (opened ms p) ps x (λ h. k (sym e ∙ h)) ∙ e

all-sees : (ms : List Mark) (ps : List ℕ) (k d : ℕ) → k < length ps → get_or ps k d < length ms → mark_at (opened_all ms ps) (get_or ps k d) ≢ Unseen
all-sees ms [] k d h w = absurd (omega arith)
all-sees ms (p ∷ ps) zero d h w = let s = opened-sees ms p w in λ e. s (sym (all-keeps (opened ms p) ps p s) ∙ e)
all-sees ms (p ∷ ps) (suc k) d h w = all-sees (opened ms p) ps k d (omega arith) (rw (length-opened ms p) w)

contains_more : (p x : ℕ) (ps : List ℕ) → Contains ps x → Contains (p ∷ ps) x
contains_more p x ps c = (suc c.0, (let h : c.0 < length ps = c.1 in omega arith), c.2)

all-new : (ms : List Mark) (ps : List ℕ) (x : ℕ) → mark_at (opened_all ms ps) x ≢ Unseen → (mark_at ms x ≢ Unseen) ⊎ Contains ps x
all-new ms [] x k = inl k
all-new ms (p ∷ ps) x k =
    elim (all-new (opened ms p) ps x k) [
      | inl h ↦ elim (opened-new ms p x h) [ inl j ↦ inl j | inr e ↦ inr (0, omega arith, sym e) ]
      | inr c ↦ inr (contains_more p x ps c)
    ]

all-done : (ms : List Mark) (ps : List ℕ) (x : ℕ) → mark_at (opened_all ms ps) x ≡ Done → mark_at ms x ≡ Done
all-done ms [] x d = d
all-done ms (p ∷ ps) x d = opened-done ms p x (all-done (opened ms p) ps x d)

pub all-left : (ms : List Mark) (ps : List ℕ) → sum_by left_of (opened_all ms ps) ≤ sum_by left_of ms
all-left ms [] = omega arith
all-left ms (p ∷ ps) = let one = opened-left ms p in let rest = all-left (opened ms p) ps in omega arith

-- ---- the search

-- each class that is seen is an ancestor of a, and the parents of each that is done are seen
pub record IsWalk (cs : List Class) (a : ℕ) (ms : List Mark) : Type 0 where
  pub size : length ms ≡ length cs
  pub start : mark_at ms a ≢ Unseen
  pub sound : (x : ℕ) → mark_at ms x ≢ Unseen → Ancestor cs a x
  pub closed : (x p : ℕ) → mark_at ms x ≡ Done → Contains (parents cs x) p → p < length cs → mark_at ms p ≢ Unseen

pub walk_begins : (cs : List Class) (a : ℕ) (ms : List Mark) → a < length cs → length ms ≡ length cs → ((x : ℕ) → mark_at ms x ≡ Unseen) → IsWalk cs a (set ms a Open)
walk_begins cs a ms h e clear =
    let there : mark_at (set ms a Open) a ≡ Open = get_or-set_same ms a Open Unseen (omega arith) in
    record {
      size = length-set ms a Open ∙ e;
      start = λ k. cc;
      sound = λ x k. elim (cases_eq x a) [ inl same ↦ subst (λ (y : ℕ). Ancestor cs a y) (sym same) (itself a) | inr other ↦ absurd (k (get_or-set_other ms a x Open Unseen other ∙ clear x)) ];
      closed = λ x p d c w. elim (cases_eq x a) [ inl same ↦ absurd (let now : mark_at (set ms a Open) a ≡ Done = subst (λ (y : ℕ). mark_at (set ms a Open) y ≡ Done) same d in cc) | inr other ↦ absurd (let now : mark_at (set ms a Open) x ≡ Unseen = get_or-set_other ms a x Open Unseen other ∙ clear x in cc) ];
    }

one_more : (cs : List Class) (a x p : ℕ) → Ancestor cs a x → Contains (parents cs x) p → Ancestor cs a p
one_more cs a x p (itself _) c = above a p p c (itself p)
one_more cs a x p (above _ q _ d r) c = above a q p d (one_more cs q x p r c)

-- the class n, which was open, is done, and its parents are opened
pub walk_goes : (cs : List Class) (a n : ℕ) (ms : List Mark) → IsWalk cs a ms → n < length cs → mark_at ms n ≡ Open → IsWalk cs a (opened_all (set ms n Done) (parents cs n))
walk_goes cs a n ms w h o =
    let done : List Mark = set ms n Done in
    let there : mark_at done n ≡ Done = get_or-set_same ms n Done Unseen (let e = w.size in omega arith) in
    let len : length done ≡ length cs = length-set ms n Done ∙ w.size in
    let back : (x : ℕ) → mark_at done x ≢ Unseen → mark_at ms x ≢ Unseen = λ x k. elim (cases_eq x n) [ inl same ↦ λ u. let was : mark_at ms n ≡ Unseen = subst (λ (y : ℕ). mark_at ms y ≡ Unseen) same u in cc | inr other ↦ λ u. k (get_or-set_other ms n x Done Unseen other ∙ u) ] in
    let on : (x : ℕ) → mark_at ms x ≢ Unseen → mark_at done x ≢ Unseen = λ x k. elim (cases_eq x n) [ inl same ↦ λ u. let was : mark_at done n ≡ Unseen = subst (λ (y : ℕ). mark_at done y ≡ Unseen) same u in cc | inr other ↦ λ u. k (sym (get_or-set_other ms n x Done Unseen other) ∙ u) ] in
    let on_all : (x : ℕ) → mark_at ms x ≢ Unseen → mark_at (opened_all done (parents cs n)) x ≢ Unseen = λ x k u. on x k (sym (all-keeps done (parents cs n) x (on x k)) ∙ u) in
    record {
      size = length-opened_all done (parents cs n) ∙ len;
      start = on_all a w.start;
      sound = λ x k. elim (all-new done (parents cs n) x k) [ inl j ↦ w.sound x (back x j) | inr c ↦ one_more cs a n x (w.sound n (λ u. cc)) c ];
      closed = λ x p d c q. elim (cases_eq x n) [
        | inl same ↦ let at : Contains (parents cs n) p = subst (λ (y : ℕ). Contains (parents cs y) p) same c in subst (λ (y : ℕ). mark_at (opened_all done (parents cs n)) y ≢ Unseen) at.2 (all-sees done (parents cs n) at.0 p at.1 (rw len (rw at.2 q)))
        | inr other ↦ on_all p (w.closed x p (sym (get_or-set_other ms n x Done Unseen other) ∙ all-done done (parents cs n) x d) c q)
      ];
    }

done_of : (m : Mark) → m ≢ Open → m ≢ Unseen → m ≡ Done
done_of Unseen o u = absurd (u refl)
done_of Open o u = absurd (o refl)
done_of Done o u = refl

in_table : (cs : List Class) (p b : ℕ) → Ancestor cs p b → b < length cs → p < length cs
in_table cs p b (itself _) h = h
in_table cs p b (above _ q _ c r) h = parents-in cs p q c

-- where nothing is open, what is seen has all ancestors of what is seen
seen_all : (cs : List Class) (a x b : ℕ) (ms : List Mark) → IsWalk cs a ms → NoneOpenBelow (length ms) ms → x < length cs → mark_at ms x ≢ Unseen → Ancestor cs x b → b < length cs → mark_at ms b ≢ Unseen
seen_all cs a x b ms w none h k (itself _) j = k
seen_all cs a x b ms w none h k (above _ p _ c r) j =
    let q : p < length cs = in_table cs p b r j in
    let e = w.size in
    seen_all cs a p b ms w none q (w.closed x p (done_of (mark_at ms x) (none x (omega arith)) k) c q) r j

pub walk_ends : (cs : List Class) (a : ℕ) (ms : List Mark) → IsWalk cs a ms → NoneOpenBelow (length ms) ms → a < length cs → (x : ℕ) → x < length cs → (mark_at ms x ≢ Unseen) ↔ Ancestor cs a x
walk_ends cs a ms w none h x j = (w.sound x, λ r. seen_all cs a a x ms w none h w.start r j)

-- ---- a turn of the search, as the code makes it

pub parents_at : (cs : List Class) (n : ℕ) (k : Class) → n < length cs → k ≡ get_or cs n k → parents_of (Some k) ≡ parents cs n
unfolding parents
parents_at cs n k h e = ap parents_of (sym (slice_get_read cs (length cs) n k refl h e))

pub turn_walks : (cs : List Class) (a n : ℕ) (k : Class) (ms new : List Mark) → IsWalk cs a ms → n < length ms → mark_at ms n ≡ Open → k ≡ get_or cs n k → new ≡ opened_all (set ms n Done) (parents_of (Some k)) → IsWalk cs a new
turn_walks cs a n k ms new w h o e is =
    let size = w.size in
    let within : n < length cs = omega arith in
    subst (λ (m : List Mark). IsWalk cs a m) (sym (is ∙ ap (opened_all (set ms n Done)) (parents_at cs n k within e))) (walk_goes cs a n ms w within o)

pub turn_goes_down : (n : ℕ) (ps : List ℕ) (ms new : List Mark) → n < length ms → mark_at ms n ≡ Open → new ≡ opened_all (set ms n Done) ps → sum_by left_of new < sum_by left_of ms
unfolding left_of
turn_goes_down n ps ms new h o is =
    let one = sum_by-set left_of ms n Done Unseen h in
    let was : left_of (get_or ms n Unseen) ≡ 1 = ap left_of o in
    let rest = all-left (set ms n Done) ps in
    rw is (omega arith)

pub none_below_done : (n : ℕ) (ms : List Mark) → NoneOpenBelow n ms → NoneOpenBelow n (set ms n Done)
none_below_done n ms none k h e = let other : k ≢ n = omega arith in none k h (sym (get_or-set_other ms n k Done Unseen other) ∙ e)
