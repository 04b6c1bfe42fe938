-- What the tests of the names say.
use Rattle.std.proofs.Common.{◌≡◌, ℕ, Bool, true, false, ◌&&◌, ◌||◌, cond, List, [], ◌∷◌, ◌++◌, None, Some, refl, sym, ap, subst, ◌∙◌, ⊎_elim, append_assoc, append-nil, true≢false, Contains, All, get_or}
use Rattle.std.specs.List.{list_all, IsDistinct, AllByRecursion}
use Rattle.std.specs.Str.{bytes_eq}
use Rattle.std.specs.Cmp.Lexicographic.{nat_list_eq_equiv}
use Rattle.std.proofs.lemmas.Slice.Eq.{bytes_eq-Decides}
use Rattle.std.proofs.lemmas.Bool.{and_parts, and_from, cases_Bool}
use Rattle.std.proofs.lemmas.List.Folds.{list_any_at}
use Rattle.std.proofs.lemmas.List.Elements.{All-nil, All-cons, All-head, All-tail, All-append, All-weaker, recursion_from_All}
use Rattle.indexmap.proofs.CallerLemmas.{Contains-list_any}
use Rattle.cc_driver.specs.Names.{is_in}
use Rattle.cc_driver.specs.Form.{declared, called, used, named_by_one, named_by_more, named_by, named_by_all}
use Rattle.cc_driver.specs.declared.form.Operand.{Operand}
use Rattle.cc_driver.specs.declared.form.Operand.TheVariants.{Named, Text, Whole}
use Rattle.cc_driver.specs.declared.form.Added.{Added}
use Rattle.cc_driver.specs.declared.form.Value.{Value}
use Rattle.cc_driver.specs.declared.form.Statement.{Statement}
use Rattle.cc_driver.specs.declared.form.Statement.TheVariants.{Declares, Calls}
use Rattle.cc_driver.specs.FormChecks.{enter, and_after, each_once, all_declared, is_known_one, is_known, uses_known}
use Rattle.cc_driver.proofs.Runs.{same_some}

abbrev pub Names : Type 0
Names = List (List ℕ)

abbrev pub Distinct : Names → Type 0
Distinct names = IsDistinct bytes_eq names

pub contained : (n : List ℕ) (xs : Names) → is_in n xs ≡ true → Contains xs n
contained n xs e = Contains-list_any bytes_eq (λ x y h. (bytes_eq-Decides x y).0 h) xs n e

pub found : (n : List ℕ) (xs : Names) → Contains xs n → is_in n xs ≡ true
found n xs h = list_any_at (bytes_eq n) xs h.0 n h.1 ((bytes_eq-Decides n (get_or xs h.0 n)).1 (sym h.2))

pub missing : (n : List ℕ) (xs : Names) → is_in n xs ≡ false → Contains xs n → ⊥
missing n xs e h = true≢false (sym (found n xs h) ∙ e)

pub absent : (n : List ℕ) (xs : Names) → (Contains xs n → ⊥) → is_in n xs ≡ false
absent n xs h = ⊎_elim (λ e. absurd (h (contained n xs e))) (λ e. e) (cases_Bool (is_in n xs))

flip : (a b : List ℕ) → bytes_eq a b ≡ false → bytes_eq b a ≡ false
flip a b e = nat_list_eq_equiv.symm b a ∙ e

pub or_none : (a b : Bool) → (a || b) ≡ false → (a ≡ false) × (b ≡ false)
or_none true b e = absurd (true≢false e)
or_none false b e = (refl, e)

at_middle : (P : List ℕ → Type 0) (before : Names) (n : List ℕ) (after : Names) → AllByRecursion P (before ++ n ∷ after) → P n
at_middle P [] n after h = h.0
at_middle P (b ∷ before) n after h = at_middle P before n after h.1

at_end : (P : List ℕ → Type 0) (before : Names) (n : List ℕ) → AllByRecursion P before → P n → AllByRecursion P (before ++ n ∷ [])
at_end P [] n h p = (p, tt)
at_end P (b ∷ before) n h p = (h.0, at_end P before n h.1 p)

pub absent_before : (before : Names) (n : List ℕ) (after : Names) → Distinct (before ++ n ∷ after) → is_in n before ≡ false
unfolding IsDistinct
absent_before [] n after d = refl
absent_before (b ∷ before) n after d = ap (λ t. t || is_in n before) (flip b n (at_middle (λ y. bytes_eq b y ≡ false) before n after d.0)) ∙ absent_before before n after d.1

pub distinct_push : (before : Names) (n : List ℕ) → Distinct before → is_in n before ≡ false → Distinct (before ++ n ∷ [])
unfolding IsDistinct
distinct_push [] n d e = (tt, tt)
distinct_push (b ∷ before) n d e =
    let w = or_none (bytes_eq n b) (is_in n before) e in
    (at_end (λ y. bytes_eq b y ≡ false) before n d.0 (flip n b w.0), distinct_push before n d.1 w.1)

apart_append : (P : List ℕ → Type 0) (xs ys : Names) → AllByRecursion P xs → AllByRecursion P ys → AllByRecursion P (xs ++ ys)
apart_append P [] ys h k = k
apart_append P (x ∷ xs) ys h k = (h.0, apart_append P xs ys h.1 k)

pub distinct_append : (xs ys : Names) → Distinct xs → Distinct ys → All (λ y. is_in y xs ≡ false) ys → Distinct (xs ++ ys)
unfolding IsDistinct
distinct_append [] ys d e h = e
distinct_append (x ∷ xs) ys d e h =
    let first : All (λ y. bytes_eq x y ≡ false) ys = All-weaker (λ y. is_in y (x ∷ xs) ≡ false) (λ y. bytes_eq x y ≡ false) (λ y k. flip y x (or_none (bytes_eq y x) (is_in y xs) k).0) ys h in
    let rest : All (λ y. is_in y xs ≡ false) ys = All-weaker (λ y. is_in y (x ∷ xs) ≡ false) (λ y. is_in y xs ≡ false) (λ y k. (or_none (bytes_eq y x) (is_in y xs) k).1) ys h in
    (apart_append (λ y. bytes_eq x y ≡ false) xs ys d.0 (recursion_from_All (λ y. bytes_eq x y ≡ false) ys first), distinct_append xs ys d.1 e rest)

no_names : {X : Type 0} {x : X} → None ≡ Some x → ⊥
no_names e = cc

pub record Entered (before more after : Names) : Type 0 where
  pub names : after ≡ before ++ more
  pub distinct : Distinct before → Distinct after

entered_none : (before : Names) → Entered before [] before
entered_none before = record { names = sym (append-nil before); distinct = λ d. d }

entered_more : (before : Names) (n : List ℕ) (more after : Names) → is_in n before ≡ false → Entered (before ++ n ∷ []) more after → Entered before (n ∷ more) after
entered_more before n more after e h = record {
  names = h.names ∙ append_assoc before (n ∷ []) more;
  distinct = λ d. h.distinct (distinct_push before n d e);
}

pub each_once_sound : (before names after : Names) → each_once before names ≡ Some after → Entered before names after
unfolding each_once
each_once_sound before [] after e = subst (Entered before []) (same_some e) (entered_none before)
each_once_sound before (n ∷ ns) after e = by (is_in n before) refl e (each_once_sound (before ++ n ∷ []) ns after)
  where
    by : (b : Bool) → is_in n before ≡ b → and_after (cond b None (Some (before ++ n ∷ []))) (λ names. each_once names ns) ≡ Some after
        → (each_once (before ++ n ∷ []) ns ≡ Some after → Entered (before ++ n ∷ []) ns after) → Entered before (n ∷ ns) after
    by true is h again = absurd (no_names h)
    by false is h again = entered_more before n ns after is (again h)

pub each_once_complete : (before names : Names) → Distinct (before ++ names) → each_once before names ≡ Some (before ++ names)
unfolding each_once
each_once_complete before [] d = ap Some (sym (append-nil before))
each_once_complete before (n ∷ ns) d =
    let same : before ++ n ∷ [] ++ ns ≡ before ++ n ∷ ns = append_assoc before (n ∷ []) ns in
    let entered = ap (λ b. cond b None (Some (before ++ n ∷ []))) (absent_before before n ns d) in
    ap (λ m. and_after m (λ names. each_once names ns)) entered ∙ each_once_complete (before ++ n ∷ []) ns (subst Distinct (sym same) d) ∙ ap Some same

pub record Declared (externs before : Names) (statements : List Statement) (after : Names) : Type 0 where
  pub entered : Entered before (declared statements) after
  pub new : All (λ name. Contains externs name → ⊥) (declared statements)

declared_more : (externs before : Names) (n : List ℕ) (ss : List Statement) (at : ℕ) (v : Value) (after : Names) → is_in n externs ≡ false → is_in n before ≡ false
    → Declared externs (before ++ n ∷ []) ss after → Declared externs before (Declares at n v ∷ ss) after
declared_more externs before n ss at v after e f h = record {
  entered = entered_more before n (declared ss) after f h.entered;
  new = All-cons (λ name. Contains externs name → ⊥) n (declared ss) (missing n externs e) h.new;
}

pub all_declared_sound : (externs before : Names) (ss : List Statement) (after : Names) → all_declared externs before ss ≡ Some after → Declared externs before ss after
unfolding all_declared
all_declared_sound externs before [] after e = subst (Declared externs before []) (same_some e) (record { entered = entered_none before; new = All-nil _ })
all_declared_sound externs before (Calls at n vs ∷ ss) after e = let h = all_declared_sound externs before ss after e in record { entered = h.entered; new = h.new }
all_declared_sound externs before (Declares at n v ∷ ss) after e = by (is_in n externs) (is_in n before) refl refl e (all_declared_sound externs (before ++ n ∷ []) ss after)
  where
    by : (b c : Bool) → is_in n externs ≡ b → is_in n before ≡ c → and_after (cond b None (cond c None (Some (before ++ n ∷ [])))) (λ names. all_declared externs names ss) ≡ Some after
        → (all_declared externs (before ++ n ∷ []) ss ≡ Some after → Declared externs (before ++ n ∷ []) ss after) → Declared externs before (Declares at n v ∷ ss) after
    by true c is not_in h again = absurd (no_names h)
    by false true is not_in h again = absurd (no_names h)
    by false false is not_in h again = declared_more externs before n ss at v after is not_in (again h)

pub all_declared_complete : (externs before : Names) (ss : List Statement) → Distinct (before ++ declared ss) → All (λ name. Contains externs name → ⊥) (declared ss)
    → all_declared externs before ss ≡ Some (before ++ declared ss)
unfolding all_declared
all_declared_complete externs before [] d h = ap Some (sym (append-nil before))
all_declared_complete externs before (Calls at n vs ∷ ss) d h = all_declared_complete externs before ss d h
all_declared_complete externs before (Declares at n v ∷ ss) d h =
    let same : before ++ n ∷ [] ++ declared ss ≡ before ++ n ∷ declared ss = append_assoc before (n ∷ []) (declared ss) in
    let no_extern = absent n externs (All-head (λ name. Contains externs name → ⊥) n (declared ss) h) in
    let entered = ap (λ b. cond b None (enter before n)) no_extern ∙ ap (λ b. cond b None (Some (before ++ n ∷ []))) (absent_before before n (declared ss) d) in
    ap (λ m. and_after m (λ names. all_declared externs names ss)) entered
    ∙ all_declared_complete externs (before ++ n ∷ []) ss (subst Distinct (sym same) d) (All-tail (λ name. Contains externs name → ⊥) n (declared ss) h) ∙ ap Some same

all_parts : (P : List ℕ → Type 0) (xs ys : Names) → All P (xs ++ ys) → All P xs × All P ys
all_parts P [] ys h = (All-nil P, h)
all_parts P (x ∷ xs) ys h =
    let w = all_parts P xs ys (All-tail P x (xs ++ ys) h) in
    (All-cons P x xs (All-head P x (xs ++ ys) h) w.0, w.1)

one_known_sound : (names : Names) (o : Operand) → is_known_one names o ≡ true → All (Contains names) (named_by_one o)
one_known_sound names (Named at n) e = All-cons (Contains names) n [] (contained n names e) (All-nil _)
one_known_sound names (Text at t) e = All-nil _
one_known_sound names (Whole at z) e = All-nil _

one_known_complete : (names : Names) (o : Operand) → All (Contains names) (named_by_one o) → is_known_one names o ≡ true
one_known_complete names (Named at n) h = found n names (All-head (Contains names) n [] h)
one_known_complete names (Text at t) h = refl
one_known_complete names (Whole at z) h = refl

abbrev are_known : Names → List Added → Bool
are_known names ms = list_all (λ (m : Added). is_known_one names m.operand) ms

more_known_sound : (names : Names) (ms : List Added) → are_known names ms ≡ true → All (Contains names) (named_by_more ms)
more_known_sound names [] e = All-nil _
more_known_sound names (m ∷ ms) e =
    let w = and_parts (is_known_one names m.operand) (are_known names ms) e in
    All-append (Contains names) (named_by_one m.operand) (named_by_more ms) (one_known_sound names m.operand w.0) (more_known_sound names ms w.1)

more_known_complete : (names : Names) (ms : List Added) → All (Contains names) (named_by_more ms) → are_known names ms ≡ true
more_known_complete names [] h = refl
more_known_complete names (m ∷ ms) h =
    let w = all_parts (Contains names) (named_by_one m.operand) (named_by_more ms) h in
    and_from _ _ (one_known_complete names m.operand w.0) (more_known_complete names ms w.1)

known_sound : (names : Names) (v : Value) → is_known names v ≡ true → All (Contains names) (named_by v)
known_sound names v e =
    let w = and_parts (is_known_one names v.first) (are_known names v.more) e in
    All-append (Contains names) (named_by_one v.first) (named_by_more v.more) (one_known_sound names v.first w.0) (more_known_sound names v.more w.1)

known_complete : (names : Names) (v : Value) → All (Contains names) (named_by v) → is_known names v ≡ true
known_complete names v h =
    let w = all_parts (Contains names) (named_by_one v.first) (named_by_more v.more) h in
    and_from _ _ (one_known_complete names v.first w.0) (more_known_complete names v.more w.1)

all_known_sound : (names : Names) (vs : List Value) → list_all (is_known names) vs ≡ true → All (Contains names) (named_by_all vs)
all_known_sound names [] e = All-nil _
all_known_sound names (v ∷ vs) e = let w = and_parts (is_known names v) (list_all (is_known names) vs) e in All-append (Contains names) (named_by v) (named_by_all vs) (known_sound names v w.0) (all_known_sound names vs w.1)

all_known_complete : (names : Names) (vs : List Value) → All (Contains names) (named_by_all vs) → list_all (is_known names) vs ≡ true
all_known_complete names [] h = refl
all_known_complete names (v ∷ vs) h = let w = all_parts (Contains names) (named_by v) (named_by_all vs) h in and_from _ _ (known_complete names v w.0) (all_known_complete names vs w.1)

pub record Known (externs names : Names) (ss : List Statement) : Type 0 where
  pub calls : All (Contains externs) (called ss)
  pub uses : All (Contains names) (used ss)

pub uses_sound : (externs names : Names) (ss : List Statement) → list_all (uses_known externs names) ss ≡ true → Known externs names ss
uses_sound externs names [] e = record { calls = All-nil _; uses = All-nil _ }
uses_sound externs names (Declares at n v ∷ ss) e =
    let w = and_parts (is_known names v) (list_all (uses_known externs names) ss) e in
    let h = uses_sound externs names ss w.1 in
    record { calls = h.calls; uses = All-append (Contains names) (named_by v) (used ss) (known_sound names v w.0) h.uses }
uses_sound externs names (Calls at n vs ∷ ss) e =
    let w = and_parts (is_in n externs && list_all (is_known names) vs) (list_all (uses_known externs names) ss) e in
    let u = and_parts (is_in n externs) (list_all (is_known names) vs) w.0 in
    let h = uses_sound externs names ss w.1 in
    record { calls = All-cons (Contains externs) n (called ss) (contained n externs u.0) h.calls; uses = All-append (Contains names) (named_by_all vs) (used ss) (all_known_sound names vs u.1) h.uses }

pub uses_complete : (externs names : Names) (ss : List Statement) → Known externs names ss → list_all (uses_known externs names) ss ≡ true
uses_complete externs names [] h = refl
uses_complete externs names (Declares at n v ∷ ss) h =
    let w = all_parts (Contains names) (named_by v) (used ss) h.uses in
    and_from _ _ (known_complete names v w.0) (uses_complete externs names ss (record { calls = h.calls; uses = w.1 }))
uses_complete externs names (Calls at n vs ∷ ss) h =
    let w = all_parts (Contains names) (named_by_all vs) (used ss) h.uses in
    and_from _ _ (and_from _ _ (found n externs (All-head (Contains externs) n (called ss) h.calls)) (all_known_complete names vs w.0))
    (uses_complete externs names ss (record { calls = All-tail (Contains externs) n (called ss) h.calls; uses = w.1 }))
