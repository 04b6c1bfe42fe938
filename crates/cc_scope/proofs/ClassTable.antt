-- The table of classes: which functions stand in it, each once, and how they are found in it.
use Rattle.std.proofs.Common.{◌≡◌, refl, sym, ap, ◌∙◌, subst, arith, ◌⊎◌, inl, inr, ℕ, zero, suc, ◌+◌, ◌<◌, ◌≤◌, Bool, true, false, nat_eq, List, [], ◌∷◌, ◌++◌, length, map, Option, Some, None, option_map}
use Rattle.std.specs.Prelude.{slice_get}
use Rattle.std.proofs.lemmas.Option.{slice_get-map, slice_get_within}
use Rattle.std.proofs.lemmas.Bool.Decides.{nat_tests}
use Rattle.cc_ast.specs.declared.tables.Class.{Class}
use Rattle.cc_jsdoc.specs.declared.doc.Doc.{Doc}
use Rattle.cc_meaning.specs.State.{Path}
use Rattle.cc_meaning.specs.Monad.{pick}
use Rattle.cc_meaning.specs.Store.{class_from, is_number}
use Rattle.cc_meaning.specs.Shapes.{tables_of}
use Rattle.cc_meaning.specs.Alike.{In, here, there}
use Rattle.cc_meaning.specs.FlatPaths.{Setting}
use Rattle.cc_scope.specs.Annotations.{said_at}
use Rattle.cc_scope.specs.Functions.{Function, all_functions}
use Rattle.cc_scope.specs.Externs.{is_class_doc}
use Rattle.cc_scope.specs.Classes.{Annotated, ClassPlace, unless_method, path_set_to, is_once, is_class_path, class_at_path, class_if, class_places_from, class_places, outside_class_of, class_of, classes_of}
use Rattle.cc_scope.proofs.Declared.{in_left, in_right, in_either, length_map}
use Rattle.cc_scope.proofs.Globals.{after}
use Rattle.cc_scope.proofs.Numbers.{head_or}
use Rattle.cc_scope.proofs.Pieces.{Rising, no_more, one_more, rising_from}
use Rattle.cc_scope.proofs.Tables.{mapped_at, split_at}
use Rattle.cc_scope.proofs.Made.{rising_once}

-- ---- lists

pub pick_true : {A : Type 0} (b : Bool) (x : A) → In x (pick b (x ∷ []) []) → b ≡ true
pick_true true x i = refl
pick_true false x i = elim i [ ]

same_some : {A : Type 0} {x y : A} → Some x ≡ Some y → x ≡ y
same_some {A} {x} e = ap (or x) e where
  or : A → Option A → A
  or z None = z
  or z (Some w) = w

pub set_in : (xs : List (Path × ℕ)) (f : ℕ) (w : Path) → path_set_to xs f ≡ Some w → In {A = Path × ℕ} (w, f) xs
unfolding path_set_to
set_in [] f w e = absurd (cc)
set_in (x ∷ xs) f w e = by (nat_eq x.1 f) refl e (set_in xs f w) where
  by : (b : Bool) → nat_eq x.1 f ≡ b → pick b (Some x.0) (path_set_to xs f) ≡ Some w → (path_set_to xs f ≡ Some w → In {A = Path × ℕ} (w, f) xs) → In {A = Path × ℕ} (w, f) (x ∷ xs)
  by true h d again =
      let k : x.1 ≡ f = grind (arith, nat_tests) in let v : x.0 ≡ w = same_some d in
      subst (λ u. In {A = Path × ℕ} (u, f) (x ∷ xs)) v (subst (λ g. In {A = Path × ℕ} (x.0, g) (x ∷ xs)) k here)
  by false h d again = there (again d)

pub in_set : (xs : List (Path × ℕ)) (f : ℕ) (w : Path) → In {A = Path × ℕ} (w, f) xs → (v : Path) × (path_set_to xs f ≡ Some v)
unfolding path_set_to
in_set [] f w i = elim i [ ]
in_set (x ∷ xs) f w i = by (nat_eq x.1 f) refl (head_or {A = Path × ℕ} (w, f) x xs i) (in_set xs f w) where
  by : (b : Bool) → nat_eq x.1 f ≡ b → (◌≡◌ {A = Path × ℕ} (w, f) x) ⊎ In {A = Path × ℕ} (w, f) xs → (In {A = Path × ℕ} (w, f) xs → (v : Path) × (path_set_to xs f ≡ Some v)) → (v : Path) × (pick b (Some x.0) (path_set_to xs f) ≡ Some v)
  by true h o again = (x.0, refl)
  by false h (inl d) again = absurd (let k : f ≡ x.1 = ap (λ z. z.1) d in grind (arith, nat_tests))
  by false h (inr j) again = again j

pub one_setting : (ss : List Setting) → is_once ss ≡ true → (s : Setting) × (ss ≡ s ∷ [])
unfolding is_once
one_setting [] e = absurd (cc)
one_setting (s ∷ []) e = (s, refl)
one_setting (s ∷ t ∷ ss) e = absurd (cc)

-- ---- the places of classes

module _ (A : Annotated) where
  -- what stands in the list
  pub record Placed (f : ℕ) (gs : List Function) (c : ClassPlace) : Type 0 where
    pub at : ℕ
    pub is : slice_get gs at ≡ Some c.function
    pub number : c.number ≡ f + at
    pub says : unless_method A c.number (said_at c.function.at A.comments) ≡ Some c.says
    pub marked : is_class_doc (Some c.says) ≡ true
    pub set : path_set_to (tables_of A.program).set c.number ≡ Some c.path
    pub path : is_class_path A c.path ≡ true

  -- of one function
  record One (f : ℕ) (g : Function) (o : Option Doc) (c : ClassPlace) : Type 0 where
    function : c.function ≡ g
    number : c.number ≡ f
    says : o ≡ Some c.says
    marked : is_class_doc (Some c.says) ≡ true
    set : path_set_to (tables_of A.program).set f ≡ Some c.path
    path : is_class_path A c.path ≡ true

  one_at : (f : ℕ) (g : Function) (d : Doc) (w : Option Path) (c : ClassPlace) → path_set_to (tables_of A.program).set f ≡ w → is_class_doc (Some d) ≡ true → In c (class_at_path A f g d w) → One f g (Some d) c
  unfolding class_at_path
  one_at f g d None c e m i = elim i [ ]
  one_at f g d (Some w) c e m i = by (is_class_path A w) refl i where
    by : (b : Bool) → is_class_path A w ≡ b → In c (pick b ((record { number = f; path = w; says = d; function = g }) ∷ []) []) → One f g (Some d) c
    by true h j = elim (head_or {A = ClassPlace} c (record { number = f; path = w; says = d; function = g }) [] j) [
      | inl q ↦ record { function = ap (λ x. x.function) q; number = ap (λ x. x.number) q; says = ap (λ x. Some x.says) (sym q); marked = subst (λ x. is_class_doc (Some x.says) ≡ true) (sym q) m; set = e ∙ ap (λ x. Some x.path) (sym q); path = subst (λ x. is_class_path A x.path ≡ true) (sym q) h }
      | inr k ↦ elim k [ ]
    ]
    by false h j = elim j [ ]

  one : (f : ℕ) (g : Function) (o : Option Doc) (c : ClassPlace) → In c (class_if A f g o) → One f g o c
  unfolding class_if
  one f g None c i = elim i [ ]
  one f g (Some d) c i = by (is_class_doc (Some d)) refl i where
    by : (b : Bool) → is_class_doc (Some d) ≡ b → In c (pick b (class_at_path A f g d (path_set_to (tables_of A.program).set f)) []) → One f g (Some d) c
    by true h j = one_at f g d (path_set_to (tables_of A.program).set f) c refl h j
    by false h j = elim j [ ]

  pub placed_from : (f : ℕ) (gs : List Function) (c : ClassPlace) → In c (class_places_from A f gs) → Placed f gs c
  unfolding class_places_from
  placed_from f [] c i = elim i [ ]
  placed_from f (g ∷ gs) c i = by (in_either (class_if A f g (unless_method A f (said_at g.at A.comments))) (class_places_from A (suc f) gs) i) (placed_from (suc f) gs c) where
    by : In c (class_if A f g (unless_method A f (said_at g.at A.comments))) ⊎ In c (class_places_from A (suc f) gs) → (In c (class_places_from A (suc f) gs) → Placed (suc f) gs c) → Placed f (g ∷ gs) c
    by (inl j) again = let o = one f g (unless_method A f (said_at g.at A.comments)) c j in record {
      at = 0;
      is = ap Some (sym o.function);
      number = o.number ∙ (let z : f ≡ f + 0 = omega arith in z);
      says = subst (λ h. unless_method A c.number (said_at h.at A.comments) ≡ Some c.says) (sym o.function) (subst (λ k. unless_method A k (said_at g.at A.comments) ≡ Some c.says) (sym o.number) o.says);
      marked = o.marked;
      set = subst (λ k. path_set_to (tables_of A.program).set k ≡ Some c.path) (sym o.number) o.set;
      path = o.path;
    }
    by (inr j) again = let d = again j in record { at = suc d.at; is = d.is; number = d.number ∙ (let z : suc f + d.at ≡ f + suc d.at = omega arith in z); says = d.says; marked = d.marked; set = d.set; path = d.path }

  -- whatever is so stands in the list
  pub place_from : (f : ℕ) (gs : List Function) (k : ℕ) (g : Function) (d : Doc) (w : Path) → slice_get gs k ≡ Some g → unless_method A (f + k) (said_at g.at A.comments) ≡ Some d → is_class_doc (Some d) ≡ true
      → path_set_to (tables_of A.program).set (f + k) ≡ Some w → is_class_path A w ≡ true → In (record { number = f + k; path = w; says = d; function = g }) (class_places_from A f gs)
  unfolding class_places_from class_if class_at_path
  place_from f [] k g d w e s m p h = absurd (cc)
  place_from f (x ∷ gs) zero g d w e s m p h =
      let q : x ≡ g = same_some e in
      let z : f + 0 ≡ f = omega arith in
      subst (λ n. In (record { number = n; path = w; says = d; function = g }) (class_places_from A f (x ∷ gs))) (sym z)
      (in_left (class_if A f x (unless_method A f (said_at x.at A.comments))) (class_places_from A (suc f) gs)
      (rw (let y : unless_method A f (said_at x.at A.comments) ≡ Some d = subst (λ b. unless_method A f (said_at b.at A.comments) ≡ Some d) (sym q) (subst (λ n. unless_method A n (said_at g.at A.comments) ≡ Some d) z s) in y)
      (rw m (rw (let y : path_set_to (tables_of A.program).set f ≡ Some w = subst (λ n. path_set_to (tables_of A.program).set n ≡ Some w) z p in y) (rw h (subst (λ b. In {A = ClassPlace} (record { number = f; path = w; says = d; function = g }) (record { number = f; path = w; says = d; function = b } ∷ [])) (sym q) here))))))
  place_from f (x ∷ gs) (suc k) g d w e s m p h =
      let z : suc f + k ≡ f + suc k = omega arith in
      subst (λ n. In (record { number = n; path = w; says = d; function = g }) (class_places_from A f (x ∷ gs))) z
      (in_right (class_if A f x (unless_method A f (said_at x.at A.comments))) (class_places_from A (suc f) gs)
      (place_from (suc f) gs k g d w e (subst (λ n. unless_method A n (said_at g.at A.comments) ≡ Some d) (sym z) s) m (subst (λ n. path_set_to (tables_of A.program).set n ≡ Some w) (sym z) p) h))

  abbrev numbers : List ClassPlace → List ℕ
  numbers cs = map (λ c. c.number) cs

  -- at most one of each function
  few : (f : ℕ) (g : Function) (o : Option Doc) (cs : List ClassPlace) (b : ℕ) → suc f ≤ b → Rising (suc f) b (numbers cs) → Rising f b (numbers (class_if A f g o ++ cs))
  unfolding class_if class_at_path
  few f g None cs b h r = rising_from (omega arith) r
  few f g (Some d) cs b h r = by (is_class_doc (Some d)) (path_set_to (tables_of A.program).set f) where
    inside : (x : Bool) (w : Path) → Rising f b (numbers (pick x ((record { number = f; path = w; says = d; function = g }) ∷ []) [] ++ cs))
    inside true w = one_more (omega arith) r
    inside false w = rising_from (omega arith) r

    by : (x : Bool) (w : Option Path) → Rising f b (numbers (pick x (class_at_path A f g d w) [] ++ cs))
    by false w = rising_from (omega arith) r
    by true None = rising_from (omega arith) r
    by true (Some w) = inside (is_class_path A w) w

  rising_places : (f : ℕ) (gs : List Function) → Rising f (f + length gs) (numbers (class_places_from A f gs))
  unfolding class_places_from
  rising_places f [] = no_more (omega arith)
  rising_places f (g ∷ gs) =
      let z : suc f + length gs ≡ f + suc (length gs) = omega arith in
      few f g (unless_method A f (said_at g.at A.comments)) (class_places_from A (suc f) gs) (f + suc (length gs)) (omega arith) (subst (λ b. Rising (suc f) b (numbers (class_places_from A (suc f) gs))) z (rising_places (suc f) gs))

  -- a function is that of one place of a class
  pub number_once : (i j : ℕ) (c d : ClassPlace) → slice_get (class_places A) i ≡ Some c → slice_get (class_places A) j ≡ Some d → c.number ≡ d.number → i ≡ j
  unfolding class_places
  number_once i j c d e h n =
      let places = class_places_from A (length A.program.chunks) (all_functions A.trees) in
      rising_once (numbers places) (rising_places (length A.program.chunks) (all_functions A.trees)) i j c.number
      (slice_get-map (λ x. x.number) places i ∙ ap (option_map (λ x. x.number)) e)
      (slice_get-map (λ x. x.number) places j ∙ ap (option_map (λ x. x.number)) h ∙ ap Some (sym n))

  -- ---- the table

  abbrev outer : ℕ
  outer = length A.outside.classes

  -- a class of the outside, or that of a place
  pub data Sort (a : ℕ) (c : Class) : Type 0 where
    of_outside : (n : List ℕ) (b : Bool) → a < length A.outside.classes → outside_class_of n b ≡ c → Sort a c
    of_place : (k : ℕ) (x : ClassPlace) → slice_get (class_places A) k ≡ Some x → a ≡ length A.outside.classes + k → class_of A x ≡ c → Sort a c

  pub sort : (a : ℕ) (c : Class) → slice_get (classes_of A) a ≡ Some c → Sort a c
  unfolding classes_of
  sort a c e = elim (split_at (map (λ x. outside_class_of x.name x.interface) A.outside.classes) (map (class_of A) (class_places A)) a c e) [
    | inl h ↦ (let d = mapped_at (λ x. outside_class_of x.name x.interface) A.outside.classes a c h in of_outside d.0.name d.0.interface (slice_get_within A.outside.classes a d.0 d.1) d.2)
    | inr h ↦ (let d = mapped_at (class_of A) (class_places A) h.0 c h.1 in of_place h.0 d.0 d.1 (h.2 ∙ ap (λ n. n + h.0) (length_map (λ x. outside_class_of x.name x.interface) A.outside.classes)) d.2)
  ]

  pub entry : (k : ℕ) (x : ClassPlace) → slice_get (class_places A) k ≡ Some x → slice_get (classes_of A) (length A.outside.classes + k) ≡ Some (class_of A x)
  unfolding classes_of
  entry k x e =
      subst (λ n. slice_get (classes_of A) (n + k) ≡ Some (class_of A x)) (length_map (λ y. outside_class_of y.name y.interface) A.outside.classes)
      (after (map (λ y. outside_class_of y.name y.interface) A.outside.classes) (map (class_of A) (class_places A)) k (class_of A x) (slice_get-map (class_of A) (class_places A) k ∙ ap (option_map (class_of A)) e))

  pub function_is : (x : ClassPlace) → (class_of A x).function ≡ Some x.number
  unfolding class_of
  function_is x = refl

  pub outside_none : (n : List ℕ) (b : Bool) → (outside_class_of n b).function ≡ None
  unfolding outside_class_of
  outside_none n b = refl

-- ---- looking up a function

pub found_first : (k : ℕ) (cs : List Class) (f a : ℕ) (c : Class) → slice_get cs a ≡ Some c → c.function ≡ Some f → ((b : ℕ) (d : Class) → slice_get cs b ≡ Some d → d.function ≡ Some f → b ≡ a) → class_from k cs f ≡ Some (k + a)
unfolding class_from is_number
found_first k [] f a c e h u = absurd (cc)
found_first k (d ∷ cs) f zero c e h u =
    let q : d ≡ c = same_some e in
    let y : is_number d.function f ≡ true = subst (λ o. is_number o f ≡ true) (sym (ap (λ z. z.function) q ∙ h)) (let z : nat_eq f f ≡ true = grind (arith, nat_tests) in z) in
    rw y (ap Some (let z : k ≡ k + 0 = omega arith in z))
found_first k (d ∷ cs) f (suc a) c e h u = by (is_number d.function f) refl (found_first (suc k) cs f a c e h (λ b x s t. let z = u (suc b) x s t in omega arith)) where
  number : (o : Option ℕ) → is_number o f ≡ true → o ≡ Some f
  number None z = absurd (cc)
  number (Some m) z = ap Some (let y : m ≡ f = grind (arith, nat_tests) in y)

  by : (b : Bool) → is_number d.function f ≡ b → class_from (suc k) cs f ≡ Some (suc k + a) → pick b (Some k) (class_from (suc k) cs f) ≡ Some (k + suc a)
  by true z rest = absurd (let y = u 0 d refl (number d.function z) in omega arith)
  by false z rest = rest ∙ ap Some (let y : suc k + a ≡ k + suc a = omega arith in y)

pub first_found : (k : ℕ) (cs : List Class) (f m : ℕ) → class_from k cs f ≡ Some m → (a : ℕ) × (c : Class) × (slice_get cs a ≡ Some c) × (c.function ≡ Some f) × (m ≡ k + a)
unfolding class_from is_number
first_found k [] f m e = absurd (cc)
first_found k (d ∷ cs) f m e = by (is_number d.function f) refl e (first_found (suc k) cs f m) where
  number : (o : Option ℕ) → is_number o f ≡ true → o ≡ Some f
  number None z = absurd (cc)
  number (Some n) z = ap Some (let y : n ≡ f = grind (arith, nat_tests) in y)

  by : (b : Bool) → is_number d.function f ≡ b → pick b (Some k) (class_from (suc k) cs f) ≡ Some m → (class_from (suc k) cs f ≡ Some m → (a : ℕ) × (c : Class) × (slice_get cs a ≡ Some c) × (c.function ≡ Some f) × (m ≡ suc k + a))
      → (a : ℕ) × (c : Class) × (slice_get (d ∷ cs) a ≡ Some c) × (c.function ≡ Some f) × (m ≡ k + a)
  by true z h again = (0, d, refl, number d.function z, sym (same_some h) ∙ (let y : k ≡ k + 0 = omega arith in y))
  by false z h again = let r = again h in (suc r.0, r.1, r.2, r.3, r.4 ∙ (let y : suc k + r.0 ≡ k + suc r.0 = omega arith in y))
