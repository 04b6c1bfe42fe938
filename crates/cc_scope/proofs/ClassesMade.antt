-- The classes of a program are well made: each has its place, and no function is the code of two.
use Rattle.std.proofs.Common.{◌≡◌, refl, sym, ap, ◌∙◌, subst, arith, inl, inr, ℕ, ◌+◌, ◌-◌, Bool, true, false, ◌&&◌, nat_eq, nat_lt, List, [], ◌∷◌, length, Option, Some, None}
use Rattle.std.specs.Prelude.{slice_get}
use Rattle.std.proofs.lemmas.Bool.Decides.{nat_tests}
use Rattle.cc_ast.specs.Syntax.{Scope, Program}
use Rattle.cc_ast.specs.declared.tree.Ref.{Ref}
use Rattle.cc_ast.specs.declared.tables.FlatPath.{FlatPath}
use Rattle.cc_ast.specs.declared.tables.Class.{Class}
use Rattle.cc_ast.specs.declared.tables.SiteDoc.{SiteDoc}
use Rattle.cc_jsdoc.specs.declared.doc.Doc.{Doc}
use Rattle.cc_jsdoc.specs.declared.doc.DocKind.{DocKind}
use Rattle.cc_jsdoc.specs.declared.doc.DocKind.TheVariants as kind
use Rattle.cc_meaning.specs.State.{Path}
use Rattle.cc_meaning.specs.Monad.{pick}
use Rattle.cc_meaning.specs.Store.{class_of_function, set_to, same_numbers}
use Rattle.cc_meaning.specs.Shapes.{tables_of, body_of, body_in, set_by}
use Rattle.cc_meaning.specs.Alike.{In, here, there}
use Rattle.cc_meaning.specs.FlatPaths.{same_path, Setting, mentions_of, settings, OwnNameOf, own_here, own_outer, own_further, IsConstructor, MayBeVariable}
use Rattle.cc_meaning.specs.Parts.{Part, mentions, makes, sets_method, stmts_parts}
use Rattle.cc_meaning.specs.WellMade.{parts_of, functions_in, IsDistinct, HasPlace, IsCode, its_function, its_method, HasMethod}
use Rattle.cc_scope.specs.Lists.{Name}
use Rattle.cc_scope.specs.Resolve.{Source, outer_of, program_of}
use Rattle.cc_scope.specs.Refusals.{refusals_of}
use Rattle.cc_scope.specs.Promises.{Readable, Grammatical}
use Rattle.cc_scope.specs.Annotations.{Comment, said_at}
use Rattle.cc_scope.specs.Functions as fn
use Rattle.cc_scope.specs.Functions.{Function}
use Rattle.cc_scope.specs.Externs.{Externs, class_kind, is_class_doc, interface_kind}
use Rattle.cc_scope.specs.Paths.{names_itself, may_be_variable}
use Rattle.cc_scope.specs.Classes.{Annotated, ClassPlace, function_at, said_of, constructor_kind, is_constructor_doc, is_method, all_methods, unless_method, may_hold, path_set_to, is_once, is_class_path, class_places, methods_of, class_of, outside_class_of, classes_of}
use Rattle.cc_scope.proofs.Globals.{at_in}
use Rattle.cc_scope.proofs.Numbers.{head_or}
use Rattle.cc_scope.proofs.Made.{functions_once}
use Rattle.cc_scope.proofs.Nameless.{nameless}
use Rattle.cc_scope.proofs.Tidy.{place_in, Tidy}
use Rattle.cc_scope.proofs.Owners.{Settled, all_parts, same_all, functions_are, all_tidy, all_settled, part_in, among_out, among_into, has_in, method_listed, path_equal}
use Rattle.cc_scope.proofs.Settings.{setting_function, setting_listed, listed_setting, function_settings, scopes_set}
use Rattle.cc_scope.proofs.Held as held
use Rattle.cc_scope.proofs.Held.{both, with_both, not_true}
use Rattle.cc_scope.proofs.SameSource as same
use Rattle.cc_scope.proofs.ClassTable.{set_in, in_set, one_setting, Placed, placed_from, place_from, number_once, Sort, of_outside, of_place, sort, entry, function_is, outside_none, found_first, first_found}

some_or : {A : Type 0} → A → Option A → A
some_or x None = x
some_or x (Some y) = y

same_some : {A : Type 0} {x y : A} → Some x ≡ Some y → x ≡ y
unfolding some_or
same_some {A} {x} e = ap (some_or x) e

-- functions that a path is set to
pub set_to_in : (xs : List (Path × ℕ)) (w : Path) (f : ℕ) → In f (set_to xs w) → In {A = Path × ℕ} (w, f) xs
unfolding set_to same_path
set_to_in [] w f i = elim i [ ]
set_to_in (x ∷ xs) w f i = by (nat_eq x.0.0 w.0 && same_numbers x.0.1 w.1) refl i (set_to_in xs w f) where
  by : (b : Bool) → nat_eq x.0.0 w.0 && same_numbers x.0.1 w.1 ≡ b → In f (pick b (x.1 ∷ set_to xs w) (set_to xs w)) → (In f (set_to xs w) → In {A = Path × ℕ} (w, f) xs) → In {A = Path × ℕ} (w, f) (x ∷ xs)
  by true e j again = elim (head_or f x.1 (set_to xs w) j) [
    | inl d ↦ subst (λ g. In {A = Path × ℕ} (w, g) (x ∷ xs)) (sym d) (subst (λ v. In {A = Path × ℕ} (v, x.1) (x ∷ xs)) (path_equal x.0 w e) here)
    | inr k ↦ there (again k)
  ]
  by false e j again = there (again j)

no_methods : (n : List ℕ) (b : Bool) (q f : ℕ) → In {A = ℕ × ℕ} (q, f) (outside_class_of n b).methods → ⊥
unfolding outside_class_of
no_methods n b q f i = elim i [ ]

module _ (S0 : Source) (cs : List Comment) (X : Externs) (docs : List SiteDoc) (global_doc : Name → ℕ) (flat : Name → List FlatPath) where
  abbrev pub A : Annotated
  A = record { program = program_of S0; trees = S0.trees; comments = cs; outside = X }

  abbrev pub S : Source
  S = same.with_added S0 (classes_of A) docs global_doc flat

  abbrev pub P : Program
  P = program_of S

  abbrev pub Q : Program
  Q = program_of S0

  module _ (R : Readable S) (fitting : Grammatical S) (unrefused : refusals_of S ≡ []) where
    table_set : function_settings (mentions_of Q) ≡ (tables_of Q).set
    unfolding mentions_of tables_of
    table_set = scopes_set Q.chunks Q.scopes

    same_set : (tables_of P).set ≡ (tables_of Q).set
    same_set = same.same_set S0 (classes_of A) docs global_doc flat

    parts_once : IsDistinct (functions_in (all_parts (tables_of P) P.scopes))
    parts_once = subst (λ fs. IsDistinct fs) (sym (functions_are (tables_of P) P.scopes)) (functions_once S R fitting unrefused)

    settled : Settled ((tables_of P).set) (all_parts (tables_of P) P.scopes)
    unfolding tables_of
    settled = all_settled (tables_of P) P.chunks P.scopes

    pub alone : (v w : Path) (f : ℕ) → In {A = Path × ℕ} (v, f) (tables_of P).set → In {A = Path × ℕ} (w, f) (tables_of P).set → v ≡ w
    alone v w f i j = settled.once parts_once v w f f i j refl

    alone_there : (v w : Path) (f : ℕ) → In {A = Path × ℕ} (v, f) (tables_of Q).set → In {A = Path × ℕ} (w, f) (tables_of Q).set → v ≡ w
    alone_there v w f i j = alone v w f (subst (λ xs. In {A = Path × ℕ} (v, f) xs) (sym same_set) i) (subst (λ xs. In {A = Path × ℕ} (w, f) xs) (sym same_set) j)

    -- ---- constructors

    moved : (f g c u : ℕ) → OwnNameOf P f g c u → OwnNameOf Q f g c u
    unfolding parts_of
    moved f _ _ _ (own_here c s e o) = own_here c s (subst (λ ss. slice_get ss f ≡ Some s) (same.same_scopes S0 (classes_of A) docs global_doc flat) e) o
    moved f _ _ _ (own_outer g h c d u s b e o i r) = own_outer g h c d u s b (subst (λ ss. slice_get ss g ≡ Some s) (same.same_scopes S0 (classes_of A) docs global_doc flat) e) o (subst (λ xs. In (makes d g b) xs) (same.same_parts S0 (classes_of A) docs global_doc flat h) i) (moved f h d u r)
    moved f _ _ _ (own_further g h c d u s b e o i r) = own_further g h c d u s b (subst (λ ss. slice_get ss g ≡ Some s) (same.same_scopes S0 (classes_of A) docs global_doc flat) e) o (subst (λ xs. In (makes d g b) xs) (same.same_parts S0 (classes_of A) docs global_doc flat h) i) (moved f h d u r)

    readable : Readable S0
    readable = record { one_each = R.one_each; lesser = R.lesser; externs_once = R.externs_once; no_index = R.no_index; no_refused = R.no_refused }

    unrefused_there : refusals_of S0 ≡ []
    unfolding refusals_of outer_of
    unrefused_there = unrefused

    unnamed : (f : ℕ) → names_itself Q f ≡ false → (g c u : ℕ) → OwnNameOf P f g c u → In (mentions c (Ref.Frame u 0)) (stmts_parts (tables_of P) 0 (body_of P g)) → ⊥
    unfolding parts_of
    unnamed f e g c u o i = nameless S0 readable fitting unrefused_there f e g c u (moved f g c u o) (subst (λ xs. In (mentions c (Ref.Frame u 0)) xs) (same.same_parts S0 (classes_of A) docs global_doc flat g) i)

    record Held (f : ℕ) : Type 0 where
      function : Function
      says : Doc
      at : ℕ
      stands : slice_get (fn.all_functions S0.trees) at ≡ Some function
      number : f ≡ length Q.chunks + at
      said : unless_method A (length Q.chunks + at) (said_at function.at cs) ≡ Some says
      kind : constructor_kind says.kind ≡ true
      unnamed : names_itself Q f ≡ false

    holds_by : (f : ℕ) (o : Option Function) → function_at A f ≡ o → is_constructor_doc (unless_method A f (said_of cs o)) ≡ true → names_itself Q f ≡ false → Held f
    unfolding function_at said_of unless_method is_constructor_doc
    holds_by f None e k n = absurd (no (is_method Q f) k) where
      no : (b : Bool) → is_constructor_doc (pick b None None) ≡ true → ⊥
      no true z = cc
      no false z = cc
    holds_by f (Some g) e k n = by (nat_lt f (length Q.chunks)) refl e where
      doc_of : (o : Option Doc) → is_constructor_doc o ≡ true → (d : Doc) × (o ≡ Some d) × (constructor_kind d.kind ≡ true)
      doc_of None z = absurd (cc)
      doc_of (Some d) z = (d, refl, z)

      by : (b : Bool) → nat_lt f (length Q.chunks) ≡ b → pick b None (slice_get (fn.all_functions S0.trees) (f - length Q.chunks)) ≡ Some g → Held f
      by true h z = absurd (cc)
      by false h z =
          let d = doc_of (unless_method A f (said_at g.at cs)) k in
          let m : f ≡ length Q.chunks + (f - length Q.chunks) = grind (arith, nat_tests) in
          record { function = g; says = d.0; at = f - length Q.chunks; stands = z; number = m; said = subst (λ j. unless_method A j (said_at g.at cs) ≡ Some d.0) m d.1; kind = d.2; unnamed = n }

    held_by : (f : ℕ) → may_hold A f ≡ true → Held f
    unfolding may_hold
    held_by f e = let d = both {a = is_constructor_doc (unless_method A f (said_of cs (function_at A f)))} e in holds_by f (function_at A f) refl d.0 (not_true d.1)

    class_number : (k : ℕ) (x : ClassPlace) → slice_get (class_places A) k ≡ Some x → class_of_function (tables_of P) x.number ≡ Some (length X.classes + k)
    unfolding class_of_function tables_of program_of
    class_number k x e = found_first 0 (classes_of A) x.number (length X.classes + k) (class_of A x) (entry A k x e) (function_is A x) only ∙ ap Some (let z : 0 + (length X.classes + k) ≡ length X.classes + k = omega arith in z) where
      only : (b : ℕ) (d : Class) → slice_get (classes_of A) b ≡ Some d → d.function ≡ Some x.number → b ≡ length X.classes + k
      only b d h f = by (sort A b d h) where
        by : Sort A b d → b ≡ length X.classes + k
        by (of_outside n i l q) = absurd (let z : None ≡ Some x.number = sym (outside_none A n i) ∙ ap (λ y. y.function) q ∙ f in cc)
        by (of_place j y m s q) = s ∙ ap (λ i. length X.classes + i) (number_once A j k y x m e (same_some (sym (function_is A y) ∙ ap (λ z. z.function) q ∙ f)))

    kinds : (k : DocKind) → constructor_kind k ≡ true → (class_kind k ≡ true) × (interface_kind k ≡ false)
    unfolding constructor_kind class_kind interface_kind
    kinds kind.Constructor e = (refl, refl)
    kinds kind.Plain e = absurd (cc)
    kinds kind.Interface e = absurd (cc)
    kinds kind.Enum e = absurd (cc)
    kinds kind.Typedef e = absurd (cc)

    one_is : (s : Setting) (ss : List Setting) → ss ≡ s ∷ [] → is_once ss ≡ true
    unfolding is_once
    one_is s ss e = rw e refl

    classes_are : (n : ℕ) (u : ClassPlace) → slice_get (class_places A) n ≡ Some u → slice_get P.classes (length X.classes + n) ≡ Some (class_of A u)
    unfolding program_of
    classes_are n u d = entry A n u d

    constructs : (h : Path) (s : Setting) (f : ℕ) → may_be_variable (may_hold A) Q h ≡ true → settings h (mentions_of Q) ≡ s ∷ [] → setting_function s ≡ Some f → may_hold A f ≡ true → IsConstructor P f
    unfolding is_class_doc is_class_path class_places class_of
    constructs h s f v e g m =
        let t = held_by f m in
        let i = subst (λ xs. In {A = Path × ℕ} (h, f) xs) table_set (setting_listed h s f (mentions_of Q) (subst (λ ss. In s ss) (sym e) here) g) in
        let p = in_set (tables_of Q).set f h i in
        let q : p.0 ≡ h = alone_there p.0 h f (set_in (tables_of Q).set f p.0 p.1) i in
        let c = with_both (one_is s (settings h (mentions_of Q)) e) v in
        let k = kinds (t.says).kind t.kind in
        let z = place_from A (length Q.chunks) (fn.all_functions S0.trees) t.at t.function t.says h t.stands t.said k.0
        (subst (λ n. path_set_to (tables_of Q).set n ≡ Some h) t.number (p.1 ∙ ap Some q)) c in
        let y = place_in _ (class_places A) z in
        let x : ClassPlace = record { number = length Q.chunks + t.at; path = h; says = t.says; function = t.function } in
        record {
          class = length X.classes + y.0;
          entry = class_of A x;
          is = subst (λ n. class_of_function (tables_of P) n ≡ Some (length X.classes + y.0)) (sym t.number) (class_number y.0 x y.1);
          stands = classes_are y.0 x y.1;
          constructs = k.1;
          nameless = unnamed f t.unnamed;
        }

    pub path_tests : held.SamePaths P Q
    path_tests = same.same_paths S0 (classes_of A) docs global_doc flat

    pub variable : (w : Path) → may_be_variable (may_hold A) Q w ≡ true → MayBeVariable P w
    variable w e = held.variable P Q path_tests (may_hold A) constructs w e

    -- ---- each class has its place

    pub placed : (k : ℕ) (x : ClassPlace) → slice_get (class_places A) k ≡ Some x → Placed A (length Q.chunks) (fn.all_functions S0.trees) x
    unfolding class_places
    placed k x e = placed_from A (length Q.chunks) (fn.all_functions S0.trees) x (at_in (class_places A) k x e)

    set_at : (k : ℕ) (x : ClassPlace) → slice_get (class_places A) k ≡ Some x → In {A = Path × ℕ} (x.path, x.number) (tables_of P).set
    set_at k x e = subst (λ xs. In {A = Path × ℕ} (x.path, x.number) xs) (sym same_set) (set_in (tables_of Q).set x.number x.path (placed k x e).set)

    pub has_place : (k : ℕ) (x : ClassPlace) → slice_get (class_places A) k ≡ Some x → HasPlace P x.number
    unfolding is_class_path
    has_place k x e =
        let p = placed k x e in
        let d = both {a = is_once (settings x.path (mentions_of Q))} p.path in
        let o = one_setting (settings x.path (mentions_of Q)) d.0 in
        record {
          place = x.path;
          variable = variable x.path d.1;
          set = set_at k x e;
          once = (o.0, subst (λ ms. settings x.path ms ≡ o.0 ∷ []) (sym path_tests.mentions) o.1);
          alone = λ w i. alone w x.path x.number i (set_at k x e);
        }

    -- two classes of one path are one
    path_once : (j k : ℕ) (x y : ClassPlace) → slice_get (class_places A) j ≡ Some x → slice_get (class_places A) k ≡ Some y → x.path ≡ y.path → j ≡ k
    unfolding is_class_path
    path_once j k x y e d h =
        let a = placed j x e in let b = placed k y d in
        let s = listed_setting x.path x.number (mentions_of Q) (subst (λ xs. In {A = Path × ℕ} (x.path, x.number) xs) (sym table_set) (set_in (tables_of Q).set x.number x.path a.set)) in
        let t = listed_setting x.path y.number (mentions_of Q) (subst (λ xs. In {A = Path × ℕ} (x.path, y.number) xs) (sym table_set) (subst (λ w. In {A = Path × ℕ} (w, y.number) (tables_of Q).set) (sym h) (set_in (tables_of Q).set y.number y.path b.set))) in
        let o = one_setting (settings x.path (mentions_of Q)) (both {a = is_once (settings x.path (mentions_of Q))} a.path).0 in
        let one = only o.0 s.0 (subst (λ ss. In s.0 ss) o.1 s.1) in
        let two = only o.0 t.0 (subst (λ ss. In t.0 ss) o.1 t.1) in
        number_once A j k x y e d (same_some (sym s.2 ∙ ap setting_function (one ∙ sym two) ∙ t.2)) where
          only : (r q : Setting) → In q (r ∷ []) → q ≡ r
          only r q i = elim (head_or q r [] i) [ inl z ↦ z | inr m ↦ elim m [ ] ]

    -- ---- no function is the code of two classes

    tidy : Tidy (all_parts (tables_of P) P.scopes)
    tidy = all_tidy (tables_of P) P.scopes

    pub methods_are : (x : ClassPlace) (q f : ℕ) → In {A = ℕ × ℕ} (q, f) (class_of A x).methods → In (sets_method x.path q f) (all_parts (tables_of Q) Q.scopes)
    unfolding class_of methods_of
    methods_are x q f i = among_out (tables_of Q) x.path Q.scopes q f i

    methods_into : (x : ClassPlace) (q f : ℕ) → In (sets_method x.path q f) (all_parts (tables_of Q) Q.scopes) → In {A = ℕ × ℕ} (q, f) (class_of A x).methods
    unfolding class_of methods_of
    methods_into x q f i = among_into (tables_of Q) x.path Q.scopes q f i

    -- the parts of all scopes, with the tables of one program and of the other
    all_same : (ss : List Scope) → all_parts (tables_of P) ss ≡ all_parts (tables_of Q) ss
    all_same ss = same_all (tables_of P) (tables_of Q) (same.same_table_props S0 (classes_of A) docs global_doc flat) ss

    pub parts_here : all_parts (tables_of P) P.scopes ≡ all_parts (tables_of Q) Q.scopes
    parts_here = all_same P.scopes ∙ ap (λ ss. all_parts (tables_of Q) ss) (same.same_scopes S0 (classes_of A) docs global_doc flat)

    a_method : (x : ClassPlace) (q f : ℕ) → In {A = ℕ × ℕ} (q, f) (class_of A x).methods → is_method Q f ≡ true
    unfolding is_method
    a_method x q f i = has_in f (all_methods (tables_of Q) Q.scopes) (method_listed (tables_of Q) Q.scopes x.path q f (methods_are x q f i))

    not_method : (k : ℕ) (x : ClassPlace) → slice_get (class_places A) k ≡ Some x → is_method Q x.number ≡ true → ⊥
    unfolding unless_method
    not_method k x e m = let p = placed k x e in let z : None ≡ Some x.says = subst (λ b. pick b None (said_at (x.function).at cs) ≡ Some x.says) m p.says in cc

    data Code (a f : ℕ) : Type 0 where
      own_code : (k : ℕ) (x : ClassPlace) → slice_get (class_places A) k ≡ Some x → a ≡ length X.classes + k → x.number ≡ f → Code a f
      method_code : (k : ℕ) (x : ClassPlace) (q : ℕ) → slice_get (class_places A) k ≡ Some x → a ≡ length X.classes + k → In {A = ℕ × ℕ} (q, f) (class_of A x).methods → Code a f

    code_of : (a f : ℕ) (c : Class) → slice_get (classes_of A) a ≡ Some c → IsCode c f → Code a f
    code_of a f c e code = by (sort A a c e) code where
      by : Sort A a c → IsCode c f → Code a f
      by (of_outside n i l h) (its_function z) = absurd (let y : None ≡ Some f = sym (outside_none A n i) ∙ ap (λ d. d.function) h ∙ z in cc)
      by (of_outside n i l h) (its_method q z) = absurd (no_methods n i q f (subst (λ d. In {A = ℕ × ℕ} (q, f) d.methods) (sym h) z))
      by (of_place k x s n h) (its_function z) = own_code k x s n (same_some (sym (function_is A x) ∙ ap (λ d. d.function) h ∙ z))
      by (of_place k x s n h) (its_method q z) = method_code k x q s n (subst (λ d. In {A = ℕ × ℕ} (q, f) d.methods) (sym h) z)

    pub one_class : (a b f : ℕ) (c d : Class) → slice_get (classes_of A) a ≡ Some c → slice_get (classes_of A) b ≡ Some d → IsCode c f → IsCode d f → a ≡ b
    one_class a b f c d e h m n = by (code_of a f c e m) (code_of b f d h n) where
      by : Code a f → Code b f → a ≡ b
      by (own_code j x s i z) (own_code k y t o w) = i ∙ ap (λ l. length X.classes + l) (number_once A j k x y s t (z ∙ sym w)) ∙ sym o
      by (own_code j x s i z) (method_code k y q t o w) = absurd (not_method j x s (subst (λ g. is_method Q g ≡ true) (sym z) (a_method y q f w)))
      by (method_code j x q s i z) (own_code k y t o w) = absurd (not_method k y t (subst (λ g. is_method Q g ≡ true) (sym w) (a_method x q f z)))
      by (method_code j x q s i z) (method_code k y r t o w) =
          let u = tidy.once parts_once x.path y.path q r f (subst (λ xs. In (sets_method x.path q f) xs) (sym parts_here) (methods_are x q f z)) (subst (λ xs. In (sets_method y.path r f) xs) (sym parts_here) (methods_are y r f w)) in
          i ∙ ap (λ l. length X.classes + l) (path_once j k x y s t u.0) ∙ sym o

    -- ---- each method stands in the list of its class

    part_of : (f : ℕ) (x : Part) → In x (parts_of P f) → In x (all_parts (tables_of P) P.scopes)
    unfolding parts_of body_of body_in stmts_parts
    part_of f x i = by (slice_get P.scopes f) refl where
      by : (o : Option Scope) → slice_get P.scopes f ≡ o → In x (all_parts (tables_of P) P.scopes)
      by None e = absurd (let j = subst (λ o. In x (stmts_parts (tables_of P) 0 (body_in o))) e i in elim j [ ])
      by (Some s) e = part_in (tables_of P) f s P.scopes x e (subst (λ o. In x (stmts_parts (tables_of P) 0 (body_in o))) e i)

    listed : (f : ℕ) (v : Path) (q g : ℕ) → In (sets_method v q g) (parts_of P f) → (h c : ℕ) (k : Class) → In {A = Path × ℕ} (v, h) (tables_of P).set → class_of_function (tables_of P) h ≡ Some c → slice_get P.classes c ≡ Some k → In {A = ℕ × ℕ} (q, g) k.methods
    unfolding class_of_function tables_of program_of
    listed f v q g i h c k j e s =
        let d = first_found 0 (classes_of A) h c e in
        by (sort A d.0 d.1 d.2) d.3 (same_some (sym (subst (λ n. slice_get (classes_of A) n ≡ Some d.1) (let y : d.0 ≡ c = omega (arith, d.4) in y) d.2) ∙ s)) where
          by : {a : ℕ} {z : Class} → Sort A a z → z.function ≡ Some h → z ≡ k → In {A = ℕ × ℕ} (q, g) k.methods
          by (of_outside n b l t) u r = absurd (let y : None ≡ Some h = sym (outside_none A n b) ∙ ap (λ w. w.function) t ∙ u in cc)
          by (of_place m x t n w) u r =
              let number : x.number ≡ h = same_some (sym (function_is A x) ∙ ap (λ y. y.function) w ∙ u) in
              let path : x.path ≡ v = alone x.path v h (subst (λ o. In {A = Path × ℕ} (x.path, o) (tables_of P).set) number (set_at m x t)) j in
              subst (λ y. In {A = ℕ × ℕ} (q, g) y.methods) (w ∙ r)
              (methods_into x q g (subst (λ xs. In (sets_method x.path q g) xs) parts_here (part_of f (sets_method x.path q g) (subst (λ y. In (sets_method y q g) (parts_of P f)) (sym path) i))))

    pub has_method : (f : ℕ) (v : Path) (q g : ℕ) → In (sets_method v q g) (parts_of P f) → HasMethod P v q g
    unfolding set_by class_of_function
    has_method f v q g i = record { method = among } where
      among : (h c : ℕ) (k : Class) → In h (set_by (tables_of P) (Some v)) → class_of_function (tables_of P) h ≡ Some c → slice_get P.classes c ≡ Some k → In {A = ℕ × ℕ} (q, g) k.methods
      among h c k j e s = listed f v q g i h c k (set_to_in (tables_of P).set v h j) e s
