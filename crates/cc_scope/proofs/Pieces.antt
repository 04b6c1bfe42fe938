-- What a part of a tree becomes, part by part: the parts of its scope, the functions in it, and the names that it
-- declares. One record is made along the trees, and joined as lists are.
use Rattle.std.proofs.Common.{◌≡◌, refl, sym, ap, ◌∙◌, subst, arith, inl, inr, ℕ, suc, ◌+◌, ◌<◌, ◌≤◌, Bool, true, false, ◌&&◌, ◌||◌, List, [], ◌∷◌, ◌++◌, length, Option, Some, append_assoc, append-nil, length-append}
use Rattle.std.specs.Prelude.{slice_get}
use Rattle.cc_ast.specs.declared.place.Place.{Place}
use Rattle.cc_ast.specs.declared.tree.Ref.{Ref}
use Rattle.cc_ast.specs.Syntax.{Scope, Program}
use Rattle.cc_meaning.specs.State.{Path, Tables}
use Rattle.cc_meaning.specs.Operators.{is_in}
use Rattle.cc_meaning.specs.Names.{builtin_globals}
use Rattle.cc_meaning.specs.Shapes.{tables_of}
use Rattle.cc_meaning.specs.Alike.{In, here, there}
use Rattle.cc_meaning.specs.Parts.{Part, has_site, uses_prop, uses_doc, mentions, declares, makes, sets_method, key_parts, stmts_parts}
use Rattle.cc_meaning.specs.WellMade.{parts_of, functions_in}
use Rattle.cc_grammar.specs.RawTree.{Named, RawKey, RawStmts}
use Rattle.cc_grammar.specs.RawTree as raw
use Rattle.cc_scope.specs.Lists.{Name}
use Rattle.cc_scope.specs.Marks.{Mark, a_site, a_name, a_function, functions, sites, names, Counters, next, past, key_marks, stmts_marks, stmts_declare}
use Rattle.cc_scope.specs.Resolve.{Outer, Frames, lookup, ref_of, prop_of, key_of, inner, behind, scope_of, stmts_of, stmts_scopes, chunk_scope, Source, all_marks, outer_of, program_of}
use Rattle.cc_scope.specs.Refusals.{Refusal, Spot, stmts_refused}
use Rattle.cc_scope.specs.Grammatical.{at_head, stmts_fit}
use Rattle.cc_scope.proofs.Declared.{in_left, in_right, in_either}
use Rattle.cc_scope.proofs.Law.{functions_append, names_append}
use Rattle.cc_scope.proofs.Numbers.{first_part}
use Rattle.cc_scope.proofs.Globals.{after}
use Rattle.cc_scope.proofs.Tables.{split_at}

-- ---- lists

pub sites_append : (ms ns : List Mark) → sites (ms ++ ns) ≡ sites ms + sites ns
unfolding sites
sites_append [] ns = omega arith
sites_append (a_site q ∷ ms) ns = omega (arith, sites_append ms ns)
sites_append (a_function ∷ ms) ns = sites_append ms ns
sites_append (a_name x ∷ ms) ns = sites_append ms ns

pub both_true : {a b : Bool} → a && b ≡ true → (a ≡ true) × (b ≡ true)
both_true {a = true} e = (refl, e)
both_true {a = false} e = absurd (cc)

pub both_empty : {A : Type 0} (xs ys : List A) → xs ++ ys ≡ [] → (xs ≡ []) × (ys ≡ [])
both_empty [] ys e = (refl, e)
both_empty (x ∷ xs) ys e = absurd (cc)

pub functions_join : (xs ys : List Part) → functions_in (xs ++ ys) ≡ functions_in xs ++ functions_in ys
unfolding functions_in
functions_join [] ys = refl
functions_join (has_site i ∷ xs) ys = functions_join xs ys
functions_join (uses_prop i ∷ xs) ys = functions_join xs ys
functions_join (uses_doc i ∷ xs) ys = functions_join xs ys
functions_join (mentions c r ∷ xs) ys = functions_join xs ys
functions_join (declares c r ∷ xs) ys = functions_join xs ys
functions_join (makes c f d ∷ xs) ys = ap (λ fs. f ∷ fs) (functions_join xs ys)
functions_join (sets_method w q f ∷ xs) ys = functions_join xs ys

-- ascending numbers from one on, below another
pub data Rising : ℕ → ℕ → List ℕ → Type 0 where
  no_more : {a b : ℕ} → a ≤ b → Rising a b []
  one_more : {a b g : ℕ} {gs : List ℕ} → a ≤ g → Rising (suc g) b gs → Rising a b (g ∷ gs)

pub rising_from : {a b c : ℕ} {gs : List ℕ} → a ≤ b → Rising b c gs → Rising a c gs
rising_from h (no_more k) = no_more (omega arith)
rising_from h (one_more k r) = one_more (omega arith) r

pub rising_join : {a b c : ℕ} (fs gs : List ℕ) → Rising a b fs → Rising b c gs → Rising a c (fs ++ gs)
rising_join [] gs (no_more k) r = rising_from k r
rising_join (f ∷ fs) gs (one_more k q) r = one_more k (rising_join fs gs q r)

-- ---- catch clauses around a place of a function

abbrev pub over : List Name → Frames → Frames
over [] E = E
over (x ∷ xs) E = (x ∷ []) ∷ over xs E

abbrev pub depth : List Name → ℕ
depth [] = 0
depth (x ∷ xs) = suc (depth xs)

abbrev pub spot : Bool → Frames → List Name → Spot
spot top E xs = record { frames = over xs E; caught = xs; top = top }

module _ (S : Source) where
  abbrev pub W : Outer
  W = outer_of S

  abbrev pub P : Program
  P = program_of S

  abbrev pub T : Tables
  T = tables_of P

  abbrev pub every : List Mark
  every = all_marks S.trees

  -- a name that may be declared there: no caught one, and in a chunk's own statements none of the outside
  pub record IsFree (top : Bool) (xs : List Name) (x : Name) : Type 0 where
    pub uncaught : is_in x xs ≡ false
    pub inside : top ≡ true → is_in x (outer_of S).externs || is_in x builtin_globals ≡ false

  -- what holds of each part of a function's own statements, that declare the names D
  pub data Plain (f : ℕ) (top : Bool) (E : Frames) (D : List Name) : Part → Type 0 where
    plain_site : (i : ℕ) → i < sites (all_marks S.trees) → Plain f top E D (has_site i)
    plain_prop : (x : Name) → In x (names (all_marks S.trees)) → Plain f top E D (uses_prop (prop_of (outer_of S) x))
    plain_doc : (q : Place) → Plain f top E D (uses_doc ((outer_of S).doc_at q))
    plain_mention : (xs : List Name) (x : Name) (r : Ref) → lookup (outer_of S) (over xs E) x ≡ Some r → Plain f top E D (mentions (depth xs) r)
    plain_declaration : (xs : List Name) (x : Name) → In x D → IsFree top xs x → Plain f top E D (declares (depth xs) (ref_of (outer_of S) (over xs E) x))
    plain_function : (c g : ℕ) (d : Bool) (s : Scope) → slice_get (program_of S).scopes g ≡ Some s → s.parent ≡ Some f → (d ≡ true → s.own ≡ false) → length S.trees ≤ g → Plain f top E D (makes c g d)
    plain_method : (w : Path) (q g : ℕ) → Plain f top E D (sets_method w q g)

  -- what is known where a part of a tree stands in scope f, whose own statements declare the names D
  pub record Given (f : ℕ) (D : List Name) (n : Counters) (ms : List Mark) (ds : List Name) (rs : List Refusal) (V : List Scope) (xs : List Part) (y : Bool) : Type 0 where
    pub sited : n.site + sites ms ≤ sites (all_marks S.trees)
    pub spelled : (x : Name) → In x (names ms) → In x (names (all_marks S.trees))
    pub declared : (x : Name) → In x ds → In x D
    pub clean : rs ≡ []
    pub scopes : (i : ℕ) (s : Scope) → slice_get V i ≡ Some s → slice_get (program_of S).scopes (n.function + i) ≡ Some s
    pub parts : (x : Part) → In x xs → In x (parts_of (program_of S) f)
    pub fits : y ≡ true
    pub above : length S.trees ≤ n.function

  abbrev pub Body : ℕ → Bool → Frames → RawStmts → Counters → Bool → Type 0
  Body f top E b n returns = Given f (stmts_declare b) n (stmts_marks b) (stmts_declare b) (stmts_refused (outer_of S) (spot top E []) b) (stmts_scopes (outer_of S) E f n b) (stmts_parts (tables_of (program_of S)) 0 (stmts_of (outer_of S) E n b)) (stmts_fit (at_head returns) [] b)

  -- a scope of the program, with the frames and the text of its own statements
  pub data Stands : ℕ → Bool → Frames → RawStmts → Counters → Type 0 where
    chunk_stands : (f : ℕ) (b : RawStmts) (n : Counters) → f < length S.trees → slice_get S.trees f ≡ Some b → slice_get (program_of S).scopes f ≡ Some (chunk_scope (outer_of S) n b)
        → Body f true [] b n false → Stands f true [] b n
    function_stands : {f : ℕ} {top : Bool} {E : Frames} {a : RawStmts} {m : Counters} → Stands f top E a m → (xs : List Name) (own : Option Named) (ps : List Named) (b : RawStmts) (n : Counters) (q : Place) (declared : Bool)
        → (isown : Bool) → isown ≡ Rattle.std.specs.Prelude.is_some own → In (makes (depth xs) n.function declared) (parts_of (program_of S) f)
        → slice_get (program_of S).scopes n.function ≡ Some (scope_of (outer_of S) (inner own ps b (over xs E)) f n isown ps b q)
        → length S.trees ≤ n.function → Body n.function false (inner own ps b (over xs E)) b (behind n) true → Stands n.function false (inner own ps b (over xs E)) b (behind n)

  pub record StandsAt (f : ℕ) : Type 0 where
    pub top : Bool
    pub frames : Frames
    pub body : RawStmts
    pub from : Counters
    pub stands : Stands f top frames body from

  -- a name that is declared has a declaration among the parts
  pub record Shown (top : Bool) (E : Frames) (ys : List Part) (x : Name) : Type 0 where
    pub caught : List Name
    pub free : IsFree top caught x
    pub among : In (declares (depth caught) (ref_of (outer_of S) (over caught E) x)) ys

  pub record Piece (f : ℕ) (top : Bool) (E : Frames) (n : Counters) (ms : List Mark) (ds : List Name) (rs : List Refusal) (V : List Scope) (xs : List Part) (y : Bool) : Type 0 where
    pub plain : (D : List Name) → Given f D n ms ds rs V xs y → (x : Part) → In x xs → Plain f top E D x
    pub shows : rs ≡ [] → (x : Name) → In x ds → Shown top E xs x
    pub rising : Rising n.function (n.function + functions ms) (functions_in xs)
    pub counted : length V ≡ functions ms
    pub bodies : (D : List Name) → Given f D n ms ds rs V xs y → {a : RawStmts} {m : Counters} → Stands f top E a m → (i : ℕ) (s : Scope) → slice_get V i ≡ Some s → StandsAt (n.function + i)

  -- ---- how pieces are joined

  left_given : {f : ℕ} {D : List Name} {n : Counters} (ms ns : List Mark) (ds es : List Name) (rs qs : List Refusal) (V U : List Scope) (xs zs : List Part) (y z : Bool)
      → Given f D n (ms ++ ns) (ds ++ es) (rs ++ qs) (V ++ U) (xs ++ zs) (y && z) → Given f D n ms ds rs V xs y
  left_given {n} ms ns ds es rs qs V U xs zs y z g = record {
    sited = let h = g.sited in let e = sites_append ms ns in omega arith;
    spelled = λ x i. g.spelled x (subst (λ l. In x l) (sym (names_append ms ns)) (in_left (names ms) (names ns) i));
    declared = λ x i. g.declared x (in_left ds es i);
    clean = (both_empty rs qs g.clean).0;
    scopes = λ i s e. g.scopes i s (first_part V U i s e);
    parts = λ x i. g.parts x (in_left xs zs i);
    fits = (both_true g.fits).0;
    above = g.above;
  }

  right_given : {f : ℕ} {D : List Name} {n : Counters} (ms ns : List Mark) (ds es : List Name) (rs qs : List Refusal) (V U : List Scope) (xs zs : List Part) (y z : Bool) → length V ≡ functions ms
      → Given f D n (ms ++ ns) (ds ++ es) (rs ++ qs) (V ++ U) (xs ++ zs) (y && z) → Given f D (past n ms) ns es qs U zs z
  right_given {n} ms ns ds es rs qs V U xs zs y z count g = record {
    sited = let h = g.sited in let e = sites_append ms ns in omega arith;
    spelled = λ x i. g.spelled x (subst (λ l. In x l) (sym (names_append ms ns)) (in_right (names ms) (names ns) i));
    declared = λ x i. g.declared x (in_right ds es i);
    clean = (both_empty rs qs g.clean).1;
    scopes = λ i s e. subst (λ k. slice_get (program_of S).scopes k ≡ Some s) (let c = count in omega arith) (g.scopes (length V + i) s (after V U i s e));
    parts = λ x i. g.parts x (in_right xs zs i);
    fits = (both_true {a = y} g.fits).1;
    above = let h = g.above in omega arith;
  }

  shown_left : {top : Bool} {E : Frames} (xs zs : List Part) {x : Name} → Shown top E xs x → Shown top E (xs ++ zs) x
  shown_left xs zs s = record { caught = s.caught; free = s.free; among = in_left xs zs s.among }

  shown_right : {top : Bool} {E : Frames} (xs zs : List Part) {x : Name} → Shown top E zs x → Shown top E (xs ++ zs) x
  shown_right xs zs s = record { caught = s.caught; free = s.free; among = in_right xs zs s.among }

  pub both : {f : ℕ} {top : Bool} {E : Frames} {n : Counters} {ms ns : List Mark} {ds es : List Name} {rs qs : List Refusal} {V U : List Scope} {xs zs : List Part} {y z : Bool}
      → Piece f top E n ms ds rs V xs y → Piece f top E (past n ms) ns es qs U zs z → Piece f top E n (ms ++ ns) (ds ++ es) (rs ++ qs) (V ++ U) (xs ++ zs) (y && z)
  both {top} {E} {n} {ms} {ns} {ds} {es} {rs} {qs} {V} {U} {xs} {zs} {y} {z} a b = record {
    plain = λ D g x i. elim (in_either xs zs i) [ inl j ↦ a.plain D (left_given ms ns ds es rs qs V U xs zs y z g) x j | inr j ↦ b.plain D (right_given ms ns ds es rs qs V U xs zs y z a.counted g) x j ];
    shows = λ e x i. elim (in_either ds es i) [ inl j ↦ shown_left xs zs (a.shows (both_empty rs qs e).0 x j) | inr j ↦ shown_right xs zs (b.shows (both_empty rs qs e).1 x j) ];
    rising = subst (λ l. Rising n.function (n.function + functions (ms ++ ns)) l) (sym (functions_join xs zs))
        (subst (λ k. Rising n.function k (functions_in xs ++ functions_in zs)) (let e = functions_append ms ns in omega arith) (rising_join (functions_in xs) (functions_in zs) a.rising b.rising));
    counted = length-append V U ∙ ap (λ i. i + length U) a.counted ∙ ap (λ i. functions ms + i) b.counted ∙ sym (functions_append ms ns);
    bodies = λ D g st i s e. elim (split_at V U i s e) [
      | inl h ↦ a.bodies D (left_given ms ns ds es rs qs V U xs zs y z g) st i s h
      | inr h ↦ subst (λ k. StandsAt k) (let c = a.counted in let d = h.2 in omega arith) (b.bodies D (right_given ms ns ds es rs qs V U xs zs y z a.counted g) st h.0 s h.1)
    ];
  }

  pub leaf : {f : ℕ} {top : Bool} {E : Frames} {n : Counters} {rs : List Refusal} {y : Bool} → Piece f top E n [] [] rs [] [] y
  unfolding functions functions_in
  leaf = record { plain = λ D g x i. elim i [ ]; shows = λ e x i. elim i [ ]; rising = no_more (omega arith); counted = refl; bodies = λ D g st i s e. absurd (cc) }

  -- the part of a site comes first
  pub with_site : {f : ℕ} {top : Bool} {E : Frames} {n : Counters} {q : Place} {ms : List Mark} {ds : List Name} {rs : List Refusal} {V : List Scope} {xs : List Part} {y : Bool}
      → Piece f top E (next n) ms ds rs V xs y → Piece f top E n (a_site q ∷ ms) ds rs V (has_site n.site ∷ xs) y
  unfolding functions functions_in sites names
  with_site {f} {top} {E} {n} {q} {ms} {ds} {rs} {V} {xs} {y} a = record {
    plain = λ D g x i. at D g x i;
    shows = λ e x i. shown_right (has_site n.site ∷ []) xs (a.shows e x i);
    rising = a.rising;
    counted = a.counted;
    bodies = λ D g st i s e. a.bodies D (under D g) st i s e;
  } where
    under : (D : List Name) → Given f D n (a_site q ∷ ms) ds rs V (has_site n.site ∷ xs) y → Given f D (next n) ms ds rs V xs y
    under D g = record { sited = let h = g.sited in omega arith; spelled = g.spelled; declared = g.declared; clean = g.clean; scopes = g.scopes; parts = λ x i. g.parts x (there i); fits = g.fits; above = g.above }

    at : (D : List Name) → Given f D n (a_site q ∷ ms) ds rs V (has_site n.site ∷ xs) y → (x : Part) → In x (has_site n.site ∷ xs) → Plain f top E D x
    at D g x here = plain_site n.site (let h = g.sited in omega arith)
    at D g x (there i) = a.plain D (under D g) x i

  -- a name behind a dot
  pub with_name : {f : ℕ} {top : Bool} {E : Frames} {n : Counters} {ms : List Mark} {ds : List Name} {rs : List Refusal} {V : List Scope} {xs : List Part} {y : Bool} (w : Name)
      → Piece f top E n ms ds rs V xs y → Piece f top E n (ms ++ a_name w ∷ []) ds rs V (uses_prop (prop_of (outer_of S) w) ∷ xs) y
  unfolding functions functions_in sites names
  with_name {f} {top} {E} {n} {ms} {ds} {rs} {V} {xs} {y} w a = record {
    plain = λ D g x i. at D g x i;
    shows = λ e x i. shown_right (uses_prop (prop_of (outer_of S) w) ∷ []) xs (a.shows e x i);
    rising = subst (λ k. Rising n.function k (functions_in xs)) (let e = functions_append ms (a_name w ∷ []) in omega arith) a.rising;
    counted = a.counted ∙ (let e = functions_append ms (a_name w ∷ []) in omega arith);
    bodies = λ D g st i s e. a.bodies D (under D g) st i s e;
  } where
    under : (D : List Name) → Given f D n (ms ++ a_name w ∷ []) ds rs V (uses_prop (prop_of (outer_of S) w) ∷ xs) y → Given f D n ms ds rs V xs y
    under D g = record { sited = let h = g.sited in let e = sites_append ms (a_name w ∷ []) in omega arith; spelled = λ x i. g.spelled x (subst (λ l. In x l) (sym (names_append ms (a_name w ∷ []))) (in_left (names ms) (w ∷ []) i)); declared = g.declared; clean = g.clean; scopes = g.scopes; parts = λ x i. g.parts x (there i); fits = g.fits; above = g.above }

    at : (D : List Name) → Given f D n (ms ++ a_name w ∷ []) ds rs V (uses_prop (prop_of (outer_of S) w) ∷ xs) y → (x : Part) → In x (uses_prop (prop_of (outer_of S) w) ∷ xs) → Plain f top E D x
    at D g x here = plain_prop w (g.spelled w (subst (λ l. In w l) (sym (names_append ms (a_name w ∷ []))) (in_right (names ms) (w ∷ []) here)))
    at D g x (there i) = a.plain D (under D g) x i

  pub key : {f : ℕ} {top : Bool} {E : Frames} {n : Counters} (k : RawKey) → Piece f top E n (key_marks k) [] [] [] (key_parts (key_of (outer_of S) k)) true
  unfolding key_marks key_of key_parts functions functions_in names
  key (raw.dotted w) = record { plain = λ D g x i. at D g x i; shows = λ e x i. elim i [ ]; rising = no_more (omega arith); counted = refl; bodies = λ D g st i s e. absurd (cc) } where
    at : {f : ℕ} {top : Bool} {E : Frames} {n : Counters} (D : List Name) → Given f D n (a_name w ∷ []) [] [] [] (uses_prop (prop_of (outer_of S) w) ∷ []) true → (x : Part) → In x (uses_prop (prop_of (outer_of S) w) ∷ []) → Plain f top E D x
    at D g x here = plain_prop w (g.spelled w here)
    at D g x (there i) = elim i [ ]
  key (raw.quoted t) = leaf
  key (raw.numbered z) = leaf

  -- a condition besides those of the parts
  pub also : {f : ℕ} {top : Bool} {E : Frames} {n : Counters} {ms : List Mark} {ds : List Name} {rs : List Refusal} {V : List Scope} {xs : List Part} {y : Bool} (b : Bool)
      → Piece f top E n ms ds rs V xs y → Piece f top E n ms ds rs V xs (b && y)
  also {f} {n} {ms} {ds} {rs} {V} {xs} {y} b a = record { plain = λ D g x i. a.plain D (under D g) x i; shows = a.shows; rising = a.rising; counted = a.counted; bodies = λ D g st i s e. a.bodies D (under D g) st i s e } where
    under : (D : List Name) → Given f D n ms ds rs V xs (b && y) → Given f D n ms ds rs V xs y
    under D g = record { sited = g.sited; spelled = g.spelled; declared = g.declared; clean = g.clean; scopes = g.scopes; parts = g.parts; fits = (both_true {a = b} g.fits).1; above = g.above }

  -- methods that are set besides
  pub with_methods : {f : ℕ} {top : Bool} {E : Frames} {n : Counters} {ms : List Mark} {ds : List Name} {rs : List Refusal} {V : List Scope} {xs : List Part} {y : Bool} (os : List Part)
      → ((x : Part) → In x os → (w : Path) × (q : ℕ) × (g : ℕ) × (x ≡ sets_method w q g)) → functions_in os ≡ []
      → Piece f top E n ms ds rs V xs y → Piece f top E n ms ds rs V (os ++ xs) y
  with_methods {f} {top} {E} {n} {ms} {ds} {rs} {V} {xs} {y} os h e a = record {
    plain = λ D g x i. elim (in_either os xs i) [ inl j ↦ (let d = h x j in subst (λ z. Plain f top E D z) (sym d.3) (plain_method d.0 d.1 d.2)) | inr j ↦ a.plain D (under D g) x j ];
    shows = λ z x i. shown_right os xs (a.shows z x i);
    rising = subst (λ l. Rising n.function (n.function + functions ms) l) (sym (functions_join os xs ∙ ap (λ l. l ++ functions_in xs) e)) a.rising;
    counted = a.counted;
    bodies = λ D g st i s z. a.bodies D (under D g) st i s z;
  } where
    under : (D : List Name) → Given f D n ms ds rs V (os ++ xs) y → Given f D n ms ds rs V xs y
    under D g = record { sited = g.sited; spelled = g.spelled; declared = g.declared; clean = g.clean; scopes = g.scopes; parts = λ x i. g.parts x (in_right os xs i); fits = g.fits; above = g.above }

  -- the doc of a cast
  pub with_doc : {f : ℕ} {top : Bool} {E : Frames} {n : Counters} {ms : List Mark} {ds : List Name} {rs : List Refusal} {V : List Scope} {xs : List Part} {y : Bool} (q : Place)
      → Piece f top E n ms ds rs V xs y → Piece f top E n ms ds rs V (uses_doc ((outer_of S).doc_at q) ∷ xs) y
  unfolding functions_in
  with_doc {f} {top} {E} {n} {ms} {ds} {rs} {V} {xs} {y} q a = record {
    plain = λ D g x i. at D g x i;
    shows = λ z x i. shown_right (uses_doc ((outer_of S).doc_at q) ∷ []) xs (a.shows z x i);
    rising = a.rising;
    counted = a.counted;
    bodies = λ D g st i s z. a.bodies D (under D g) st i s z;
  } where
    under : (D : List Name) → Given f D n ms ds rs V (uses_doc ((outer_of S).doc_at q) ∷ xs) y → Given f D n ms ds rs V xs y
    under D g = record { sited = g.sited; spelled = g.spelled; declared = g.declared; clean = g.clean; scopes = g.scopes; parts = λ x i. g.parts x (there i); fits = g.fits; above = g.above }

    at : (D : List Name) → Given f D n ms ds rs V (uses_doc ((outer_of S).doc_at q) ∷ xs) y → (x : Part) → In x (uses_doc ((outer_of S).doc_at q) ∷ xs) → Plain f top E D x
    at D g x here = plain_doc q
    at D g x (there i) = a.plain D (under D g) x i

  regroup : {f : ℕ} {top : Bool} {E : Frames} {n : Counters} {ms : List Mark} {ds : List Name} {rs : List Refusal} {V : List Scope} {y : Bool} (xs zs us : List Part)
      → Piece f top E n ms ds rs V (xs ++ (zs ++ us)) y → Piece f top E n ms ds rs V ((xs ++ zs) ++ us) y
  regroup {f} {top} {E} {n} {ms} {ds} {rs} {V} {y} xs zs us a = subst (λ l. Piece f top E n ms ds rs V l y) (sym (append_assoc xs zs us)) a

  pub three : {f : ℕ} {top : Bool} {E : Frames} {n : Counters} {ms ns os : List Mark} {ds es gs : List Name} {rs qs ts : List Refusal} {V U X : List Scope} {xs zs us : List Part} {y z w : Bool}
      → Piece f top E n ms ds rs V xs y → Piece f top E (past n ms) ns es qs U zs z → Piece f top E (past (past n ms) ns) os gs ts X us w
      → Piece f top E n (ms ++ (ns ++ os)) (ds ++ (es ++ gs)) (rs ++ (qs ++ ts)) (V ++ (U ++ X)) ((xs ++ zs) ++ us) (y && (z && w))
  three {xs} {zs} {us} a b c = regroup xs zs us (both a (both b c))

  pub four : {f : ℕ} {top : Bool} {E : Frames} {n : Counters} {ms ns os hs : List Mark} {ds es gs js : List Name} {rs qs ts ks : List Refusal} {V U X Y : List Scope} {xs zs us ws : List Part} {y z w v : Bool}
      → Piece f top E n ms ds rs V xs y → Piece f top E (past n ms) ns es qs U zs z → Piece f top E (past (past n ms) ns) os gs ts X us w → Piece f top E (past (past (past n ms) ns) os) hs js ks Y ws v
      → Piece f top E n (ms ++ (ns ++ (os ++ hs))) (ds ++ (es ++ (gs ++ js))) (rs ++ (qs ++ (ts ++ ks))) (V ++ (U ++ (X ++ Y))) (((xs ++ zs) ++ us) ++ ws) (y && (z && (w && v)))
  four {xs} {zs} {us} {ws} a b c d = regroup (xs ++ zs) us ws (regroup xs zs (us ++ ws) (both a (both b (both c d))))

  -- what is assigned to, what is assigned, and the method that it sets
  pub with_assigned : {f : ℕ} {top : Bool} {E : Frames} {n : Counters} {ms ns : List Mark} {rs qs : List Refusal} {V U : List Scope} {xs zs : List Part} {y z : Bool} (os : List Part)
      → ((x : Part) → In x os → (w : Path) × (q : ℕ) × (g : ℕ) × (x ≡ sets_method w q g)) → functions_in os ≡ []
      → Piece f top E n ms [] rs V xs y → Piece f top E (past n ms) ns [] qs U zs z
      → Piece f top E n (ms ++ ns) [] (rs ++ qs) (V ++ U) ((os ++ xs) ++ zs) (y && z)
  with_assigned {xs} {zs} os h e a b = regroup os xs zs (with_methods os h e (both a b))

  -- statements, and then an expression
  pub then_expression : {f : ℕ} {top : Bool} {E : Frames} {n : Counters} {ms ns : List Mark} {ds : List Name} {rs qs : List Refusal} {V U : List Scope} {xs zs : List Part} {y z : Bool}
      → Piece f top E n ms ds rs V xs y → Piece f top E (past n ms) ns [] qs U zs z → Piece f top E n (ms ++ ns) ds (rs ++ qs) (V ++ U) (xs ++ zs) (y && z)
  then_expression {f} {top} {E} {n} {ms} {ns} {ds} {rs} {qs} {V} {U} {xs} {zs} {y} {z} a b = subst (λ l. Piece f top E n (ms ++ ns) l (rs ++ qs) (V ++ U) (xs ++ zs) (y && z)) (append-nil ds) (both a b)

  -- one declarator is a list of declarators
  pub alone : {f : ℕ} {top : Bool} {E : Frames} {n : Counters} {ms : List Mark} {ds : List Name} {rs : List Refusal} {V : List Scope} {xs : List Part} {y : Bool}
      → Piece f top E n ms ds rs V xs y → Piece f top E n ms ds rs V (xs ++ []) y
  alone {f} {top} {E} {n} {ms} {ds} {rs} {V} {xs} {y} a = subst (λ l. Piece f top E n ms ds rs V l y) (sym (append-nil xs)) a
