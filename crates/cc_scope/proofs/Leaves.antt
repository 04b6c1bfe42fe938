-- The pieces of variables, declarations and functions.
use Rattle.std.proofs.Common.{◌≡◌, refl, sym, ap, subst, arith, ℕ, zero, suc, ◌+◌, Bool, true, false, ◌&&◌, ◌||◌, List, [], ◌∷◌, ◌++◌, Option, Some, None, is_some}
use Rattle.std.specs.Prelude.{slice_get}
use Rattle.cc_ast.specs.declared.place.Place.{Place}
use Rattle.cc_ast.specs.declared.tree.Ref.{Ref}
use Rattle.cc_ast.specs.Syntax.{Scope}
use Rattle.cc_meaning.specs.Operators.{is_in}
use Rattle.cc_meaning.specs.Names.{builtin_globals}
use Rattle.cc_meaning.specs.Monad.{pick}
use Rattle.cc_meaning.specs.Shapes.{tables_of}
use Rattle.cc_meaning.specs.Alike.{In, here, there}
use Rattle.cc_meaning.specs.Parts.{Part, has_site, mentions, declares, makes, expr_parts, stmts_parts}
use Rattle.cc_meaning.specs.WellMade.{parts_of, functions_in}
use Rattle.cc_grammar.specs.RawTree.{Named, RawStmts}
use Rattle.cc_scope.specs.Lists.{Name}
use Rattle.cc_scope.specs.Marks.{Mark, a_site, a_function, functions, sites, names, Counters, next, stmts_marks, stmts_declare}
use Rattle.cc_scope.specs.Resolve.{Frames, lookup, ref_of, ref_by, var_by, inner, behind, scope_of, stmts_of, stmts_scopes, Source, outer_of, program_of}
use Rattle.cc_scope.specs.Refusals.{Refusal, write_by, declared_by, repeated, stmts_refused}
use Rattle.cc_scope.specs.Grammatical.{at_head, stmts_fit}
use Rattle.cc_scope.proofs.Whole.{body_is}
use Rattle.cc_scope.proofs.Pieces.{no_more, one_more, both_empty, over, depth, spot, IsFree, Plain, plain_site, plain_mention, plain_declaration, plain_function, Given, Body, Stands, function_stands, StandsAt, Shown, Piece, leaf, with_site}

unpicked : (c : Bool) (r : Refusal) → pick c (r ∷ []) [] ≡ [] → c ≡ false
unpicked true r e = absurd (cc)
unpicked false r e = refl

parted : (t a b : Bool) → (t && a) || b ≡ false → (b ≡ false) × (t ≡ true → a ≡ false)
parted true true b e = absurd (cc)
parted true false b e = (e, λ k. refl)
parted false a b e = (e, λ k. absurd (cc))

module _ (S : Source) where
  -- a variable that is read: a free `undefined` is a literal
  pub mention : {f : ℕ} {top : Bool} {E : Frames} {n : Counters} {q : Place} {rs : List Refusal} {y : Bool} (xs : List Name) (x : Name)
      → Piece S f top E n (a_site q ∷ []) [] rs [] (expr_parts (tables_of (program_of S)) (depth xs) (var_by n.site (lookup (outer_of S) (over xs E) x))) y
  unfolding expr_parts var_by functions functions_in sites
  mention {f} {top} {E} {n} {q} {rs} {y} xs x = by (lookup (outer_of S) (over xs E) x) refl where
    at : (r : Ref) → lookup (outer_of S) (over xs E) x ≡ Some r → {D : List Name} (z : Part) → In z (mentions (depth xs) r ∷ []) → Plain S f top E D z
    at r e z here = plain_mention xs x r e
    at r e z (there i) = elim i [ ]

    by : (o : Option Ref) → lookup (outer_of S) (over xs E) x ≡ o → Piece S f top E n (a_site q ∷ []) [] rs [] (expr_parts (tables_of (program_of S)) (depth xs) (var_by n.site o)) y
    by None e = with_site S (leaf S)
    by (Some r) e = with_site S (record { plain = λ D g z i. at r e z i; shows = λ h z i. elim i [ ]; rising = no_more (omega arith); counted = refl; bodies = λ D g st i s h. absurd (cc) })

  -- a variable that is written
  pub written : {f : ℕ} {top : Bool} {E : Frames} {n : Counters} {q : Place} {y : Bool} (xs : List Name) (x : Name)
      → Piece S f top E n (a_site q ∷ []) [] (write_by (outer_of S) x q (lookup (outer_of S) (over xs E) x)) [] (has_site n.site ∷ mentions (depth xs) (ref_of (outer_of S) (over xs E) x) ∷ []) y
  unfolding ref_of ref_by write_by functions functions_in
  written {f} {top} {E} {n} {q} {y} xs x = by (lookup (outer_of S) (over xs E) x) refl where
    at : {D : List Name} (r : Ref) → lookup (outer_of S) (over xs E) x ≡ Some r → (z : Part) → In z (mentions (depth xs) r ∷ []) → Plain S f top E D z
    at r e z here = plain_mention xs x r e
    at r e z (there i) = elim i [ ]

    by : (o : Option Ref) → lookup (outer_of S) (over xs E) x ≡ o → Piece S f top E n (a_site q ∷ []) [] (write_by (outer_of S) x q o) [] (has_site n.site ∷ mentions (depth xs) (ref_by o) ∷ []) y
    by None e = with_site S (record { plain = λ D g z i. absurd (let h = g.clean in cc); shows = λ h z i. elim i [ ]; rising = no_more (omega arith); counted = refl; bodies = λ D g st i s h. absurd (cc) })
    by (Some r) e = with_site S (record { plain = λ D g z i. at r e z i; shows = λ h z i. elim i [ ]; rising = no_more (omega arith); counted = refl; bodies = λ D g st i s h. absurd (cc) })

  -- a declaration that isn't refused is of a free name
  free_by : {top : Bool} (E : Frames) {xs : List Name} (v : Named) → declared_by (outer_of S) (spot top E xs) v ≡ [] → IsFree S top xs v.name
  unfolding declared_by
  free_by {top} E {xs} v e =
      let d = parted top (is_in v.name (outer_of S).externs || is_in v.name builtin_globals) (is_in v.name xs) (unpicked ((top && (is_in v.name (outer_of S).externs || is_in v.name builtin_globals)) || is_in v.name xs) _ e) in
      record { uncaught = d.0; inside = d.1 }

  -- a declared variable, before what follows
  pub with_declaration : {f : ℕ} {top : Bool} {E : Frames} {n : Counters} {q : Place} {ms : List Mark} {ds : List Name} {rs : List Refusal} {V : List Scope} {zs : List Part} {y : Bool} (xs : List Name) (v : Named)
      → Piece S f top E (next n) ms ds rs V zs y
      → Piece S f top E n (a_site q ∷ ms) (v.name ∷ ds) (declared_by (outer_of S) (spot top E xs) v ++ rs) V (has_site n.site ∷ declares (depth xs) (ref_of (outer_of S) (over xs E) v.name) ∷ zs) y
  unfolding functions functions_in sites names
  with_declaration {f} {top} {E} {n} {q} {ms} {ds} {rs} {V} {zs} {y} xs v a = record {
    plain = λ D g z i. at D g z i;
    shows = λ h z i. shown h z i;
    rising = a.rising;
    counted = a.counted;
    bodies = λ D g st i s h. a.bodies D (under D g) st i s h;
  } where
    free : declared_by (outer_of S) (spot top E xs) v ++ rs ≡ [] → IsFree S top xs v.name
    free h = free_by E v (both_empty (declared_by (outer_of S) (spot top E xs) v) rs h).0

    under : (D : List Name) → Given S f D n (a_site q ∷ ms) (v.name ∷ ds) (declared_by (outer_of S) (spot top E xs) v ++ rs) V (has_site n.site ∷ declares (depth xs) (ref_of (outer_of S) (over xs E) v.name) ∷ zs) y → Given S f D (next n) ms ds rs V zs y
    under D g = record { sited = let h = g.sited in omega arith; spelled = g.spelled; declared = λ z i. g.declared z (there i); clean = (both_empty (declared_by (outer_of S) (spot top E xs) v) rs g.clean).1; scopes = g.scopes; parts = λ z i. g.parts z (there (there i)); fits = g.fits; above = g.above }

    at : (D : List Name) → Given S f D n (a_site q ∷ ms) (v.name ∷ ds) (declared_by (outer_of S) (spot top E xs) v ++ rs) V (has_site n.site ∷ declares (depth xs) (ref_of (outer_of S) (over xs E) v.name) ∷ zs) y
        → (z : Part) → In z (has_site n.site ∷ declares (depth xs) (ref_of (outer_of S) (over xs E) v.name) ∷ zs) → Plain S f top E D z
    at D g z here = plain_site n.site (let h = g.sited in omega arith)
    at D g z (there here) = plain_declaration xs v.name (g.declared v.name here) (free g.clean)
    at D g z (there (there i)) = a.plain D (under D g) z i

    shown : declared_by (outer_of S) (spot top E xs) v ++ rs ≡ [] → (x : Name) → In x (v.name ∷ ds) → Shown S top E (has_site n.site ∷ declares (depth xs) (ref_of (outer_of S) (over xs E) v.name) ∷ zs) x
    shown h x here = record { caught = xs; free = free h; among = there here }
    shown h x (there i) = let s = a.shows (both_empty (declared_by (outer_of S) (spot top E xs) v) rs h).1 x i in record { caught = s.caught; free = s.free; among = there (there s.among) }

  abbrev Whole : ℕ → Counters → Frames → List Name → Option Named → List Named → RawStmts → Place → Bool → Bool → List Name → Type 0
  Whole f n E xs own ps b q declared isown D = Given S f D (next n) (a_function ∷ stmts_marks b) [] (repeated [] ps ++ stmts_refused (outer_of S) (spot false (inner own ps b (over xs E)) []) b)
      (scope_of (outer_of S) (inner own ps b (over xs E)) f n isown ps b q ∷ stmts_scopes (outer_of S) (inner own ps b (over xs E)) n.function (behind n) b) (makes (depth xs) n.function declared ∷ []) (stmts_fit (at_head true) [] b)

  -- a function, with the piece of its body
  pub with_function : {f : ℕ} {top : Bool} {E : Frames} (n : Counters) (xs : List Name) (own : Option Named) (ps : List Named) (b : RawStmts) (q : Place) (declared isown : Bool) → isown ≡ is_some own → (declared ≡ true → isown ≡ false)
      → Piece S n.function false (inner own ps b (over xs E)) (behind n) (stmts_marks b) (stmts_declare b) (stmts_refused (outer_of S) (spot false (inner own ps b (over xs E)) []) b) (stmts_scopes (outer_of S) (inner own ps b (over xs E)) n.function (behind n) b) (stmts_parts (tables_of (program_of S)) 0 (stmts_of (outer_of S) (inner own ps b (over xs E)) (behind n) b)) (stmts_fit (at_head true) [] b)
      → Piece S f top E (next n) (a_function ∷ stmts_marks b) [] (repeated [] ps ++ stmts_refused (outer_of S) (spot false (inner own ps b (over xs E)) []) b)
      (scope_of (outer_of S) (inner own ps b (over xs E)) f n isown ps b q ∷ stmts_scopes (outer_of S) (inner own ps b (over xs E)) n.function (behind n) b) (makes (depth xs) n.function declared ∷ []) (stmts_fit (at_head true) [] b)
  unfolding functions functions_in sites names scope_of parts_of
  with_function {f} {top} {E} n xs own ps b q declared isown e d a = record {
    plain = λ D g z i. at D g z i;
    shows = λ h z i. elim i [ ];
    rising = one_more (omega arith) (no_more (omega arith));
    counted = ap suc a.counted;
    bodies = λ D g st i s h. inside D g st i s h;
  } where
    stands_there : (D : List Name) → Whole f n E xs own ps b q declared isown D → slice_get (program_of S).scopes n.function ≡ Some (scope_of (outer_of S) (inner own ps b (over xs E)) f n isown ps b q)
    stands_there D g = subst (λ k. slice_get (program_of S).scopes k ≡ Some (scope_of (outer_of S) (inner own ps b (over xs E)) f n isown ps b q)) (let h : n.function + 0 ≡ n.function = omega arith in h) (g.scopes 0 _ refl)

    at : (D : List Name) → Whole f n E xs own ps b q declared isown D → (x : Part) → In x (makes (depth xs) n.function declared ∷ []) → Plain S f top E D x
    at D g x here = plain_function (depth xs) n.function declared _ (stands_there D g) refl d g.above
    at D g x (there i) = elim i [ ]

    body : (D : List Name) → Whole f n E xs own ps b q declared isown D → Body S n.function false (inner own ps b (over xs E)) b (behind n) true
    body D g = record {
      sited = g.sited;
      spelled = g.spelled;
      declared = λ x i. i;
      clean = (both_empty (repeated [] ps) _ g.clean).1;
      scopes = λ i s h. subst (λ k. slice_get (program_of S).scopes k ≡ Some s) (let m : n.function + suc i ≡ suc n.function + i = omega arith in m) (g.scopes (suc i) s h);
      parts = λ x i. subst (λ t. In x (stmts_parts (tables_of (program_of S)) 0 t)) (sym (body_is (program_of S) n.function _ (stands_there D g))) i;
      fits = g.fits;
      above = let h = g.above in omega arith;
    }

    stands : (D : List Name) → Whole f n E xs own ps b q declared isown D → {t : RawStmts} {m : Counters} → Stands S f top E t m → Stands S n.function false (inner own ps b (over xs E)) b (behind n)
    stands D g st = function_stands st xs own ps b n q declared isown e (g.parts _ here) (stands_there D g) g.above (body D g)

    inside : (D : List Name) → Whole f n E xs own ps b q declared isown D → {t : RawStmts} {m : Counters} → Stands S f top E t m → (i : ℕ) (s : Scope)
        → slice_get (scope_of (outer_of S) (inner own ps b (over xs E)) f n isown ps b q ∷ stmts_scopes (outer_of S) (inner own ps b (over xs E)) n.function (behind n) b) i ≡ Some s → StandsAt S (n.function + i)
    inside D g st zero s h = subst (λ k. StandsAt S k) (let m : n.function ≡ n.function + 0 = omega arith in m) (record { top = false; frames = inner own ps b (over xs E); body = b; from = behind n; stands = stands D g st })
    inside D g st (suc i) s h = subst (λ k. StandsAt S k) (let m : suc n.function + i ≡ n.function + suc i = omega arith in m) (a.bodies (stmts_declare b) (body D g) (stands D g st) i s h)
