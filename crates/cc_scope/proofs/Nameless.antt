-- A function that doesn't mention its own name by the test mentions it nowhere.
use Rattle.std.proofs.Common.{◌≡◌, refl, sym, ap, ◌∙◌, subst, arith, ℕ, zero, suc, ◌+◌, ◌-◌, ◌<◌, ◌≤◌, Bool, true, false, ◌&&◌, ◌||◌, List, [], ◌∷◌, length, Option, Some, None}
use Rattle.std.specs.Prelude.{slice_get}
use Rattle.std.specs.List.{list_any}
use Rattle.std.proofs.lemmas.Option.{slice_get_within}
use Rattle.std.proofs.lemmas.Bool.Decides.{nat_tests}
use Rattle.cc_ast.specs.Syntax.{Scope, Program}
use Rattle.cc_ast.specs.declared.tree.Ref.{Ref}
use Rattle.cc_meaning.specs.Shapes.{tables_of, body_of, body_in}
use Rattle.cc_meaning.specs.Alike.{In, here, there}
use Rattle.cc_meaning.specs.FlatPaths.{OwnNameOf, own_here, own_outer, own_further}
use Rattle.cc_meaning.specs.Parts.{Part, has_site, uses_prop, uses_doc, mentions, declares, makes, sets_method, stmts_parts}
use Rattle.cc_meaning.specs.WellMade.{parts_of}
use Rattle.cc_scope.specs.Resolve.{Source, program_of}
use Rattle.cc_scope.specs.Refusals.{refusals_of}
use Rattle.cc_scope.specs.Promises.{Readable, Grammatical}
use Rattle.cc_scope.specs.Paths.{owns, frames_within, is_only_of, part_mentions, mentions_within, names_itself}
use Rattle.cc_scope.proofs.Parents.{lesser_parent}
use Rattle.cc_scope.proofs.Made.{made_in}

any_in : {A : Type 0} (test : A → Bool) (x : A) (xs : List A) → In x xs → test x ≡ true → list_any test xs ≡ true
any_in test x [] i e = elim i [ ]
any_in test x (y ∷ xs) here e = rw e refl
any_in test x (y ∷ xs) (there i) e = by (test y) (any_in test x xs i e) where
  by : (b : Bool) → list_any test xs ≡ true → b || list_any test xs ≡ true
  by true h = refl
  by false h = h

any_more : {A : Type 0} (one two : A → Bool) → ((x : A) → one x ≡ true → two x ≡ true) → (xs : List A) → list_any one xs ≡ true → list_any two xs ≡ true
any_more one two m [] e = e
any_more one two m (x ∷ xs) e = by (one x) refl e (any_more one two m xs) where
  by : (b : Bool) → one x ≡ b → b || list_any one xs ≡ true → (list_any one xs ≡ true → list_any two xs ≡ true) → two x || list_any two xs ≡ true
  by true h d again = rw (m x h) refl
  by false h d again = or_right (two x) (list_any two xs) (again d) where
    or_right : (a b : Bool) → b ≡ true → a || b ≡ true
    or_right true b k = refl
    or_right false b k = k

part_more : (one two : ℕ → ℕ → Bool) → ((g k : ℕ) → one g k ≡ true → two g k ≡ true) → (P : Program) (k : ℕ) (x : Part) → part_mentions one P k x ≡ true → part_mentions two P k x ≡ true
unfolding part_mentions
part_more one two m P k (mentions c r) e = e
part_more one two m P k (makes c g d) e = m g (c + k + frames_within (owns (slice_get P.scopes g))) e
part_more one two m P k (has_site i) e = e
part_more one two m P k (uses_prop i) e = e
part_more one two m P k (uses_doc i) e = e
part_more one two m P k (declares c r) e = e
part_more one two m P k (sets_method w q f) e = e

-- deeper inside there is at least as much
deeper : (n m : ℕ) (P : Program) (f k : ℕ) → n ≤ m → mentions_within n P f k ≡ true → mentions_within m P f k ≡ true
unfolding mentions_within
deeper zero m P f k h e = absurd (cc)
deeper (suc n) zero P f k h e = absurd (omega arith)
deeper (suc n) (suc m) P f k h e = any_more (part_mentions (mentions_within n P) P k) (part_mentions (mentions_within m P) P k) (λ x. part_more (mentions_within n P) (mentions_within m P) (λ g j. deeper n m P g j (omega arith)) P k x) (parts_of P f) e

module _ (S : Source) (R : Readable S) (fitting : Grammatical S) (unrefused : refusals_of S ≡ []) where
  abbrev P : Program
  P = program_of S

  abbrev N : ℕ
  N = length (program_of S).scopes

  stands : (f : ℕ) (x : Part) → In x (stmts_parts (tables_of P) 0 (body_of P f)) → (s : Scope) × (slice_get P.scopes f ≡ Some s)
  unfolding body_of body_in stmts_parts
  stands f x i = by (slice_get P.scopes f) refl where
    by : (o : Option Scope) → slice_get P.scopes f ≡ o → (s : Scope) × (slice_get P.scopes f ≡ Some s)
    by None e = absurd (let j = subst (λ o. In x (stmts_parts (tables_of P) 0 (body_in o))) e i in elim j [ ])
    by (Some s) e = (s, e)

  -- a function has a greater number than where it stands
  greater : (h g d : ℕ) (b : Bool) → In (makes d g b) (stmts_parts (tables_of P) 0 (body_of P h)) → (h < g) × (g < N)
  unfolding parts_of
  greater h g d b i =
      let s = stands h (makes d g b) i in
      let m = made_in S R fitting unrefused h d g b s.0 s.1 i in
      (lesser_parent S g h m.scope m.stands m.parent, slice_get_within P.scopes g m.scope m.stands)

  -- how far out the own frame of f is of the frames of g's body, and what is mentioned in g is within f
  record Out (f g c u : ℕ) : Type 0 where
    far : ℕ
    is : u ≡ c + far
    own : owns (slice_get P.scopes f) ≡ true
    inside : mentions_within (N - g) P g far ≡ true → mentions_within (N - f) P f 1 ≡ true

  in_part : (n h g d k : ℕ) (b : Bool) → In (makes d g b) (parts_of P h) → mentions_within n P g (d + k + frames_within (owns (slice_get P.scopes g))) ≡ true → mentions_within (suc n) P h k ≡ true
  unfolding mentions_within part_mentions
  in_part n h g d k b i y = any_in (part_mentions (mentions_within n P) P k) (makes d g b) (parts_of P h) i y

  step : (h g d k : ℕ) (b : Bool) → In (makes d g b) (stmts_parts (tables_of P) 0 (body_of P h)) → mentions_within (N - g) P g (d + k + frames_within (owns (slice_get P.scopes g))) ≡ true → mentions_within (N - h) P h k ≡ true
  unfolding parts_of
  step h g d k b i e =
      let l = greater h g d b i in
      let z : N - h ≡ suc (N - suc h) = omega (arith, l.0, l.1) in
      subst (λ n. mentions_within n P h k ≡ true) (sym z) (in_part (N - suc h) h g d k b i (deeper (N - g) (N - suc h) P g (d + k + frames_within (owns (slice_get P.scopes g))) (omega (arith, l.0, l.1)) e))

  in_mention : (n g c u k : ℕ) → u ≡ c + k → In (mentions c (Ref.Frame u 0)) (parts_of P g) → mentions_within (suc n) P g k ≡ true
  unfolding mentions_within part_mentions is_only_of
  in_mention n g c u k e i = any_in (part_mentions (mentions_within n P) P k) (mentions c (Ref.Frame u 0)) (parts_of P g) i (grind (arith, nat_tests))

  owned : (g : ℕ) (s : Scope) (b : Bool) → slice_get P.scopes g ≡ Some s → s.own ≡ b → owns (slice_get P.scopes g) ≡ b
  unfolding owns
  owned g s b e o = ap owns e ∙ o

  out : (f g c u : ℕ) → OwnNameOf P f g c u → Out f g c u
  unfolding frames_within
  out f _ _ _ (own_here c s e o) = record { far = 1; is = omega arith; own = owned f s true e o; inside = λ h. h }
  out f _ _ _ (own_outer g h c d u s b e o i r) =
      let a = out f h d u r in
      record { far = d + a.far + 1; is = omega (arith, a.is); own = a.own; inside = λ m. a.inside (step h g d a.far b i (subst (λ w. mentions_within (N - g) P g (d + a.far + frames_within w) ≡ true) (sym (owned g s false e o)) m)) }
  out f _ _ _ (own_further g h c d u s b e o i r) =
      let a = out f h d u r in
      record { far = d + a.far + 2; is = omega (arith, a.is); own = a.own; inside = λ m. a.inside (step h g d a.far b i (subst (λ w. mentions_within (N - g) P g (d + a.far + frames_within w) ≡ true) (sym (owned g s true e o)) m)) }

  pub nameless : (f : ℕ) → names_itself P f ≡ false → (g c u : ℕ) → OwnNameOf P f g c u → In (mentions c (Ref.Frame u 0)) (stmts_parts (tables_of P) 0 (body_of P g)) → ⊥
  unfolding names_itself parts_of
  nameless f unnamed g c u w i =
      let a = out f g c u w in
      let s = stands g (mentions c (Ref.Frame u 0)) i in
      let l = slice_get_within P.scopes g s.0 s.1 in
      let z : N - g ≡ suc (N - suc g) = omega (arith, l) in
      let m = a.inside (subst (λ n. mentions_within n P g a.far ≡ true) (sym z) (in_mention (N - suc g) g c u a.far a.is i)) in
      let y : mentions_within N P f 1 ≡ true = deeper (N - f) N P f 1 (omega arith) m in
      (let q : owns (slice_get P.scopes f) && mentions_within N P f 1 ≡ true = rw a.own y in let x : true ≡ false = sym q ∙ unnamed in cc)
