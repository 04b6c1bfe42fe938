-- Flags that don't stand together.
use Rattle.std.proofs.Common.{◌≡◌, ◌⊎◌, ℕ, ◌+◌, ◌*◌, ◌<◌, ◌≤◌, Bool, true, false, not, ◌&&◌, ◌||◌, List, [], ◌∷◌, ◌++◌, length, take, Option, Some, None, slice_get, inl, inr, refl, ap, sym, subst, ◌∙◌, true≢false, arith}
use borrow.Author.Count.{below_more}
use Rattle.std.specs.List.{list_any}
use Rattle.std.specs.Option.{option_map_or}
use Rattle.std.proofs.lemmas.List.{take_more}
use Rattle.std.proofs.lemmas.List.Folds.{list_any-append}
use Rattle.std.proofs.lemmas.Option.{slice_get_within, get_or_from_slice_get}
use Rattle.cc_flags.specs.declared.flag.Flag.{Flag}
use Rattle.cc_flags.specs.declared.flag.Flag.TheVariants as flag
use Rattle.cc_flags.specs.declared.together.Met.{Met}
use Rattle.cc_flags.specs.declared.usage.Usage.{Usage}
use Rattle.cc_flags.specs.declared.usage.Usage.TheVariants.{Word}
use Rattle.cc_flags.specs.declared.usage.UsageKind.TheVariants as kind
use Rattle.cc_flags.specs.Flags.{same}
use Rattle.cc_flags.specs.Words.{Setting, has_flag, is_given}
use Rattle.cc_flags.specs.Faults.{IsTogether, is_output, is_other, is_against, keeps_apart, needs_chunks, place}
use Rattle.cc_flags.specs.Steps.{StandInOrder, IsFirstIn, TogetherFault, together, passes, HaveMet, clashes, refuses, met_with}
use Rattle.cc_flags.proofs.FormFaults.{compared}

-- ---- tests of a list

any-same : {X : Type 0} (p q : X → Bool) → ((x : X) → p x ≡ q x) → (xs : List X) → list_any p xs ≡ list_any q xs
any-same p q same [] = refl
any-same p q same (x ∷ xs) = ap (λ b. b || list_any p xs) (same x) ∙ ap (λ b. q x || b) (any-same p q same xs)

regrouped : (a b c d : Bool) → ((a || b) || (c || d)) ≡ ((a || c) || (b || d))
regrouped true b c d = refl
regrouped false true true d = refl
regrouped false true false d = refl
regrouped false false true d = refl
regrouped false false false d = refl

any-or : {X : Type 0} (p q : X → Bool) (xs : List X) → list_any (λ x. p x || q x) xs ≡ (list_any p xs || list_any q xs)
any-or p q [] = refl
any-or p q (x ∷ xs) = ap (λ b. (p x || q x) || b) (any-or p q xs) ∙ regrouped (p x) (q x) (list_any p xs) (list_any q xs)

any-false : {X : Type 0} (xs : List X) → list_any (λ x. false) xs ≡ false
any-false [] = refl
any-false (x ∷ xs) = any-false xs

any-and_left : {X : Type 0} (a : Bool) (p : X → Bool) (xs : List X) → list_any (λ x. a && p x) xs ≡ (a && list_any p xs)
any-and_left true p xs = refl
any-and_left false p xs = any-false xs

and-true : (b : Bool) → (b && true) ≡ b
and-true true = refl
and-true false = refl

and-false : (b : Bool) → (b && false) ≡ false
and-false true = refl
and-false false = refl

any-and_right : {X : Type 0} (a : Bool) (p : X → Bool) (xs : List X) → list_any (λ x. p x && a) xs ≡ (list_any p xs && a)
any-and_right true p xs = any-same (λ x. p x && true) p (λ x. and-true (p x)) xs ∙ sym (and-true (list_any p xs))
any-and_right false p xs = any-same (λ x. p x && false) (λ x. false) (λ x. and-false (p x)) xs ∙ any-false xs ∙ sym (and-false (list_any p xs))

-- ---- flags that don't stand with one

none_apart : (a b c d : Bool) → false ≡ ((((a && false) || (b && false)) || (false && c)) || (false && d))
none_apart true true c d = refl
none_apart true false c d = refl
none_apart false true c d = refl
none_apart false false c d = refl

grouped : (a b c d : Bool) → ((a || b) || (c || d)) ≡ (((a || b) || c) || d)
grouped true b c d = refl
grouped false true c d = refl
grouped false false c d = refl

apart-setting : (f : Flag) (s : Setting) → keeps_apart f s ≡ ((((is_output f && has_flag flag.Chunk s) || (same f flag.Synthesize && passes is_other s)) || (passes is_output s && same f flag.Chunk)) || (has_flag flag.Synthesize s && is_other f))
apart-setting f s = by_flag s.flag where
  by_flag : (o : Option Flag) → option_map_or (λ g. is_against f g || is_against g f) o false
      ≡ ((((is_output f && option_map_or (λ g. same g flag.Chunk) o false) || (same f flag.Synthesize && option_map_or is_other o false)) || (option_map_or is_output o false && same f flag.Chunk)) || (option_map_or (λ g. same g flag.Synthesize) o false && is_other f))
  by_flag None = none_apart (is_output f) (same f flag.Synthesize) (same f flag.Chunk) (is_other f)
  by_flag (Some g) = grouped (is_output f && same g flag.Chunk) (same f flag.Synthesize && is_other g) (is_output g && same f flag.Chunk) (same g flag.Synthesize && is_other f)

pub apart-is : (f : Flag) (ss : List Setting) (met : Met) → HaveMet ss met → list_any (keeps_apart f) ss ≡ clashes f met
apart-is f ss met have =
    let p = λ (s : Setting). is_output f && has_flag flag.Chunk s in
    let q = λ (s : Setting). same f flag.Synthesize && passes is_other s in
    let r = λ (s : Setting). passes is_output s && same f flag.Chunk in
    let t = λ (s : Setting). has_flag flag.Synthesize s && is_other f in
    any-same (keeps_apart f) (λ s. ((p s || q s) || r s) || t s) (apart-setting f) ss
    ∙ any-or (λ s. (p s || q s) || r s) t ss
    ∙ ap (λ b. b || list_any t ss) (any-or (λ s. p s || q s) r ss)
    ∙ ap (λ b. (b || list_any r ss) || list_any t ss) (any-or p q ss)
    ∙ ap (λ b. ((b || list_any q ss) || list_any r ss) || list_any t ss) (any-and_left (is_output f) (has_flag flag.Chunk) ss ∙ ap (λ c. is_output f && c) (sym have.chunk))
    ∙ ap (λ b. (((is_output f && met.chunk) || b) || list_any r ss) || list_any t ss) (any-and_left (same f flag.Synthesize) (passes is_other) ss ∙ ap (λ c. same f flag.Synthesize && c) (sym have.other))
    ∙ ap (λ b. (((is_output f && met.chunk) || (same f flag.Synthesize && met.other)) || b) || list_any t ss) (any-and_right (same f flag.Chunk) (passes is_output) ss ∙ ap (λ c. c && same f flag.Chunk) (sym have.output))
    ∙ ap (λ b. (((is_output f && met.chunk) || (same f flag.Synthesize && met.other)) || (met.output && same f flag.Chunk)) || b) (any-and_right (is_other f) (has_flag flag.Synthesize) ss ∙ ap (λ c. c && is_other f) (sym have.synthesize))

-- ---- the flags so far

pub record MetSoFar (ss : List Setting) (i : ℕ) (met : Met) : Type 0 where
  pub have : HaveMet (take i ss) met
  pub sound : (j : ℕ) (s : Setting) (f : Flag) → j < i → slice_get ss j ≡ Some s → s.flag ≡ Some f → (list_any (keeps_apart f) (take j ss) || (needs_chunks f && not (is_given flag.Chunk ss))) ≡ false

take-next : (ss : List Setting) (i : ℕ) (s : Setting) → slice_get ss i ≡ Some s → take (i + 1) ss ≡ take i ss ++ s ∷ []
take-next ss i s e = take_more ss i s (slice_get_within ss i s e) ∙ ap (λ t. take i ss ++ t ∷ []) (get_or_from_slice_get ss i s s e)

one_setting : {s t : Setting} → Some s ≡ Some t → s ≡ t
one_setting e = cc

one_flag : {f g : Flag} → Some f ≡ Some g → f ≡ g
one_flag e = cc

no_flag : {f : Flag} → None ≡ Some f → ⊥
no_flag e = cc

or-false : (b : Bool) → (b || false) ≡ b
or-false true = refl
or-false false = refl

any-next : (p : Setting → Bool) (ss : List Setting) (i : ℕ) (s : Setting) (b : Bool) → slice_get ss i ≡ Some s → p s ≡ b → list_any p (take (i + 1) ss) ≡ (list_any p (take i ss) || b)
any-next p ss i s b at e = ap (list_any p) (take-next ss i s at) ∙ list_any-append p (take i ss) (s ∷ []) ∙ ap (λ c. list_any p (take i ss) || c) (or-false (p s) ∙ e)

passes-is : (test : Flag → Bool) (s : Setting) (f : Flag) → s.flag ≡ Some f → passes test s ≡ test f
passes-is test s f e = rw e refl

passes-not : (test : Flag → Bool) (s : Setting) → s.flag ≡ None → passes test s ≡ false
passes-not test s e = rw e refl

pub met-none : (ss : List Setting) (met : Met) → HaveMet [] met → MetSoFar ss 0 met
met-none ss met none = record { have = none; sound = (λ j s f h e k. absurd (omega arith)) }

pub met-file : (ss : List Setting) (i : ℕ) (met : Met) (s : Setting) → slice_get ss i ≡ Some s → s.flag ≡ None → MetSoFar ss i met → MetSoFar ss (i + 1) met
met-file ss i met s at none so_far =
    let have = so_far.have in
    record {
      have = record {
        output = have.output ∙ sym (any-next (passes is_output) ss i s false at (passes-not is_output s none) ∙ or-false _);
        chunk = have.chunk ∙ sym (any-next (has_flag flag.Chunk) ss i s false at (passes-not (λ g. same g flag.Chunk) s none) ∙ or-false _);
        synthesize = have.synthesize ∙ sym (any-next (has_flag flag.Synthesize) ss i s false at (passes-not (λ g. same g flag.Synthesize) s none) ∙ or-false _);
        other = have.other ∙ sym (any-next (passes is_other) ss i s false at (passes-not is_other s none) ∙ or-false _);
      };
      sound =
          λ j t f h e k. below_more (λ n. (u : Setting) → slice_get ss n ≡ Some u → u.flag ≡ Some f → (list_any (keeps_apart f) (take n ss) || (needs_chunks f && not (is_given flag.Chunk ss))) ≡ false) i
          (λ n below u found own. so_far.sound n u f below found own)
          (λ u found own. absurd (no_flag (sym none ∙ ap (λ w. w.flag) (one_setting (sym at ∙ found)) ∙ own))) j h t e k;
    }

pub met-flag : (ss : List Setting) (i : ℕ) (met new : Met) (s : Setting) (f : Flag) (has : Bool) → slice_get ss i ≡ Some s → s.flag ≡ Some f → has ≡ is_given flag.Chunk ss → MetSoFar ss i met
    → refuses f met has ≡ false → new ≡ met_with f met → MetSoFar ss (i + 1) new
met-flag ss i met new s f has at is given so_far allowed e =
    let have = so_far.have in
    let here = ap (λ b. b || (needs_chunks f && not (is_given flag.Chunk ss))) (apart-is f (take i ss) met have) ∙ ap (λ h. clashes f met || (needs_chunks f && not h)) (sym given) ∙ allowed in
    record {
      have = record {
        output = ap (λ m. m.output) e ∙ ap (λ b. b || is_output f) have.output ∙ sym (any-next (passes is_output) ss i s (is_output f) at (passes-is is_output s f is));
        chunk = ap (λ m. m.chunk) e ∙ ap (λ b. b || same f flag.Chunk) have.chunk ∙ sym (any-next (has_flag flag.Chunk) ss i s (same f flag.Chunk) at (passes-is (λ g. same g flag.Chunk) s f is));
        synthesize = ap (λ m. m.synthesize) e ∙ ap (λ b. b || same f flag.Synthesize) have.synthesize ∙ sym (any-next (has_flag flag.Synthesize) ss i s (same f flag.Synthesize) at (passes-is (λ g. same g flag.Synthesize) s f is));
        other = ap (λ m. m.other) e ∙ ap (λ b. b || is_other f) have.other ∙ sym (any-next (passes is_other) ss i s (is_other f) at (passes-is is_other s f is));
      };
      sound =
          λ j t g h found own. below_more (λ n. (u : Setting) → slice_get ss n ≡ Some u → u.flag ≡ Some g → (list_any (keeps_apart g) (take n ss) || (needs_chunks g && not (is_given flag.Chunk ss))) ≡ false) i
          (λ n below u there own_flag. so_far.sound n u g below there own_flag)
          (λ u there own_flag. subst (λ k. (list_any (keeps_apart k) (take i ss) || (needs_chunks k && not (is_given flag.Chunk ss))) ≡ false) (one_flag (sym is ∙ ap (λ w. w.flag) (one_setting (sym at ∙ there)) ∙ own_flag)) here) j h t found own;
    }

-- ---- the first fault

either : (a b : Bool) → (a || b) ≡ true → (a ≡ true) ⊎ (b ≡ true)
either true b e = inl refl
either false b e = inr e

both : (a b : Bool) → (a && b) ≡ true → (a ≡ true) × (b ≡ true)
both true b e = (refl, e)
both false b e = cc

not-true : (b : Bool) → not b ≡ true → b ≡ false
not-true true e = cc
not-true false e = refl

why-of : (ss : List Setting) (i : ℕ) (f : Flag) → (list_any (keeps_apart f) (take i ss) || (needs_chunks f && not (is_given flag.Chunk ss))) ≡ true
    → (list_any (keeps_apart f) (take i ss) ≡ true) ⊎ ((needs_chunks f ≡ true) × (is_given flag.Chunk ss ≡ false))
why-of ss i f e = elim (either _ _ e) [ inl apart ↦ inl apart | inr needs ↦ let two = both _ _ needs in inr (two.0, not-true _ two.1) ]

of-why : (ss : List Setting) (i : ℕ) (f : Flag) → (list_any (keeps_apart f) (take i ss) ≡ true) ⊎ ((needs_chunks f ≡ true) × (is_given flag.Chunk ss ≡ false))
    → (list_any (keeps_apart f) (take i ss) || (needs_chunks f && not (is_given flag.Chunk ss))) ≡ true
of-why ss i f (inl apart) = rw apart refl
of-why ss i f (inr needs) = rw (needs.0, needs.1) (or-true (list_any (keeps_apart f) (take i ss))) where
  or-true : (b : Bool) → (b || true) ≡ true
  or-true true = refl
  or-true false = refl

pub no-together : (ss : List Setting) (i : ℕ) (met : Met) → MetSoFar ss i met → length ss ≤ i → (at : ℕ) → IsTogether ss at → ⊥
no-together ss i met so_far all at fault =
    let this = fault.this in
    true≢false (sym (of-why ss fault.i fault.f fault.why) ∙ so_far.sound fault.i this.setting fault.f (omega (arith, slice_get_within ss fault.i this.setting this.found)) this.found this.flag)

module _ (ss : List Setting) (i : ℕ) (met : Met) (s : Setting) (f : Flag) (order : StandInOrder ss) (at : slice_get ss i ≡ Some s) (is : s.flag ≡ Some f) (so_far : MetSoFar ss i met) where
  before-together : (b : ℕ) → IsTogether ss b → s.at ≤ b
  before-together b fault =
      let this = fault.this in
      elim (compared fault.i i) [
        | inl less ↦ absurd (true≢false (sym (of-why ss fault.i fault.f fault.why) ∙ so_far.sound fault.i this.setting fault.f less this.found this.flag))
        | inr rest ↦ elim rest [
          | inl here ↦ let own : this.setting ≡ s = one_setting (sym this.found ∙ ap (slice_get ss) here ∙ at) in omega (arith, ap (λ t. t.at) own, this.word)
          | inr more ↦ omega (arith, order i fault.i s this.setting at this.found more, this.word)
        ]
      ]

  first-place : (v : Usage) → TogetherFault ss v → 4 * s.at ≤ place v
  first-place v (together other) = omega (arith, before-together _ other)

  pub first-together : (has : Bool) → has ≡ is_given flag.Chunk ss → refuses f met has ≡ true → IsFirstIn (TogetherFault ss) (Word s.at kind.Together)
  first-together has given refused =
      let here = ap (λ b. b || (needs_chunks f && not (is_given flag.Chunk ss))) (apart-is f (take i ss) met so_far.have) ∙ ap (λ h. clashes f met || (needs_chunks f && not h)) (sym given) ∙ refused in
      record {
        stands = together (record { i = i; f = f; this = record { setting = s; found = at; word = refl; flag = is }; why = why-of ss i f here });
        first = λ v other. omega (arith, first-place v other);
      }
