-- The first fault of a word's form.
use Rattle.std.proofs.Common.{◌≡◌, ◌⊎◌, ℕ, zero, suc, ◌+◌, ◌*◌, ◌<◌, ◌≤◌, true, false, List, [], ◌∷◌, ◌++◌, length, take, Option, Some, None, slice_get, inl, inr, refl, ap, sym, subst, ◌∙◌, true≢false, arith}
use Rattle.std.specs.List.{list_any, Contains}
use Rattle.std.specs.Str.{bytes_eq}
use Rattle.std.proofs.lemmas.Slice.Eq.{bytes_eq-Decides}
use borrow.Author.Count.{below_more}
use Rattle.std.proofs.lemmas.List.{take_more}
use Rattle.std.proofs.Math.Seq.{take-length}
use Rattle.std.proofs.lemmas.Option.{slice_get_within, get_or_from_slice_get}
use Rattle.cc_flags.specs.declared.cut.Stop.{Stop}
use Rattle.cc_flags.specs.declared.flag.Flag.{Flag}
use Rattle.cc_flags.specs.declared.flag.Form.{Form}
use Rattle.cc_flags.specs.declared.given.Given.{Given}
use Rattle.cc_flags.specs.declared.usage.Usage.{Usage}
use Rattle.cc_flags.specs.declared.usage.Usage.TheVariants.{Word, Limit, Memory}
use Rattle.cc_flags.specs.declared.usage.UsageKind.{UsageKind}
use Rattle.cc_flags.specs.declared.usage.UsageKind.TheVariants as kind
use Rattle.cc_flags.specs.Flags.{row_of, is_once}
use Rattle.cc_flags.specs.Words.{Setting, is_given, chunk_names}
use Rattle.cc_flags.specs.Values.{HasForm}
use Rattle.cc_flags.specs.Values as v
use Rattle.cc_flags.specs.Faults.{IsOutOfForm, IsRepeated, FormFault, stopped, out_of_form, repeated, place, order_of}
use Rattle.cc_flags.specs.Forming.{HaveSame}
use Rattle.cc_flags.specs.Giving.{has, IsGiven, Follows, FailsForm, Repeats, FaultOf, MayBe, AddsSetting}
use Rattle.cc_flags.specs.Giving as giving
use Rattle.cc_flags.specs.Steps.{AreOrdered, IsFirstIn, HaveForms, FirstForm, FirstOrMemory}
use Rattle.cc_flags.proofs.FormLaws.{any-contains, contains-any}

-- ---- lists with the same names

own-name : (name : List ℕ) (names : List (List ℕ)) → list_any (bytes_eq name) (name ∷ names) ≡ true
own-name name names = let here = (bytes_eq-Decides name name).1 refl in rw here refl

have-none : (xs ys : List (List ℕ)) → HaveSame xs ys → xs ≡ [] → ys ≡ []
have-none xs [] same none = refl
have-none xs (y ∷ ys) same none = absurd (true≢false (sym (own-name y ys) ∙ sym (same y) ∙ ap (list_any (bytes_eq y)) none))

have-name : (xs ys : List (List ℕ)) (name : List ℕ) → HaveSame xs ys → Contains xs name → Contains ys name
have-name xs ys name same has = any-contains name ys (sym (same name) ∙ contains-any name xs has)

pub form-same : (xs ys : List (List ℕ)) (f : Form) (val : Option (List ℕ)) → HaveSame xs ys → HasForm xs f val → HasForm ys f val
form-same xs ys f val same v.any_text = v.any_text
form-same xs ys f val same (v.chunk_text e) = v.chunk_text e
form-same xs ys f val same (v.chunk_wrapper {v = text} right cut one among) = v.chunk_wrapper right cut one (elim among [
  | inl none ↦ inl (have-none xs ys same none)
  | inr has ↦ inr (have-name xs ys _ same has)
])
form-same xs ys f val same (v.output_wrapper e) = v.output_wrapper e
form-same xs ys f val same (v.define d is) = v.define d is
form-same xs ys f val same v.switch = v.switch
form-same xs ys f val same (v.switch_on e) = v.switch_on e
form-same xs ys f val same (v.switch_off e) = v.switch_off e
form-same xs ys f val same (v.level e) = v.level e
form-same xs ys f val same (v.level_optimizations e) = v.level_optimizations e
form-same xs ys f val same (v.workers e low) = v.workers e low
form-same xs ys f val same (v.synthesis e) = v.synthesis e
form-same xs ys f val same (v.bound e) = v.bound e

swapped : (xs ys : List (List ℕ)) → HaveSame xs ys → HaveSame ys xs
swapped xs ys same name = sym (same name)

-- ---- settings without faults

-- setting j has no fault of its form
pub record IsFaultless (ss : List Setting) (j : ℕ) (s : Setting) : Type 0 where
  pub formed : (f : Flag) → s.flag ≡ Some f → HasForm (chunk_names ss) (row_of f).form s.value
  pub single : (f : Flag) → s.flag ≡ Some f → is_once f ≡ true → is_given f (take j ss) ≡ false

-- the settings before i give this, and have no fault
pub record SoundSoFar (ss : List Setting) (i : ℕ) (given : Given) : Type 0 where
  pub gives : IsGiven (take i ss) given
  pub sound : (j : ℕ) (s : Setting) → j < i → slice_get ss j ≡ Some s → IsFaultless ss j s

pub sound-none : (ss : List Setting) (given : Given) → IsGiven [] given → SoundSoFar ss 0 given
sound-none ss given none = record { gives = none; sound = (λ j s h e. absurd (omega arith)) }

take-next : (ss : List Setting) (i : ℕ) (s : Setting) → slice_get ss i ≡ Some s → take (i + 1) ss ≡ take i ss ++ s ∷ []
take-next ss i s e = take_more ss i s (slice_get_within ss i s e) ∙ ap (λ t. take i ss ++ t ∷ []) (get_or_from_slice_get ss i s s e)

one_setting : {s t : Setting} → Some s ≡ Some t → s ≡ t
one_setting e = cc

-- the setting behind those is given, and follows them
faultless : (ss : List Setting) (names : List (List ℕ)) (i : ℕ) (given : Given) (s : Setting) → HaveSame names (chunk_names ss) → IsGiven (take i ss) given → Follows names given s → IsFaultless ss i s
faultless ss names i given s same gives follows = record {
  formed = λ f e. form-same names (chunk_names ss) (row_of f).form s.value same (follows.formed f e);
  single = λ f e once. sym (gives.once f once) ∙ follows.single f e once;
}

pub sound-more : (ss : List Setting) (names : List (List ℕ)) (i : ℕ) (given new : Given) (s : Setting) → HaveSame names (chunk_names ss) → slice_get ss i ≡ Some s → SoundSoFar ss i given
    → AddsSetting given new s → Follows names given s → SoundSoFar ss (i + 1) new
sound-more ss names i given new s same at so_far adds follows = record {
  gives = subst (λ ts. IsGiven ts new) (sym (take-next ss i s at)) (adds (take i ss) so_far.gives);
  sound =
      λ j t h e. below_more (λ k. (u : Setting) → slice_get ss k ≡ Some u → IsFaultless ss k u) i (λ k below u found. so_far.sound k u below found)
      (λ u found. subst (IsFaultless ss i) (one_setting (sym at ∙ found)) (faultless ss names i given s same so_far.gives follows)) j h t e;
}

-- ---- the first fault

-- the word of the setting behind those, where its fault is of this kind
fault-stands : (ss : List Setting) (stop : Option Stop) (names : List (List ℕ)) (i : ℕ) (given : Given) (s : Setting) (k : UsageKind) (at : ℕ) → HaveSame names (chunk_names ss) → slice_get ss i ≡ Some s → SoundSoFar ss i given
    → FaultOf names given s k at → FormFault ss stop (Word at k)
fault-stands ss stop names i given s k at same found so_far (giving.value fails) =
    out_of_form (record { i = i; setting = s; found = found; word = fails.word; f = fails.f; flag = fails.flag; no_form = (λ has. fails.no_form (form-same (chunk_names ss) names _ _ (swapped names (chunk_names ss) same) has)) })
fault-stands ss stop names i given s k at same found so_far (giving.repeated repeats) =
    repeated (record {
      i = i;
      f = repeats.f;
      this = record { setting = s; found = found; word = repeats.word; flag = repeats.flag };
      once = repeats.once;
      earlier = sym (so_far.gives.once repeats.f repeats.once) ∙ repeats.earlier;
    })

fault-word : (names : List (List ℕ)) (given : Given) (s : Setting) (k : UsageKind) (at : ℕ) → FaultOf names given s k at → s.at ≡ at
fault-word names given s k at (giving.value fails) = fails.word
fault-word names given s k at (giving.repeated repeats) = repeats.word

one_flag : {f g : Flag} → Some f ≡ Some g → f ≡ g
one_flag e = cc

-- a setting without faults is none of those
not-formed : (ss : List Setting) (j : ℕ) (s : Setting) (f : Flag) → IsFaultless ss j s → s.flag ≡ Some f → ¬ HasForm (chunk_names ss) (row_of f).form s.value → ⊥
not-formed ss j s f sound e no_form = no_form (sound.formed f e)

not-single : (ss : List Setting) (j : ℕ) (s : Setting) (f : Flag) → IsFaultless ss j s → s.flag ≡ Some f → is_once f ≡ true → is_given f (take j ss) ≡ true → ⊥
not-single ss j s f sound e once earlier = true≢false (sym earlier ∙ sound.single f e once)

-- ---- places

order-small : (k : UsageKind) → order_of k ≤ 3
order-small kind.Unknown = omega arith
order-small kind.NoValue = omega arith
order-small kind.Value = omega arith
order-small kind.Repeated = omega arith
order-small kind.Together = omega arith
order-small kind.MissingJs = omega arith
order-small kind.MissingOutput = omega arith

pub compared : (j i : ℕ) → (j < i) ⊎ ((j ≡ i) ⊎ (i < j))
compared zero zero = inr (inl refl)
compared zero (suc i) = inl (omega arith)
compared (suc j) zero = inr (inr (omega arith))
compared (suc j) (suc i) = elim (compared j i) [ inl less ↦ inl (omega arith) | inr rest ↦ inr (elim rest [ inl same ↦ inl (ap suc same) | inr more ↦ inr (omega arith) ]) ]

-- a fault at a later word
pub later-place : (at b m : ℕ) (k : UsageKind) → at < b → 4 * at + order_of k ≤ 4 * b + m
later-place at b m k less = omega (arith, order-small k)

module _ (ss : List Setting) (names : List (List ℕ)) (i : ℕ) (given : Given) (s : Setting) (same : HaveSame names (chunk_names ss)) (found : slice_get ss i ≡ Some s) (so_far : SoundSoFar ss i given) where
  -- a fault of the form of the setting behind those leaves no other at this word that comes before
  here-form : (k : UsageKind) (at : ℕ) → FaultOf names given s k at → (f : Flag) → s.flag ≡ Some f → ¬ HasForm (chunk_names ss) (row_of f).form s.value → order_of k ≤ 2
  here-form k at (giving.value fails) f e no_form = omega arith
  here-form k at (giving.repeated repeats) f e no_form =
      absurd (no_form (form-same names (chunk_names ss) _ _ same (subst (λ g. HasForm names (row_of g).form s.value) (one_flag (sym repeats.flag ∙ e)) repeats.formed)))

  before-out : (stop : Option Stop) → AreOrdered ss stop → (k : UsageKind) (at b : ℕ) → FaultOf names given s k at → IsOutOfForm ss b → 4 * at + order_of k ≤ 4 * b + 2
  before-out stop ordered k at b fault other =
      let word = fault-word names given s k at fault in
      elim (compared other.i i) [
        | inl less ↦ absurd (not-formed ss other.i other.setting other.f (so_far.sound other.i other.setting less other.found) other.flag other.no_form)
        | inr rest ↦ elim rest [
          | inl here ↦
              let own : other.setting ≡ s = one_setting (sym other.found ∙ ap (slice_get ss) here ∙ found) in
              let low = here-form k at fault other.f (ap (λ t. t.flag) (sym own) ∙ other.flag) (subst (λ t. ¬ HasForm (chunk_names ss) (row_of other.f).form t.value) own other.no_form) in
              omega (arith, ap (λ t. t.at) own, other.word)
          | inr more ↦ later-place at b 2 k (omega (arith, ordered.settings i other.i s other.setting found other.found more, other.word))
        ]
      ]

  before-repeated : (stop : Option Stop) → AreOrdered ss stop → (k : UsageKind) (at b : ℕ) → FaultOf names given s k at → IsRepeated ss b → 4 * at + order_of k ≤ 4 * b + 3
  before-repeated stop ordered k at b fault other =
      let word = fault-word names given s k at fault in
      let this = other.this in
      elim (compared other.i i) [
        | inl less ↦ absurd (not-single ss other.i this.setting other.f (so_far.sound other.i this.setting less this.found) this.flag other.once other.earlier)
        | inr rest ↦ elim rest [
          | inl here ↦
              let own : this.setting ≡ s = one_setting (sym this.found ∙ ap (slice_get ss) here ∙ found) in
              omega (arith, ap (λ t. t.at) own, this.word, order-small k)
          | inr more ↦ later-place at b 3 k (omega (arith, ordered.settings i other.i s this.setting found this.found more, this.word))
        ]
      ]

  -- the place of a fault at the setting behind those is at most that of any other
  before-form : (stop : Option Stop) → AreOrdered ss stop → (k : UsageKind) (at : ℕ) → FaultOf names given s k at → (v : Usage) → FormFault ss stop v → 4 * at + order_of k ≤ place v
  before-form stop ordered k at fault v (out_of_form other) = before-out stop ordered k at _ fault other
  before-form stop ordered k at fault v (repeated other) = before-repeated stop ordered k at _ fault other
  before-form (Some p) ordered k at fault v stopped = later-place at p.at (order_of p.kind) k (omega (arith, ordered.before_stop i s p found refl, fault-word names given s k at fault))

  pub first-form : (u : Usage) → MayBe (FaultOf names given s) u → FirstForm ss u
  first-form (Word at k) fault stop ordered some = record { stands = fault-stands ss stop names i given s k at same found so_far fault; first = before-form stop ordered k at fault }
  first-form (Limit at k) fault stop ordered some = absurd fault
  first-form Memory fault stop ordered some = absurd (some refl)

-- ---- no fault before the end

module _ (ss : List Setting) (i : ℕ) (given : Given) (so_far : SoundSoFar ss i given) (all : i ≡ length ss) where
  no-out : (b : ℕ) → ¬ IsOutOfForm ss b
  no-out b other = not-formed ss other.i other.setting other.f (so_far.sound other.i other.setting (omega (arith, slice_get_within ss other.i other.setting other.found)) other.found) other.flag other.no_form

  no-repeated : (b : ℕ) → ¬ IsRepeated ss b
  no-repeated b other =
      let this = other.this in
      not-single ss other.i this.setting other.f (so_far.sound other.i this.setting (omega (arith, slice_get_within ss other.i this.setting this.found)) this.found) this.flag other.once other.earlier

  pub have-forms : HaveForms ss
  have-forms = record { formed = no-out; single = no-repeated }

  pub given-all : IsGiven ss given
  given-all = subst (λ ts. IsGiven ts given) (ap (λ n. take n ss) all ∙ take-length ss) so_far.gives

module _ (ss : List Setting) (have : HaveForms ss) where
  before-stop : (p : Stop) (v : Usage) → FormFault ss (Some p) v → 4 * p.at + order_of p.kind ≤ place v
  before-stop p v (out_of_form other) = absurd (have.formed _ other)
  before-stop p v (repeated other) = absurd (have.single _ other)
  before-stop p v stopped = omega arith

  first-stop : (p : Stop) → IsFirstIn (FormFault ss (Some p)) (Word p.at p.kind)
  first-stop p = record { stands = stopped; first = before-stop p }

  pub first-or-memory : (p : Stop) → FirstOrMemory (FormFault ss (Some p)) (Word p.at p.kind)
  first-or-memory p some = first-stop p

  pub no-form_fault : (v : Usage) → ¬ FormFault ss None v
  no-form_fault v (out_of_form other) = have.formed _ other
  no-form_fault v (repeated other) = have.single _ other
