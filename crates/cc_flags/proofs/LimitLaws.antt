-- What is missing, and limits.
use Rattle.std.proofs.Common.{◌≡◌, ◌≢◌, ℕ, ◌+◌, ◌*◌, ◌<◌, ◌≤◌, Bool, true, false, cond, ◌||◌, List, [], ◌∷◌, ◌++◌, length, take, Option, Some, None, is_some, is_none, option_and_then, count_by, slice_get, MatchBool, inl, inr, refl, ap, sym, subst, ◌∙◌, true≢false, arith}
use borrow.Author.Count.{below_more}
use Rattle.std.specs.Int.{from_bool}
use Rattle.std.specs.List.{list_any, cons_option}
use Rattle.std.specs.Str.Parse.{digits_value}
use Rattle.std.proofs.lemmas.List.{take_more}
use Rattle.std.proofs.lemmas.List.Sums.{sum_by-append}
use Rattle.std.proofs.lemmas.Option.{slice_get_within, get_or_from_slice_get}
use Rattle.std.proofs.Math.Seq.{take-length}
use Rattle.cc_ast.specs.declared.reading.LimitKind.{LimitKind}
use Rattle.cc_flags.specs.declared.flag.Flag.TheVariants as flag
use Rattle.cc_flags.specs.declared.usage.Usage.{Usage}
use Rattle.cc_flags.specs.declared.usage.Usage.TheVariants.{Limit}
use Rattle.cc_flags.specs.Numbers.{is_decimal, decimal, within}
use Rattle.cc_flags.specs.Words.{Setting, has_flag, value_for, source_for, sources_of}
use Rattle.cc_flags.specs.Faults.{AsksTooMany, IsBeyond, IsBeyondWorkers, LimitFault, files, chunks, workers, is_file, place}
use Rattle.cc_flags.specs.Steps.{StandInOrder, IsFirstIn, IsExcess, IsWithin}
use Rattle.cc_flags.specs.Steps as steps
use Rattle.cc_flags.proofs.FormFaults.{compared}
use Rattle.cc_flags.proofs.NumberLaws.{decimal-is, decimal-isnt, within-inside, within-above}

-- ---- sources

source-step : (o : Option (List ℕ)) (rest : List (List ℕ)) (b : Bool) → MatchBool b (rest ≢ []) (rest ≡ []) → MatchBool (is_some o || b) (cons_option o rest ≢ []) (cons_option o rest ≡ [])
source-step None rest b is = is
source-step (Some x) rest b is = λ e. cc

pub source-any : (ss : List Setting) → MatchBool (list_any (λ s. is_some (source_for s)) ss) (sources_of ss ≢ []) (sources_of ss ≡ [])
source-any [] = refl
source-any (s ∷ ss) = source-step (source_for s) (sources_of ss) (list_any (λ t. is_some (source_for t)) ss) (source-any ss)

-- ---- workers

none_some : {A : Type 0} {x : A} → None ≡ Some x → ⊥
none_some e = cc

some_one : {m n : ℕ} → Some m ≡ Some n → m ≡ n
some_one e = cc

pub many-no : (s : Setting) (v : List ℕ) → Some v ≡ value_for flag.Workers s → is_decimal v ≡ false → ¬ AsksTooMany s
many-no s v given isnt asks = none_some (sym (ap (option_and_then decimal) (sym given) ∙ decimal-isnt v isnt) ∙ asks.asked)

above : (n : ℕ) (b : Bool) → b ≡ is_none (within 0 64 (Some n)) → MatchBool b (64 < n) (n ≤ 64)
above n true e = elim (compared n 65) [
  | inl low ↦ absurd (true≢false (e ∙ ap is_none (within-inside 0 64 n (omega arith) (omega arith))))
  | inr rest ↦ elim rest [ inl here ↦ omega arith | inr more ↦ omega arith ]
]
above n false e = elim (compared n 65) [
  | inl low ↦ omega arith
  | inr rest ↦ absurd (true≢false (sym (ap is_none (within-above 0 64 n (elim rest [ inl here ↦ omega arith | inr more ↦ omega arith ]))) ∙ sym e))
]

pub many-by : (s : Setting) (v : List ℕ) (b : Bool) → Some v ≡ value_for flag.Workers s → is_decimal v ≡ true → b ≡ is_none (within 0 64 (decimal v)) → MatchBool b (AsksTooMany s) (¬ AsksTooMany s)
many-by s v b given is tested = by_test b (above (digits_value 10 v) b (tested ∙ ap (λ o. is_none (within 0 64 o)) (decimal-is v is))) where
  asked : option_and_then decimal (value_for flag.Workers s) ≡ Some (digits_value 10 v)
  asked = ap (option_and_then decimal) (sym given) ∙ decimal-is v is

  by_test : (t : Bool) → MatchBool t (64 < digits_value 10 v) (digits_value 10 v ≤ 64) → MatchBool t (AsksTooMany s) (¬ AsksTooMany s)
  by_test true high = record { n = digits_value 10 v; asked = asked; beyond = high }
  by_test false low = λ asks. let same : digits_value 10 v ≡ asks.n = some_one (sym asked ∙ asks.asked) in absurd (omega (arith, asks.beyond))

-- ---- limits so far

one_setting : {s t : Setting} → Some s ≡ Some t → s ≡ t
one_setting e = cc

take-next : (ss : List Setting) (i : ℕ) (s : Setting) → slice_get ss i ≡ Some s → take (i + 1) ss ≡ take i ss ++ s ∷ []
take-next ss i s e = take_more ss i s (slice_get_within ss i s e) ∙ ap (λ t. take i ss ++ t ∷ []) (get_or_from_slice_get ss i s s e)

bit : (b : Bool) → 0 + cond b 1 0 ≡ from_bool b
bit true = refl
bit false = refl

count-next : (p : Setting → Bool) (ss : List Setting) (i : ℕ) (s : Setting) → slice_get ss i ≡ Some s → count_by p (take (i + 1) ss) ≡ count_by p (take i ss) + from_bool (p s)
count-next p ss i s e =
    ap (count_by p) (take-next ss i s e)
    ∙ sum_by-append (λ t. cond (p t) 1 0) (take i ss) (s ∷ [])
    ∙ ap (λ n. count_by p (take i ss) + n) (bit (p s))

bit-small : (b : Bool) (n most : ℕ) → n ≤ most → (b ≡ true → n ≢ most) → n + from_bool b ≤ most
bit-small true n most low other = let apart = other refl in omega arith
bit-small false n most low other = omega arith

pub record LimitsSoFar (ss : List Setting) (i : ℕ) (f c : ℕ) : Type 0 where
  pub file_count : f ≡ count_by is_file (take i ss)
  pub chunk_count : c ≡ count_by (has_flag flag.Chunk) (take i ss)
  pub few_files : f ≤ 1024
  pub few_chunks : c ≤ 256
  pub sound : (j : ℕ) (s : Setting) → j < i → slice_get ss j ≡ Some s → IsWithin (count_by is_file (take j ss)) (count_by (has_flag flag.Chunk) (take j ss)) s

pub limits-none : (ss : List Setting) → LimitsSoFar ss 0 0 0
limits-none ss = record { file_count = refl; chunk_count = refl; few_files = omega arith; few_chunks = omega arith; sound = (λ j s h e. absurd (omega arith)) }

within-same : (s : Setting) (f g c d : ℕ) → f ≡ g → c ≡ d → IsWithin f c s → IsWithin g d s
within-same s f g c d e h is = subst (λ n. IsWithin n d s) e (subst (λ n. IsWithin f n s) h is)

pub limits-more : (ss : List Setting) (i f c : ℕ) (s : Setting) (more added : ℕ) → slice_get ss i ≡ Some s → LimitsSoFar ss i f c → IsWithin f c s → more ≡ from_bool (is_file s) → added ≡ from_bool (has_flag flag.Chunk s)
    → LimitsSoFar ss (i + 1) (f + more) (c + added)
limits-more ss i f c s more added at so_far here e h = record {
  file_count = ap (λ n. f + n) e ∙ ap (λ n. n + from_bool (is_file s)) so_far.file_count ∙ sym (count-next is_file ss i s at);
  chunk_count = ap (λ n. c + n) h ∙ ap (λ n. n + from_bool (has_flag flag.Chunk s)) so_far.chunk_count ∙ sym (count-next (has_flag flag.Chunk) ss i s at);
  few_files = let small = bit-small (is_file s) f 1024 so_far.few_files here.file in omega arith;
  few_chunks = let small = bit-small (has_flag flag.Chunk s) c 256 so_far.few_chunks here.chunk in omega arith;
  sound =
      λ j t below found. below_more (λ n. (u : Setting) → slice_get ss n ≡ Some u → IsWithin (count_by is_file (take n ss)) (count_by (has_flag flag.Chunk) (take n ss)) u) i
      (λ n less u there. so_far.sound n u less there)
      (λ u there. subst (IsWithin (count_by is_file (take i ss)) (count_by (has_flag flag.Chunk) (take i ss))) (one_setting (sym at ∙ there)) (within-same s f _ c _ so_far.file_count so_far.chunk_count here)) j below t found;
}

-- ---- the first limit

excess-fault : (ss : List Setting) (i f c : ℕ) (s : Setting) (k : LimitKind) → slice_get ss i ≡ Some s → LimitsSoFar ss i f c → IsExcess f c s k → LimitFault ss (Limit s.at k)
excess-fault ss i f c s k at so_far (steps.file is e) = files (record { i = i; setting = s; found = at; word = refl; counts_it = is; behind = sym so_far.file_count ∙ e })
excess-fault ss i f c s k at so_far (steps.chunk is e) = chunks (record { i = i; setting = s; found = at; word = refl; counts_it = is; behind = sym so_far.chunk_count ∙ e })
excess-fault ss i f c s k at so_far (steps.workers asks) = workers (record { i = i; setting = s; found = at; word = refl; asks = asks })

-- a fault names a setting that isn't within the limits
record PassesAt (ss : List Setting) (b : ℕ) : Type 0 where
  i : ℕ
  setting : Setting
  found : slice_get ss i ≡ Some setting
  word : setting.at ≡ b
  passes : ¬ IsWithin (count_by is_file (take i ss)) (count_by (has_flag flag.Chunk) (take i ss)) setting

files-pass : (ss : List Setting) (b : ℕ) → IsBeyond is_file 1024 ss b → PassesAt ss b
files-pass ss b is = record { i = is.i; setting = is.setting; found = is.found; word = is.word; passes = (λ within_it. within_it.file is.counts_it is.behind) }

chunks-pass : (ss : List Setting) (b : ℕ) → IsBeyond (has_flag flag.Chunk) 256 ss b → PassesAt ss b
chunks-pass ss b is = record { i = is.i; setting = is.setting; found = is.found; word = is.word; passes = (λ within_it. within_it.chunk is.counts_it is.behind) }

workers-pass : (ss : List Setting) (b : ℕ) → IsBeyondWorkers ss b → PassesAt ss b
workers-pass ss b is = record { i = is.i; setting = is.setting; found = is.found; word = is.word; passes = (λ within_it. within_it.workers is.asks) }

before-pass : (ss : List Setting) (i f c b : ℕ) (s : Setting) → StandInOrder ss → slice_get ss i ≡ Some s → LimitsSoFar ss i f c → PassesAt ss b → s.at ≤ b
before-pass ss i f c b s order at so_far other = elim (compared other.i i) [
  | inl less ↦ absurd (other.passes (so_far.sound other.i other.setting less other.found))
  | inr rest ↦ elim rest [
    | inl here ↦ let own : other.setting ≡ s = one_setting (sym other.found ∙ ap (slice_get ss) here ∙ at) in omega (arith, ap (λ t. t.at) own, other.word)
    | inr more ↦ omega (arith, order i other.i s other.setting at other.found more, other.word)
  ]
]

before-limit : (ss : List Setting) (i f c : ℕ) (s : Setting) → StandInOrder ss → slice_get ss i ≡ Some s → LimitsSoFar ss i f c → (v : Usage) → LimitFault ss v → 4 * s.at ≤ place v
before-limit ss i f c s order at so_far v (files other) = let low = before-pass ss i f c _ s order at so_far (files-pass ss _ other) in omega arith
before-limit ss i f c s order at so_far v (chunks other) = let low = before-pass ss i f c _ s order at so_far (chunks-pass ss _ other) in omega arith
before-limit ss i f c s order at so_far v (workers other) = let low = before-pass ss i f c _ s order at so_far (workers-pass ss _ other) in omega arith

pub first-limit : (ss : List Setting) (i f c : ℕ) (s : Setting) (k : LimitKind) → StandInOrder ss → slice_get ss i ≡ Some s → LimitsSoFar ss i f c → IsExcess f c s k → IsFirstIn (LimitFault ss) (Limit s.at k)
first-limit ss i f c s k order at so_far excess = record { stands = excess-fault ss i f c s k at so_far excess; first = before-limit ss i f c s order at so_far }

no-pass : (ss : List Setting) (i f c b : ℕ) → LimitsSoFar ss i f c → length ss ≤ i → PassesAt ss b → ⊥
no-pass ss i f c b so_far all other = other.passes (so_far.sound other.i other.setting (omega (arith, slice_get_within ss other.i other.setting other.found)) other.found)

pub no-limit : (ss : List Setting) (i f c : ℕ) → LimitsSoFar ss i f c → length ss ≤ i → (v : Usage) → ¬ LimitFault ss v
no-limit ss i f c so_far all v (files other) = no-pass ss i f c _ so_far all (files-pass ss _ other)
no-limit ss i f c so_far all v (chunks other) = no-pass ss i f c _ so_far all (chunks-pass ss _ other)
no-limit ss i f c so_far all v (workers other) = no-pass ss i f c _ so_far all (workers-pass ss _ other)

pub few-files : (ss : List Setting) (i f c : ℕ) → LimitsSoFar ss i f c → i ≡ length ss → count_by is_file ss ≤ 1024
few-files ss i f c so_far all = omega (arith, so_far.few_files, so_far.file_count, ap (count_by is_file) (ap (λ n. take n ss) all ∙ take-length ss))
