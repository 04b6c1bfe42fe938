-- The jobs of settings that have no fault.
use Rattle.std.proofs.Common.{◌≢◌, String, string_bytes, ◌&&◌, nat_le, true≢false, ◌≡◌, ℕ, zero, suc, ◌+◌, ◌<◌, ◌≤◌, ◌⊎◌, Bool, true, false, cond, List, [], ◌∷◌, length, Option, Some, None, is_some, option_and_then, unwrap_or, count_by, slice_get, inl, inr, refl, ap, sym, subst, ◌∙◌, arith}
use denote.Enum.Bare.{same_true}
use Rattle.std.specs.List.{filter_map, cons_option, last_or}
use Rattle.std.specs.Option.{option_map_or}
use Rattle.std.proofs.lemmas.List.{length-map}
use Rattle.std.proofs.lemmas.List.Sums.{sum_by-append}
use Rattle.cc_ast.specs.declared.reading.LimitKind.TheVariants as counted
use Rattle.cc_flags.specs.contracts.flag.Flag as the_flag
use Rattle.cc_flags.specs.declared.flag.Call.{Call}
use Rattle.cc_flags.specs.declared.flag.Call.TheVariants as call
use Rattle.cc_flags.specs.declared.flag.Flag.{Flag}
use Rattle.cc_flags.specs.declared.flag.Flag.TheVariants as flag
use Rattle.cc_flags.specs.declared.flag.Form.TheVariants as the_form
use Rattle.cc_flags.specs.declared.job.Job.{Job}
use Rattle.cc_flags.specs.declared.job.ReplayJob.{ReplayJob}
use Rattle.cc_flags.specs.declared.usage.Usage.{Usage}
use Rattle.cc_flags.specs.declared.usage.Usage.TheVariants.{Word, Limit, Memory}
use Rattle.cc_flags.specs.declared.usage.UsageKind.TheVariants as kind
use Rattle.cc_flags.specs.Texts.{texts}
use Rattle.cc_flags.specs.Flags.{same}
use Rattle.cc_flags.specs.Numbers.{decimal, within}
use Rattle.cc_flags.specs.Words.{Setting, has_flag, value_for, value_of, source_for, sources_of, chunk_names}
use Rattle.cc_flags.specs.Values.{HasForm, bound_of}
use Rattle.cc_flags.specs.Faults.{IsBeyondWorkers, IsOutOfForm, out_of_form, workers, HasFault, form, no_output, limit, has_output, is_file}
use Rattle.cc_flags.specs.Jobs.{number_of}
use Rattle.cc_flags.specs.Readings.{AreSound, IsFirstFault, IsJob, IsReplayJob}
use Rattle.cc_flags.specs.Steps.{FaultOrMemory}
use Rattle.cc_flags.proofs.FormFaults.{compared}
use Rattle.cc_flags.proofs.FormLaws.{bound-back}
use Rattle.cc_flags.proofs.NumberLaws.{within-inside}
use Rattle.cc_flags.proofs.OneCut.{one-cut}

-- ---- a source is a file

kept-few : (o : Option (List ℕ)) (b : Bool) (rest : List (List ℕ)) (n : ℕ) → (is_some o ≡ true → b ≡ true) → length rest ≤ n → length (cons_option o rest) ≤ cond b 1 0 + n
kept-few None b rest n is few = omega arith
kept-few (Some x) b rest n is few = rw (is refl) (omega arith)

source-file : (s : Setting) → is_some (source_for s) ≡ true → is_file s ≡ true
source-file s has = by_flag s.flag refl where
  by_flag : (o : Option Flag) → s.flag ≡ o → is_file s ≡ true
  by_flag None e = rw e refl
  by_flag (Some f) e = by_test (same f flag.Js) refl where
    by_test : (b : Bool) → same f flag.Js ≡ b → is_file s ≡ true
    by_test true t = rw (e, t) refl
    by_test false t = let none : is_some (source_for s) ≡ false = rw (e, t) refl in cc

pub sources-few : (ss : List Setting) → length (sources_of ss) ≤ count_by is_file ss
sources-few [] = omega arith
sources-few (s ∷ ss) =
    omega (arith, sum_by-append (λ t. cond (is_file t) 1 0) (s ∷ []) ss, kept-few (source_for s) (is_file s) (sources_of ss) (count_by is_file ss) (source-file s) (sources-few ss))

none_some : {A : Type 0} {x : A} → None ≡ Some x → ⊥
none_some e = cc

pub names-few : {A : Type 0} (names : List (String A)) (ss : List Setting) → texts names ≡ sources_of ss → count_by is_file ss ≤ 1024 → length names ≤ 1024
names-few names ss read few = omega (arith, length-map names (λ name. string_bytes name), ap length read, sources-few ss)

-- ---- the setting of the last value

-- a setting gives this value
pub record GivesValue (h : Setting → Option (List ℕ)) (ss : List Setting) (v : List ℕ) : Type 0 where
  pub i : ℕ
  pub setting : Setting
  pub found : slice_get ss i ≡ Some setting
  pub given : h setting ≡ Some v

abbrev OrGives : (Setting → Option (List ℕ)) → Option (List ℕ) → List Setting → List ℕ → Type 0
OrGives h o ss v = (o ≡ Some v) ⊎ GivesValue h ss v

behind-one : (h : Setting → Option (List ℕ)) (s : Setting) (ss : List Setting) (v : List ℕ) → GivesValue h ss v → GivesValue h (s ∷ ss) v
behind-one h s ss v gives = record { i = suc gives.i; setting = gives.setting; found = gives.found; given = gives.given }

one-more : (h : Setting → Option (List ℕ)) (s : Setting) (ss : List Setting) (v : List ℕ) (o p : Option (List ℕ)) → h s ≡ p → ((q : Option (List ℕ)) → last_or q (filter_map h ss) ≡ Some v → OrGives h q ss v)
    → last_or o (cons_option p (filter_map h ss)) ≡ Some v → OrGives h o (s ∷ ss) v
one-more h s ss v o None none more e = elim (more o e) [
  | inl here ↦ inl here
  | inr gives ↦ inr (behind-one h s ss v gives)
]
one-more h s ss v o (Some x) some more e = elim (more (Some x) e) [
  | inl here ↦ inr (record { i = zero; setting = s; found = refl; given = some ∙ here })
  | inr gives ↦ inr (behind-one h s ss v gives)
]

value-from : (h : Setting → Option (List ℕ)) (ss : List Setting) (v : List ℕ) (o : Option (List ℕ)) → last_or o (filter_map h ss) ≡ Some v → OrGives h o ss v
value-from h [] v o e = inl e
value-from h (s ∷ ss) v o e = one-more h s ss v o (h s) refl (λ q. value-from h ss v q) e

pub value-given : (f : Flag) (ss : List Setting) (v : List ℕ) → value_of f ss ≡ Some v → GivesValue (value_for f) ss v
value-given f ss v e = elim (value-from (value_for f) ss v None e) [
  | inl none ↦ absurd (none_some none)
  | inr gives ↦ gives
]

-- ---- workers

pub workers-few : (ss : List Setting) (v : List ℕ) (n : ℕ) → ((at : ℕ) → ¬ IsBeyondWorkers ss at) → value_of flag.Workers ss ≡ Some v → decimal v ≡ Some n → n ≤ 64
workers-few ss v n few last number = elim (compared n 65) [
  | inl low ↦ omega arith
  | inr rest ↦
      let gives = value-given flag.Workers ss v last in
      let high : 64 < n = elim rest [ inl here ↦ omega arith | inr more ↦ omega arith ] in
      absurd (few gives.setting.at (record { i = gives.i; setting = gives.setting; found = gives.found; word = refl; asks = record { n = n; asked = ap (option_and_then decimal) gives.given ∙ number; beyond = high } }))
]

-- a number that is asked for lies within the limit
pub workers-within : (ss : List Setting) (v : List ℕ) → ((at : ℕ) → ¬ IsBeyondWorkers ss at) → value_of flag.Workers ss ≡ Some v → within 0 64 (decimal v) ≡ decimal v
workers-within ss v few last = by_number (decimal v) refl where
  by_number : (o : Option ℕ) → decimal v ≡ o → within 0 64 o ≡ o
  by_number None e = refl
  by_number (Some n) e = within-inside 0 64 n (omega arith) (workers-few ss v n few last e)

-- a value that is no number asks for nothing
pub workers-wrong : (ss : List Setting) (v : List ℕ) (o : Option ℕ) → ((at : ℕ) → ¬ IsBeyondWorkers ss at) → value_of flag.Workers ss ≡ Some v → o ≡ within 0 64 (decimal v) → o ≡ None → 1 ≡ number_of (value_of flag.Workers ss) 1
workers-wrong ss v o few last read none =
    sym (ap (λ p. number_of p 1) last ∙ ap (λ p. unwrap_or p 1) (sym (workers-within ss v few last) ∙ sym read ∙ none))

-- ---- the bound

has-flag : (f : Flag) (s : Setting) → has_flag f s ≡ true → s.flag ≡ Some f
has-flag f s has = by_flag s.flag refl where
  by_flag : (o : Option Flag) → s.flag ≡ o → s.flag ≡ Some f
  by_flag None e = absurd (true≢false (sym has ∙ ap (λ o. option_map_or (λ g. same g f) o false) e))
  by_flag (Some g) e = e ∙ ap Some (same_true the_flag.the_type tt g f (sym (ap (λ o. option_map_or (λ g. same g f) o false) e) ∙ has))

-- a setting that gives a value to a flag has this flag, and this value
setting-flag : (f : Flag) (s : Setting) (v : List ℕ) → value_for f s ≡ Some v → (s.flag ≡ Some f) × (s.value ≡ Some v)
setting-flag f s v given = by_test (has_flag f s) refl where
  by_test : (b : Bool) → has_flag f s ≡ b → (s.flag ≡ Some f) × (s.value ≡ Some v)
  by_test true e = (has-flag f s e, sym (ap (λ b. cond b s.value None) e) ∙ given)
  by_test false e = absurd (none_some (sym (ap (λ b. cond b s.value None) e) ∙ given))

-- a number that lies between two is what was read
within-same : (least most : ℕ) (o : Option ℕ) (n : ℕ) → within least most o ≡ Some n → within least most o ≡ o
within-same least most None n e = refl
within-same least most (Some m) n e = by_test (nat_le least m && nat_le m most) refl where
  by_test : (b : Bool) → (nat_le least m && nat_le m most) ≡ b → within least most (Some m) ≡ Some m
  by_test true t = ap (λ b. cond b (Some m) None) t
  by_test false t = absurd (none_some (sym (ap (λ b. cond b (Some m) None) t) ∙ e))

-- a bound that is asked for lies within the greatest one
pub bound-within : (ss : List Setting) (v : List ℕ) → ((at : ℕ) → ¬ IsOutOfForm ss at) → value_of flag.Bound ss ≡ Some v → bound_of v ≡ decimal v
bound-within ss v formed last = by_bound (bound_of v) refl where
  by_bound : (o : Option ℕ) → bound_of v ≡ o → bound_of v ≡ decimal v
  by_bound (Some n) e = within-same 0 10000000 (decimal v) n e
  by_bound None e =
      let gives = value-given flag.Bound ss v last in
      let of = setting-flag flag.Bound gives.setting v gives.given in
      let no_form : ¬ HasForm (chunk_names ss) the_form.Bound gives.setting.value = λ has.
      let found = bound-back (chunk_names ss) v (subst (HasForm (chunk_names ss) the_form.Bound) of.1 has) in
      none_some (sym e ∙ found.1) in
      absurd (formed gives.setting.at (record { i = gives.i; setting = gives.setting; found = gives.found; word = refl; f = flag.Bound; flag = of.0; no_form = no_form }))

pub bound-is : (ss : List Setting) (v : List ℕ) (n : ℕ) (o : Option ℕ) → ((at : ℕ) → ¬ IsOutOfForm ss at) → value_of flag.Bound ss ≡ Some v → o ≡ bound_of v → n ≡ unwrap_or o 1000000 → n ≡ number_of (value_of flag.Bound ss) 1000000
bound-is ss v n o formed last read is =
    is
    ∙ ap (λ p. unwrap_or p 1000000) (read ∙ bound-within ss v formed last)
    ∙ ap (λ p. number_of p 1000000) (sym last)

-- ---- what has no fault

module _ (which : Call) (ws : List (List ℕ)) (ss : List Setting) (is : AreSound which ws ss) where
  pub sound-workers : (at : ℕ) → ¬ IsBeyondWorkers ss at
  sound-workers at beyond = is.sound (Limit at counted.Workers) (limit (workers beyond))

  pub sound-forms : (at : ℕ) → ¬ IsOutOfForm ss at
  sound-forms at wrong = is.sound (Word at kind.Value) (form (out_of_form wrong))

  pub sound-output : has_output which ss ≡ true
  sound-output = by_test (has_output which ss) refl where
    by_test : (b : Bool) → has_output which ss ≡ b → has_output which ss ≡ true
    by_test true e = e
    by_test false e = absurd (is.sound (Word (length ws) kind.MissingOutput) (no_output e))

  -- words that have no fault have no first fault
  pub sound-first : (u : Usage) → ¬ IsFirstFault which ws u
  sound-first u fault =
      let same = one-cut which 0 ws ss fault.settings None fault.stop is.cut fault.cut in
      is.sound u (subst (λ ts. HasFault which ts None (length ws) u) (sym same.0) (subst (λ stop. HasFault which fault.settings stop (length ws) u) (sym same.1) fault.stands))

-- words that have a first fault ask for no job
pub no-job : (ws : List (List ℕ)) (u : Usage) → FaultOrMemory call.Compile ws u → u ≢ Memory → (job : Job) → ¬ IsJob ws job
no-job ws u fault told job is = sound-first call.Compile ws is.settings is.sound u (fault told)

pub no-replay : (ws : List (List ℕ)) (u : Usage) → FaultOrMemory call.Replay ws u → u ≢ Memory → (job : ReplayJob) → ¬ IsReplayJob ws job
no-replay ws u fault told job is = sound-first call.Replay ws is.settings is.sound u (fault told)
