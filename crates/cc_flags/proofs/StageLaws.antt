-- The first fault of all stages.
use Rattle.std.proofs.Common.{◌≡◌, ℕ, ◌≤◌, List, Option, Some, None, length, inl, inr, refl, sym, subst, ◌∙◌, true≢false, arith}
use Rattle.cc_flags.specs.declared.cut.Stop.{Stop}
use Rattle.cc_flags.specs.declared.flag.Call.{Call}
use Rattle.cc_flags.specs.declared.usage.Usage.{Usage}
use Rattle.cc_flags.specs.declared.usage.Usage.TheVariants.{Word}
use Rattle.cc_flags.specs.declared.usage.UsageKind.TheVariants as kind
use Rattle.cc_flags.specs.Words.{Setting, Cut}
use Rattle.cc_flags.specs.Faults.{IsTogether, HasNoSource, FormFault, stopped, out_of_form, repeated, LimitFault, files, chunks, workers, HasFault, form, together, no_source, no_output, limit, stage, place, GoesBefore}
use Rattle.cc_flags.specs.Readings.{AreSound}
use Rattle.cc_flags.specs.Steps.{AreOrdered, IsFirstIn, FirstOrMemory, TogetherFault, MissingFault, HaveAll, IsFirstOf, FaultOrMemory}
use Rattle.cc_flags.specs.Steps as steps

-- ---- stages

form-stage : (ss : List Setting) (stop : Option Stop) (u : Usage) → AreOrdered ss stop → FormFault ss stop u → stage u ≡ 0
form-stage ss (Some s) u order stopped = order.stage s refl
form-stage ss stop u order (out_of_form is) = refl
form-stage ss stop u order (repeated is) = refl

limit-stage : (ss : List Setting) (u : Usage) → LimitFault ss u → stage u ≡ 4
limit-stage ss u (files is) = refl
limit-stage ss u (chunks is) = refl
limit-stage ss u (workers is) = refl

-- ---- the first of a stage goes before all later ones

form-before : (which : Call) (ss : List Setting) (stop : Option Stop) (count : ℕ) (u : Usage) → AreOrdered ss stop → IsFirstIn (FormFault ss stop) u → (v : Usage) → HasFault which ss stop count v → GoesBefore u v
form-before which ss stop count u order is v (form other) = inr (form-stage ss stop u order is.stands ∙ sym (form-stage ss stop v order other), is.first v other)
form-before which ss stop count u order is v (together other) = let here = form-stage ss stop u order is.stands in inl (omega arith)
form-before which ss stop count u order is v (no_source other) = let here = form-stage ss stop u order is.stands in inl (omega arith)
form-before which ss stop count u order is v (no_output other) = let here = form-stage ss stop u order is.stands in inl (omega arith)
form-before which ss stop count u order is v (limit other) = let here = form-stage ss stop u order is.stands in let there = limit-stage ss v other in inl (omega arith)

pub first-form-fault : (which : Call) (ws : List (List ℕ)) (ss : List Setting) (stop : Option Stop) (u : Usage) → Cut which 0 ws ss stop → AreOrdered ss stop → FirstOrMemory (FormFault ss stop) u → FaultOrMemory which ws u
first-form-fault which ws ss stop u cut order first told = let is = first told in record { settings = ss; stop = stop; cut = cut; stands = form is.stands; first = form-before which ss stop (length ws) u order is }

-- ---- faults behind those of a word's form

abbrev NoForm : List Setting → Type 0
NoForm ss = (u : Usage) → ¬ FormFault ss None u

abbrev Later : Call → List Setting → ℕ → Usage → Type 0
Later which ss count = HasFault which ss None count

together-before : (which : Call) (ss : List Setting) (count at : ℕ) → NoForm ss → ((v : Usage) → TogetherFault ss v → place (Word at kind.Together) ≤ place v) → (v : Usage) → Later which ss count v → GoesBefore (Word at kind.Together) v
together-before which ss count at no_form first v (form other) = absurd (no_form v other)
together-before which ss count at no_form first v (together other) = inr (refl, first v (steps.together other))
together-before which ss count at no_form first v (no_source other) = inl (omega arith)
together-before which ss count at no_form first v (no_output other) = inl (omega arith)
together-before which ss count at no_form first v (limit other) = let there = limit-stage ss v other in inl (omega arith)

pub first-together-fault : (which : Call) (ss : List Setting) (count : ℕ) (u : Usage) → NoForm ss → IsFirstIn (TogetherFault ss) u → IsFirstOf (Later which ss count) u
first-together-fault which ss count u no_form is = by_fault u is.stands is.first where
  by_fault : (w : Usage) → TogetherFault ss w → ((v : Usage) → TogetherFault ss v → place w ≤ place v) → IsFirstOf (Later which ss count) w
  by_fault w (steps.together {at} here) first = record { stands = together here; first = together-before which ss count at no_form first }

abbrev Apart : List Setting → Type 0
Apart ss = (at : ℕ) → ¬ IsTogether ss at

source-before : (which : Call) (ss : List Setting) (count : ℕ) → NoForm ss → Apart ss → (v : Usage) → Later which ss count v → GoesBefore (Word count kind.MissingJs) v
source-before which ss count no_form apart v (form other) = absurd (no_form v other)
source-before which ss count no_form apart v (together other) = absurd (apart _ other)
source-before which ss count no_form apart v (no_source other) = inr (refl, omega arith)
source-before which ss count no_form apart v (no_output other) = inl (omega arith)
source-before which ss count no_form apart v (limit other) = let there = limit-stage ss v other in inl (omega arith)

output-before : (which : Call) (ss : List Setting) (count : ℕ) → NoForm ss → Apart ss → ¬ HasNoSource ss → (v : Usage) → Later which ss count v → GoesBefore (Word count kind.MissingOutput) v
output-before which ss count no_form apart source v (form other) = absurd (no_form v other)
output-before which ss count no_form apart source v (together other) = absurd (apart _ other)
output-before which ss count no_form apart source v (no_source other) = absurd (source other)
output-before which ss count no_form apart source v (no_output other) = inr (refl, omega arith)
output-before which ss count no_form apart source v (limit other) = let there = limit-stage ss v other in inl (omega arith)

pub first-missing-fault : (which : Call) (ss : List Setting) (count : ℕ) (u : Usage) → NoForm ss → Apart ss → MissingFault which ss count u → IsFirstOf (Later which ss count) u
first-missing-fault which ss count u no_form apart (steps.source is) = record { stands = no_source is; first = source-before which ss count no_form apart }
first-missing-fault which ss count u no_form apart (steps.output source is) = record { stands = no_output is; first = output-before which ss count no_form apart source }

limit-before : (which : Call) (ss : List Setting) (count : ℕ) (u : Usage) → NoForm ss → Apart ss → HaveAll which ss → IsFirstIn (LimitFault ss) u → (v : Usage) → Later which ss count v → GoesBefore u v
limit-before which ss count u no_form apart have is v (form other) = absurd (no_form v other)
limit-before which ss count u no_form apart have is v (together other) = absurd (apart _ other)
limit-before which ss count u no_form apart have is v (no_source other) = absurd (have.source other)
limit-before which ss count u no_form apart have is v (no_output other) = absurd (true≢false (sym have.output ∙ other))
limit-before which ss count u no_form apart have is v (limit other) = inr (limit-stage ss u is.stands ∙ sym (limit-stage ss v other), is.first v other)

pub first-limit-fault : (which : Call) (ss : List Setting) (count : ℕ) (u : Usage) → NoForm ss → Apart ss → HaveAll which ss → IsFirstIn (LimitFault ss) u → IsFirstOf (Later which ss count) u
first-limit-fault which ss count u no_form apart have is = record { stands = limit is.stands; first = limit-before which ss count u no_form apart have is }

pub no-later : (which : Call) (ss : List Setting) (count : ℕ) → NoForm ss → Apart ss → HaveAll which ss → ((u : Usage) → ¬ LimitFault ss u) → (v : Usage) → ¬ Later which ss count v
no-later which ss count no_form apart have no_limit v (form other) = no_form v other
no-later which ss count no_form apart have no_limit v (together other) = apart _ other
no-later which ss count no_form apart have no_limit v (no_source other) = have.source other
no-later which ss count no_form apart have no_limit v (no_output other) = true≢false (sym have.output ∙ other)
no-later which ss count no_form apart have no_limit v (limit other) = no_limit v other

-- ---- words whose cutting ends

pub no-stop : (ss : List Setting) (stop : Option Stop) → ((u : Usage) → ¬ FormFault ss stop u) → stop ≡ None
no-stop ss None no_form = refl
no-stop ss (Some s) no_form = absurd (no_form (Word s.at s.kind) stopped)

pub first-later-fault : (which : Call) (ws : List (List ℕ)) (ss : List Setting) (count : ℕ) (u : Usage) → Cut which 0 ws ss None → count ≡ length ws → IsFirstOf (Later which ss count) u → FaultOrMemory which ws u
first-later-fault which ws ss count u cut all is told =
    let first = subst (λ n. IsFirstOf (Later which ss n) u) all is in
    record { settings = ss; stop = None; cut = cut; stands = first.stands; first = first.first }

pub are-sound : (which : Call) (ws : List (List ℕ)) (ss : List Setting) (count : ℕ) → Cut which 0 ws ss None → count ≡ length ws → ((u : Usage) → ¬ Later which ss count u) → AreSound which ws ss
are-sound which ws ss count cut all no_fault = record { cut = cut; sound = subst (λ n. (u : Usage) → ¬ Later which ss n u) all no_fault }
