-- A job of the form, over a host whose count doesn't rise, is compiled, but for want of memory.
use Rattle.std.proofs.Common.{◌≡◌, ℕ, ◌⊎◌, inl, inr, List, Some, subst, sym, refl}
use Rattle.cc_host.specs.Host.{View, Contents, file_of}
use Rattle.cc_host.specs.Count.{Rose}
use Rattle.cc_driver.specs.declared.outcome.Outcome.{Outcome}
use Rattle.cc_driver.specs.declared.outcome.Outcome.TheVariants.{Done, Memory}
use Rattle.cc_driver.specs.declared.form.Statement.{Statement}
use Rattle.cc_driver.specs.Form.{IsExterns, IsSource}
use Rattle.cc_driver.specs.Compile.{IsJob, WasRead, no_externs, no_source, no_memory, JobCause, compiled, externs_unread, source_unread, refused, unwritten, out_of_memory, Cause, bad_words, of_job, no_memory_for_message, Accepted}
use Rattle.cc_driver.proofs.FormLaws.{one_list}

-- a text that was read is the one that the file held
read_is_held : (a : View) (c : Contents) (file x y : List ℕ) → a.shown ≡ Some c → file_of c file ≡ Some x → WasRead a file y → y ≡ x
read_is_held a c file x y shown held read = let other : file_of c file ≡ Some y = read.held c shown in cc (held, other)

job_completes : {e s output x y : List ℕ} {a b : View} {o : Outcome} {names : List (List ℕ)} {statements : List Statement} (c : Contents) → a.shown ≡ Some c → file_of c e ≡ Some x → file_of c s ≡ Some y
    → IsExterns x names → IsSource names y statements → (Rose a.faults b.faults → ⊥) → JobCause e s output a b o → (o ≡ Done) ⊎ (o ≡ Memory)
job_completes c shown held_x held_y ex so calm (compiled read_x read_y made written) = inl refl
job_completes c shown held_x held_y ex so calm (externs_unread rose) = absurd (calm rose)
job_completes c shown held_x held_y ex so calm (source_unread rose) = absurd (calm rose)
job_completes {e} {s} {output} {x} {y} {a} {b} {o} {names} {statements} c shown held_x held_y ex so calm (refused {x = x'} {y = y'} read_x read_y (no_externs h)) =
    absurd (h names (subst (λ t. IsExterns t names) (sym (read_is_held a c e x x' shown held_x read_x)) ex))
job_completes {e} {s} {output} {x} {y} {a} {b} {o} {names} {statements} c shown held_x held_y ex so calm (refused {x = x'} {y = y'} read_x read_y (no_source {names = others} ex' h)) =
    let here : IsExterns x others = subst (λ t. IsExterns t others) (read_is_held a c e x x' shown held_x read_x) ex' in
    let same : names ≡ others = one_list x names others ex.form here.form in
    absurd (h statements (subst (λ ns. IsSource ns y' statements) same (subst (λ t. IsSource names t statements) (sym (read_is_held a c s y y' shown held_y read_y)) so)))
job_completes c shown held_x held_y ex so calm (refused read_x read_y no_memory) = inr refl
job_completes c shown held_x held_y ex so calm (unwritten read_x read_y made rose) = absurd (calm rose)
job_completes c shown held_x held_y ex so calm out_of_memory = inr refl

-- the words name one file of externs and one source
externs_once : {ws : List (List ℕ)} {e s o e' s' o' : List ℕ} → IsJob ws e s o → IsJob ws e' s' o' → e ≡ e'
externs_once j k = let p = j.exactly in let q = k.exactly in cc (p, q)

source_once : {ws : List (List ℕ)} {e s o e' s' o' : List ℕ} → IsJob ws e s o → IsJob ws e' s' o' → s ≡ s'
source_once j k = let p = j.exactly in let q = k.exactly in cc (p, q)

pub completes : {ws : List (List ℕ)} {a b : View} {o : Outcome} → Accepted ws a → (Rose a.faults b.faults → ⊥) → Cause ws a b o → (o ≡ Done) ⊎ (o ≡ Memory)
completes accepted calm (bad_words none) = absurd (none accepted.externs_file accepted.source_file accepted.output_file accepted.job)
completes {ws} {a} {b} {o} accepted calm (of_job {externs = e} {source = s} job cause) =
    job_completes accepted.contents accepted.shown
    (subst (λ file. file_of accepted.contents file ≡ Some accepted.externs) (externs_once accepted.job job) accepted.externs_held)
    (subst (λ file. file_of accepted.contents file ≡ Some accepted.source) (source_once accepted.job job) accepted.source_held)
    accepted.of_externs accepted.of_source calm cause
completes accepted calm no_memory_for_message = inr refl
