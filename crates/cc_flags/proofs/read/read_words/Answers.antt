use Rattle.std.proofs.Common.{◌≢◌, ℕ, sym, subst}
use Rattle.cc_flags.specs.declared.flag.Call.TheVariants as call
use Rattle.cc_flags.specs.declared.job.Job.{Job}
use Rattle.cc_flags.specs.declared.usage.Usage.TheVariants.{Memory}
use Rattle.cc_flags.specs.Texts.{texts}
use Rattle.cc_flags.specs.Words.{settings_of}
use Rattle.cc_flags.specs.Faults.{IsBeyondWorkers}
use Rattle.cc_flags.specs.Readings.{IsJob}
use Rattle.cc_flags.proofs.GivenLaws.{err-on}
use Rattle.cc_flags.proofs.JobLaws.{sound-workers, sound-first, no-job}
use Rattle.cc_flags.proofs.read.read_words.Goals as goal

pub returns-in_err-items-clause-no_job : goal.returns-in_err-items-clause-no_job
returns-in_err-items-clause-no_job c =
    err-on c.from_residual.result c.in_err-items.field-0.0 (λ usage. usage ≢ Memory → (job : Job) → ¬ IsJob (texts c.args.words.now) job) c.from_residual.ensures.1
    (no-job (texts c.args.words.now) c.in_err-items.field-0.0 c.in_err-items.ensures.first)

pub job_of-requires-clause-workers : goal.job_of-requires-clause-workers
job_of-requires-clause-workers c =
    subst (λ items. (at : ℕ) → ¬ IsBeyondWorkers (settings_of items) at) (sym c.as_slice.ensures.value)
    (sound-workers call.Compile (texts c.args.words.now) (settings_of c.in_ok-items.field-0.items.items) c.in_ok-items.ensures.sound)

pub returns-clause-sound : goal.returns-clause-sound
returns-clause-sound c = sound-first call.Compile (texts c.args.words.now) (settings_of c.in_ok-items.field-0.items.items) c.in_ok-items.ensures.sound
