use Rattle.std.proofs.Common.{◌≡◌, ◌≢◌, ℕ, true, is_some, sym, subst}
use Rattle.cc_flags.specs.declared.flag.Call.TheVariants as call
use Rattle.cc_flags.specs.declared.flag.Flag.TheVariants as flag
use Rattle.cc_flags.specs.declared.job.ReplayJob.{ReplayJob}
use Rattle.cc_flags.specs.declared.usage.Usage.TheVariants.{Memory}
use Rattle.cc_flags.specs.Texts.{texts}
use Rattle.cc_flags.specs.Words.{settings_of, value_of}
use Rattle.cc_flags.specs.Faults.{IsOutOfForm}
use Rattle.cc_flags.specs.Readings.{IsReplayJob}
use Rattle.cc_flags.proofs.GivenLaws.{err-on}
use Rattle.cc_flags.proofs.JobLaws.{sound-forms, sound-output, sound-first, no-replay}
use Rattle.cc_flags.proofs.read.read_replay.Goals as goal

pub returns-in_err-items-clause-no_job : goal.returns-in_err-items-clause-no_job
returns-in_err-items-clause-no_job c =
    err-on c.from_residual.result c.in_err-items.field-0.0 (λ usage. usage ≢ Memory → (job : ReplayJob) → ¬ IsReplayJob (texts c.args.words.now) job) c.from_residual.ensures.1
    (no-replay (texts c.args.words.now) c.in_err-items.field-0.0 c.in_err-items.ensures.first)

pub replay_job_of-requires-clause-formed : goal.replay_job_of-requires-clause-formed
replay_job_of-requires-clause-formed c =
    subst (λ items. (at : ℕ) → ¬ IsOutOfForm (settings_of items) at) (sym c.as_slice.ensures.value)
    (sound-forms call.Replay (texts c.args.words.now) (settings_of c.in_ok-items.field-0.items.items) c.in_ok-items.ensures.sound)

pub replay_job_of-requires-clause-script : goal.replay_job_of-requires-clause-script
replay_job_of-requires-clause-script c =
    subst (λ items. is_some (value_of flag.Script (settings_of items)) ≡ true) (sym c.as_slice.ensures.value)
    (sound-output call.Replay (texts c.args.words.now) (settings_of c.in_ok-items.field-0.items.items) c.in_ok-items.ensures.sound)

pub returns-clause-sound : goal.returns-clause-sound
returns-clause-sound c = sound-first call.Replay (texts c.args.words.now) (settings_of c.in_ok-items.field-0.items.items) c.in_ok-items.ensures.sound
