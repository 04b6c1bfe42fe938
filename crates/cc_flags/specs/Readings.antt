-- What words are: a job, or the first thing that is wrong with them.
use Rattle.std.specs.Prelude.{ℕ, List, length, Option, None}
use Rattle.cc_flags.specs.declared.cut.Stop.{Stop}
use Rattle.cc_flags.specs.declared.flag.Call.{Call}
use Rattle.cc_flags.specs.declared.flag.Call.TheVariants as call
use Rattle.cc_flags.specs.declared.job.Job.{Job}
use Rattle.cc_flags.specs.declared.job.ReplayJob.{ReplayJob}
use Rattle.cc_flags.specs.declared.usage.Usage.{Usage}
use Rattle.cc_flags.specs.Words.{Setting, Cut}
use Rattle.cc_flags.specs.Faults.{HasFault, GoesBefore}
use Rattle.cc_flags.specs.Jobs.{IsJobOf, IsReplayJobOf}

-- the words are cut into settings, and have no fault
pub record AreSound (which : Call) (words : List (List ℕ)) (ss : List Setting) : Type 0 where
  pub cut : Cut which 0 words ss None
  pub sound : (usage : Usage) → ¬ HasFault which ss None (length words) usage

-- the job that the words ask for
pub record IsJob (words : List (List ℕ)) (job : Job) : Type 0 where
  pub settings : List Setting
  pub sound : AreSound call.Compile words settings
  pub given : IsJobOf settings job

pub record IsReplayJob (words : List (List ℕ)) (job : ReplayJob) : Type 0 where
  pub settings : List Setting
  pub sound : AreSound call.Replay words settings
  pub given : IsReplayJobOf settings job

-- a fault of the words, and the first of all that they have
pub record IsFirstFault (which : Call) (words : List (List ℕ)) (usage : Usage) : Type 0 where
  pub settings : List Setting
  pub stop : Option Stop
  pub cut : Cut which 0 words settings stop
  pub stands : HasFault which settings stop (length words) usage
  pub first : (other : Usage) → HasFault which settings stop (length words) other → GoesBefore usage other
