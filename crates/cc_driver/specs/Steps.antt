-- What the steps of a compilation do, one after the other.
use Rattle.std.specs.Prelude.{◌≡◌, ℕ, ◌≤◌, ◌⊎◌, Bool, true, false, nat_lt, ◌&&◌, List, [], ◌++◌}
use Rattle.cc_host.specs.Host.{View, IfShown, KeepsOtherFiles}
use Rattle.cc_host.specs.Count.{Rose}
use Rattle.cc_driver.specs.declared.outcome.Outcome.{Outcome}
use Rattle.cc_driver.specs.declared.outcome.Outcome.TheVariants.{Done, Read, Write, Unbuilt, Memory}
use Rattle.cc_driver.specs.Compile.{JobCause, ChangesOnly, line_of}

-- a step that reads: the files and what was told are as before, and no count falls
pub record OnlyReads (before after : View) : Type 0 where
  pub shown : after.shown ≡ before.shown
  pub faults : before.faults ≤ after.faults
  pub tell_faults : after.tell_faults ≡ before.tell_faults

-- a step gave up: memory was wanting, or the count rose
pub record GivesUp (answer : Outcome) (before after : View) (outcome : Outcome) : Type 0 where
  pub why : (outcome ≡ Memory) ⊎ ((outcome ≡ answer) × Rose before.faults after.faults)
  pub memory : outcome ≡ Memory → after ≡ before

-- a write: the other files and what was told are as before
pub record WritesFile (file : List ℕ) (before after : View) : Type 0 where
  pub others : IfShown before.shown after.shown (KeepsOtherFiles file)
  pub told : IfShown before.shown after.shown (λ old new. new.told ≡ old.told)
  pub faults : before.faults ≤ after.faults
  pub tell_faults : after.tell_faults ≡ before.tell_faults

-- a job before its message is told
pub record EndsJob (externs source output : List ℕ) (before after : View) (outcome : Outcome) : Type 0 where
  pub cause : JobCause externs source output before after outcome
  pub files : IfShown before.shown after.shown (ChangesOnly before after output outcome)
  pub told : IfShown before.shown after.shown (λ old new. new.told ≡ old.told)
  pub tell_faults : after.tell_faults ≡ before.tell_faults

-- a message was told or not, and nothing else is changed
pub record TriesToTell (line : List ℕ) (outcome : Outcome) (before after : View) (answer : Outcome) : Type 0 where
  pub faults : after.faults ≡ before.faults
  pub files : IfShown before.shown after.shown (λ old new. new.files ≡ old.files)
  pub ends : ((answer ≡ outcome) × IfShown before.shown after.shown (λ old new. (new.told ≡ old.told ++ line) ⊎ (Rose before.tell_faults after.tell_faults × (new.told ≡ old.told))))
      ⊎ ((answer ≡ Memory) × IfShown before.shown after.shown (λ old new. (new.told ≡ old.told ++ line_of [] [] [] Memory) ⊎ (new.told ≡ old.told)))

-- the answers that end a job with a message
abbrev pub stops_job : Outcome → Bool
stops_job Done = false
stops_job (Read i) = nat_lt i 2
stops_job (Write i) = nat_lt i 1
stops_job (Unbuilt i) = nat_lt 0 i && nat_lt i 3
stops_job Memory = true
