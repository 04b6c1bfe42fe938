-- Why a compilation ended as it did, from what its steps answered.
use Rattle.std.proofs.Common.{◌≡◌, ℕ, ◌≤◌, ◌⊎◌, inl, inr, IsTrue, List, Option, Some, Result, Ok, Err, OnOk, IfErr, IsErrAnd, subst, sym, refl, ◌∙◌, arith}
use Rattle.cc_host.specs.Host.{View, Contents, file_of, IfShown, KeepsOtherFiles}
use Rattle.cc_host.specs.Count.{Rose}
use Rattle.cc_host.proofs.HostLemmas.{IfShown-same, Rose-within}
use Rattle.cc_driver.specs.declared.outcome.Outcome.{Outcome}
use Rattle.cc_driver.specs.declared.outcome.Outcome.TheVariants.{Done, Read, Write, Unbuilt, Memory}
use Rattle.cc_driver.specs.Compile.{WasRead, IsCompiled, IsRefused, no_memory, no_externs, no_source, JobCause, compiled, externs_unread, source_unread, refused, unwritten, out_of_memory, ChangesOnly}
use Rattle.cc_driver.specs.Steps.{OnlyReads, GivesUp, WritesFile, EndsJob, stops_job}

-- want of memory refuses any externs and any source
pub memory_refuses : {T : Type 0} (externs source : List ℕ) (r : Result T Outcome) → IsErrAnd r (λ o. o ≡ Memory) → IfErr r (IsRefused externs source)
memory_refuses externs source (Ok x) h = tt
memory_refuses externs source (Err o) h = subst (λ p. IsRefused externs source p) (sym h) no_memory

-- nothing is changed where nothing is changed
pub ChangesOnly-same : (a b : View) (output : List ℕ) (o : Outcome) (x : Contents) → ChangesOnly a b output o x x
ChangesOnly-same a b output Done x = λ other h. refl
ChangesOnly-same a b output (Write i) x = λ other h. refl
ChangesOnly-same a b output (Read i) x = λ name. refl
ChangesOnly-same a b output (Unbuilt i) x = λ name. refl
ChangesOnly-same a b output Memory x = inl (λ name. refl)

pub OnlyReads-trans : {a b c : View} → OnlyReads a b → OnlyReads b c → OnlyReads a c
OnlyReads-trans {a} {b} {c} r s = record {
  shown = s.shown ∙ r.shown;
  faults = ab_bc a.faults b.faults c.faults r.faults s.faults;
  tell_faults = s.tell_faults ∙ r.tell_faults;
}
  where
    ab_bc : (x y z : ℕ) → x ≤ y → y ≤ z → x ≤ z
    ab_bc x y z p q = omega arith

-- a file that was read later held the same when the call began
pub WasRead-before : {a b : View} {file text : List ℕ} → OnlyReads a b → WasRead b file text → WasRead a file text
WasRead-before r w = record { held = λ contents h. w.held contents (r.shown ∙ h) }

-- a job that only read ends with its cause
pub ends_reading : {externs source output : List ℕ} {a b : View} {o : Outcome} → OnlyReads a b → JobCause externs source output a b o → EndsJob externs source output a b o
ends_reading {externs} {source} {output} {a} {b} {o} r cause = record {
  cause = cause;
  files = IfShown-same a.shown b.shown (ChangesOnly a b output o) r.shown (ChangesOnly-same a b output o);
  told = IfShown-same a.shown b.shown (λ old new. new.told ≡ old.told) r.shown (λ x. refl);
  tell_faults = r.tell_faults;
}

pub Rose-from : (a b c : ℕ) → a ≤ b → b ≤ c → Rose b c → Rose a c
Rose-from a b c p q rose = let same : c ≤ c = omega arith in Rose-within a b c c p q same rose

-- the first read gave up
pub externs_give_up : {externs source output : List ℕ} {a b : View} {o : Outcome} → OnlyReads a b → GivesUp (Read 0) a b o → EndsJob externs source output a b o
externs_give_up {externs} {source} {output} {a} {b} {o} r g = ends_reading r (cause g.why)
  where
    cause : (o ≡ Memory) ⊎ ((o ≡ Read 0) × Rose a.faults b.faults) → JobCause externs source output a b o
    cause (inl e) = subst (λ p. JobCause externs source output a b p) (sym e) out_of_memory
    cause (inr x) = subst (λ p. JobCause externs source output a b p) (sym x.0) (externs_unread x.1)

-- the second read gave up
pub source_gives_up : {externs source output : List ℕ} {a b c : View} {o : Outcome} → OnlyReads a b → OnlyReads b c → GivesUp (Read 1) b c o → EndsJob externs source output a c o
source_gives_up {externs} {source} {output} {a} {b} {c} {o} r s g = ends_reading (OnlyReads-trans r s) (cause g.why)
  where
    cause : (o ≡ Memory) ⊎ ((o ≡ Read 1) × Rose b.faults c.faults) → JobCause externs source output a c o
    cause (inl e) = subst (λ p. JobCause externs source output a c p) (sym e) out_of_memory
    cause (inr x) = subst (λ p. JobCause externs source output a c p) (sym x.0) (source_unread (Rose-from a.faults b.faults c.faults r.faults s.faults x.1))

-- there is no text
pub nothing_to_write : {externs source output x y : List ℕ} {a b c : View} {o : Outcome} → OnlyReads a b → OnlyReads b c
    → WasRead a externs x → WasRead b source y → IsRefused x y o → EndsJob externs source output a c o
nothing_to_write r s read_x read_y h = ends_reading (OnlyReads-trans r s) (refused read_x (WasRead-before r read_y) h)

told_all : {a b c : View} (d : View) → OnlyReads a b → OnlyReads b c → IfShown c.shown d.shown (λ old new. new.told ≡ old.told) → IfShown a.shown d.shown (λ old new. new.told ≡ old.told)
told_all {a} {b} {c} d r s w = subst (λ (x : Option Contents). IfShown x d.shown (λ old new. new.told ≡ old.told)) (s.shown ∙ r.shown) w

-- what holds of the contents before the write holds of those at the beginning
from_start : {a b c : View} (d : View) (P : Contents → Contents → Type 0) → OnlyReads a b → OnlyReads b c → IfShown c.shown d.shown P → IfShown a.shown d.shown P
from_start {a} {b} {c} d P r s w = subst (λ (x : Option Contents). IfShown x d.shown P) (s.shown ∙ r.shown) w

-- the file is written
pub job_is_done : {externs source output x y text : List ℕ} {a b c d : View} → OnlyReads a b → OnlyReads b c → WasRead a externs x → WasRead b source y → IsCompiled x y text
    → WritesFile output c d → IfShown c.shown d.shown (λ old new. file_of new output ≡ Some text) → EndsJob externs source output a d Done
job_is_done {externs} {source} {output} {x} {y} {text} {a} {b} {c} {d} r s read_x read_y made w held = record {
  cause = compiled read_x (WasRead-before r read_y) made (from_start d (λ old new. file_of new output ≡ Some text) r s held);
  files = from_start d (KeepsOtherFiles output) r s w.others;
  told = told_all d r s w.told;
  tell_faults = w.tell_faults ∙ s.tell_faults ∙ r.tell_faults;
}

-- the write gave up
pub write_gives_up : {externs source output x y text : List ℕ} {a b c d : View} {o : Outcome} → OnlyReads a b → OnlyReads b c → WasRead a externs x → WasRead b source y → IsCompiled x y text
    → WritesFile output c d → GivesUp (Write 0) c d o → EndsJob externs source output a d o
write_gives_up {externs} {source} {output} {x} {y} {text} {a} {b} {c} {d} {o} r s read_x read_y made w g = ends g.why
  where
    rose : Rose c.faults d.faults → Rose a.faults d.faults
    rose h = Rose-from a.faults c.faults d.faults ((OnlyReads-trans r s).faults) w.faults h

    ends : (o ≡ Memory) ⊎ ((o ≡ Write 0) × Rose c.faults d.faults) → EndsJob externs source output a d o
    ends (inl e) = subst (λ (v : View). EndsJob externs source output a v o) (sym (g.memory e)) (ends_reading (OnlyReads-trans r s) (subst (λ p. JobCause externs source output a c p) (sym e) out_of_memory))
    ends (inr h) = subst (λ p. EndsJob externs source output a d p) (sym h.0) (record {
      cause = unwritten read_x (WasRead-before r read_y) made (rose h.1);
      files = from_start d (KeepsOtherFiles output) r s w.others;
      told = told_all d r s w.told;
      tell_faults = w.tell_faults ∙ s.tell_faults ∙ r.tell_faults;
    })

-- an error that is handed on is the same one
pub handed_on : {T : Type 0} (P : Outcome → Type 0) (r : Result T Outcome) (e : Outcome) → IsErrAnd r (λ o. o ≡ e) → P e → IfErr r P
handed_on P (Ok x) e h p = tt
handed_on P (Err o) e h p = subst P (sym h) p

-- what refuses a text stops the job
pub refused_stops : {externs source : List ℕ} {o : Outcome} → IsRefused externs source o → IsTrue (stops_job o)
refused_stops (no_externs h) = refl
refused_stops (no_source h k) = refl
refused_stops no_memory = refl

-- the same, for texts under another name
pub IsRefused-along : {x y x' y' : List ℕ} {o : Outcome} → x' ≡ x → y' ≡ y → IsRefused x' y' o → IsRefused x y o
IsRefused-along {x} {y} {x'} {y'} {o} p q h = subst (λ u. IsRefused u y o) p (subst (λ u. IsRefused x' u o) q h)

pub IsCompiled-along : {x y x' y' t : List ℕ} → x' ≡ x → y' ≡ y → IsCompiled x' y' t → IsCompiled x y t
IsCompiled-along {x} {y} {x'} {y'} {t} p q h = subst (λ u. IsCompiled u y t) p (subst (λ u. IsCompiled x' u t) q h)

-- how a job ends, by what its write answered
pub after_write : {externs source output x y text text' : List ℕ} {a b c d : View} → OnlyReads a b → OnlyReads b c → WasRead a externs x → WasRead b source y → IsCompiled x y text
    → WritesFile output c d → text' ≡ text → (r : Result (Unit {0}) Outcome) → OnOk r (IfShown c.shown d.shown (λ old new. file_of new output ≡ Some text')) → OnOk r (EndsJob externs source output a d Done)
after_write {externs} {source} {output} {x} {y} {text} {text'} {a} {b} {c} {d} r s read_x read_y made w same (Ok u) held =
    job_is_done r s read_x read_y made w (subst (λ t. IfShown c.shown d.shown (λ old new. file_of new output ≡ Some t)) same held)
after_write r s read_x read_y made w same (Err o) held = tt

pub after_failed_write : {externs source output x y text : List ℕ} {a b c d : View} → OnlyReads a b → OnlyReads b c → WasRead a externs x → WasRead b source y → IsCompiled x y text
    → WritesFile output c d → (r : Result (Unit {0}) Outcome) → IfErr r (GivesUp (Write 0) c d) → IfErr r (EndsJob externs source output a d)
after_failed_write r s read_x read_y made w (Ok u) h = tt
after_failed_write r s read_x read_y made w (Err o) h = write_gives_up r s read_x read_y made w h
