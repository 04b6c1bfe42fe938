use Rattle.cc_driver.proofs.CompileLemmas.{compiles_done, compiles_stopped, compiles_nothing}
use Rattle.cc_driver.proofs.CompletesLemmas.{completes}
use Rattle.cc_driver.proofs.Promise.Done.{headline_where}
use Rattle.cc_driver.proofs.compile.compile_alone.Goals as goal

pub returns-in_default-clause-compiles : goal.returns-in_default-clause-compiles
returns-in_default-clause-compiles g c = compiles_nothing (rw c.in_default.is at c.job_of.ensures) c.tell_line.ensures

pub returns-in_default-clause-completes : goal.returns-in_default-clause-completes
returns-in_default-clause-completes g c accepted calm = completes accepted calm (returns-in_default-clause-compiles g c).cause

pub returns-in-Ok-clause-compiles : goal.returns-in-Ok-clause-compiles
returns-in-Ok-clause-compiles g c = compiles_done c.in-Some.ensures c.in-Ok.ensures.ok

pub returns-in-Ok-clause-completes : goal.returns-in-Ok-clause-completes
returns-in-Ok-clause-completes g c accepted calm = completes accepted calm (returns-in-Ok-clause-compiles g c).cause

pub returns-in-Err-clause-compiles : goal.returns-in-Err-clause-compiles
returns-in-Err-clause-compiles g c = compiles_stopped c.in-Some.ensures c.in-Err.ensures.err c.in-Err.ensures.stops c.tell_stop.ensures

pub returns-in-Err-clause-completes : goal.returns-in-Err-clause-completes
returns-in-Err-clause-completes g c accepted calm = completes accepted calm (returns-in-Err-clause-compiles g c).cause

pub returns-in_default-clause-keeps_meaning : goal.returns-in_default-clause-keeps_meaning
returns-in_default-clause-keeps_meaning g c done = headline_where _ _ _ _ (returns-in_default-clause-compiles g c) done

pub returns-in-Ok-clause-keeps_meaning : goal.returns-in-Ok-clause-keeps_meaning
returns-in-Ok-clause-keeps_meaning g c done = headline_where _ _ _ _ (returns-in-Ok-clause-compiles g c) done

pub returns-in-Err-clause-keeps_meaning : goal.returns-in-Err-clause-keeps_meaning
returns-in-Err-clause-keeps_meaning g c done = headline_where _ _ _ _ (returns-in-Err-clause-compiles g c) done
