use Rattle.cc_driver.proofs.StepLemmas.{handed_on, externs_give_up, source_gives_up, nothing_to_write, refused_stops, IsRefused-along, IsCompiled-along, after_write, after_failed_write}
use Rattle.cc_driver.proofs.compile.compile_job.Goals as goal

pub returns-in_err-externs-clause-err : goal.returns-in_err-externs-clause-err
returns-in_err-externs-clause-err g c =
    handed_on _ _ _ c.from_residual.ensures.1 (externs_give_up c.in_err-externs.ensures.steps c.in_err-externs.ensures.err)

pub returns-in_err-source-clause-err : goal.returns-in_err-source-clause-err
returns-in_err-source-clause-err g c =
    handed_on _ _ _ c.from_residual-in_err-source.ensures.1
    (source_gives_up c.in_ok-externs.ensures.steps c.in_err-source.ensures.steps c.in_err-source.ensures.err)

pub returns-in_err-text-clause-err : goal.returns-in_err-text-clause-err
returns-in_err-text-clause-err g c =
    handed_on _ _ _ c.from_residual-in_err-text.ensures.1
    (nothing_to_write c.in_ok-externs.ensures.steps c.in_ok-source.ensures.steps c.in_ok-externs.ensures.ok c.in_ok-source.ensures.ok
    (IsRefused-along c.as_slice.ensures.value c.as_slice-2.ensures.value c.in_err-text.ensures.err))

pub returns-in_err-text-clause-stops : goal.returns-in_err-text-clause-stops
returns-in_err-text-clause-stops g c = handed_on _ _ _ c.from_residual-in_err-text.ensures.1 (refused_stops c.in_err-text.ensures.err)

pub returns-clause-ok : goal.returns-clause-ok
returns-clause-ok g c =
    after_write c.in_ok-externs.ensures.steps c.in_ok-source.ensures.steps c.in_ok-externs.ensures.ok c.in_ok-source.ensures.ok
    (IsCompiled-along c.as_slice.ensures.value c.as_slice-2.ensures.value c.in_ok-text.ensures.ok) c.write_file.ensures.steps c.as_slice-3.ensures.value c.write_file.result c.write_file.ensures.ok

pub returns-clause-err : goal.returns-clause-err
returns-clause-err g c =
    after_failed_write c.in_ok-externs.ensures.steps c.in_ok-source.ensures.steps c.in_ok-externs.ensures.ok c.in_ok-source.ensures.ok
    (IsCompiled-along c.as_slice.ensures.value c.as_slice-2.ensures.value c.in_ok-text.ensures.ok) c.write_file.ensures.steps c.write_file.result c.write_file.ensures.err
