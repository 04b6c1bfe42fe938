use Rattle.cc_driver.proofs.FormAnswers.{externs_are}
use Rattle.cc_driver.proofs.form.read.read_externs.Goals as goal

pub returns-in-Ok : goal.returns-in-Ok
returns-in-Ok c = externs_are c.args.text.now c.in-Ok.names c.in-Ok.ensures
