use Rattle.cc_driver.proofs.FormAnswers.{source_is}
use Rattle.cc_driver.proofs.form.read.read_source.Goals as goal

pub returns-in-Ok : goal.returns-in-Ok
returns-in-Ok c = source_is c.args.externs.now c.args.text.now c.in-Ok.statements c.in-Ok.ensures
