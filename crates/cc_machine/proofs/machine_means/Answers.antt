use Rattle.cc_machine.proofs.machine_means.Goals as goal
use Rattle.cc_machine.proofs.Turns.{means}
use Rattle.cc_machine.proofs.Answers.{answers}

pub returns-clause-means : goal.returns-clause-means
returns-clause-means c = means

pub returns-clause-answers : goal.returns-clause-answers
returns-clause-answers c = answers
