use Rattle.std.proofs.Common.{ap, ◌∙◌}
use Rattle.cc_driver.specs.NamingSteps.{has_name}
use Rattle.cc_driver.proofs.SetLaws.{has_name-insert}
use Rattle.cc_driver.proofs.naming.passed.add_name.Goals as goal

pub returns : goal.returns
returns c = λ name. ap (λ keys. has_name keys name) c.in_ok-insert.ensures.keys ∙ has_name-insert c.args.passed.now.keys c.args.added name
