use Rattle.cc_driver.proofs.NamingLaws.{names-ASCII}
use Rattle.cc_driver.proofs.naming.names_are_ascii.Goals as goal

pub returns : goal.returns
returns c = names-ASCII
