use Rattle.cc_driver.proofs.NamingLaws.{naming_once}
use Rattle.cc_driver.proofs.naming.naming_is_one.Goals as goal

pub returns : goal.returns
returns c = naming_once
