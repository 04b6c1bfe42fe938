use Rattle.cc_driver.proofs.NamingLaws.{own_names_apart, own_name_kept}
use Rattle.cc_driver.proofs.naming.own_names_differ.Goals as goal

pub returns-clause-apart : goal.returns-clause-apart
returns-clause-apart c = own_names_apart

pub returns-clause-kept : goal.returns-clause-kept
returns-clause-kept c = own_name_kept
