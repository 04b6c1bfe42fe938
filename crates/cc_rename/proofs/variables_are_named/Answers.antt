use Rattle.cc_rename.proofs.Given.{is_named}
use Rattle.cc_rename.proofs.variables_are_named.Goals as goal

pub returns : goal.returns
returns c = is_named
