use Rattle.cc_rename.proofs.Given.{names_serve}
use Rattle.cc_rename.proofs.names_serve_printing.Goals as goal

pub returns : goal.returns
returns c = names_serve
