use Rattle.cc_jsdoc.proofs.OnceLemmas.{one_type}
use Rattle.cc_jsdoc.proofs.laws.one_type.Goals as goal

pub returns : goal.returns
returns c = one_type
