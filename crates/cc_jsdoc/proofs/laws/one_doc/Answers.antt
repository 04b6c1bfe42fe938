use Rattle.cc_jsdoc.proofs.DocOnceLemmas.{one_doc}
use Rattle.cc_jsdoc.proofs.laws.one_doc.Goals as goal

pub returns : goal.returns
returns c = one_doc
