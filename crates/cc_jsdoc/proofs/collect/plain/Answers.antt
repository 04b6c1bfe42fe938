use Rattle.cc_jsdoc.specs.Docs.{doc_of}
use Rattle.cc_jsdoc.proofs.collect.plain.Goals as goal

pub returns : goal.returns
unfolding doc_of
returns c = cc
