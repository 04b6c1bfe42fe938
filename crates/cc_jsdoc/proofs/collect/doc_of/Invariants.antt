use Rattle.cc_jsdoc.specs.Collecting.{IsCollected}
use Rattle.cc_jsdoc.proofs.collect.doc_of.Given as goal

abbrev pub invariant-loop-tag : goal.invariant-loop-tag
invariant-loop-tag l = IsCollected l.yielded l.collected
