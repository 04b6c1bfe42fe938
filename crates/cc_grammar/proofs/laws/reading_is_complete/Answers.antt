use Rattle.cc_grammar.proofs.laws.reading_is_complete.Goals as goal
use Rattle.cc_grammar.proofs.Completeness.CompleteTokens.{complete}

pub returns : goal.returns
returns c = complete
