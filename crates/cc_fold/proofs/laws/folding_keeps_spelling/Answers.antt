use Rattle.std.specs.Prelude.{IsTrue}
use Rattle.cc_fold.proofs.laws.folding_keeps_spelling.Goals as goal
use Rattle.cc_fold.proofs.WellMade.KeepsSpelling.{folding_keeps_spelling}

pub returns : goal.returns
returns c = λ is_identifier is_name. folding_keeps_spelling (λ t. IsTrue (is_identifier t)) (λ t. IsTrue (is_name t))
