use Rattle.std.specs.Prelude.{IsTrue}
use Rattle.cc_collapse.proofs.laws.flattening_keeps_spelling.Goals as goal
use Rattle.cc_collapse.proofs.KeepsSpelling.{keeps_spelling}

pub returns : goal.returns
returns c = λ is_identifier is_name. keeps_spelling (λ t. IsTrue (is_identifier t)) (λ t. IsTrue (is_name t))
