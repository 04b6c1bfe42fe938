use Rattle.cc_gen.proofs.DrawLaws.{next-state, next-draw}
use Rattle.cc_gen.proofs.draws.Draws.draw.Goals as goal

pub returns-clause-state : goal.returns-clause-state
returns-clause-state c = λ seed n at. next-state _ seed n at

pub returns-clause-value : goal.returns-clause-value
returns-clause-value c = λ seed n at. next-draw _ seed n at c.args.k
