use Rattle.std.proofs.Common.{Option, subst}
use Rattle.cc_meaning.specs.Monad.{End}
use Rattle.cc_acts.specs.Shown.{Settles, spot_of}
use Rattle.cc_acts.proofs.Judging.{end_by}
use Rattle.cc_acts.proofs.stop.settle.Goals as goal

pub returns-in-Some : goal.returns-in-Some
returns-in-Some c = λ a h.
    subst (λ (o : Option End). Settles c.refuse.result o) (end_by c.args.plain (spot_of c.args.spot) a c.args.rule c.in-Some.rule _ c.in-Some.is (h c.in-Some.rule)) c.refuse.ensures
