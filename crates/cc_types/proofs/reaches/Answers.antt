use Rattle.cc_types.specs.Types.{subtype}
use Rattle.cc_types.proofs.reaches.Goals as goal

pub returns-in_default : goal.returns-in_default
unfolding subtype
returns-in_default c = c.climbs.ensures
