use Rattle.std.proofs.Common.{◌∙◌, sym, ap}
use Rattle.std.specs.Option.{option_copied}
use Rattle.cc_meaning.specs.Acts.{object_at, viewed}
use Rattle.cc_acts.proofs.views.object_at.Goals as goal

pub returns-in-Some : goal.returns-in-Some
unfolding viewed object_at
returns-in-Some c = λ P rs. sym (ap object_at (sym c.get_index.ensures.key ∙ ap option_copied c.in-Some.is))

pub returns-in-None : goal.returns-in-None
unfolding viewed object_at
returns-in-None c = λ P rs. sym (ap object_at (sym c.get_index.ensures.key ∙ ap option_copied c.in-None.is))
