use Rattle.std.proofs.Common.{◌∙◌}
use Rattle.cc_conform.proofs.PlaceLemmas.{begins-equal, begins-long}
use Rattle.cc_conform.proofs.places.begins_with.Goals as goal

pub returns-then-part-text : goal.returns-then-part-text
returns-then-part-text c = begins-long c.args.part.now c.args.text.now c.if-part-text.true

pub returns : goal.returns
returns c = c.is_equal.ensures ∙ begins-equal c.args.part.now c.args.text.now c.if-part-text.false
