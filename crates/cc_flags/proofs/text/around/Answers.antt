use Rattle.std.proofs.Common.{sym, ◌∙◌}
use Rattle.std.proofs.lemmas.Str.Pattern.{split_text_parts}
use Rattle.cc_flags.proofs.TextLaws.{around-by}
use Rattle.cc_flags.proofs.text.around.Goals as goal

pub returns-then-places-eq1 : goal.returns-then-places-eq1
returns-then-places-eq1 c =
    around-by c.args.marker.now c.args.text.now c.split_once.result (sym c.places.ensures ∙ c.if-places-eq1.true)
    (split_text_parts c.args.marker.now c.args.text.now c.split_once.result c.split_once.ensures.cases)
