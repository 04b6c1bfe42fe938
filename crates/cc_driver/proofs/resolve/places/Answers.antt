use Rattle.std.proofs.Common.{◌∙◌, ap, sym, ◌++◌, ◌∷◌, []}
use Rattle.cc_driver.specs.Source.{place_at}
use Rattle.cc_driver.proofs.Resolved.{places_more}
use Rattle.cc_driver.proofs.resolve.places.Goals as goal

pub loop-offset-preserved : goal.loop-offset-preserved
loop-offset-preserved c = c.in_ok-push.ensures.ok ∙ ap (λ places. places ++ place_at c.loop-offset.offset ∷ []) c.loop-offset.invariant ∙ sym (places_more c.loop-offset.offset)
