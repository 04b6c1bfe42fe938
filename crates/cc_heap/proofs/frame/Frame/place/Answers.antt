use Rattle.std.proofs.Common.{◌∙◌, ap, sym, Some, None}
use Rattle.std.specs.Option.{option_map, option_copied}
use Rattle.cc_meaning.specs.Acts.{place_in}
use Rattle.cc_meaning.specs.State.{Frame}
use Rattle.cc_meaning.specs.Store.{flat_option}
use Rattle.cc_value.specs.Bridge.{value_of}
use Rattle.cc_heap.proofs.PlaceLaws.{place-shown, shown-copied}
use Rattle.cc_heap.proofs.frame.Frame.place.Goals as goal

pub returns-in-Some : goal.returns-in-Some
unfolding place_in flat_option
returns-in-Some c =
    shown-copied c.as_ref.result
    ∙ ap (option_map value_of) c.as_ref.ensures.value
    ∙ sym (place-shown c.self.inside.places c.args.at (Some c.in-Some.place.now) (sym c.get.ensures.value ∙ ap option_copied c.in-Some.is))
    ∙ ap (λ (f : Frame). place_in (Some f) c.args.at) c.self.view_is

pub returns-in-None : goal.returns-in-None
unfolding place_in flat_option
returns-in-None c =
    sym (place-shown c.self.inside.places c.args.at None (sym c.get.ensures.value ∙ ap option_copied c.in-None.is))
    ∙ ap (λ (f : Frame). place_in (Some f) c.args.at) c.self.view_is
