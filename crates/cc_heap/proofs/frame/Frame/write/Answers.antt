use Rattle.std.proofs.Common.{◌∙◌, ap, map, set, List, Option, Some}
use Rattle.std.specs.Option.{option_map}
use Rattle.std.proofs.lemmas.List.{map-set}
use Rattle.cc_meaning.specs.Values.{Val}
use Rattle.cc_meaning.specs.State.{Frame}
use Rattle.cc_value.specs.Bridge.{value_of}
use Rattle.cc_heap.specs.contracts.frame.Frame.{the_view}
use Rattle.cc_heap.proofs.frame.Frame.write.Goals as goal

pub returns-then-at-len : goal.returns-then-at-len
returns-then-at-len c =
    ap (λ (vs : List (Option Val)). record (the_view c.self.inside) { values = vs }) (ap (map (option_map value_of)) c.set.ensures ∙ map-set (option_map value_of) c.self.inside.places c.args.at (Some c.args.value))
    ∙ ap (λ (f : Frame). record f { values = set f.values c.args.at (Some (value_of c.args.value)) }) c.self.view_is
