use Rattle.std.proofs.Common.{◌∙◌, ap, sym, map, Option, List}
use Rattle.std.specs.Option.{option_map}
use Rattle.cc_meaning.specs.Values.{Val}
use Rattle.cc_meaning.specs.Store.{find_element}
use Rattle.cc_value.specs.Bridge.{value_of}
use Rattle.cc_heap.proofs.object.Object.element_named.Goals as goal

pub returns-in-None : goal.returns-in-None
unfolding find_element
returns-in-None c = ap (λ (vs : Option (List Val)). find_element vs c.args.name.now) (ap (option_map (λ vs. map value_of vs.now)) (sym c.in-None.is) ∙ c.elements.ensures)
