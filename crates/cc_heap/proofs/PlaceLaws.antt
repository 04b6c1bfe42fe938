-- The places of a frame.
use Rattle.std.proofs.Common.{◌≡◌, ℕ, List, map, slice_get, Option, Some, None, Bor, refl, ap, ◌∙◌}
use Rattle.std.specs.Option.{option_map, option_copied}
use Rattle.std.proofs.lemmas.Option.{slice_get-map}
use Rattle.cc_meaning.specs.Store.{flat_option}
use Rattle.cc_value.specs.declared.value.Value.{Value}
use Rattle.cc_value.specs.Bridge.{value_of}

flat-map : (o : Option (Option Value)) → flat_option (option_map (option_map value_of) o) ≡ option_map value_of (flat_option o)
unfolding flat_option
flat-map None = refl
flat-map (Some o) = refl

-- what a place has is what stands for its value
pub place-shown : (places : List (Option Value)) (at : ℕ) (o : Option (Option Value)) → slice_get places at ≡ o → flat_option (slice_get (map (option_map value_of) places) at) ≡ option_map value_of (flat_option o)
place-shown places at o e = ap flat_option (slice_get-map (option_map value_of) places at ∙ ap (option_map (option_map value_of)) e) ∙ flat-map o

pub shown-copied : (o : Option (Bor Value)) → option_map (λ v. value_of v.now) o ≡ option_map value_of (option_copied o)
shown-copied None = refl
shown-copied (Some v) = refl
