-- What a name is of an array.
use Rattle.std.proofs.Common.{◌≡◌, ℕ, pos, true, false, List, length, map, slice_get, Option, Some, None, ap, ◌∙◌}
use Rattle.std.specs.Option.{option_map}
use Rattle.std.proofs.lemmas.Option.{slice_get-map}
use Rattle.std.proofs.lemmas.List.{length-map}
use Rattle.cc_ast.specs.Syntax.{whole}
use Rattle.cc_meaning.specs.Values.{prim}
use Rattle.cc_meaning.specs.Operators.{list_eq}
use Rattle.cc_meaning.specs.Names.{index_value, name_length}
use Rattle.cc_meaning.specs.Monad.{pick}
use Rattle.cc_meaning.specs.Store.{at_index, find_element}
use Rattle.cc_value.specs.declared.value.Value.{Value}
use Rattle.cc_value.specs.Bridge.{value_of}

module _ (items : List Value) (n : List ℕ) where
  pub length-found : list_eq n name_length ≡ true → find_element (Some (map value_of items)) n ≡ Some (prim (whole (pos (length items))))
  unfolding find_element
  length-found e =
      ap (λ b. pick b (Some (prim (whole (pos (length (map value_of items)))))) (at_index (map value_of items) (index_value n))) e
      ∙ ap (λ k. Some (prim (whole (pos k)))) (length-map items value_of)

  module _ (other : list_eq n name_length ≡ false) where
    pub element-found : (i : ℕ) (o : Option Value) → index_value n ≡ Some i → slice_get items i ≡ o → find_element (Some (map value_of items)) n ≡ option_map value_of o
    unfolding find_element at_index
    element-found i o e at =
        ap (λ b. pick b (Some (prim (whole (pos (length (map value_of items)))))) (at_index (map value_of items) (index_value n))) other
        ∙ ap (at_index (map value_of items)) e
        ∙ slice_get-map value_of items i
        ∙ ap (option_map value_of) at

    pub no-index : index_value n ≡ None → find_element (Some (map value_of items)) n ≡ None
    unfolding find_element at_index
    no-index e =
        ap (λ b. pick b (Some (prim (whole (pos (length (map value_of items)))))) (at_index (map value_of items) (index_value n))) other
        ∙ ap (at_index (map value_of items)) e
