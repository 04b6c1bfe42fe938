-- Names in lists of names.
use Rattle.std.proofs.Common.{◌≡◌, ◌∙◌, ◌||◌, ℕ, Bool, true, false, List, [], ◌∷◌, ◌++◌, refl, sym, ap}
use Rattle.cc_meaning.specs.Names.{common_names, standard_array_names, standard_text_names, standard_names}
use Rattle.cc_meaning.specs.Operators.{is_in, list_eq}

or-assoc : (a b c : Bool) → ((a || b) || c) ≡ (a || (b || c))
or-assoc true b c = refl
or-assoc false b c = refl

-- a name stands in one list followed by another where it stands in either
in-either : (n : List ℕ) (ms ks : List (List ℕ)) → is_in n (ms ++ ks) ≡ (is_in n ms || is_in n ks)
unfolding is_in
in-either n [] ks = refl
in-either n (m ∷ ms) ks = ap (λ (b : Bool). list_eq n m || b) (in-either n ms ks) ∙ sym (or-assoc (list_eq n m) (is_in n ms) (is_in n ks))

pub in_standard : (n : List ℕ) → is_in n standard_names ≡ (is_in n common_names || (is_in n standard_array_names || is_in n standard_text_names))
unfolding standard_names
in_standard n = in-either n common_names (standard_array_names ++ standard_text_names) ∙ ap (λ (b : Bool). is_in n common_names || b) (in-either n standard_array_names standard_text_names)
