-- Whole numbers as keys of arrays.
use Rattle.std.proofs.Common.{◌≡◌, ℕ, Bool, true, false, not, ◌&&◌, List, Option, Some, None, is_some, refl}
use Rattle.cc_meaning.specs.Names.{is_index}
use Rattle.cc_meaning.specs.SlotRules.{rule_if, whole_key_rule}
use Rattle.cc_meaning.specs.Store.{Access, runtime}
use Rattle.cc_meaning.specs.Values.{Val}
use Rattle.cc_conform.specs.Bridge.{access_of}
use Rattle.cc_conform.specs.declared.act.Access as key
use Rattle.cc_conform.specs.declared.act.Access.TheVariants as K

pub whole-no_array : (es : Option (List Val)) (a : Access) → is_some es ≡ false → ◌≡◌ {A = Option ℕ} None (whole_key_rule es a)
unfolding whole_key_rule
whole-no_array None a e = refl
whole-no_array (Some vs) a e = cc

pub whole-Runtime : (es : Option (List Val)) (t : List ℕ) (w : Bool) → is_some es ≡ true → rule_if (w && not (is_index t)) 2 ≡ whole_key_rule es (runtime t w)
unfolding whole_key_rule
whole-Runtime None t w e = cc
whole-Runtime (Some vs) t w e = refl

pub whole-others : (es : Option (List Val)) (k : key.Access) → ((t : List ℕ) (w : Bool) → k ≡ K.Runtime t w → ⊥) → ◌≡◌ {A = Option ℕ} None (whole_key_rule es (access_of k))
unfolding whole_key_rule
whole-others None k h = refl
whole-others (Some vs) (K.Dotted p) h = refl
whole-others (Some vs) (K.Quoted t) h = refl
whole-others (Some vs) (K.Runtime t w) h = absurd (h t w refl)
