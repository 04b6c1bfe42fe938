-- Flags by their names.
use Rattle.std.proofs.Common.{◌≡◌, ◌≢◌, ℕ, List, [], ◌∷◌, find, None, false, sym, refl}
use Rattle.std.specs.List.{AllByRecursion}
use Rattle.std.specs.Str.{bytes_eq}
use Rattle.std.proofs.lemmas.Slice.Eq.{bytes_eq-Decides}
use Rattle.std.proofs.lemmas.Bool.{false_from_ne_true}
use Rattle.cc_flags.specs.declared.flag.Flag.{Flag}
use Rattle.cc_flags.specs.Flags.{row_of}

-- no flag of a list has the name
pub none_named : (name : List ℕ) (flags : List Flag) → AllByRecursion (λ f. name ≢ (row_of f).name) flags → find (λ f. bytes_eq (row_of f).name name) flags ≡ None
none_named name [] apart = refl
none_named name (f ∷ flags) apart =
    let other : bytes_eq (row_of f).name name ≡ false = false_from_ne_true (bytes_eq (row_of f).name name) (λ e. apart.0 (sym ((bytes_eq-Decides (row_of f).name name).0 e))) in
    rw other (none_named name flags apart.1)
