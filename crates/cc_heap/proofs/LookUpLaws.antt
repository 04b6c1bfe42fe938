-- A look-up, object by object.
use Rattle.std.proofs.Common.{◌≡◌, ℕ, zero, suc, ◌<◌, ◌≤◌, Bool, true, false, ◌&&◌, List, [], ◌∷◌, length, slice_get, get_or, drop, Option, Some, None, is_some, refl, sym, ap, ◌∙◌, arith, true≢false, drop-cons}
use Rattle.cc_meaning.specs.Values.{Val}
use Rattle.cc_meaning.specs.Operators.{list_eq}
use Rattle.cc_meaning.specs.Names.{name_call, name_hasOwnProperty}
use Rattle.cc_meaning.specs.Builtins.{ArrayUse, array_method}
use Rattle.cc_meaning.specs.State.{Obj}
use Rattle.cc_meaning.specs.Monad.{pick}
use Rattle.cc_meaning.specs.Store.{Found, found_value, found_use, nothing_found, has_own, call_with, found_at, found_here, built_here, array_found, find_own, found_on, chain_of, chain_in, look_up, is_found_value}
use Rattle.cc_heap.specs.Store.{hides, value_if_found}

module _ (o : Obj) (n : List ℕ) where
  pub met-value : (v : Val) → find_own o n ≡ Some v → (rest : Found) → found_at (Some o) n rest ≡ found_value v
  unfolding found_at found_here
  met-value v e rest = ap (λ x. found_here x o n rest) e

  module _ (none : find_own o n ≡ None) where
    at_built : (rest : Found) → found_at (Some o) n rest ≡ built_here o n rest
    unfolding found_at found_here
    at_built rest = ap (λ x. found_here x o n rest) none

    pub met-built : hides o n ≡ true → (rest : Found) → value_if_found (found_at (Some o) n rest) ≡ None
    unfolding built_here array_found
    met-built e rest = ap value_if_found (at_built rest) ∙ by (is_some o.elements) (array_method n) (is_some o.code && list_eq n name_call) e
      where
        by : (a : Bool) (m : Option ArrayUse) (b : Bool) → pick a (is_some m) b ≡ true → value_if_found (pick a (array_found m rest) (pick b (found_use call_with) rest)) ≡ None
        by true (Some u) b e = refl
        by true None b e = absurd (true≢false (sym e))
        by false m true e = refl
        by false m false e = absurd (true≢false (sym e))

    pub met-nothing : hides o n ≡ false → (rest : Found) → found_at (Some o) n rest ≡ rest
    unfolding built_here array_found
    met-nothing e rest = at_built rest ∙ by (is_some o.elements) (array_method n) (is_some o.code && list_eq n name_call) e
      where
        by : (a : Bool) (m : Option ArrayUse) (b : Bool) → pick a (is_some m) b ≡ false → pick a (array_found m rest) (pick b (found_use call_with) rest) ≡ rest
        by true (Some u) b e = absurd (true≢false e)
        by true None b e = refl
        by false m true e = absurd (true≢false e)
        by false m false e = refl

pub met-missing : (n : List ℕ) (rest : Found) → found_at None n rest ≡ rest
unfolding found_at
met-missing n rest = refl

pub found-end : (os : List Obj) (n : List ℕ) → value_if_found (found_on os [] n) ≡ None
unfolding found_on
found-end os n = by (list_eq n name_hasOwnProperty)
  where
    by : (b : Bool) → value_if_found (pick b (found_use has_own) nothing_found) ≡ None
    by true = refl
    by false = refl

pub drop-all : (t : List ℕ) (i : ℕ) → length t ≤ i → drop i t ≡ []
drop-all [] zero h = refl
drop-all [] (suc i) h = refl
drop-all (x ∷ t) zero h = absurd (omega arith)
drop-all (x ∷ t) (suc i) h = drop-all t i (omega arith)

-- the rest of a chain from a place on
pub found-drop : (os : List Obj) (chain : List ℕ) (n : List ℕ) (i : ℕ) → i < length chain → found_on os (drop i chain) n ≡ found_at (slice_get os (get_or chain i 0)) n (found_on os (drop (suc i) chain) n)
unfolding found_on
found-drop os chain n i within = ap (λ c. found_on os c n) (drop-cons chain i 0 within)

pub look_up-first : (os : List Obj) (o : ℕ) (n : List ℕ) → look_up os o n ≡ found_at (slice_get os o) n (found_on os (chain_in (slice_get os o)) n)
unfolding look_up chain_of found_on
look_up-first os o n = refl

pub is_some-found : (f : Found) → is_some (value_if_found f) ≡ is_found_value f
unfolding is_found_value
is_some-found (found_value v) = refl
is_some-found (found_use u) = refl
is_some-found nothing_found = refl
