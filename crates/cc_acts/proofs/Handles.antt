-- Handles: the places of objects among those that were given out.
use Rattle.std.proofs.Common.{◌≡◌, ℕ, suc, ◌+◌, Bool, true, false, nat_eq, List, [], ◌∷◌, Option, Some, position, cond, refl, ap, ◌∙◌, arith}
use Rattle.std.specs.List.{position_from}
use Rattle.std.specs.Cmp.{nat_eq_equiv}
use Rattle.std.proofs.lemmas.Iterator.Adapters.{position_from-zero}
use Rattle.cc_meaning.specs.Monad.{pick}
use Rattle.cc_meaning.specs.Acts.{handle_of, next_place}

by_test : (b : Bool) (k : ℕ) (o p : Option ℕ) → o ≡ next_place p → cond b (Some (k + 1)) o ≡ next_place (cond b (Some k) p)
unfolding next_place
by_test true k o p e = let one : k + 1 ≡ suc k = omega arith in ap (λ (n : ℕ). Some n) one
by_test false k o p e = e

later : (t : ℕ → Bool) (k : ℕ) (ms : List ℕ) → position_from t (k + 1) ms ≡ next_place (position_from t k ms)
unfolding next_place
later t k [] = refl
later t k (m ∷ ms) = by_test (t m) k (position_from t (k + 1 + 1) ms) (position_from t (k + 1) ms) (later t (k + 1) ms)

as_pick : (b : Bool) (o : Option ℕ) → cond b (Some 0) o ≡ pick b (Some 0) o
as_pick true o = refl
as_pick false o = refl

from_start : (n : ℕ) (ms : List ℕ) → position_from (nat_eq n) 0 ms ≡ handle_of ms n
unfolding handle_of
from_start n [] = refl
from_start n (m ∷ ms) =
    ap (λ (o : Option ℕ). cond (nat_eq n m) (Some 0) o) (later (nat_eq n) 0 ms ∙ ap next_place (from_start n ms))
    ∙ ap (λ (b : Bool). cond b (Some 0) (next_place (handle_of ms n))) (nat_eq_equiv.symm n m)
    ∙ as_pick (nat_eq m n) (next_place (handle_of ms n))

pub placed : (n : ℕ) (ms : List ℕ) → position (nat_eq n) ms ≡ handle_of ms n
placed n ms = position_from-zero (nat_eq n) ms ∙ from_start n ms
