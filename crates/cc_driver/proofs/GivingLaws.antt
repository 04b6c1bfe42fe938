-- The state of the loop that gives names, and its turns.
use Rattle.std.proofs.Common.{◌≡◌, ℕ, ◌+◌, ◌^◌, ◌<◌, ◌≤◌, Bool, true, false, List, [], ◌∷◌, ◌++◌, length, map, get_or, take, refl, sym, ap, ◌∙◌, subst, arith, Vec, length-append, append_assoc, append-nil}
use Rattle.std.proofs.lemmas.List.{map-append, map_more}
use Rattle.cc_driver.specs.declared.naming.given.Given.{Given}
use Rattle.cc_driver.specs.declared.naming.rank.Rank.{Rank}
use Rattle.cc_driver.specs.Naming.{NameNumber, Fresh}
use Rattle.cc_driver.specs.Naming as naming
use Rattle.cc_driver.specs.NamingSteps.{has_name, global_of, given_to, given_name, Takes, PassesOver}
use Rattle.cc_driver.proofs.NumberLaws.{number_once}

-- the names below k were tried: passed is the set as it was, and keys as it is now
pub record Giving {A : Type 0} (passed : List (Vec ℕ A)) (ranks : List Rank) (k : ℕ) (keys : List (Vec ℕ A)) (given : List Given) : Type 0 where
  pub same : (j : ℕ) (name : List ℕ) → k ≤ j → NameNumber j name → has_name keys name ≡ has_name passed name
  pub begun : (rest : List (List ℕ)) → Fresh (has_name passed) k rest → Fresh (has_name passed) 0 (map given_name given ++ rest)
  pub counted : k + length keys ≡ length given + length passed
  pub few : length passed < 2 ^ 63
  pub within : length given ≤ length ranks
  pub globals : map given_to given ≡ map global_of (take (length given) ranks)

abbrev one : ℕ → List ℕ → List Given
one global name = record { global = global; name = name } ∷ []

pub giving_taken : {A : Type 0} (passed : List (Vec ℕ A)) (ranks : List Rank) (k : ℕ) (keys new : List (Vec ℕ A)) (given after : List Given) (d : Rank) (global : ℕ) (name : List ℕ)
    → Giving passed ranks k keys given → length given < length ranks → global ≡ (get_or ranks (length given) d).global → NameNumber k name → has_name keys name ≡ false
    → Takes keys new given after global name → Giving passed ranks (k + 1) new after
giving_taken {A} passed ranks k keys new given after d global name g room is x unknown t = record {
  same = λ j other l y. ap (λ ks. has_name ks other) t.keys ∙ g.same j other (omega arith) y;
  begun = begun;
  counted = omega (arith, ap length t.keys, more, g.counted);
  few = g.few;
  within = omega (arith, more);
  globals = globals;
}
  where
    more : length after ≡ length given + 1
    more = ap length t.given ∙ length-append given (one global name)

    begun : (rest : List (List ℕ)) → Fresh (has_name passed) (k + 1) rest → Fresh (has_name passed) 0 (map given_name after ++ rest)
    begun rest f =
        let not_passed : has_name passed name ≡ false = sym (g.same k name (omega arith) x) ∙ unknown in
        let whole : map given_name after ++ rest ≡ map given_name given ++ (name ∷ rest) =
        ap (λ gs. map given_name gs ++ rest) t.given ∙ ap (λ ns. ns ++ rest) (map-append given_name given (one global name)) ∙ append_assoc (map given_name given) (name ∷ []) rest in
        subst (Fresh (has_name passed) 0) (sym whole) (g.begun (name ∷ rest) (naming.taken x not_passed f))

    globals : map given_to after ≡ map global_of (take (length after) ranks)
    globals =
        ap (map given_to) t.given ∙ map-append given_to given (one global name) ∙ ap (λ gs. gs ++ global ∷ []) g.globals ∙ ap (λ n. map global_of (take (length given) ranks) ++ n ∷ []) is
        ∙ sym (map_more global_of ranks (length given) d room) ∙ ap (λ n. map global_of (take n ranks)) (sym more)

pub giving_passed : {A : Type 0} (passed : List (Vec ℕ A)) (ranks : List Rank) (k : ℕ) (keys new : List (Vec ℕ A)) (given after : List Given) (name : List ℕ)
    → Giving passed ranks k keys given → NameNumber k name → has_name keys name ≡ true
    → PassesOver keys new given after name → Giving passed ranks (k + 1) new after
giving_passed {A} passed ranks k keys new given after name g x known p = record {
  same = λ j other l y. p.others other (λ e. absurd (omega (arith, number_once x y e))) ∙ g.same j other (omega arith) y;
  begun = λ rest f. subst (λ gs. Fresh (has_name passed) 0 (map given_name gs ++ rest)) (sym p.given) (g.begun rest (naming.passed_over x (sym (g.same k name (omega arith) x) ∙ known) f));
  counted = omega (arith, ap length p.given, p.fewer, g.counted);
  few = g.few;
  within = omega (arith, ap length p.given, g.within);
  globals = subst (λ gs. map given_to gs ≡ map global_of (take (length gs) ranks)) (sym p.given) g.globals;
}

-- a turn of the loop
pub giving_on : {A : Type 0} (passed : List (Vec ℕ A)) (ranks : List Rank) (k : ℕ) (keys new : List (Vec ℕ A)) (given after : List Given) (d : Rank) (global : ℕ) (name : List ℕ)
    → (has_name keys name ≡ false → Takes keys new given after global name) → (has_name keys name ≡ true → PassesOver keys new given after name)
    → Giving passed ranks k keys given → length given < length ranks → (i : ℕ) → i ≡ length given → global ≡ (get_or ranks i d).global → NameNumber k name
    → Giving passed ranks (k + 1) new after
giving_on {A} passed ranks k keys new given after d global name take_it pass_it g room i at is x = by (has_name keys name) refl
  where
    by : (b : Bool) → has_name keys name ≡ b → Giving passed ranks (k + 1) new after
    by true e = giving_passed passed ranks k keys new given after name g x e (pass_it e)
    by false e = giving_taken passed ranks k keys new given after d global name g room (is ∙ ap (λ n. (get_or ranks n d).global) at) x e (take_it e)

pub giving_ends : {A : Type 0} (passed : List (Vec ℕ A)) (ranks : List Rank) (k : ℕ) (keys : List (Vec ℕ A)) (given : List Given) → Giving passed ranks k keys given
    → Fresh (has_name passed) 0 (map given_name given)
giving_ends passed ranks k keys given g = subst (Fresh (has_name passed) 0) (append-nil (map given_name given)) (g.begun [] naming.no_more)
