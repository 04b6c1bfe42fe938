-- Two programs that do the same, and a program that the plain run of another agrees with.
use Rattle.std.specs.Prelude.{◌≡◌, ◌⊎◌, ℕ, ◌++◌, List}
use Rattle.cc_ast.specs.Syntax.{Program}
use Rattle.cc_meaning.specs.Values.{Event, Spot}
use Rattle.cc_meaning.specs.Monad.{waits, broken, strayed}
use Rattle.cc_meaning.specs.Script.{Script, IsFollowing, graph_of, Finish, finished, stopped, Run, run, checked, plain}

-- a run that ended at an act that breaks a rule
pub data IsBroken : Finish → Type 0 where
  is_broken : {r : ℕ} {i : Spot} → IsBroken (stopped (broken r i))

-- a plain run that ended at an act with no value to go on with
pub data IsStrayed : Finish → Type 0 where
  is_strayed : {i : Spot} → IsStrayed (stopped (strayed i))

-- the last turn is over, or a reply is asked for and none is left
pub data IsSettled : Finish → Type 0 where
  is_done : IsSettled finished
  is_waiting : IsSettled (stopped waits)

abbrev pub Prefix : List Event → List Event → Type 0
Prefix u v = (w : List Event) × (v ≡ u ++ w)

-- Under every script that follows the dependencies, and at every budget: where the first one's
-- checked run breaks no rule, the other's has equal events and an equal end. The dependencies are
-- the same.
pub record Same (S T : Program) : Type 0 where
  pub graph : graph_of S ≡ graph_of T
  pub runs : (sc : Script) → IsFollowing S sc → (n : ℕ) → IsBroken (run checked S sc n).end ⊎ (run checked S sc n ≡ run checked T sc n)

-- what the one run did by then the other did, and where the one is settled they are equal
pub record IsFollowedBy (x y : Run) : Type 0 where
  pub events : Prefix x.events y.events
  pub settled : IsSettled x.end → x ≡ y

-- The plain run of E agrees with the checked run of S: at every budget at which S breaks no rule, E
-- has done at least what S has; and where S breaks no rule at any budget, E never strays, and does
-- nothing that S doesn't do at some budget.
pub record Agrees (S E : Program) : Type 0 where
  pub graph : graph_of S ≡ graph_of E
  pub keeps_up : (sc : Script) → IsFollowing S sc → (n : ℕ) → IsBroken (run checked S sc n).end ⊎ IsFollowedBy (run checked S sc n) (run plain E sc n)
  pub goes_no_further : (sc : Script) → IsFollowing S sc → ((m : ℕ) → IsBroken (run checked S sc m).end → ⊥) →
      (n : ℕ) → (IsStrayed (run plain E sc n).end → ⊥) × ((m : ℕ) × IsFollowedBy (run plain E sc n) (run checked S sc m))
