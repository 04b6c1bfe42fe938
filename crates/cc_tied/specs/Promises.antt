-- Laws of runs: what the depth of calls, the budget, price marks and checks change, and what alike programs do.
use Rattle.std.specs.Prelude.{◌≡◌, ℕ, ◌≤◌, List, []}
use Rattle.cc_ast.specs.Syntax.{Program}
use Rattle.cc_ast.specs.declared.tables.GlobalInfo.{GlobalInfo}
use Rattle.cc_meaning.specs.Values.{Event, Spot}
use Rattle.cc_meaning.specs.Monad.{spent, strayed, Mode}
use Rattle.cc_meaning.specs.Meaning.{bodies}
use Rattle.cc_meaning.specs.Script.{Script, IsFollowing, Finish, stopped, Run, finish, turns_from, start, run, plain}
use Rattle.cc_meaning.specs.Same.{Prefix, Same, Agrees}
use Rattle.cc_meaning.specs.Alike.{In, Alike}

-- a run in which calls go no deeper than d
unfoldable pub run_to : (d : ℕ) → Mode → Program → Script → ℕ → Run
unfolding finish turns_from bodies start
run_to d J P sc n = finish (turns_from J P (bodies J P d) 0 sc.turns (start J P sc.replies n))

-- a depth at the budget or past it changes nothing
abbrev pub DepthIsEnough : Mode → Type 0
DepthIsEnough J = (P : Program) (sc : Script) (n d : ℕ) → n ≤ d → run_to d J P sc n ≡ run J P sc n

-- the second goes on where the first has nothing left to spend, and else does the same
pub data IsExtendedBy : Run → Run → Type 0 where
  goes_on : {u : List Event} {y : Run} → Prefix u y.events → IsExtendedBy (record { events = u; end = stopped spent }) y
  does_the_same : {x : Run} → IsExtendedBy x x

-- a larger budget only extends a run
abbrev pub BudgetExtends : Mode → Type 0
BudgetExtends J = (P : Program) (sc : Script) (n m : ℕ) → n ≤ m → IsExtendedBy (run J P sc n) (run J P sc m)

-- a program without flat paths
pub record HasNoPaths (P : Program) : Type 0 where
  pub none : (g : GlobalInfo) → In g P.globals → g.flat ≡ []

-- price marks and checks make no difference
abbrev pub Erasure : Type 0
Erasure = (P : Program) → HasNoPaths P → Agrees P P

-- what the plain run of E agrees with agrees with what does the same
abbrev pub AgreementFollowsSame : Type 0
AgreementFollowsSame = (S P E : Program) → Same S P → Agrees P E → Agrees S E

-- the same end, but for the place where a plain run strayed
pub data EndsAlike : Finish → Finish → Type 0 where
  same_finish : {x : Finish} → EndsAlike x x
  both_strayed : {i j : Spot} → EndsAlike (stopped (strayed i)) (stopped (strayed j))

-- alike programs have equal plain runs
abbrev pub AlikeRuns : Type 0
AlikeRuns = (P Q : Program) → Alike P Q → (sc : Script) → IsFollowing P sc → (n : ℕ) → ((run plain P sc n).events ≡ (run plain Q sc n).events) × EndsAlike (run plain P sc n).end (run plain Q sc n).end

-- what agrees with a program agrees with what is alike
abbrev pub AgreementReachesAlike : Type 0
AgreementReachesAlike = (S P Q : Program) → Agrees S P → Alike P Q → Agrees S Q

-- What a compiler that keeps Same at each step, and writes out a program that is alike to its last
-- one, may claim.
abbrev pub Joining : Type 0
Joining = (S P Q : Program) → Same S P → HasNoPaths P → Alike P Q → Agrees S Q
