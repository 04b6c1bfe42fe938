-- What a part of a program does to a state: it says something and gives a value, throws one, or ends
-- the run (ECMA-262 5.1, 8.9, for throws).
use Rattle.std.specs.Prelude.{ℕ, zero, suc, ◌+◌, Bool, true, false, List, [], ◌∷◌, ◌++◌, Option, Some, None}
use Rattle.cc_ast.specs.Syntax.{Program}
use Rattle.cc_meaning.specs.Values.{Val, Event, Spot}
use Rattle.cc_meaning.specs.State.{State, Tables}

-- what a run says: an event, or, in the plain run, a price that it passes
pub data Said : Type 0 where
  told : Event → Said
  passed : ℕ → Said

-- the events of what was said
unfoldable pub seen : List Said → List Event
seen [] = []
seen (told e ∷ u) = e ∷ seen u
seen (passed p ∷ u) = seen u

-- the prices that were passed, together
unfoldable pub marks : List Said → ℕ
marks [] = 0
marks (told e ∷ u) = marks u
marks (passed p ∷ u) = p + marks u

-- why a run ends before its last turn: the budget is used up; a reply is asked for and none is left;
-- an act breaks a rule; or, in the plain run, an act has no value to go on with
pub data End : Type 0 where
  spent waits : End
  broken : (rule : ℕ) → Spot → End
  strayed : Spot → End

-- what was said on the way, and what came of it
pub data Res (A : Type 0) : Type 0 where
  ok : List Said → A → State → Res A
  threw : List Said → Val → State → Res A
  over : List Said → End → Res A

abbrev pub M : Type 0 → Type 0
M A = State → Res A

unfoldable pub ret : {A : Type 0} → A → M A
ret a s = ok [] a s

-- nothing happens
abbrev pub skip : M (Unit {0})
skip = ret tt

unfoldable pub raise : {A : Type 0} → Val → M A
raise v s = threw [] v s

unfoldable pub stop : {A : Type 0} → End → M A
stop e s = over [] e

unfoldable pub say : Said → M (Unit {0})
say x s = ok (x ∷ []) tt s

-- what was said before goes first
unfoldable pub said : {A : Type 0} → List Said → Res A → Res A
said u (ok v a s) = ok (u ++ v) a s
said u (threw v x s) = threw (u ++ v) x s
said u (over v e) = over (u ++ v) e

unfoldable pub after : {A B : Type 0} → Res A → (A → M B) → Res B
unfolding said
after (ok u a s) k = said u (k a s)
after (threw u v s) k = threw u v s
after (over u e) k = over u e

-- one after the other
unfoldable pub ◌>>=◌ : {A B : Type 0} → M A → (A → M B) → M B
unfolding after
◌>>=◌ m k s = after (m s) k

infixl 20 ◌>>=◌
-- an end by a value or by a throw, as a value
pub data Way (A : Type 0) : Type 0 where
  went : A → Way A
  thrown : Val → Way A

unfoldable pub attempted : {A : Type 0} → Res A → Res (Way A)
attempted (ok u a s) = ok u (went a) s
attempted (threw u v s) = ok u (thrown v) s
attempted (over u e) = over u e

-- what a part does, with a throw as a value, so that what comes after can give it on
unfoldable pub attempt : {A : Type 0} → M A → M (Way A)
unfolding attempted
attempt m s = attempted (m s)

-- a budget less a price, where it suffices
unfoldable pub paid : (price budget : ℕ) → Option ℕ
paid zero b = Some b
paid (suc p) zero = None
paid (suc p) (suc b) = paid p b

unfoldable pub pay_from : Option ℕ → M (Unit {0})
pay_from None s = over [] spent
pay_from (Some b) s = ok [] tt (record s { budget = b })

-- a cost falls due
unfoldable pub pay : ℕ → M (Unit {0})
unfolding paid pay_from
pay p s = pay_from (paid p s.budget) s

-- a part that is given the budget that is left
unfoldable pub with_budget : {A : Type 0} → (ℕ → M A) → M A
with_budget f s = f s.budget s

-- a part that is given the program's tables
unfoldable pub with_tables : {A : Type 0} → (Tables → M A) → M A
with_tables f s = f s.tables s

abbrev pub pick : {A : Type 0} → Bool → A → A → A
pick true a b = a
pick false a b = b

-- How acts are judged: what a price mark costs; what an act does that breaks a rule where the plain
-- run can go on; how the run ends at one where it can't (a rule of C1, C2 and C3, or a handle that
-- wasn't given out); and which tables of the program count.
pub record Mode : Type 0 where
  pub mark : ℕ → M (Unit {0})
  pub breach : (rule : ℕ) → Spot → M (Unit {0})
  pub fault : (rule : ℕ) → Spot → End
  pub tables : Program → Tables
