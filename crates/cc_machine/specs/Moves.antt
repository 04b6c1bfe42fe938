-- How a step ends: the machine goes on with another focus, or with what an act came to.
use Rattle.std.specs.Prelude.{ℕ, List, [], ◌∷◌, ◌++◌, Some, None}
use Rattle.cc_ast.specs.Syntax.{MaybeStmts, absent, present}
use Rattle.cc_meaning.specs.Values.{Event}
use Rattle.cc_meaning.specs.Operators.{is_in}
use Rattle.cc_meaning.specs.State.{Env}
use Rattle.cc_meaning.specs.Monad.{Said, told, passed, Res, ok, threw, over, M, stop, spent, Way, went, thrown, pick}
use Rattle.cc_meaning.specs.Calls.{Reference, access, Bodies}
use Rattle.cc_meaning.specs.Meaning.{Comp, normal, returns, breaks, continues, slot_place}
use Rattle.cc_meaning.specs.Script.{stopped}
use Rattle.cc_machine.specs.Machine.{Focus, Frame, Machine, Next, on, halt, catch_on, finally_on, reached, placed, ended, tossed}

-- what is said goes to the end of the log, one by one; prices that are passed go nowhere
unfoldable pub logged : List Event → List Said → List Event
logged l [] = l
logged l (told e ∷ u) = logged (l ++ e ∷ []) u
logged l (passed p ∷ u) = logged l u

-- where the machine stands when an act has ended
unfoldable pub land : {A : Type 0} → (A → Focus) → Env → ℕ → List Frame → List Event → Res A → Next
unfolding logged
land give g d K l (ok u a s) = on (record { focus = give a; env = g; depth = d; stack = K; state = s; log = logged l u })
land give g d K l (threw u v s) = on (record { focus = tossed v; env = g; depth = d; stack = K; state = s; log = logged l u })
land give g d K l (over u e) = halt (record { events = logged l u; end = stopped e })

-- an act, whose value goes on as the focus
abbrev pub act : {A : Type 0} → M A → (A → Focus) → List Frame → Machine → Next
act a give K m = land give m.env m.depth K m.log (a m.state)

abbrev pub go : Focus → List Frame → Machine → Next
go f K m = on (record m { focus = f; stack = K })

abbrev pub go_in : Env → ℕ → Focus → List Frame → Machine → Next
go_in g d f K m = on (record m { focus = f; env = g; depth = d; stack = K })

-- what never comes: an end that no frame waits for
abbrev pub dies : Machine → Next
dies m = halt (record { events = m.log; end = stopped spent })

abbrev pub reached_access : Reference → Focus
reached_access r = reached (access r)

abbrev pub placed_slot : Reference → Focus
placed_slot r = placed (slot_place r)

-- functions that nothing calls
unfoldable pub no_bodies : Bodies
no_bodies c t vs = stop spent

-- what comes after the end of a statement, and after a turn of a loop
unfoldable pub next_focus : Comp → Focus → Focus
next_focus normal f = f
next_focus (returns i v) f = ended (returns i v)
next_focus (breaks l) f = ended (breaks l)
next_focus (continues l) f = ended (continues l)

unfoldable pub turn_focus : List (List ℕ) → Comp → Focus → Focus
unfolding is_in
turn_focus ls normal f = f
turn_focus ls (returns i v) f = ended (returns i v)
turn_focus ls (breaks None) f = ended normal
turn_focus ls (breaks (Some l)) f = ended (breaks (Some l))
turn_focus ls (continues None) f = f
turn_focus ls (continues (Some l)) f = pick (is_in l ls) f (ended (continues (Some l)))

unfoldable pub way_focus : Way Comp → Focus
way_focus (went c) = ended c
way_focus (thrown v) = tossed v

unfoldable pub with_finally : MaybeStmts → List Frame → List Frame
with_finally absent K = K
with_finally (present ss) K = finally_on ss ∷ K

unfoldable pub with_catch : MaybeStmts → List Frame → List Frame
with_catch absent K = K
with_catch (present ss) K = catch_on ss ∷ K
