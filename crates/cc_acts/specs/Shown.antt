-- What stands in the meaning for the state of src/, and what the answer of an act says.
use Rattle.std.specs.Prelude.{◌≡◌, ℕ, List, [], Option, Some, None, Result, Ok, Err, ⊤, map}
use Rattle.std.specs.Option.{option_map}
use Rattle.cc_ast.specs.Syntax.{Program}
use Rattle.cc_value.specs.Bridge.{value_of}
use Rattle.cc_meaning.specs.Values.{Spot, at_site, at_turn}
use Rattle.cc_meaning.specs.State.{Reply, State}
use Rattle.cc_meaning.specs.Monad.{End, spent, waits, broken, strayed, Res, ok, over, Mode}
use Rattle.cc_meaning.specs.Shapes.{tables_of}
use Rattle.cc_value.specs.declared.value.OpFault.{OpFault}
use Rattle.cc_value.specs.declared.value.OpFault.TheVariants.{Rule1, Rule2}
use Rattle.cc_acts.specs.declared.stop.Spot as spots
use Rattle.cc_acts.specs.declared.stop.Spot.TheVariants.{Site, Turn}
use Rattle.cc_acts.specs.declared.stop.End as ends
use Rattle.cc_acts.specs.declared.stop.End.TheVariants.{Spent, Waits, Broken, Outside}
use Rattle.cc_acts.specs.declared.stop.Stop.{Stop}
use Rattle.cc_acts.specs.declared.stop.Stop.TheVariants.{Ended, Memory}
use Rattle.cc_acts.specs.declared.state.State as held

abbrev pub spot_of : spots.Spot → Spot
spot_of (Site i) = at_site i
spot_of (Turn n) = at_turn n

abbrev pub ended : ends.End → End
ended Spent = spent
ended Waits = waits
ended (Broken r i) = broken r (spot_of i)
ended (Outside i) = strayed (spot_of i)

-- what is held stands for a state, with the tables of a program and the replies that are left
abbrev pub state_of : Program → List Reply → held.State → State
state_of P rs h = record {
  tables = tables_of P;
  objs = h.heap.objs;
  frames = h.heap.frames;
  globals = map (option_map value_of) h.globals;
  loaded = h.loaded.items;
  failed = h.failed.items;
  constructed = h.heap.constructed;
  handles = h.handles.keys;
  replies = rs;
  budget = h.budget;
}

-- the run goes on, or ends so
abbrev pub Settles : Result (Unit {0}) Stop → Option End → Type 0
Settles (Ok u) o = o ≡ None
Settles (Err (Ended e)) o = o ≡ Some (ended e)
Settles (Err Memory) o = ⊥

-- An act comes to what the meaning says: a value and the state after it, or the end of the run. Want of
-- memory says nothing.
abbrev pub Comes : {A B : Type 0} → (A → B) → Result A Stop → State → Res B → Type 0
Comes f (Ok a) s r = r ≡ ok [] (f a) s
Comes f (Err (Ended e)) s r = r ≡ over [] (ended e)
Comes f (Err Memory) s r = ⊤

-- the run ends at an act for which there is no value to go on with
abbrev pub StopsAt : Stop → Mode → (rule : ℕ) → Spot → Type 0
StopsAt (Ended e) J r i = ended e ≡ J.fault r i
StopsAt Memory J r i = ⊥

-- the same by what an operator answered
abbrev pub StopsBy : OpFault → Stop → Mode → Spot → Type 0
StopsBy Rule1 x J i = StopsAt x J 1 i
StopsBy Rule2 x J i = StopsAt x J 2 i
StopsBy OpFault.Memory x J i = x ≡ Memory
