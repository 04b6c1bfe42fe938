-- What the machine of src/ stands for, with a focus.
use Rattle.std.specs.Prelude.{◌≡◌, None, Result, Ok, Err, ⊤, map}
use Rattle.cc_ast.specs.Bridge.{term}
use Rattle.cc_value.specs.Bridge.{value_of}
use Rattle.cc_meaning.specs.Script.{stopped}
use Rattle.cc_acts.specs.declared.stop.Stop.{Stop}
use Rattle.cc_acts.specs.declared.stop.Stop.TheVariants.{Ended, Memory}
use Rattle.cc_acts.specs.Scripts.{event_of, reply_of}
use Rattle.cc_acts.specs.Shown.{ended, state_of}
use Rattle.cc_machine.specs.Machine.{Focus, Machine, Next, on, halt, want, gave, tossed}
use Rattle.cc_machine.specs.declared.focus.Focus as focus
use Rattle.cc_machine.specs.declared.focus.Focus.TheVariants as F
use Rattle.cc_machine.specs.Frames.{env_of, stack_of}
use Rattle.cc_machine.specs.declared.machine.Machine as held

abbrev pub machine_of : Focus → held.Machine → Machine
machine_of f m = record {
  focus = f;
  env = env_of m.env;
  depth = m.depth;
  stack = stack_of m.stack.items;
  state = state_of m.setting.program.now (map reply_of m.replies.now) m.state;
  log = map event_of m.log.items;
}

abbrev pub focus_of : focus.Focus → Focus
focus_of (F.Want e) = want None (term e.now)
focus_of (F.Gave v) = gave (value_of v)
focus_of (F.Tossed v) = tossed (value_of v)

-- The machine goes on so, or the run is over. Want of memory says nothing.
abbrev pub Steps : Result focus.Focus Stop → held.Machine → Next → Type 0
Steps (Ok f) m x = x ≡ on (machine_of (focus_of f) m)
Steps (Err (Ended e)) m x = x ≡ halt (record { events = map event_of m.log.items; end = stopped (ended e) })
Steps (Err Memory) m x = ⊤
