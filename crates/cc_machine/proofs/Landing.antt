-- What an act of src/ came to, as the step that does it.
use Rattle.std.proofs.Common.{Ok, Err, ap, map}
use Rattle.cc_meaning.specs.Values.{Val}
use Rattle.cc_meaning.specs.State.{State}
use Rattle.cc_meaning.specs.Monad.{Res}
use Rattle.cc_value.specs.declared.value.Value.{Value}
use Rattle.cc_value.specs.Bridge.{value_of}
use Rattle.cc_acts.specs.declared.stop.Stop.{Stop}
use Rattle.cc_acts.specs.declared.stop.Stop.TheVariants.{Ended, Memory}
use Rattle.cc_acts.specs.Scripts.{event_of, reply_of}
use Rattle.cc_acts.specs.Shown.{Comes, state_of}
use Rattle.cc_machine.specs.Machine.{gave}
use Rattle.cc_machine.specs.Moves.{land, logged}
use Rattle.cc_machine.specs.Frames.{env_of, stack_of}
use Rattle.cc_machine.specs.Shown.{Steps}
use Rattle.cc_machine.specs.declared.machine.Machine as held
use Rattle.cc_machine.specs.declared.focus.Focus.TheVariants as F

-- a value that an act gives goes on as the focus
pub gives_value : (m : held.Machine) (v : Value) (r : Res Val) → Comes value_of (Ok v) (state_of m.setting.program.now (map reply_of m.replies.now) m.state) r →
    Steps (Ok (F.Gave v)) m (land gave (env_of m.env) m.depth (stack_of m.stack.items) (map event_of m.log.items) r)
unfolding land logged
gives_value m v r c = ap (λ (x : Res Val). land gave (env_of m.env) m.depth (stack_of m.stack.items) (map event_of m.log.items) x) c

-- an act that ends the run
pub ends_run : {A : Type 0} (f : A → Val) (m : held.Machine) (s : State) (x : Stop) (r : Res Val) → Comes f (Err x) s r →
    Steps (Err x) m (land gave (env_of m.env) m.depth (stack_of m.stack.items) (map event_of m.log.items) r)
unfolding land logged
ends_run f m s (Ended e) r c = ap (λ (x : Res Val). land gave (env_of m.env) m.depth (stack_of m.stack.items) (map event_of m.log.items) x) c
ends_run f m s Memory r c = tt
