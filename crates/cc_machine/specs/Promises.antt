-- What the machine is good for: it comes to an end, and that is the end that the meaning says.
use Rattle.std.specs.Prelude.{◌≡◌, ℕ, zero, suc, ◌<◌}
use Rattle.cc_ast.specs.Syntax.{Program}
use Rattle.cc_meaning.specs.Monad.{Mode}
use Rattle.cc_meaning.specs.Script.{Script, Run, run}
use Rattle.cc_machine.specs.Machine.{Machine, Next, on, halt}
use Rattle.cc_machine.specs.Steps.{onward, iterate, begin}

-- after some number of steps the machine halts with what the meaning says
abbrev pub MachineMeans : Type 0
MachineMeans = (J : Mode) (P : Program) (sc : Script) (n : ℕ) → (k : ℕ) × (iterate J P k (on (begin J P sc n)) ≡ halt (run J P sc n))

-- so what it halts with, at whatever step, is the end of the run: its events and how it ends
abbrev pub MachineAnswers : Type 0
MachineAnswers = (J : Mode) (P : Program) (sc : Script) (n i : ℕ) (r : Run) → iterate J P i (on (begin J P sc n)) ≡ halt r → r ≡ run J P sc n

-- within k steps the machine halts with r
abbrev pub HaltsIn : Mode → Program → ℕ → Next → Run → Type 0
HaltsIn J P k x r = iterate J P k x ≡ halt r

-- how many steps are left, where k suffice
unfoldable pub steps_left : Mode → Program → ℕ → Next → ℕ
unfolding onward
steps_left J P zero x = 0
steps_left J P (suc k) (halt r) = 0
steps_left J P (suc k) (on m) = suc (steps_left J P k (onward J P (on m)))

-- A loop of steps: where k steps suffice, they suffice after some more steps, fewer are left, and
-- what the machine halts with is what was said.
pub record LoopLaws : Type 0 where
  pub keeps : (J : Mode) (P : Program) (k i : ℕ) (m : Machine) (x : Next) (r : Run) → HaltsIn J P k (on m) r → iterate J P (suc i) (on m) ≡ x → HaltsIn J P k x r
  pub falls : (J : Mode) (P : Program) (k i : ℕ) (m w : Machine) (r : Run) → HaltsIn J P k (on m) r → iterate J P (suc i) (on m) ≡ on w → steps_left J P k (on w) < steps_left J P k (on m)
  pub halts : (J : Mode) (P : Program) (k : ℕ) (q r : Run) → HaltsIn J P k (halt q) r → q ≡ r
