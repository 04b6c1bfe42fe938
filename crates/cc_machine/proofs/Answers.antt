-- What the machine halts with is the end of the run.
use Rattle.std.proofs.Common.{subst}
use Rattle.cc_meaning.specs.Script.{run}
use Rattle.cc_machine.specs.Machine.{on, halt}
use Rattle.cc_machine.specs.Steps.{begin}
use Rattle.cc_machine.specs.Promises.{HaltsIn, MachineAnswers}
use Rattle.cc_machine.proofs.Turns.{means}
use Rattle.cc_machine.proofs.Ends.{laws, many}

pub answers : MachineAnswers
answers J P sc n i r e =
    let m : HaltsIn J P (means J P sc n).0 (on (begin J P sc n)) (run J P sc n) = (means J P sc n).1 in
    let h : HaltsIn J P (means J P sc n).0 (halt r) (run J P sc n) = subst (λ z. HaltsIn J P (means J P sc n).0 z (run J P sc n)) e (many J P i (means J P sc n).0 (on (begin J P sc n)) (run J P sc n) m) in
    laws.halts J P (means J P sc n).0 r (run J P sc n) h
