use Rattle.std.proofs.Common.{Option, Some, subst, sym}
use Rattle.cc_flags.specs.declared.cut.Stop.{Stop}
use Rattle.cc_flags.specs.declared.usage.Usage.{Usage}
use Rattle.cc_flags.specs.Words.{settings_of}
use Rattle.cc_flags.specs.Faults.{FormFault}
use Rattle.cc_flags.specs.Steps.{HaveForms, FirstOrMemory}
use Rattle.cc_flags.proofs.FormFaults.{first-or-memory, no-form_fault}
use Rattle.cc_flags.proofs.check.read_values.Goals as goal

pub returns-in-Some-clause-first : goal.returns-in-Some-clause-first
returns-in-Some-clause-first c =
    let have = subst (λ items. HaveForms (settings_of items)) c.as_slice.ensures.value c.in_ok-given.ensures.sound in
    let ss = settings_of c.args.cut.now.items.items in
    subst (λ (o : Option Stop). FirstOrMemory (FormFault ss o) c.fault.result) (sym c.in-Some.is)
    (subst (FirstOrMemory (FormFault ss (Some c.in-Some.stop))) (sym c.fault.ensures) (first-or-memory ss have c.in-Some.stop))

pub returns-in-None-clause-sound : goal.returns-in-None-clause-sound
returns-in-None-clause-sound c =
    let have = subst (λ items. HaveForms (settings_of items)) c.as_slice.ensures.value c.in_ok-given.ensures.sound in
    let ss = settings_of c.args.cut.now.items.items in
    subst (λ (o : Option Stop). (u : Usage) → ¬ FormFault ss o u) (sym c.in-None.is) (no-form_fault ss have)
