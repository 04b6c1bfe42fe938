use Rattle.std.proofs.Common.{Option, None, subst, sym, length, string_bytes}
use Rattle.std.proofs.lemmas.List.{length-map}
use Rattle.cc_flags.specs.declared.cut.Stop.{Stop}
use Rattle.cc_flags.specs.declared.usage.Usage.{Usage}
use Rattle.cc_flags.specs.Texts.{texts}
use Rattle.cc_flags.specs.Words.{settings_of, Cut}
use Rattle.cc_flags.specs.Faults.{FormFault, HasFault}
use Rattle.cc_flags.specs.Steps.{FaultOrMemory, IsFirstOf, StandInOrder}
use Rattle.cc_flags.proofs.GivenLaws.{err-on}
use Rattle.cc_flags.proofs.OrderLaws.{cut-ordered}
use Rattle.cc_flags.proofs.StageLaws.{first-form-fault, no-stop, first-later-fault, are-sound}
use Rattle.cc_flags.proofs.settings.read_settings.Goals as goal

pub read_values-requires : goal.read_values-requires
read_values-requires c = cut-ordered c.args.call (texts c.args.words.now) _ _ c.in_ok-cut.ensures

pub returns-in_err-given-clause-first : goal.returns-in_err-given-clause-first
returns-in_err-given-clause-first c =
    let order = cut-ordered c.args.call (texts c.args.words.now) _ _ c.in_ok-cut.ensures in
    err-on c.from_residual-in_err-given.result c.in_err-given.field-0.0 (FaultOrMemory c.args.call (texts c.args.words.now)) c.from_residual-in_err-given.ensures.1
    (first-form-fault c.args.call (texts c.args.words.now) _ _ _ c.in_ok-cut.ensures order c.in_err-given.ensures.first)

pub check_later-requires-clause-order : goal.check_later-requires-clause-order
check_later-requires-clause-order c =
    let order = cut-ordered c.args.call (texts c.args.words.now) _ _ c.in_ok-cut.ensures in
    subst (λ items. StandInOrder (settings_of items)) (sym c.as_slice.ensures.value) order.settings

pub check_later-requires-clause-form : goal.check_later-requires-clause-form
check_later-requires-clause-form c =
    let ended = no-stop (settings_of c.in_ok-cut.cut.items.items) c.in_ok-cut.cut.stop c.in_ok-given.ensures.sound in
    subst (λ items. (u : Usage) → ¬ FormFault (settings_of items) None u) (sym c.as_slice.ensures.value)
    (subst (λ (o : Option Stop). (u : Usage) → ¬ FormFault (settings_of c.in_ok-cut.cut.items.items) o u) ended c.in_ok-given.ensures.sound)

pub returns-in_err-check_later-clause-first : goal.returns-in_err-check_later-clause-first
returns-in_err-check_later-clause-first c =
    let ended = no-stop (settings_of c.in_ok-cut.cut.items.items) c.in_ok-cut.cut.stop c.in_ok-given.ensures.sound in
    let cut = subst (Cut c.args.call 0 (texts c.args.words.now) (settings_of c.in_ok-cut.cut.items.items)) ended c.in_ok-cut.ensures in
    err-on c.from_residual-in_err-check_later.result c.in_err-check_later.field-0.0 (FaultOrMemory c.args.call (texts c.args.words.now)) c.from_residual-in_err-check_later.ensures.1
    (first-later-fault c.args.call (texts c.args.words.now) (settings_of c.in_ok-cut.cut.items.items) (length c.args.words.now) _ cut (sym (length-map c.args.words.now string_bytes)) (subst (λ items. IsFirstOf (HasFault c.args.call (settings_of items) None (length c.args.words.now)) c.in_err-check_later.field-0.0) c.as_slice.ensures.value c.in_err-check_later.ensures.first))

pub returns-clause-sound : goal.returns-clause-sound
returns-clause-sound c =
    let ended = no-stop (settings_of c.in_ok-cut.cut.items.items) c.in_ok-cut.cut.stop c.in_ok-given.ensures.sound in
    let cut = subst (Cut c.args.call 0 (texts c.args.words.now) (settings_of c.in_ok-cut.cut.items.items)) ended c.in_ok-cut.ensures in
    are-sound c.args.call (texts c.args.words.now) (settings_of c.in_ok-cut.cut.items.items) (length c.args.words.now) cut (sym (length-map c.args.words.now string_bytes)) (subst (λ items. (u : Usage) → ¬ HasFault c.args.call (settings_of items) None (length c.args.words.now) u) c.as_slice.ensures.value c.in_ok-check_later.ensures.sound)
