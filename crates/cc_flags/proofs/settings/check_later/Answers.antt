use Rattle.std.proofs.Common.{None}
use Rattle.std.proofs.lemmas.Result.{IfErr-weaker, on_ok_weaker}
use Rattle.cc_flags.specs.Words.{settings_of}
use Rattle.cc_flags.specs.Faults.{HasFault}
use Rattle.cc_flags.specs.Steps.{IsFirstOf}
use Rattle.cc_flags.proofs.GivenLaws.{err-on}
use Rattle.cc_flags.proofs.StageLaws.{first-together-fault, first-missing-fault, first-limit-fault, no-later}
use Rattle.cc_flags.proofs.settings.check_later.Goals as goal

pub returns-in_err-check_together-clause-first : goal.returns-in_err-check_together-clause-first
returns-in_err-check_together-clause-first c =
    err-on c.from_residual.result c.in_err-check_together.field-0.0 (IsFirstOf (HasFault c.args.call (settings_of c.args.items.now) None c.args.count)) c.from_residual.ensures.1
    (first-together-fault c.args.call (settings_of c.args.items.now) c.args.count _ c.requires.form c.in_err-check_together.ensures.first)

pub returns-in_err-check_missing-clause-first : goal.returns-in_err-check_missing-clause-first
returns-in_err-check_missing-clause-first c =
    err-on c.from_residual-in_err-check_missing.result c.in_err-check_missing.field-0.0 (IsFirstOf (HasFault c.args.call (settings_of c.args.items.now) None c.args.count)) c.from_residual-in_err-check_missing.ensures.1
    (first-missing-fault c.args.call (settings_of c.args.items.now) c.args.count _ c.requires.form c.in_ok-check_together.ensures.sound c.in_err-check_missing.ensures.fault)

pub returns-clause-sound : goal.returns-clause-sound
returns-clause-sound c =
    on_ok_weaker c.check_limits.result
    (no-later c.args.call (settings_of c.args.items.now) c.args.count c.requires.form c.in_ok-check_together.ensures.sound c.in_ok-check_missing.ensures.sound) c.check_limits.ensures.sound

pub returns-clause-first : goal.returns-clause-first
returns-clause-first c =
    IfErr-weaker c.check_limits.result _ _
    (λ u. first-limit-fault c.args.call (settings_of c.args.items.now) c.args.count u c.requires.form c.in_ok-check_together.ensures.sound c.in_ok-check_missing.ensures.sound) c.check_limits.ensures.first
