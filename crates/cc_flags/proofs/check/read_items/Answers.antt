use Rattle.std.proofs.Common.{arith}
use Rattle.cc_flags.specs.Words.{settings_of}
use Rattle.cc_flags.specs.Forming.{names_in}
use Rattle.cc_flags.specs.Steps.{FirstForm}
use Rattle.cc_flags.proofs.SettingLaws.{setting-at, length-settings}
use Rattle.cc_flags.proofs.GivenLaws.{err-on}
use Rattle.cc_flags.proofs.FormFaults.{sound-none, sound-more, first-form, have-forms, given-all}
use Rattle.cc_flags.proofs.check.read_items.Goals as goal

pub loop-item-init : goal.loop-item-init
loop-item-init c = sound-none _ c.new-given.result c.new-given.ensures

pub loop-item-preserved : goal.loop-item-preserved
loop-item-preserved c =
    let ss = settings_of c.args.items.now in
    let at = setting-at c.args.items.now c.loop-item.item-index _ c.loop-item-test.true in
    sound-more ss (names_in c.args.names.now) c.loop-item.item-index c.loop-item.given c.add.new.self _ c.requires at c.loop-item.invariant c.in_ok-add.ensures.adds c.in_ok-add.ensures.follows

pub returns-in_err-add-clause-first : goal.returns-in_err-add-clause-first
returns-in_err-add-clause-first c =
    let ss = settings_of c.args.items.now in
    let at = setting-at c.args.items.now c.loop-item.item-index _ c.loop-item-test.true in
    err-on c.from_residual.result c.in_err-add.field-0.0 (FirstForm ss) c.from_residual.ensures.1
    (first-form ss (names_in c.args.names.now) c.loop-item.item-index c.loop-item.given _ c.requires at c.loop-item.invariant c.in_err-add.field-0.0 c.in_err-add.ensures.fault)

pub returns-clause-sound : goal.returns-clause-sound
returns-clause-sound c = have-forms (settings_of c.args.items.now) c.loop-item.item-index c.loop-item.given c.loop-item.invariant (omega (arith, length-settings c.args.items.now))

pub returns-clause-given : goal.returns-clause-given
returns-clause-given c = given-all (settings_of c.args.items.now) c.loop-item.item-index c.loop-item.given c.loop-item.invariant (omega (arith, length-settings c.args.items.now))
