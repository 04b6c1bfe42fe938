use Rattle.std.proofs.Common.{ap, ◌∙◌, arith}
use Rattle.std.specs.Int.{from_bool}
use Rattle.cc_flags.specs.Words.{settings_of}
use Rattle.cc_flags.proofs.SettingLaws.{setting-at, length-settings}
use Rattle.cc_flags.proofs.LimitLaws.{limits-none, limits-more, first-limit, no-limit, few-files}
use Rattle.cc_flags.proofs.limit.check_limits.Goals as goal

pub loop-item-init : goal.loop-item-init
loop-item-init c = limits-none (settings_of c.args.items.now)

pub loop-item-preserved : goal.loop-item-preserved
loop-item-preserved c =
    limits-more (settings_of c.args.items.now) c.loop-item.item-index c.loop-item.files c.loop-item.chunks _ c.from-files.result c.from-chunks.result (setting-at c.args.items.now c.loop-item.item-index _ c.loop-item-test.true) c.loop-item.invariant c.in_default.ensures (c.from-files.ensures ∙ ap from_bool c.is_file.ensures) (c.from-chunks.ensures ∙ ap from_bool c.has_flag.ensures)

pub returns-in-Some-clause-first : goal.returns-in-Some-clause-first
returns-in-Some-clause-first c = first-limit (settings_of c.args.items.now) c.loop-item.item-index c.loop-item.files c.loop-item.chunks _ c.in-Some.kind c.requires (setting-at c.args.items.now c.loop-item.item-index _ c.loop-item-test.true) c.loop-item.invariant c.in-Some.ensures

pub returns-clause-few : goal.returns-clause-few
returns-clause-few c = few-files (settings_of c.args.items.now) c.loop-item.item-index c.loop-item.files c.loop-item.chunks c.loop-item.invariant (omega (arith, length-settings c.args.items.now))

pub returns-clause-sound : goal.returns-clause-sound
returns-clause-sound c = no-limit (settings_of c.args.items.now) c.loop-item.item-index c.loop-item.files c.loop-item.chunks c.loop-item.invariant (omega (arith, length-settings c.args.items.now))
