use Rattle.std.proofs.Common.{ap, ◌∙◌}
use Rattle.std.specs.Option.{option_copied}
use Rattle.cc_flags.specs.Words.{value_for}
use Rattle.cc_flags.proofs.SettingLaws.{last-more, last-same}
use Rattle.cc_flags.proofs.item.last_value.Goals as goal
use Rattle.cc_flags.proofs.item.last_value.Goals.{in-Some, in_default}

pub loop-item-preserved : goal.loop-item-preserved
loop-item-preserved c = elim c.match-value_for.branch [
  | in-Some w ↦
      ap option_copied w.last-is
      ∙ last-more (value_for c.args.flag) c.args.items.now c.loop-item.item-index _ w.in-Some.value.now c.loop-item-test.true w.in-Some.ensures
  | in_default w ↦
      ap option_copied w.last-is
      ∙ last-same (value_for c.args.flag) c.args.items.now c.loop-item.item-index _ (option_copied c.loop-item.last) c.loop-item-test.true w.in_default.ensures c.loop-item.invariant
]
