use Rattle.std.proofs.Common.{ap, ◌∙◌}
use Rattle.cc_flags.specs.Texts.{texts}
use Rattle.cc_flags.specs.Words.{value_for}
use Rattle.cc_flags.proofs.SettingLaws.{texts-more, texts-same}
use Rattle.cc_flags.proofs.item.values.Goals as goal
use Rattle.cc_flags.proofs.item.values.Goals.{in-Some+in_ok-from_str+in_ok-push, in_default}

pub loop-item-preserved : goal.loop-item-preserved
loop-item-preserved c = elim c.match-value_for.branch [
  | in-Some+in_ok-from_str+in_ok-push w ↦
      ap (λ v. texts v.items) w.values-is
      ∙ ap texts w.in_ok-push.ensures.items
      ∙ texts-more (value_for c.args.flag) c.args.items.now c.loop-item.item-index _ c.loop-item.values.items w.in_ok-from_str.field-0 c.value_for.result w.in-Some.value c.loop-item-test.true
      c.loop-item.invariant c.value_for.ensures w.in-Some.is w.in_ok-from_str.ensures.ok
  | in_default w ↦
      ap (λ v. texts v.items) w.values-is
      ∙ texts-same (value_for c.args.flag) c.args.items.now c.loop-item.item-index _ (texts c.loop-item.values.items) c.loop-item-test.true c.loop-item.invariant w.in_default.ensures
]
