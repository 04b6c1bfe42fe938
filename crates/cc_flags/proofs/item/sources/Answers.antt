use Rattle.std.proofs.Common.{ap, ◌∙◌}
use Rattle.cc_flags.specs.Texts.{texts}
use Rattle.cc_flags.specs.Words.{source_for}
use Rattle.cc_flags.proofs.SettingLaws.{texts-more, texts-same}
use Rattle.cc_flags.proofs.item.sources.Goals as goal
use Rattle.cc_flags.proofs.item.sources.Goals.{in-Some+in_ok-from_str+in_ok-push, in_default}

pub loop-item-preserved : goal.loop-item-preserved
loop-item-preserved c = elim c.match-source.branch [
  | in-Some+in_ok-from_str+in_ok-push w ↦
      ap (λ v. texts v.items) w.names-is
      ∙ ap texts w.in_ok-push.ensures.items
      ∙ texts-more (source_for) c.args.items.now c.loop-item.item-index _ c.loop-item.names.items w.in_ok-from_str.field-0 c.source.result w.in-Some.name c.loop-item-test.true
      c.loop-item.invariant c.source.ensures w.in-Some.is w.in_ok-from_str.ensures.ok
  | in_default w ↦
      ap (λ v. texts v.items) w.names-is
      ∙ texts-same (source_for) c.args.items.now c.loop-item.item-index _ (texts c.loop-item.names.items) c.loop-item-test.true c.loop-item.invariant w.in_default.ensures
]
