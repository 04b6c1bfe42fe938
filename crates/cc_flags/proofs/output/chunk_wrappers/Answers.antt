use Rattle.std.proofs.Common.{◌+◌, take, codes, subst, sym, ◌∙◌, arith}
use Rattle.cc_flags.specs.Words.{settings_of}
use Rattle.cc_flags.specs.Jobs.{IsWrapperOf}
use Rattle.cc_flags.proofs.OutputLaws.{AreWrappers, wrappers-more, wrappers-same}
use Rattle.cc_flags.proofs.SettingLaws.{settings-all}
use Rattle.cc_flags.proofs.output.chunk_wrappers.Goals as goal
use Rattle.cc_flags.proofs.output.chunk_wrappers.Goals.{in-Some+in_ok-wrapper_of+in_ok-push, in_default}

pub loop-item-preserved : goal.loop-item-preserved
loop-item-preserved c =
    let items = c.args.items.now in
    let i = c.loop-item.item-index in
    elim c.match-value_for.branch [
      | in-Some+in_ok-wrapper_of+in_ok-push w ↦
          subst (λ ws. AreWrappers (settings_of items) (settings_of (take (i + 1) items)) ws.items) (sym w.wrappers-is)
          (subst (AreWrappers (settings_of items) (settings_of (take (i + 1) items))) (sym w.in_ok-push.ensures.items)
          (wrappers-more (settings_of items) items i _ c.loop-item.wrappers.items w.in-Some.value.now w.split_at_first.result.0.now w.in_ok-wrapper_of.field-0 c.loop-item-test.true c.loop-item.invariant
          w.in-Some.ensures w.split_at_first.ensures.before
          (subst (λ t. IsWrapperOf (codes "%s") t w.in_ok-wrapper_of.field-0) (w.text_in-text.ensures ∙ c.in_ok-texts.ensures w.split_at_first.result.0.now) w.in_ok-wrapper_of.ensures)))
      | in_default w ↦
          subst (λ ws. AreWrappers (settings_of items) (settings_of (take (i + 1) items)) ws.items) (sym w.wrappers-is)
          (wrappers-same (settings_of items) items i _ c.loop-item.wrappers.items c.loop-item-test.true c.loop-item.invariant w.in_default.ensures)
    ]

pub returns : goal.returns
returns c = subst (λ ss. AreWrappers (settings_of c.args.items.now) ss c.loop-item.wrappers.items) (settings-all c.args.items.now c.loop-item.item-index (omega arith)) c.loop-item.invariant
