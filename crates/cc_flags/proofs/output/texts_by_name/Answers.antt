use Rattle.std.specs.List.{filter_map, last_or}
use Rattle.std.specs.Option.{option_copied}
use Rattle.std.proofs.Common.{◌+◌, None, Some, take, subst, sym, ap, ◌∙◌, arith}
use Rattle.std.proofs.lemmas.Map.Text.{hash_map_updates_str}
use Rattle.cc_flags.specs.Words.{settings_of}
use Rattle.cc_flags.specs.Wrapping.{wraps, text_in}
use Rattle.cc_flags.proofs.OutputLaws.{HasLast, table-more, table-same, text-last, copied-if}
use Rattle.cc_flags.proofs.SettingLaws.{settings-all}
use Rattle.cc_flags.proofs.output.texts_by_name.Goals as goal
use Rattle.cc_flags.proofs.output.texts_by_name.Goals.{in-Some+in_ok-insert, in_default}

pub loop-item-preserved : goal.loop-item-preserved
loop-item-preserved c =
    let items = c.args.items.now in
    let i = c.loop-item.item-index in
    elim c.match-chunk_wrapper.branch [
      | in-Some+in_ok-insert w ↦
          subst (λ table. HasLast (text_in table) (settings_of (take (i + 1) items))) (sym w.texts-is)
          (table-more items i _ (text_in c.loop-item.texts) c.loop-item-test.true c.loop-item.invariant w.in-Some.name.now w.in-Some.text.now (text_in w.insert.new.self) w.in-Some.ensures
          (λ name. ap option_copied (hash_map_updates_str w.in-Some.name.now c.loop-item.texts w.insert.new.self (Some w.in-Some.text) w.in_ok-insert.ensures.updates name) ∙ copied-if _ w.in-Some.text _))
      | in_default w ↦
          subst (λ table. HasLast (text_in table) (settings_of (take (i + 1) items))) (sym w.texts-is)
          (table-same items i _ (text_in c.loop-item.texts) c.loop-item-test.true c.loop-item.invariant w.in_default.ensures)
    ]

pub returns : goal.returns
returns c = λ name.
    c.loop-item.invariant name
    ∙ ap (λ ss. last_or None (filter_map (wraps name) ss)) (settings-all c.args.items.now c.loop-item.item-index (omega arith))
    ∙ sym (text-last name (settings_of c.args.items.now))
