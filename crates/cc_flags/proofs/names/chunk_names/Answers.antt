use Rattle.std.specs.List.{list_any}
use Rattle.std.specs.Str.{bytes_eq}
use Rattle.std.proofs.Common.{◌+◌, take, subst, sym, ap, ◌∙◌, arith}
use Rattle.cc_flags.specs.Words.{settings_of, chunk_names}
use Rattle.cc_flags.specs.Forming.{HaveSame, names_in}
use Rattle.cc_flags.proofs.SettingLaws.{settings-all}
use Rattle.cc_flags.proofs.NamesLaws.{names-more, names-same}
use Rattle.cc_flags.proofs.names.chunk_names.Goals as goal
use Rattle.cc_flags.proofs.names.chunk_names.Goals.{in-Some+in_ok-insert, in_default}

pub loop-item-preserved : goal.loop-item-preserved
loop-item-preserved c =
    let items = c.args.items.now in
    let i = c.loop-item.item-index in
    elim c.match-value_for.branch [
      | in-Some+in_ok-insert w ↦
          subst (λ ns. HaveSame (names_in ns) (chunk_names (settings_of (take (i + 1) items)))) (sym w.names-is)
          (names-more items i _ c.loop-item.names.keys w.insert.new.self.keys w.split_at_first.result.0 w.in-Some.value.now c.loop-item-test.true c.loop-item.invariant
          w.in-Some.ensures w.split_at_first.ensures.before w.in_ok-insert.ensures.keys)
      | in_default w ↦
          subst (λ ns. HaveSame (names_in ns) (chunk_names (settings_of (take (i + 1) items)))) (sym w.names-is)
          (names-same items i _ (names_in c.loop-item.names) c.loop-item-test.true c.loop-item.invariant w.in_default.ensures)
    ]

pub returns : goal.returns
returns c = λ name. c.loop-item.invariant name ∙ ap (λ ss. list_any (bytes_eq name) (chunk_names ss)) (settings-all c.args.items.now c.loop-item.item-index (omega arith))
