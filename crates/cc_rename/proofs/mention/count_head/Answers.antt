use Rattle.std.proofs.Common.{ap, ◌∙◌}
use Rattle.cc_printer.specs.RawOf.{outside}
use Rattle.cc_rename.specs.Uses.{own_uses, slot_uses}
use Rattle.cc_rename.proofs.Tallies.{as_uses, took_both}
use Rattle.cc_rename.proofs.mention.count_head.Goals as goal

pub returns-clause-counts : goal.returns-clause-counts
returns-clause-counts c = λ fs e.
    let from = c.places_behind.ensures (outside c.args.own fs) (c.as_slice-2.ensures.value ∙ c.in_ok-enter_own.ensures fs e) in
    let params = as_uses _ _ _ _ _ _ (ap (λ n. slot_uses n c.args.params) from) c.in_ok-count_params.ensures in
    took_both c.args.tally.now.globals.items c.args.tally.now.slots.items c.count_own.new.tally.globals.items c.count_own.new.tally.slots.items _ _ (own_uses c.args.own fs) _ (c.in_ok-count_own.ensures fs (c.as_slice.ensures.value ∙ e)) params
