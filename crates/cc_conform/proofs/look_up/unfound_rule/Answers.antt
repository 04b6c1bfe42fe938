use Rattle.std.proofs.Common.{◌∙◌, ◌||◌}
use Rattle.cc_meaning.specs.SlotRules.{rule_if}
use Rattle.cc_meaning.specs.Store.{chain_of, look_up}
use Rattle.cc_conform.proofs.MetLemmas.{unfound-parts}
use Rattle.cc_conform.proofs.look_up.unfound_rule.Goals as goal

pub returns : goal.returns
unfolding look_up
returns c =
    c.rule_if.ensures ∙ (λ i. rule_if ((c.meets_method.ensures i || c.is_spelled.ensures i) || c.meets_standard.ensures i) 10)
    ∙ unfound-parts c.args.heap.now.objs (chain_of c.args.heap.now.objs c.args.object) c.args.name.now c.requires
