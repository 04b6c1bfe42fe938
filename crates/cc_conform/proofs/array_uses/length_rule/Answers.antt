use Rattle.std.proofs.Common.{◌∙◌}
use Rattle.cc_conform.proofs.PositionLemmas.{count-rule}
use Rattle.cc_conform.proofs.array_uses.length_rule.Goals as goal

pub returns : goal.returns
returns c = c.rule_unless.ensures ∙ count-rule c.args.count
