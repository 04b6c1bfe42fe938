use Rattle.std.proofs.Common.{◌∙◌, ◌&&◌, not}
use Rattle.cc_meaning.specs.Rules.{host_rule}
use Rattle.cc_meaning.specs.SlotRules.{rule_unless}
use Rattle.cc_conform.proofs.host.host_rule.Goals as goal

pub returns : goal.returns
unfolding host_rule
returns c = λ s. c.rule_unless.ensures ∙ (λ i. rule_unless ((c.args.given && c.names_well-is_named.ensures s i) && not c.args.threw) 13)
