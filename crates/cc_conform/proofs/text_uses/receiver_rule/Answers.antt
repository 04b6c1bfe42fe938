use Rattle.std.proofs.Common.{◌∙◌, ℕ, List, map, ap}
use Rattle.cc_meaning.specs.Builtins.{text_use}
use Rattle.cc_meaning.specs.Rules.{outcome_rule}
use Rattle.cc_value.specs.Bridge.{value_of}
use Rattle.cc_conform.specs.Bridge.{text_use_of}
use Rattle.cc_conform.proofs.OutcomeLemmas.{text-receiver, no_text-receiver}
use Rattle.cc_conform.proofs.text_uses.receiver_rule.Goals as goal

pub returns-in-Text : goal.returns-in-Text
returns-in-Text c = λ T s.
    let u = text_use_of c.args.kind in
    let vs = map value_of c.args.args.now in
    c.use_rule.ensures ∙ ap (λ (t : List ℕ). outcome_rule (text_use u t vs)) (c.as_slice.ensures.value ∙ c.text.view_is) ∙ text-receiver T s u c.args.receiver.now c.in-Text.text vs c.in-Text.is

pub returns-in_default : goal.returns-in_default
returns-in_default c = λ T s. no_text-receiver T s (text_use_of c.args.kind) c.args.receiver.now (map value_of c.args.args.now) c.in_default.not-Text
