use Rattle.std.proofs.Common.{◌∙◌, ◌||◌, sym}
use Rattle.cc_conform.proofs.MetLemmas.{text_methods-parts}
use Rattle.cc_conform.proofs.look_up.is_text_method.Goals as goal

pub returns : goal.returns
returns c = (λ i. (((((c.is_spelled.ensures i || c.is_spelled-2.ensures i) || c.is_spelled-3.ensures i) || c.is_spelled-4.ensures i) || c.is_spelled-5.ensures i) || c.is_spelled-6.ensures i)) ∙ sym (text_methods-parts c.args.name.now)
