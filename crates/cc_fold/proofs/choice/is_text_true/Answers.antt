use Rattle.std.proofs.Common.{not, eqb, length, ◌∙◌, ap, List, ℕ}
use Rattle.cc_value.proofs.Cases.{truthy_length}
use Rattle.cc_fold.proofs.choice.is_text_true.Goals as goal

pub returns : goal.returns
returns c = ap not (c.is_empty.ensures ∙ ap (λ (t : List ℕ). eqb (length t) 0) (c.as_slice.ensures.value ∙ c.text.view_is)) ∙ truthy_length c.args.text.now
