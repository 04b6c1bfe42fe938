use Rattle.std.proofs.Common.{◌≡◌, ◌++◌, sym, subst, Bool, OnOk}
use Rattle.cc_meaning.specs.Operators.{truth_text}
use Rattle.cc_value.proofs.texts.append_truth.Goals as goal

pub returns-then-b : goal.returns-then-b
unfolding truth_text
returns-then-b c = subst (λ (b : Bool). OnOk c.append_ascii.result (c.append_ascii.new.into.items ≡ c.args.into.now.items ++ truth_text b)) (sym c.if-b.true) c.append_ascii.ensures

pub returns-else-b : goal.returns-else-b
unfolding truth_text
returns-else-b c = subst (λ (b : Bool). OnOk c.append_ascii-else-b.result (c.append_ascii-else-b.new.into.items ≡ c.args.into.now.items ++ truth_text b)) (sym c.if-b.false) c.append_ascii-else-b.ensures
