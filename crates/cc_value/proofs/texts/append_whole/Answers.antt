use Rattle.std.proofs.Common.{◌≡◌, ◌∙◌, ◌++◌, ap, subst, List, ℕ, OnOk}
use Rattle.std.proofs.lemmas.Int.{to_z-of_z}
use Rattle.std.specs.Int.{w64}
use Rattle.std.specs.Fmt.{signed_decimal}
use Rattle.cc_meaning.specs.Operators.{decimal}
use Rattle.cc_value.proofs.texts.append_whole.Goals as goal

pub returns : goal.returns
unfolding decimal
returns c =
    let same : c.as_bytes.result.now ≡ signed_decimal c.args.z = c.as_bytes.ensures.value ∙ c.format.ensures.text ∙ ap signed_decimal (to_z-of_z w64 c.args.z c.ranges.z) in
    subst (λ (t : List ℕ). OnOk c.append_ascii.result (c.append_ascii.new.into.items ≡ c.args.into.now.items ++ t)) same c.append_ascii.ensures
