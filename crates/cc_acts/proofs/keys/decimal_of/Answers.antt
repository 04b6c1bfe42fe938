use Rattle.std.proofs.Common.{◌≡◌, ◌∙◌, ap, subst, List, ℕ, IfOk}
use Rattle.std.proofs.lemmas.Int.{to_z-of_z}
use Rattle.std.specs.Int.{w64}
use Rattle.std.specs.Fmt.{signed_decimal}
use Rattle.cc_meaning.specs.Operators.{decimal}
use Rattle.cc_acts.proofs.keys.decimal_of.Goals as goal

pub returns : goal.returns
unfolding decimal
returns c =
    let same : c.as_bytes.result.now ≡ signed_decimal c.args.number = c.as_bytes.ensures.value ∙ c.format.ensures.text ∙ ap signed_decimal (to_z-of_z w64 c.args.number c.ranges.number) in
    subst (λ (t : List ℕ). IfOk c.units_of.result (λ units. units ≡ t)) same c.units_of.ensures
