use Rattle.std.proofs.Common.{◌∙◌, ap, ℤ, sym, rules, FitsSigned}
use Rattle.std.proofs.lemmas.Int.{to_z-of_z}
use Rattle.std.specs.Int.{w32, w64}
use Rattle.cc_ast.specs.Syntax.{whole}
use Rattle.cc_meaning.specs.Values.{prim}
use Rattle.cc_meaning.specs.Operators.{from_bits32, gives}
use Rattle.cc_value.proofs.whole.from_bits32.Goals as goal

pub returns : goal.returns
unfolding from_bits32
returns c =
    let narrow : FitsSigned w32 c.cast_signed.result = search rules in
    let wide : FitsSigned w64 c.from.result = search rules in
    let same = to_z-of_z w64 c.from.result wide ∙ c.from.ensures ∙ to_z-of_z w32 c.cast_signed.result narrow ∙ c.cast_signed.ensures in
    ap (λ (z : ℤ). gives (prim (whole z))) (sym same)
