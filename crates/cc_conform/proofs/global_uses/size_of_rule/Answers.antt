use Rattle.std.proofs.Common.{◌∙◌, ◌∷◌, [], ℤ, sym, ap, rules}
use Rattle.std.specs.Int.{w64}
use Rattle.std.proofs.lemmas.Int.{to_z-of_z}
use Rattle.cc_ast.specs.Syntax.{whole}
use Rattle.cc_meaning.specs.Builtins.{math_use, math_abs}
use Rattle.cc_meaning.specs.Rules.{outcome_rule}
use Rattle.cc_meaning.specs.Values.{prim}
use Rattle.cc_value.specs.Bridge.{value_of}
use Rattle.cc_value.specs.declared.value.Value.{Value}
use Rattle.cc_conform.proofs.UseGlobals.{abs-no_whole}
use Rattle.cc_conform.proofs.global_uses.size_of_rule.Goals as goal

pub returns-in-Whole : goal.returns-in-Whole
returns-in-Whole c =
    c.size_rule.ensures ∙ ap (λ (z : ℤ). outcome_rule (math_use math_abs (prim (whole z) ∷ []))) (to_z-of_z w64 c.in-Whole.z (search rules)) ∙ sym (ap (λ (v : Value). outcome_rule (math_use math_abs (value_of v ∷ []))) c.in-Whole.is)

pub returns-in_default : goal.returns-in_default
returns-in_default c = abs-no_whole c.args.value.now c.in_default.not-Whole
