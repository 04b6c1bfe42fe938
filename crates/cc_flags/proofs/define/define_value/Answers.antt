use Rattle.std.proofs.Common.{◌∷◌, codes, sym, ap, subst, ◌∙◌, ℤ, FitsSigned, w64, rules}
use Rattle.std.proofs.lemmas.Int.{to_z-of_z}
use Rattle.std.proofs.lemmas.Slice.Eq.{bytes_eq-Decides}
use Rattle.std.specs.Str.{chars}
use Rattle.cc_flags.specs.declared.job.DefineValue.TheVariants as value
use Rattle.cc_flags.specs.Values.{IsDefineText, truth, falsehood, whole_number, quoted}
use Rattle.cc_flags.proofs.define.define_value.Goals as goal

pub returns-then-eq : goal.returns-then-eq
returns-then-eq c = truth ((bytes_eq-Decides c.args.text.now (codes "true")).0 (sym c.eq.ensures ∙ c.if-eq.true))

pub returns-then-eq-2 : goal.returns-then-eq-2
returns-then-eq-2 c = falsehood ((bytes_eq-Decides c.args.text.now (codes "false")).0 (sym c.eq-2.ensures ∙ c.if-eq-2.true))

pub returns-in-Some : goal.returns-in-Some
returns-in-Some c =
    let n = c.in-Some.number in
    let fits : FitsSigned w64 n = search rules in
    subst (λ (z : ℤ). IsDefineText c.args.text.now (value.Whole z)) (sym (to_z-of_z w64 n fits)) (whole_number (sym c.in-Some.ensures))

pub returns-in-Some-2 : goal.returns-in-Some-2
returns-in-Some-2 c =
    let body = c.in-Some-eq39-default.body.now in
    let read = rw c.in-Some-2.is at c.in_ok-units.ensures in
    quoted (c.in-Some-eq39-default.ensures.characters ∙ ap (λ x. x ∷ chars body) c.in-Some-eq39-default.field-0-0-test) read
