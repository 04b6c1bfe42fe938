use Rattle.std.proofs.Common.{sym, ◌∙◌, inl, inr}
use Rattle.cc_value.specs.Bridge.{text_of, value_of}
use Rattle.cc_value.proofs.Ruled.{breaks_joined, keeps_joined}
use Rattle.cc_value.proofs.rules.joined_rule.Goals as goal
use Rattle.cc_value.proofs.rules.joined_rule.Goals.{then-is_object, else-is_object}

pub returns-then-is_object-2 : goal.returns-then-is_object-2
returns-then-is_object-2 c =
    elim c.if-is_object.branch [
      | then-is_object w ↦ breaks_joined (text_of (value_of c.args.a.now)) (text_of (value_of c.args.b.now)) (inl (sym c.is_object.ensures ∙ w.if-is_object.true))
      | else-is_object w ↦ breaks_joined (text_of (value_of c.args.a.now)) (text_of (value_of c.args.b.now)) (inr (sym w.is_object-else-is_object.ensures ∙ sym w.value-is ∙ c.if-is_object-2.true))
    ]

pub returns-else-is_object-2 : goal.returns-else-is_object-2
returns-else-is_object-2 c =
    elim c.if-is_object.branch [
      | then-is_object w ↦ cc
      | else-is_object w ↦ keeps_joined (text_of (value_of c.args.a.now)) (text_of (value_of c.args.b.now)) (sym c.is_object.ensures ∙ w.if-is_object.false) (sym w.is_object-else-is_object.ensures ∙ sym w.value-is ∙ c.if-is_object-2.false)
    ]
