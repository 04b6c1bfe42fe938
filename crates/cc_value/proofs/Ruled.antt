-- The rules that outcomes tell.
use Rattle.std.proofs.Common.{◌≡◌, ◌∙◌, ℕ, Bool, true, false, List, Option, Some, None, is_none, Result, Ok, Err, refl, sym, ap, subst, inl, inr, ◌⊎◌}
use Rattle.cc_ast.specs.declared.operator.BinOp.TheVariants.{Strict, NotStrict}
use Rattle.cc_ast.specs.declared.operator.UnOp.TheVariants.{Not, Void}
use Rattle.cc_meaning.specs.Values.{Val, prim, obj, out}
use Rattle.cc_meaning.specs.Operators.{Outcome, gives, answer_of, answer_not, binary_of, unary_of}
use Rattle.cc_meaning.specs.Rules.{outcome_rule}
use Rattle.cc_value.specs.declared.value.Value.{Value}
use Rattle.cc_value.specs.declared.value.OpFault.{OpFault}
use Rattle.cc_value.specs.declared.value.OpFault.TheVariants.{Rule1, Rule2, Memory}
use Rattle.cc_value.specs.Bridge.{value_of, text_of, joined_of, type_of, fault_rule, Answers}
use Rattle.cc_value.proofs.Cases.{by-Strict, by-NotStrict}
use Rattle.cc_value.proofs.OtherCases.{by-Not, by-Void}

-- ---- of an answer

pub of-Ok : (a : Result Value OpFault) (v : Value) (r : Option ℕ) → a ≡ Ok v → r ≡ None → (o : Outcome) → Answers a o → r ≡ outcome_rule o
unfolding outcome_rule
of-Ok a v r e n o h =
    let told : o ≡ gives (value_of v) = subst (λ (x : Result Value OpFault). Answers x o) e h in
    n ∙ sym (ap outcome_rule told)

of_fault : (f : OpFault) (o : Outcome) → Answers (Err f) o → fault_rule f ≡ outcome_rule o
unfolding outcome_rule
of_fault Rule1 o h = sym (ap outcome_rule h)
of_fault Rule2 o h = sym (ap outcome_rule h)
of_fault Memory o h = sym (ap outcome_rule h.1)

pub of-Err : (a : Result Value OpFault) (f : OpFault) (r : Option ℕ) → a ≡ Err f → r ≡ fault_rule f → (o : Outcome) → Answers a o → r ≡ outcome_rule o
of-Err a f r e n o h = n ∙ of_fault f o (subst (λ (x : Result Value OpFault). Answers x o) e h)

-- ---- of tests, joined texts and values

pub of_not : (t : Option Bool) → outcome_rule (answer_of t) ≡ outcome_rule (answer_not t)
unfolding outcome_rule answer_of answer_not
of_not None = refl
of_not (Some b) = refl

pub breaks_joined : (o p : Option (List ℕ)) → (is_none o ≡ true) ⊎ (is_none p ≡ true) → Some 2 ≡ outcome_rule (joined_of o p)
unfolding outcome_rule
breaks_joined None p h = refl
breaks_joined (Some s) None h = refl
breaks_joined (Some s) (Some t) (inl h) = cc
breaks_joined (Some s) (Some t) (inr h) = cc

pub keeps_joined : (o p : Option (List ℕ)) → is_none o ≡ false → is_none p ≡ false → None ≡ outcome_rule (joined_of o p)
unfolding outcome_rule
keeps_joined None p h k = cc
keeps_joined (Some s) None h k = cc
keeps_joined (Some s) (Some t) h k = refl

pub breaks_type : (v : Val) → is_none (text_of v) ≡ true → Some 2 ≡ outcome_rule (type_of v)
unfolding outcome_rule
breaks_type (prim p) h = cc
breaks_type (obj n) h = refl
breaks_type (out n) h = refl

pub keeps_type : (v : Val) → is_none (text_of v) ≡ false → None ≡ outcome_rule (type_of v)
unfolding outcome_rule
keeps_type (prim p) h = refl
keeps_type (obj n) h = cc
keeps_type (out n) h = cc

-- ---- of operators that break none

pub of-Strict : (x y : Val) → None ≡ outcome_rule (binary_of Strict x y)
unfolding outcome_rule
of-Strict x y = sym (ap outcome_rule (by-Strict x y))

pub of-NotStrict : (x y : Val) → None ≡ outcome_rule (binary_of NotStrict x y)
unfolding outcome_rule
of-NotStrict x y = sym (ap outcome_rule (by-NotStrict x y))

pub of-Not : (x : Val) → None ≡ outcome_rule (unary_of Not x)
unfolding outcome_rule
of-Not x = sym (ap outcome_rule (by-Not x))

pub of-Void : (x : Val) → None ≡ outcome_rule (unary_of Void x)
unfolding outcome_rule
of-Void x = sym (ap outcome_rule (by-Void x))
