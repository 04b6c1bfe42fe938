use Rattle.std.proofs.Common.{◌∙◌, ℤ, ℕ, List, sym, ap, rules, FitsSigned}
use Rattle.std.proofs.lemmas.Int.{to_z-of_z}
use Rattle.std.specs.Int.{w64}
use Rattle.cc_ast.specs.Syntax.{text, whole}
use Rattle.cc_meaning.specs.Acts.{viewed}
use Rattle.cc_meaning.specs.Values.{prim}
use Rattle.cc_value.specs.declared.value.View.{View}
use Rattle.cc_acts.specs.Scripts.{view_of}
use Rattle.cc_acts.specs.Shown.{state_of}
use Rattle.cc_acts.proofs.views.viewed.Goals as goal

pub returns-in-Undefined : goal.returns-in-Undefined
unfolding viewed
returns-in-Undefined c = λ P rs. sym (ap (λ (x : View). viewed (state_of P rs c.args.state.now) (view_of x)) c.in-Undefined.is)

pub returns-in-Null : goal.returns-in-Null
unfolding viewed
returns-in-Null c = λ P rs. sym (ap (λ (x : View). viewed (state_of P rs c.args.state.now) (view_of x)) c.in-Null.is)

pub returns-in-Truth : goal.returns-in-Truth
unfolding viewed
returns-in-Truth c = λ P rs. sym (ap (λ (x : View). viewed (state_of P rs c.args.state.now) (view_of x)) c.in-Truth.is)

pub returns-in-Outside : goal.returns-in-Outside
unfolding viewed
returns-in-Outside c = λ P rs. sym (ap (λ (x : View). viewed (state_of P rs c.args.state.now) (view_of x)) c.in-Outside.is)

pub returns-in-Whole : goal.returns-in-Whole
unfolding viewed
returns-in-Whole c = λ P rs.
    let fits : FitsSigned w64 c.in-Whole.number = search rules in
    ap (λ (z : ℤ). prim (whole z)) (to_z-of_z w64 c.in-Whole.number fits) ∙ sym (ap (λ (x : View). viewed (state_of P rs c.args.state.now) (view_of x)) c.in-Whole.is)

pub returns-in_ok-copy_of-in-Text : goal.returns-in_ok-copy_of-in-Text
unfolding viewed
returns-in_ok-copy_of-in-Text c = λ P rs.
    ap (λ (t : List ℕ). prim (text t)) (c.in_ok-copy_of-in-Text.ensures {u = tt}) ∙ sym (ap (λ (x : View). viewed (state_of P rs c.args.state.now) (view_of x)) c.in-Text.is)
