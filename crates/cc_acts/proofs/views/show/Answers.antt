use Rattle.std.proofs.Common.{◌∙◌, ℤ, ℕ, List, [], sym, ap, rules, FitsSigned}
use Rattle.std.proofs.lemmas.Int.{to_z-of_z}
use Rattle.std.specs.Int.{w64}
use Rattle.cc_ast.specs.Syntax.{text, whole}
use Rattle.cc_meaning.specs.Acts.{show}
use Rattle.cc_meaning.specs.Monad.{ok, ret}
use Rattle.cc_meaning.specs.Values.{shown_prim}
use Rattle.cc_value.specs.declared.value.Value.{Value}
use Rattle.cc_value.specs.Bridge.{value_of}
use Rattle.cc_acts.specs.Shown.{state_of}
use Rattle.cc_acts.proofs.views.show.Goals as goal

pub returns-in-Undefined : goal.returns-in-Undefined
unfolding show ret
returns-in-Undefined c = λ P rs. ap (λ (x : Value). show (value_of x) (state_of P rs c.args.state.now)) c.in-Undefined.is

pub returns-in-Null : goal.returns-in-Null
unfolding show ret
returns-in-Null c = λ P rs. ap (λ (x : Value). show (value_of x) (state_of P rs c.args.state.now)) c.in-Null.is

pub returns-in-Truth : goal.returns-in-Truth
unfolding show ret
returns-in-Truth c = λ P rs. ap (λ (x : Value). show (value_of x) (state_of P rs c.args.state.now)) c.in-Truth.is

pub returns-in-Outside : goal.returns-in-Outside
unfolding show ret
returns-in-Outside c = λ P rs. ap (λ (x : Value). show (value_of x) (state_of P rs c.args.state.now)) c.in-Outside.is

pub returns-in-Whole : goal.returns-in-Whole
unfolding show ret
returns-in-Whole c = λ P rs.
    let fits : FitsSigned w64 c.in-Whole.number = search rules in
    ap (λ (x : Value). show (value_of x) (state_of P rs c.args.state.now)) c.in-Whole.is ∙ ap (λ (z : ℤ). ok [] (shown_prim (whole z)) (state_of P rs c.args.state.now)) (sym (to_z-of_z w64 c.in-Whole.number fits))

pub returns-in_ok-copy_of-in-Text : goal.returns-in_ok-copy_of-in-Text
unfolding show ret
returns-in_ok-copy_of-in-Text c = λ P rs.
    ap (λ (x : Value). show (value_of x) (state_of P rs c.args.state.now)) c.in-Text.is ∙ ap (λ (t : List ℕ). ok [] (shown_prim (text t)) (state_of P rs c.args.state.now)) (sym (c.in_ok-copy_of-in-Text.ensures {u = tt}))

pub returns-in_ok-hand_out-in-Object : goal.returns-in_ok-hand_out-in-Object
returns-in_ok-hand_out-in-Object c = λ P rs.
    ap (λ (x : Value). show (value_of x) (state_of P rs c.args.state.now)) c.in-Object.is ∙ c.in_ok-hand_out-in-Object.ensures {u = tt} P rs
