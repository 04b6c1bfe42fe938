use Rattle.std.proofs.Common.{◌≡◌, ◌∙◌, ℤ, IfOk, rules, FitsSigned, sym, ap, subst}
use Rattle.std.proofs.lemmas.Int.{to_z-of_z}
use Rattle.std.specs.Int.{w64}
use Rattle.cc_ast.specs.Syntax.{whole}
use Rattle.cc_heap.specs.Bridge.{held_of}
use Rattle.cc_meaning.specs.Values.{Val, prim}
use Rattle.cc_value.specs.Bridge.{value_of}
use Rattle.cc_acts.proofs.slots.copy_held.Goals as goal

pub returns-in-Value : goal.returns-in-Value
returns-in-Value c = subst (λ (v : Val). IfOk c.copy_value.result (λ copy. value_of copy ≡ v)) (sym (ap held_of c.in-Value.is)) c.copy_value.ensures

pub returns-in-Ok : goal.returns-in-Ok
returns-in-Ok c =
    let fits : FitsSigned w64 c.in-Ok.length = search rules in
    ap (λ (z : ℤ). prim (whole z)) (to_z-of_z w64 c.in-Ok.length fits ∙ (c.in-Ok.ensures {u = tt}).1) ∙ sym (ap held_of c.in-Length.is)
