use Rattle.std.proofs.Common.{◌≡◌, ◌∙◌, sym, subst, true, Some, None}
use Rattle.std.specs.Prelude.{if◌then◌else◌}
use Rattle.cc_ast.specs.declared.tree.Expr.{Expr}
use Rattle.cc_ast.specs.Bridge.{term}
use Rattle.cc_driver.specs.Spelling.{join, spell_value}
use Rattle.cc_driver.specs.Shapes.{is_add, spell_added}
use Rattle.cc_driver.proofs.SpellingLaws.{sum_put, ok_as}
use Rattle.cc_driver.proofs.spelling.value.+push_value.Goals as goal

pub returns-else-not-branch : goal.returns-else-not-branch
returns-else-not-branch t c =
    let e : is_add c.in-Binary.op ≡ true = sym c.is_sum.ensures ∙ c.if-not-is_sum.false in
    let put : (if c.in_ok-push_value-in-Binary.field-0 then Some c.push_value.new.pieces else None) ≡ join (Some c.args.pieces.now) (spell_value (term c.get.result.now)) = c.in_ok-push_value-in-Binary.ensures in
    let mid : Some c.push_value.new.pieces ≡ join (Some c.args.pieces.now) (spell_value (term c.get.result.now)) =
    subst (λ b. (if b then Some c.push_value.new.pieces else None) ≡ join (Some c.args.pieces.now) (spell_value (term c.get.result.now))) c.if-not-branch.false put in
    let left : Some c.push_value.new.pieces ≡ join (Some c.args.pieces.now) (spell_value (term c.in-Binary.left)) =
    subst (λ (z : Expr). Some c.push_value.new.pieces ≡ join (Some c.args.pieces.now) (spell_value (term z))) c.get.ensures mid in
    ok_as c.push_added.result _ _ (λ fits h. sum_put c.args.value.now c.in-Binary.field-0 c.in-Binary.op c.in-Binary.left c.in-Binary.right c.args.pieces.now c.push_value.new.pieces _ c.in-Binary.is e left (subst (λ (z : Expr). (if fits then Some c.push_added.new.pieces else None) ≡ join (Some c.push_value.new.pieces) (spell_added (term z))) c.get-in-Binary.ensures h)) c.push_added.ensures
