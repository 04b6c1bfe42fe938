use Rattle.std.proofs.Common.{◌≡◌, ◌∙◌, ap, sym, not, ℤ, subst, unsigned_abs}
use Rattle.std.specs.Int.{w64, is_negative}
use Rattle.std.proofs.lemmas.Int.{to_z-of_z}
use Rattle.cc_ast.specs.Syntax.{whole}
use Rattle.cc_ast.specs.declared.operator.UnOp.{UnOp}
use Rattle.cc_meaning.specs.Values.{prim}
use Rattle.cc_meaning.specs.Operators.{Outcome, gives, whole_unary, to_uint32, with_sign}
use Rattle.cc_value.specs.Bridge.{Answers}
use Rattle.cc_value.proofs.Numbers.{at-Minus, at-Plus, at-BitNot, at-unary_others}
use Rattle.cc_value.proofs.whole.operate_one.Goals as goal

pub returns-in-Minus : goal.returns-in-Minus
returns-in-Minus c =
    let same = to_z-of_z w64 c.args.z c.ranges.z in
    let size : c.unsigned_abs.result ≡ unsigned_abs c.args.z = c.unsigned_abs.ensures.value ∙ ap unsigned_abs same in
    let row = ap (λ (op : UnOp). whole_unary op c.args.z) c.in-Minus.is ∙ at-Minus c.args.z in
    subst (λ (o : Outcome). Answers c.with_sign.result o) (ap (λ (z : ℤ). with_sign (not (is_negative z)) c.unsigned_abs.result) same ∙ ap (with_sign (not (is_negative c.args.z))) size ∙ sym row) c.with_sign.ensures

pub returns-in-Plus : goal.returns-in-Plus
returns-in-Plus c = ap (λ (op : UnOp). whole_unary op c.args.z) c.in-Plus.is ∙ at-Plus c.args.z ∙ ap (λ (z : ℤ). gives (prim (whole z))) (sym (to_z-of_z w64 c.args.z c.ranges.z))

pub returns-in-BitNot : goal.returns-in-BitNot
returns-in-BitNot c =
    let a : c.to_uint32.result ≡ to_uint32 c.args.z = c.to_uint32.ensures ∙ ap to_uint32 (to_z-of_z w64 c.args.z c.ranges.z) in
    ap (λ (op : UnOp). whole_unary op c.args.z) c.in-BitNot.is ∙ at-BitNot c.args.z ∙ (rw (sym a) c.from_bits32.ensures)

pub returns-in_default : goal.returns-in_default
returns-in_default c = at-unary_others c.args.op c.args.z c.in_default.not-Minus c.in_default.not-Plus c.in_default.not-BitNot
