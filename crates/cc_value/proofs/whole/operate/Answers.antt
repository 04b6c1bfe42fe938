use Rattle.std.proofs.Common.{◌≡◌, ◌∙◌, ◌^◌, ap, sym, subst, ℤ, FitsSigned, rules, arith}
use Rattle.std.specs.Int.Signed.{mag_shr}
use Rattle.cc_ast.specs.Syntax.{whole}
use Rattle.cc_meaning.specs.Values.{prim}
use Rattle.std.proofs.lemmas.Int.{to_z-of_z}
use Rattle.std.specs.Int.{w32, w64, int_shr}
use Rattle.cc_ast.specs.declared.operator.BinOp.{BinOp}
use Rattle.cc_ast.specs.declared.operator.BinOp.TheVariants.{Sub, Mul, Div, Rem}
use Rattle.cc_meaning.specs.Operators.{Outcome, gives, whole_binary, to_uint32, to_int32, shift_count}
use Rattle.cc_value.specs.Bridge.{Answers}
use Rattle.cc_value.proofs.Numbers.{at-Sub, at-Mul, at-Div, at-Rem, at-BitAnd, at-BitXor, at-BitOr, at-Shl, at-Shr, at-UShr, at-others}
use Rattle.cc_value.proofs.whole.operate.Goals as goal

pub returns-in-Sub : goal.returns-in-Sub
returns-in-Sub c =
    let ea = to_z-of_z w64 c.args.a c.ranges.a in
    let eb = to_z-of_z w64 c.args.b c.ranges.b in
    let here = at-Sub c.args.a c.args.b in
    let row : whole_binary c.args.op c.args.a c.args.b ≡ whole_binary Sub c.args.a c.args.b = ap (λ (op : BinOp). whole_binary op c.args.a c.args.b) c.in-Sub.is in
    subst (λ (o : Outcome). Answers c.difference.result o) (sym (row ∙ here)) (simp (ea, eb) at c.difference.ensures)

pub returns-in-Mul : goal.returns-in-Mul
returns-in-Mul c =
    let ea = to_z-of_z w64 c.args.a c.ranges.a in
    let eb = to_z-of_z w64 c.args.b c.ranges.b in
    let here = at-Mul c.args.a c.args.b in
    let row : whole_binary c.args.op c.args.a c.args.b ≡ whole_binary Mul c.args.a c.args.b = ap (λ (op : BinOp). whole_binary op c.args.a c.args.b) c.in-Mul.is in
    subst (λ (o : Outcome). Answers c.product.result o) (sym (row ∙ here)) (simp (ea, eb) at c.product.ensures)

pub returns-in-Div : goal.returns-in-Div
returns-in-Div c =
    let ea = to_z-of_z w64 c.args.a c.ranges.a in
    let eb = to_z-of_z w64 c.args.b c.ranges.b in
    let here = at-Div c.args.a c.args.b in
    let row : whole_binary c.args.op c.args.a c.args.b ≡ whole_binary Div c.args.a c.args.b = ap (λ (op : BinOp). whole_binary op c.args.a c.args.b) c.in-Div.is in
    subst (λ (o : Outcome). Answers c.quotient.result o) (sym (row ∙ here)) (simp (ea, eb) at c.quotient.ensures)

pub returns-in-Rem : goal.returns-in-Rem
returns-in-Rem c =
    let ea = to_z-of_z w64 c.args.a c.ranges.a in
    let eb = to_z-of_z w64 c.args.b c.ranges.b in
    let here = at-Rem c.args.a c.args.b in
    let row : whole_binary c.args.op c.args.a c.args.b ≡ whole_binary Rem c.args.a c.args.b = ap (λ (op : BinOp). whole_binary op c.args.a c.args.b) c.in-Rem.is in
    subst (λ (o : Outcome). Answers c.rest.result o) (sym (row ∙ here)) (simp (ea, eb) at c.rest.ensures)

pub returns-in-BitAnd : goal.returns-in-BitAnd
returns-in-BitAnd c =
    let a : c.to_uint32.result ≡ to_uint32 c.args.a = c.to_uint32.ensures ∙ ap to_uint32 (to_z-of_z w64 c.args.a c.ranges.a) in
    let b : c.to_uint32-in-BitAnd.result ≡ to_uint32 c.args.b = c.to_uint32-in-BitAnd.ensures ∙ ap to_uint32 (to_z-of_z w64 c.args.b c.ranges.b) in
    ap (λ (op : BinOp). whole_binary op c.args.a c.args.b) c.in-BitAnd.is ∙ at-BitAnd c.args.a c.args.b ∙ (rw (sym a, sym b) c.from_bits32.ensures)

pub returns-in-BitXor : goal.returns-in-BitXor
returns-in-BitXor c =
    let a : c.to_uint32-in-BitXor.result ≡ to_uint32 c.args.a = c.to_uint32-in-BitXor.ensures ∙ ap to_uint32 (to_z-of_z w64 c.args.a c.ranges.a) in
    let b : c.to_uint32-in-BitXor-2.result ≡ to_uint32 c.args.b = c.to_uint32-in-BitXor-2.ensures ∙ ap to_uint32 (to_z-of_z w64 c.args.b c.ranges.b) in
    ap (λ (op : BinOp). whole_binary op c.args.a c.args.b) c.in-BitXor.is ∙ at-BitXor c.args.a c.args.b ∙ (rw (sym a, sym b) c.from_bits32-in-BitXor.ensures)

pub returns-in-BitOr : goal.returns-in-BitOr
returns-in-BitOr c =
    let a : c.to_uint32-in-BitOr.result ≡ to_uint32 c.args.a = c.to_uint32-in-BitOr.ensures ∙ ap to_uint32 (to_z-of_z w64 c.args.a c.ranges.a) in
    let b : c.to_uint32-in-BitOr-2.result ≡ to_uint32 c.args.b = c.to_uint32-in-BitOr-2.ensures ∙ ap to_uint32 (to_z-of_z w64 c.args.b c.ranges.b) in
    ap (λ (op : BinOp). whole_binary op c.args.a c.args.b) c.in-BitOr.is ∙ at-BitOr c.args.a c.args.b ∙ (rw (sym a, sym b) c.from_bits32-in-BitOr.ensures)

pub returns-in-Shl : goal.returns-in-Shl
returns-in-Shl c =
    let a : c.to_uint32-in-Shl.result ≡ to_uint32 c.args.a = c.to_uint32-in-Shl.ensures ∙ ap to_uint32 (to_z-of_z w64 c.args.a c.ranges.a) in
    let b : c.shift_count.result ≡ shift_count c.args.b = c.shift_count.ensures.count ∙ ap shift_count (to_z-of_z w64 c.args.b c.ranges.b) in
    ap (λ (op : BinOp). whole_binary op c.args.a c.args.b) c.in-Shl.is ∙ at-Shl c.args.a c.args.b ∙ (rw (sym a, sym b) c.from_bits32-in-Shl.ensures)

pub returns-in-Shr : goal.returns-in-Shr
returns-in-Shr c =
    let a : c.to_int32.result ≡ to_int32 c.args.a = c.to_int32.ensures ∙ ap to_int32 (to_z-of_z w64 c.args.a c.ranges.a) in
    let b : c.shift_count-in-Shr.result ≡ shift_count c.args.b = c.shift_count-in-Shr.ensures.count ∙ ap shift_count (to_z-of_z w64 c.args.b c.ranges.b) in
    let narrow : FitsSigned w32 c.to_int32.result = search rules in
    let wide : FitsSigned w64 c.from.result = search rules in
    let far : FitsSigned w32 (int_shr c.to_int32.result c.shift_count-in-Shr.result) = record { sfits = omega (arith, mag_shr c.to_int32.result (2 ^ c.shift_count-in-Shr.result), narrow.sfits) } in
    let moved = to_z-of_z w32 (int_shr c.to_int32.result c.shift_count-in-Shr.result) far in
    let same = to_z-of_z w64 c.from.result wide ∙ (rw (to_z-of_z w32 c.to_int32.result narrow) at c.from.ensures) ∙ moved in
    ap (λ (op : BinOp). whole_binary op c.args.a c.args.b) c.in-Shr.is ∙ at-Shr c.args.a c.args.b ∙ (rw (sym a, sym b) (ap (λ (z : ℤ). gives (prim (whole z))) (sym same)))

pub returns-in-UShr : goal.returns-in-UShr
returns-in-UShr c =
    let a : c.to_uint32-in-UShr.result ≡ to_uint32 c.args.a = c.to_uint32-in-UShr.ensures ∙ ap to_uint32 (to_z-of_z w64 c.args.a c.ranges.a) in
    let b : c.shift_count-in-UShr.result ≡ shift_count c.args.b = c.shift_count-in-UShr.ensures.count ∙ ap shift_count (to_z-of_z w64 c.args.b c.ranges.b) in
    let wide : FitsSigned w64 c.from-in-UShr.result = search rules in
    let same = to_z-of_z w64 c.from-in-UShr.result wide ∙ c.from-in-UShr.ensures in
    ap (λ (op : BinOp). whole_binary op c.args.a c.args.b) c.in-UShr.is ∙ at-UShr c.args.a c.args.b ∙ (rw (sym a, sym b) (ap (λ (z : ℤ). gives (prim (whole z))) (sym same)))

pub returns-in_default : goal.returns-in_default
returns-in_default c =
    let n = c.in_default in
    at-others c.args.op c.args.a c.args.b n.not-Sub n.not-Mul n.not-Div n.not-Rem n.not-BitAnd n.not-BitXor n.not-BitOr n.not-Shl n.not-Shr n.not-UShr
