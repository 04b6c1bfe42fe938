use Rattle.std.proofs.Common.{◌≡◌, ◌∙◌, ℕ, List, map, Option, sym, ap}
use Rattle.cc_meaning.specs.Built.{outcome_of, rule_in}
use Rattle.cc_meaning.specs.Builtins.{from_char_codes, math_use, string_use}
use Rattle.cc_meaning.specs.Shapes.{tables_of}
use Rattle.cc_meaning.specs.State.{State, Tables}
use Rattle.cc_meaning.specs.Values.{Val}
use Rattle.cc_value.specs.Bridge.{value_of}
use Rattle.cc_conform.specs.Bridge.{use_of, with_store}
use Rattle.cc_conform.specs.declared.act.BuiltInUse.{BuiltInUse}
use Rattle.cc_conform.proofs.OutcomeLemmas.{from-rule}
use Rattle.cc_conform.proofs.built_ins.built_rule.Goals as goal

by : (T : Tables) (s : State) (vs : List Val) (built wanted : BuiltInUse) (r : Option ℕ) → built ≡ wanted → r ≡ rule_in T s (outcome_of s (use_of wanted) vs) → r ≡ rule_in T s (outcome_of s (use_of built) vs)
by T s vs built wanted r e f = f ∙ ap (λ (u : BuiltInUse). rule_in T s (outcome_of s (use_of u) vs)) (sym e)

pub returns-in-Array : goal.returns-in-Array
returns-in-Array c = λ s.
    let T = tables_of c.args.program.now in
    let w = with_store s c.args.heap.now in
    let vs = map value_of c.args.operands.now in
    by T w vs c.args.built _ _ c.in-Array.is (c.array_rule.ensures s)

pub returns-in-Text : goal.returns-in-Text
returns-in-Text c = λ s.
    let T = tables_of c.args.program.now in
    let w = with_store s c.args.heap.now in
    let vs = map value_of c.args.operands.now in
    by T w vs c.args.built _ _ c.in-Text.is (c.text_rule.ensures T w)

pub returns-in-StringOf : goal.returns-in-StringOf
unfolding outcome_of
returns-in-StringOf c = λ s.
    let T = tables_of c.args.program.now in
    let w = with_store s c.args.heap.now in
    let vs = map value_of c.args.operands.now in
    by T w vs c.args.built _ _ c.in-StringOf.is (c.string_rule.ensures ∙ from-rule T w (string_use vs))

pub returns-in-FromCharCode : goal.returns-in-FromCharCode
unfolding outcome_of
returns-in-FromCharCode c = λ s.
    let T = tables_of c.args.program.now in
    let w = with_store s c.args.heap.now in
    let vs = map value_of c.args.operands.now in
    by T w vs c.args.built _ _ c.in-FromCharCode.is (c.codes_rule.ensures ∙ from-rule T w (from_char_codes vs))

pub returns-in-Math : goal.returns-in-Math
unfolding outcome_of
returns-in-Math c = λ s.
    let T = tables_of c.args.program.now in
    let w = with_store s c.args.heap.now in
    let vs = map value_of c.args.operands.now in
    by T w vs c.args.built _ _ c.in-Math.is (c.math_rule.ensures ∙ from-rule T w (math_use _ vs))

pub returns-in-ObjectCreate : goal.returns-in-ObjectCreate
returns-in-ObjectCreate c = λ s.
    let T = tables_of c.args.program.now in
    let w = with_store s c.args.heap.now in
    let vs = map value_of c.args.operands.now in
    by T w vs c.args.built _ _ c.in-ObjectCreate.is (c.create_rule.ensures T w)

pub returns-in-HasOwnProperty : goal.returns-in-HasOwnProperty
returns-in-HasOwnProperty c = λ s.
    let T = tables_of c.args.program.now in
    let w = with_store s c.args.heap.now in
    let vs = map value_of c.args.operands.now in
    by T w vs c.args.built _ _ c.in-HasOwnProperty.is (c.has_own_rule.ensures T w)

pub returns-in-Call : goal.returns-in-Call
returns-in-Call c = λ s.
    let T = tables_of c.args.program.now in
    let w = with_store s c.args.heap.now in
    let vs = map value_of c.args.operands.now in
    by T w vs c.args.built _ _ c.in-Call.is (c.call_rule.ensures T s)
