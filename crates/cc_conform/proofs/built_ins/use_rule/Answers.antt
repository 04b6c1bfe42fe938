use Rattle.std.proofs.Common.{◌≡◌, ◌∙◌, ℕ, List, map, Option, Some, sym, ap}
use Rattle.cc_meaning.specs.Built.{args_of, array_result, on_array, put_in, rule_in}
use Rattle.cc_meaning.specs.Builtins.{array_use, array_pop, array_shift, array_slice, array_join, array_index_of, concat_use}
use Rattle.cc_meaning.specs.Shapes.{tables_of}
use Rattle.cc_meaning.specs.State.{State, Tables}
use Rattle.cc_meaning.specs.Values.{Val}
use Rattle.cc_value.specs.Bridge.{value_of}
use Rattle.cc_conform.specs.Bridge.{with_store}
use Rattle.cc_conform.specs.Bridge.{array_use_of}
use Rattle.cc_conform.specs.declared.act.ArrayUse.{ArrayUse}
use Rattle.cc_conform.proofs.UseElements.{still}
use Rattle.cc_conform.proofs.built_ins.use_rule.Goals as goal

by : (T : Tables) (s : State) (n : ℕ) (es vs : List Val) (kind wanted : ArrayUse) (r : Option ℕ) → kind ≡ wanted → r ≡ rule_in T s (on_array s.objs (array_use_of wanted) n (Some es) vs) → r ≡ rule_in T s (on_array s.objs (array_use_of kind) n (Some es) vs)
by T s n es vs kind wanted r e f = f ∙ ap (λ (k : ArrayUse). rule_in T s (on_array s.objs (array_use_of k) n (Some es) vs)) (sym e)

pub returns-in-Push : goal.returns-in-Push
unfolding on_array put_in array_result
returns-in-Push c = λ s.
    let T = tables_of c.args.program.now in
    let w = with_store s c.args.heap.now in
    let es = map value_of c.args.elements.now in
    let vs = map value_of c.args.args.now in
    by T w c.args.array es vs c.args.kind _ _ c.in-Push.is (c.enter_rule.ensures.push s)

pub returns-in-Unshift : goal.returns-in-Unshift
unfolding on_array put_in array_result
returns-in-Unshift c = λ s.
    let T = tables_of c.args.program.now in
    let w = with_store s c.args.heap.now in
    let es = map value_of c.args.elements.now in
    let vs = map value_of c.args.args.now in
    by T w c.args.array es vs c.args.kind _ _ c.in-Unshift.is (c.enter_rule-in-Unshift.ensures.unshift s)

pub returns-in-Pop : goal.returns-in-Pop
unfolding on_array put_in array_result
returns-in-Pop c = λ s.
    let T = tables_of c.args.program.now in
    let w = with_store s c.args.heap.now in
    let es = map value_of c.args.elements.now in
    let vs = map value_of c.args.args.now in
    by T w c.args.array es vs c.args.kind _ _ c.in-Pop.is (c.end_rule.ensures.pop es ∙ still T w c.args.array (array_use array_pop es vs))

pub returns-in-Shift : goal.returns-in-Shift
unfolding on_array put_in array_result
returns-in-Shift c = λ s.
    let T = tables_of c.args.program.now in
    let w = with_store s c.args.heap.now in
    let es = map value_of c.args.elements.now in
    let vs = map value_of c.args.args.now in
    by T w c.args.array es vs c.args.kind _ _ c.in-Shift.is (c.end_rule-in-Shift.ensures.shift es ∙ still T w c.args.array (array_use array_shift es vs))

pub returns-in-Slice : goal.returns-in-Slice
unfolding on_array put_in array_result
returns-in-Slice c = λ s.
    let T = tables_of c.args.program.now in
    let w = with_store s c.args.heap.now in
    let es = map value_of c.args.elements.now in
    let vs = map value_of c.args.args.now in
    by T w c.args.array es vs c.args.kind _ _ c.in-Slice.is (c.part_rule.ensures es ∙ still T w c.args.array (array_use array_slice es vs))

pub returns-in-Concat : goal.returns-in-Concat
unfolding on_array put_in array_result
returns-in-Concat c = λ s.
    let T = tables_of c.args.program.now in
    let w = with_store s c.args.heap.now in
    let es = map value_of c.args.elements.now in
    let vs = map value_of c.args.args.now in
    by T w c.args.array es vs c.args.kind _ _ c.in-Concat.is (c.concat_rule.ensures es ∙ still T w c.args.array (concat_use es (args_of c.args.heap.now.objs vs)))

pub returns-in-Join : goal.returns-in-Join
unfolding on_array put_in array_result
returns-in-Join c = λ s.
    let T = tables_of c.args.program.now in
    let w = with_store s c.args.heap.now in
    let es = map value_of c.args.elements.now in
    let vs = map value_of c.args.args.now in
    by T w c.args.array es vs c.args.kind _ _ c.in-Join.is (c.join_rule.ensures ∙ still T w c.args.array (array_use array_join es vs))

pub returns-in-IndexOf : goal.returns-in-IndexOf
unfolding on_array put_in array_result
returns-in-IndexOf c = λ s.
    let T = tables_of c.args.program.now in
    let w = with_store s c.args.heap.now in
    let es = map value_of c.args.elements.now in
    let vs = map value_of c.args.args.now in
    by T w c.args.array es vs c.args.kind _ _ c.in-IndexOf.is (c.index_rule.ensures ∙ still T w c.args.array (array_use array_index_of es vs))
