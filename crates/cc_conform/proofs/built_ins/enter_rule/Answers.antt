use Rattle.std.proofs.Common.{◌≡◌, ◌∙◌, ℕ, List, map, slice_get, Option, Some, None, refl, sym, ap}
use Rattle.cc_ast.specs.declared.tables.Element.{Element}
use Rattle.cc_heap.specs.Store.{wanted_in}
use Rattle.cc_meaning.specs.Built.{rule_in, from_result}
use Rattle.cc_meaning.specs.Builtins.{ArrayResult, array_use, array_push, array_unshift, first_of_two}
use Rattle.cc_meaning.specs.Shapes.{tables_of}
use Rattle.cc_meaning.specs.SlotRules.{rule_unless}
use Rattle.cc_meaning.specs.State.{State, Tables}
use Rattle.cc_meaning.specs.Typed.{of_all_elements}
use Rattle.cc_meaning.specs.Values.{Val}
use Rattle.cc_value.specs.Bridge.{value_of}
use Rattle.cc_conform.specs.Bridge.{with_store}
use Rattle.cc_conform.specs.Uses.{result_rule}
use Rattle.cc_conform.proofs.UseElements.{entered, push-length, unshift-length}
use Rattle.cc_conform.proofs.built_ins.enter_rule.Goals as goal

-- the length breaks a rule, or what is put in is looked at
by_length : (T : Tables) (s : State) (n : ℕ) (vs : List Val) (r : ArrayResult) (o told : Option ℕ) → result_rule r ≡ o → told ≡ first_of_two o (rule_unless (of_all_elements T s.objs (wanted_in (slice_get s.objs n)) vs) 6) → told ≡ rule_in T s (from_result n vs r)
by_length T s n vs r o told e f = f ∙ ap (λ (p : Option ℕ). first_of_two p (rule_unless (of_all_elements T s.objs (wanted_in (slice_get s.objs n)) vs) 6)) (sym e) ∙ entered T s n vs r

pub returns-in-Some : goal.returns-in-Some
returns-in-Some c =
    let T = tables_of c.args.program.now in
    let xs = c.args.elements.now in
    let ys = c.args.args.now in
    let long = sym c.length_rule.ensures ∙ c.in-Some.is in
    record {
      push = λ s. by_length T (with_store s c.args.heap.now) c.args.array (map value_of ys) (array_use array_push (map value_of xs) (map value_of ys)) (Some c.in-Some.rule) (Some c.in-Some.rule) (sym (push-length xs ys) ∙ long) refl;
      unshift = λ s. by_length T (with_store s c.args.heap.now) c.args.array (map value_of ys) (array_use array_unshift (map value_of xs) (map value_of ys)) (Some c.in-Some.rule) (Some c.in-Some.rule) (sym (unshift-length xs ys) ∙ long) refl;
    }

pub returns-in-None : goal.returns-in-None
returns-in-None c =
    let T = tables_of c.args.program.now in
    let xs = c.args.elements.now in
    let ys = c.args.args.now in
    let short = sym c.length_rule.ensures ∙ c.in-None.is in
    let fit = c.rule_unless.ensures ∙ (λ i. rule_unless (c.of_all_elements.ensures i) 6) ∙ ap (λ (es : List Element). rule_unless (of_all_elements T c.args.heap.now.objs es (map value_of ys)) 6) c.wanted.ensures in
    record {
      push = λ s. by_length T (with_store s c.args.heap.now) c.args.array (map value_of ys) (array_use array_push (map value_of xs) (map value_of ys)) None c.rule_unless.result (sym (push-length xs ys) ∙ short) fit;
      unshift = λ s. by_length T (with_store s c.args.heap.now) c.args.array (map value_of ys) (array_use array_unshift (map value_of xs) (map value_of ys)) None c.rule_unless.result (sym (unshift-length xs ys) ∙ short) fit;
    }
