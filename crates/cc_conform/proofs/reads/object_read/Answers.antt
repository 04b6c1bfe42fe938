use Rattle.std.proofs.Common.{◌≡◌, ◌∙◌, List, ℕ, Option, unwrap_or, sym, ap}
use Rattle.cc_ast.specs.Syntax.{undefined}
use Rattle.cc_meaning.specs.Shapes.{tables_of}
use Rattle.cc_meaning.specs.SlotRules.{object_read, field_rule, slots_rule, least}
use Rattle.cc_meaning.specs.Store.{chain_of, slots_on, look_up}
use Rattle.cc_meaning.specs.Values.{Val, prim}
use Rattle.cc_conform.specs.Bridge.{access_of, with_store}
use Rattle.cc_conform.proofs.ReadLemmas.{value_found-parts}
use Rattle.cc_conform.proofs.reads.object_read.Goals as goal

pub returns : goal.returns
unfolding object_read
returns c = λ s.
    let T = tables_of c.args.program.now in
    let a = access_of c.args.key.now in
    let S = with_store s c.args.heap.now in
    let os = c.args.heap.now.objs in
    let o = c.args.object in
    let n = c.args.name.now in
    let named : c.as_slice-text.result.now ≡ n = c.as_slice-text.ensures.value ∙ c.name.view_is in
    let broken : c.chain_slots_rule-broken.result ≡ slots_rule T a n (slots_on os (chain_of os o)) = c.chain_slots_rule-broken.ensures ∙ ap (λ (m : List ℕ). slots_rule T a m (slots_on os (chain_of os o))) named in
    let found = ap (λ (v : Option Val). unwrap_or v (prim undefined)) c.read_slot-found.ensures ∙ sym (value_found-parts (look_up os o n)) in
    let by_type = c.found_rule-by_type.ensures s ∙ (λ i. field_rule T S o a (named i) (broken i) (found i)) in
    let by_name = c.least-by_name.ensures ∙ (λ i. least (c.function_rule.ensures i) (c.missing_rule.ensures i)) in
    let third = c.least.ensures ∙ (λ i. least (broken i) (by_name i)) in
    let second = c.least-2.ensures ∙ (λ i. least (by_type i) (third i)) in
    c.least-3.ensures ∙ (λ i. least (c.whole_key_rule-by_key.ensures i) (second i))
