use Rattle.std.proofs.Common.{◌∙◌, ◌||◌, not, Bool, [], Option, is_some, sym, ap, ℕ}
use Rattle.std.proofs.Math.Bool.{or-true, or-false}
use Rattle.cc_meaning.specs.Names.{is_index}
use Rattle.cc_meaning.specs.Shapes.{tables_of}
use Rattle.cc_meaning.specs.Store.{is_kept}
use Rattle.cc_conform.specs.Bridge.{with_store}
use Rattle.cc_conform.proofs.CallLemmas.{named-parts}
use Rattle.cc_conform.proofs.host.name_well.Goals as goal

pub returns-then-is_none : goal.returns-then-is_none
returns-then-is_none c = λ s.
    let T = tables_of c.args.program.now in
    let n = c.args.name.now in
    let none = ap (λ (o : Option ℕ). is_some o) (sym c.chain_rule.ensures) ∙ c.is_none.ensures ∙ ap not c.if-is_none.true in
    sym (named-parts T (with_store s c.args.heap.now) c.args.object n [] 13 _ none ∙ or-true (is_kept T n || is_index n))

pub returns-then-is_kept : goal.returns-then-is_kept
returns-then-is_kept c = λ s.
    let T = tables_of c.args.program.now in
    let n = c.args.name.now in
    let some = ap (λ (o : Option ℕ). is_some o) (sym c.chain_rule.ensures) ∙ c.is_none.ensures ∙ ap not c.if-is_none.false in
    c.if-is_kept.true ∙ sym (named-parts T (with_store s c.args.heap.now) c.args.object n [] 13 _ some ∙ or-false (is_kept T n || is_index n) ∙ ap (λ (b : Bool). b || is_index n) (sym c.is_kept.ensures ∙ c.if-is_kept.true))

pub returns-else-is_kept : goal.returns-else-is_kept
returns-else-is_kept c = λ s.
    let T = tables_of c.args.program.now in
    let n = c.args.name.now in
    let some = ap (λ (o : Option ℕ). is_some o) (sym c.chain_rule.ensures) ∙ c.is_none.ensures ∙ ap not c.if-is_none.false in
    c.is_index.ensures ∙ sym (named-parts T (with_store s c.args.heap.now) c.args.object n [] 13 _ some ∙ or-false (is_kept T n || is_index n) ∙ ap (λ (b : Bool). b || is_index n) (sym c.is_kept.ensures ∙ c.if-is_kept.false))
