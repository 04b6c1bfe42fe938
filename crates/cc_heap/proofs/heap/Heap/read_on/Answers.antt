use Rattle.std.proofs.Common.{◌≡◌, ◌∙◌, ◌+◌, suc, ap, sym, refl, arith, drop, List, ℕ}
use Rattle.cc_meaning.specs.Store.{found_on}
use Rattle.cc_heap.specs.Store.{value_if_found}
use Rattle.cc_heap.proofs.LookUpLaws.{found-end, found-drop, drop-all}
use Rattle.cc_heap.proofs.heap.Heap.read_on.Goals as goal

pub loop-number-init : goal.loop-number-init
loop-number-init c = refl

pub returns-in-Value : goal.returns-in-Value
returns-in-Value c =
    let os = c.args.self.now.objs in
    sym (c.loop-number.invariant ∙ ap value_if_found (found-drop os c.args.chain.now c.args.name.now c.loop-number.number-index c.loop-number-test.true ∙ c.in-Value.ensures (found_on os (drop (suc c.loop-number.number-index) c.args.chain.now) c.args.name.now)))

pub returns-in-BuiltIn : goal.returns-in-BuiltIn
returns-in-BuiltIn c =
    let os = c.args.self.now.objs in
    sym (c.loop-number.invariant ∙ ap value_if_found (found-drop os c.args.chain.now c.args.name.now c.loop-number.number-index c.loop-number-test.true) ∙ c.in-BuiltIn.ensures (found_on os (drop (suc c.loop-number.number-index) c.args.chain.now) c.args.name.now))

pub loop-number-preserved : goal.loop-number-preserved
loop-number-preserved c =
    let os = c.args.self.now.objs in
    let next : suc c.loop-number.number-index ≡ c.loop-number.number-index + 1 = omega arith in
    c.loop-number.invariant
    ∙ ap value_if_found (found-drop os c.args.chain.now c.args.name.now c.loop-number.number-index c.loop-number-test.true ∙ c.in-Nothing.ensures (found_on os (drop (suc c.loop-number.number-index) c.args.chain.now) c.args.name.now))
    ∙ ap (λ (k : ℕ). value_if_found (found_on os (drop k c.args.chain.now) c.args.name.now)) next

pub returns : goal.returns
returns c =
    let os = c.args.self.now.objs in
    sym (c.loop-number.invariant ∙ ap (λ (cs : List ℕ). value_if_found (found_on os cs c.args.name.now)) (drop-all c.args.chain.now c.loop-number.number-index c.loop-number-test.false) ∙ found-end os c.args.name.now)
