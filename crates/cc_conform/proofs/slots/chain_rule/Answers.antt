use Rattle.std.proofs.Common.{◌∙◌, ◌+◌, List, Option, ℕ, drop, get_or, slice_get, sym, ap}
use Rattle.std.proofs.lemmas.List.{at_drop_more}
use Rattle.cc_meaning.specs.SlotRules.{least}
use Rattle.cc_meaning.specs.Store.{slots_in, slots_on, chain_in, chain_of}
use Rattle.cc_conform.specs.Slots.{least_of}
use Rattle.cc_conform.proofs.Loops.{end}
use Rattle.cc_conform.proofs.SlotLemmas.{least-None, least-assoc, least_of-append}
use Rattle.cc_conform.proofs.slots.chain_rule.Goals as goal

pub loop-above-init : goal.loop-above-init
unfolding slots_on chain_of
loop-above-init c =
    let F = least_of c.args.test c.args.name.now in
    let os = c.args.heap.now.objs in
    let own = slots_in (slice_get os c.args.object) in
    ap (λ (x : Option ℕ). least x (F (slots_on os c.chain-above-items.result.now))) c.own_rule-broken.ensures
    ∙ ap (λ (cs : List ℕ). least (F own) (F (slots_on os cs))) c.chain-above-items.ensures
    ∙ sym (least_of-append c.args.test c.args.name.now own (slots_on os (chain_in (slice_get os c.args.object))))

pub loop-above-preserved : goal.loop-above-preserved
unfolding slots_on
loop-above-preserved c =
    let F = least_of c.args.test c.args.name.now in
    let os = c.args.heap.now.objs in
    let cs = c.chain-above-items.result.now in
    let i = c.loop-above.above-index in
    let r = F (slots_in (slice_get os (get_or cs i 0))) in
    let rest = F (slots_on os (drop (i + 1) cs)) in
    ap (λ (x : Option ℕ). least x rest) (c.least-broken.ensures ∙ ap (least c.loop-above.broken) c.own_rule.ensures)
    ∙ sym (least-assoc c.loop-above.broken r rest)
    ∙ ap (least c.loop-above.broken) (sym (at_drop_more (λ (ds : List ℕ). F (slots_on os ds)) cs i 0 c.loop-above-test.true ∙ least_of-append c.args.test c.args.name.now (slots_in (slice_get os (get_or cs i 0))) (slots_on os (drop (i + 1) cs))))
    ∙ c.loop-above.invariant

pub returns : goal.returns
unfolding slots_on least_of
returns c =
    let F = least_of c.args.test c.args.name.now in
    let os = c.args.heap.now.objs in
    sym (least-None c.loop-above.broken) ∙ ap (least c.loop-above.broken) (sym (end (λ (ds : List ℕ). F (slots_on os ds)) c.chain-above-items.result.now c.loop-above.above-index c.loop-above-test.false)) ∙ c.loop-above.invariant
