use Rattle.std.proofs.Common.{◌∙◌, ◌+◌, ◌&&◌, Bool, List, drop, map, sym, ap}
use Rattle.cc_conform.proofs.Loops.{step, end}
use Rattle.cc_meaning.specs.Acts.{all_given}
use Rattle.cc_value.specs.declared.value.View.{View}
use Rattle.cc_acts.specs.Scripts.{view_of}
use Rattle.cc_acts.specs.Shown.{state_of}
use Rattle.cc_acts.proofs.views.all_given.Goals as goal

pub returns-then-not-was_given : goal.returns-then-not-was_given
unfolding all_given
returns-then-not-was_given c = λ P rs.
    let s = state_of P rs c.args.state.now in
    let vs : List View = c.args.views.now in
    let rest : Bool = all_given s (map view_of (drop (c.loop-view.view-index + 1) vs)) in
    sym (sym (c.loop-view.invariant P rs) ∙ step (λ (xs : List View). all_given s (map view_of xs)) vs c.loop-view.view-index c.view-item.result c.loop-view-test.true c.view-item.is ∙ ap (λ (b : Bool). b && rest) (sym (c.if-not-was_given.ensures {u = tt} P rs)))

pub loop-view-preserved : goal.loop-view-preserved
unfolding all_given
loop-view-preserved c = λ P rs.
    let s = state_of P rs c.args.state.now in
    let vs : List View = c.args.views.now in
    let rest : Bool = all_given s (map view_of (drop (c.loop-view.view-index + 1) vs)) in
    sym (sym (c.loop-view.invariant P rs) ∙ step (λ (xs : List View). all_given s (map view_of xs)) vs c.loop-view.view-index c.view-item.result c.loop-view-test.true c.view-item.is ∙ ap (λ (b : Bool). b && rest) (sym (c.if-not-was_given.ensures {u = tt} P rs)))

pub returns : goal.returns
unfolding all_given
returns c = λ P rs.
    let s = state_of P rs c.args.state.now in
    sym (sym (c.loop-view.invariant P rs) ∙ end (λ (xs : List View). all_given s (map view_of xs)) c.args.views.now c.loop-view.view-index c.loop-view-test.false)
