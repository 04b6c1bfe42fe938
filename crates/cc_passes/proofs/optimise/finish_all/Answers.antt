use Rattle.std.proofs.Common.{◌≡◌, sym, ◌∙◌, subst, suc, ◌+◌, false, true, arith}
use Rattle.cc_passes.proofs.RoundLaws.{Stands, stands_first, none_out, stands_next, optimised_last, optimised_all}
use Rattle.cc_passes.proofs.optimise.finish_all.Goals as goal

pub loop-round-init : goal.loop-round-init
loop-round-init c = subst (λ s. Stands c.args.shop.now.state.source 0 s) (sym c.requires) (stands_first c.args.shop.now.state.source)

pub finish_phase-requires-clause-none_out : goal.finish_phase-requires-clause-none_out
finish_phase-requires-clause-none_out c = none_out c.loop-round.invariant

pub returns-then-not-follows : goal.returns-then-not-follows
returns-then-not-follows c =
    let last : c.in_ok-follows.follows ≡ false = c.if-not-follows.true in
    let e = c.in_ok-follows.ensures in
    optimised_last c.args.shop.now.state.source c.loop-round._round c.loop-round.shop.state c.finish_phase.new.shop.state c.loop-round.invariant c.loop-round-test.true (sym last ∙ e.follows) e.closed

pub loop-round-preserved : goal.loop-round-preserved
loop-round-preserved c =
    let more : c.in_ok-follows.follows ≡ true = c.if-not-follows.false in
    let e = c.in_ok-follows.ensures in
    let n : suc c.loop-round._round ≡ c.loop-round._round + 1 = omega arith in
    subst (λ k. Stands c.args.shop.now.state.source k c.finish_phase.new.shop.state) n (stands_next c.args.shop.now.state.source c.loop-round._round c.loop-round.shop.state c.finish_phase.new.shop.state c.loop-round.invariant (sym more ∙ e.follows) e.closed)

pub returns : goal.returns
returns c =
    let n : c.loop-round._round ≡ 12 = (let a = c.loop-round-test.false in let b = c.loop-round.auto._round-end in omega (arith, a, b)) in
    optimised_all c.args.shop.now.state.source c.loop-round.shop.state (subst (λ k. Stands c.args.shop.now.state.source k c.loop-round.shop.state) n c.loop-round.invariant)
