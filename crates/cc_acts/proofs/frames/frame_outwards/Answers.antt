use Rattle.std.proofs.Common.{ℕ, ◌+◌, ◌-◌, ◌∙◌, sym, ap, Option}
use Rattle.cc_meaning.specs.Store.{frame_up}
use Rattle.cc_acts.proofs.FrameLaws.{up-none, up-step, up-end}
use Rattle.cc_acts.proofs.frames.frame_outwards.Goals as goal

pub returns-in_default : goal.returns-in_default
returns-in_default c =
    sym (up-none (c.args.up - c.loop.counter) c.args.heap.now.frames) ∙ ap (λ (o : Option ℕ). frame_up (c.args.up - c.loop.counter) c.args.heap.now.frames o) (sym c.in_default.is) ∙ c.loop.invariant

pub loop-preserved : goal.loop-preserved
loop-preserved c =
    ap (λ (o : Option ℕ). frame_up (c.args.up - (c.loop.counter + 1)) c.args.heap.now.frames o) c.frame_up-at.ensures
    ∙ sym (up-step c.args.up c.loop.counter c.args.heap.now.frames c.in-Some.frame c.loop-test.true)
    ∙ ap (λ (o : Option ℕ). frame_up (c.args.up - c.loop.counter) c.args.heap.now.frames o) (sym c.in-Some.is)
    ∙ c.loop.invariant

pub returns : goal.returns
returns c = sym (up-end c.args.up c.loop.counter c.args.heap.now.frames c.loop.at c.loop-test.false) ∙ c.loop.invariant
