use Rattle.std.proofs.Common.{◌+◌, ◌++◌, sym, ap, ◌∙◌, add_assoc, add-zero}
use Rattle.cc_gen.specs.Draws.{state}
use Rattle.cc_gen.specs.Texts.{call_line}
use Rattle.cc_gen.proofs.TextLaws.{calls_text-none, calls_text-more}
use Rattle.cc_gen.proofs.calls.calls_text.Goals as goal

pub loop-init : goal.loop-init
loop-init c = record {
  text = λ seed first at. c.new-text.ensures.bytes ∙ sym (calls_text-none seed c.args.size c.args.argument first);
  draws = λ seed first at. at ∙ ap (state seed) (sym (add-zero first));
}

pub loop-preserved : goal.loop-preserved
loop-preserved c = record {
  text = λ seed first at.
      c.in_ok-push_call.ensures
      ∙ (λ t. c.loop.invariant.text seed first at t ++ call_line c.args.argument (c.draw-j.ensures.value seed (first + c.loop.counter) (c.loop.invariant.draws seed first at) t))
      ∙ sym (calls_text-more seed c.args.size c.args.argument first c.loop.counter);
  draws = λ seed first at.
      c.draw-j.ensures.state seed (first + c.loop.counter) (c.loop.invariant.draws seed first at)
      ∙ ap (state seed) (add_assoc first c.loop.counter 1);
}
