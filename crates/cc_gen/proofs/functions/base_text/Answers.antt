use Rattle.std.proofs.Common.{◌++◌, refl, sym, ◌∙◌}
use Rattle.cc_gen.specs.Draws.{state}
use Rattle.cc_gen.specs.Texts.{draws_before, function_line}
use Rattle.cc_gen.proofs.TextLaws.{base_text-none, base_text-more}
use Rattle.cc_gen.proofs.functions.base_text.Goals as goal

pub loop-i-init : goal.loop-i-init
unfolding state draws_before
loop-i-init c = record { text = c.new-text.ensures.bytes ∙ sym (base_text-none c.args.draws.now.state); draws = refl }

pub loop-i-preserved : goal.loop-i-preserved
loop-i-preserved c =
    let seed = c.args.draws.now.state in
    record {
      text = c.in_ok-push_function.ensures
          ∙ (λ t. c.loop-i.invariant.text t ++ function_line c.loop-i.i (c.draw_kind-kind.ensures.kind seed c.loop-i.invariant.draws t))
          ∙ sym (base_text-more seed c.loop-i.i);
      draws = c.draw_kind-kind.ensures.state seed c.loop-i.invariant.draws;
    }
