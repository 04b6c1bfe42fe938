use Rattle.std.proofs.Common.{arith, ap, ◌∙◌, bytes_eq, ◌||◌}
use Rattle.cc_driver.specs.NamingSteps.{has_name}
use Rattle.cc_driver.proofs.SetLaws.{words_turn}
use Rattle.cc_driver.proofs.naming.passed.add_words.Goals as goal

pub loop-word-preserved : goal.loop-word-preserved
loop-word-preserved c = λ name.
    words_turn name c.args.words.now c.loop-word.word-index _ c.as_bytes.result.now (omega arith) c.as_bytes.ensures.value
    (has_name c.loop-word.passed.keys name) (has_name c.add_name.new.passed.keys name) (has_name c.args.passed.now.keys name) (c.loop-word.invariant name)
    (c.in_ok-add_name.ensures name ∙ ap (λ word. has_name c.loop-word.passed.keys name || bytes_eq name word) c.in_ok-name.ensures)
