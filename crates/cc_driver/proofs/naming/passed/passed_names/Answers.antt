use Rattle.std.proofs.Common.{refl}
use Rattle.cc_driver.proofs.PassedLaws.{passed_made}
use Rattle.cc_driver.proofs.naming.passed.passed_names.Goals as goal

pub returns : goal.returns
returns c = λ name.
    passed_made name c.args.globals.now c.new-passed.result.keys c.add_words.new.passed.keys c.add_names.new.passed.keys _ c.new-passed.ensures.empty
    (c.in-Ok.ensures name) (c.in-Ok-add_names.ensures name) refl
