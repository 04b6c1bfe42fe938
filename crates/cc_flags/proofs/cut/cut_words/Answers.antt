use Rattle.std.proofs.Common.{arith}
use Rattle.std.proofs.lemmas.List.{length-map}
use Rattle.std.specs.String.{string_bytes}
use Rattle.cc_flags.specs.Texts.{texts}
use Rattle.cc_flags.specs.Words.{settings_of}
use Rattle.cc_flags.proofs.CutLaws.{cut-ends}
use Rattle.cc_flags.proofs.cut.cut_words.Goals as goal

pub returns : goal.returns
returns c =
    cut-ends c.args.call (texts c.args.words.now) c.loop-at.at (settings_of c.loop-at.items.items) c.loop-at.invariant
    (omega (arith, length-map c.args.words.now (λ w. string_bytes w), c.loop-at-test.false))
