use Rattle.std.proofs.Common.{◌<◌, ◌/◌, length, ◌∙◌, arith}
use Rattle.std.proofs.lemmas.Grind.{get_or_default_zero}
use Rattle.cc_chunks.proofs.SetLaws.{has-insert}
use Rattle.cc_chunks.proofs.set.NumberSet.insert.Goals as goal

pub returns-clause-numbers : goal.returns-clause-numbers
returns-clause-numbers c =
    let ws = c.args.self.now.words.items in
    let within : c.args.k / 64 < length ws = omega arith in
    has-insert ws c.args.k c.index.result.now c.with_bit-word.result
    (c.index.ensures ∙ get_or_default_zero ws (c.args.k / 64) c.index.result.now within)
    (omega arith) c.with_bit-word.ensures.same c.with_bit-word.ensures.others
