use Rattle.std.proofs.Common.{arith}
use Rattle.std.proofs.lemmas.Str.{lead_after_ascii}
use Rattle.cc_text.proofs.EscapeLemmas.{goes_on}
use Rattle.cc_text.proofs.escapes.read_escape.Goals as goal

pub range_from-rest-requires : goal.range_from-rest-requires
range_from-rest-requires c = λ _. (omega arith, lead_after_ascii c.args.text.now c.args.at c.utf8.text (omega arith))

pub overflow_sub-result : goal.overflow_sub-result
overflow_sub-result c = (goes_on c.args.text.now c.range_from-rest.result.now _ c.in-Unit.behind.now c.args.at c.range_from-rest.ensures.value c.range_from-rest.utf8 c.in-Unit.ensures).1

pub overflow_sub-result-in-Pair : goal.overflow_sub-result-in-Pair
overflow_sub-result-in-Pair c = (goes_on c.args.text.now c.range_from-rest.result.now _ c.in-Pair.behind.now c.args.at c.range_from-rest.ensures.value c.range_from-rest.utf8 c.in-Pair.ensures).1

pub overflow_sub-result-in-Nothing : goal.overflow_sub-result-in-Nothing
overflow_sub-result-in-Nothing c = (goes_on c.args.text.now c.range_from-rest.result.now _ c.in-Nothing.behind.now c.args.at c.range_from-rest.ensures.value c.range_from-rest.utf8 c.in-Nothing.ensures).1

pub returns-in-Unit : goal.returns-in-Unit
returns-in-Unit c = (goes_on c.args.text.now c.range_from-rest.result.now _ c.in-Unit.behind.now c.args.at c.range_from-rest.ensures.value c.range_from-rest.utf8 c.in-Unit.ensures).0

pub returns-in-Pair : goal.returns-in-Pair
returns-in-Pair c = (goes_on c.args.text.now c.range_from-rest.result.now _ c.in-Pair.behind.now c.args.at c.range_from-rest.ensures.value c.range_from-rest.utf8 c.in-Pair.ensures).0

pub returns-in-Nothing : goal.returns-in-Nothing
returns-in-Nothing c = (goes_on c.args.text.now c.range_from-rest.result.now _ c.in-Nothing.behind.now c.args.at c.range_from-rest.ensures.value c.range_from-rest.utf8 c.in-Nothing.ensures).0
