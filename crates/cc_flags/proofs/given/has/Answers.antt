use Rattle.std.proofs.Common.{rules, tests}
use Rattle.std.proofs.lemmas.Iterator.{YieldsList-from_slice}
use Rattle.std.proofs.lemmas.Iterator.Search.{any_from_yields_List}
use Rattle.cc_flags.specs.Flags.{same}
use Rattle.cc_flags.proofs.given.has.Goals as goal

pub returns : goal.returns
returns c = any_from_yields_List (λ g. same g c.args.flag) _ _ _ c.any.ensures.ran (YieldsList-from_slice c.args.flags.now cc) (λ x b q k. search (rules, tests))
