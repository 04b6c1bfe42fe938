use Rattle.std.proofs.Common.{rules}
use Rattle.cc_value.proofs.Cases.{truthy_bits}
use Rattle.cc_fold.proofs.choice.is_whole_true.Goals as goal

pub returns : goal.returns
returns c = truthy_bits c.args.z (search rules)
