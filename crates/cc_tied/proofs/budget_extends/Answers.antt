use Rattle.cc_tied.proofs.budget_extends.Goals as goal
use Rattle.cc_tied.proofs.Equality.Erase.{budget_of_checked, budget_of_plain}

pub returns : goal.returns
returns c = record { of_checked = budget_of_checked; of_plain = budget_of_plain }
