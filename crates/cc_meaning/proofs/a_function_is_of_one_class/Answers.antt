use Rattle.cc_meaning.proofs.a_function_is_of_one_class.Goals as goal
use Rattle.cc_meaning.proofs.ClassLaws.{own_class, code_class}

pub returns : goal.returns
returns c = record { own = own_class; code = code_class }
