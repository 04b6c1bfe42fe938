use Rattle.std.proofs.Common.{append_assoc, rules}
use Rattle.cc_gen.specs.Texts.{function_line}
use Rattle.cc_gen.proofs.functions.push_function.Goals as goal

pub returns-in-Builds : goal.returns-in-Builds
unfolding function_line
returns-in-Builds c = simp (append_assoc, c.in-Builds.is) (search rules)
