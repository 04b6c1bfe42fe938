use Rattle.std.proofs.Common.{◌≡◌, ◌++◌, map}
use Rattle.cc_jsdoc.specs.Collecting.{param_shown}
use Rattle.cc_jsdoc.proofs.collect.listed.Given as goal

abbrev pub invariant-loop-name : goal.invariant-loop-name
invariant-loop-name l = l.list ++ map param_shown l.name-iterator ≡ map param_shown l.fn.params.entries
