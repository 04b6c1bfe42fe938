use Rattle.std.proofs.Common.{reverse}
use Rattle.std.specs.Str.{chars}
use Rattle.cc_jsdoc.proofs.ViewLemmas.{none_at_end}
use Rattle.cc_jsdoc.proofs.begin.begin.Goals as goal

pub returns-in-None-clause-keeps : goal.returns-in-None-clause-keeps
returns-in-None-clause-keeps c ts = let old = c.args.reading.now in none_at_end (reverse old.stack.items) old.alternatives.items ts (chars c.args.text.now) c.in-None.ensures.value
