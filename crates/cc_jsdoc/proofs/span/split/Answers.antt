use Rattle.std.proofs.Common.{subst, sym}
use Rattle.std.specs.Str.{chars}
use Rattle.cc_text.specs.Ends.{Ends}
use Rattle.cc_lexer.proofs.Runs.{behind_ends, name_is}
use Rattle.cc_jsdoc.specs.Classes.{is_in}
use Rattle.cc_jsdoc.proofs.span.split.Goals as goal

pub front-requires : goal.front-requires
front-requires c = subst (Ends (chars c.args.text.now)) (sym c.behind-rest.ensures.value) (behind_ends (is_in c.args.class) (chars c.args.text.now))

pub returns-clause-front : goal.returns-clause-front
returns-clause-front c = name_is (is_in c.args.class) _ _ _ c.front.ensures c.behind-rest.ensures.value
