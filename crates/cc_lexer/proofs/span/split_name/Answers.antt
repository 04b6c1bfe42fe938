use Rattle.std.proofs.Common.{subst, sym}
use Rattle.std.specs.Str.{chars}
use Rattle.cc_text.specs.Ends.{Ends}
use Rattle.cc_lexer.specs.Characters.{is_part}
use Rattle.cc_lexer.proofs.Runs.{behind_ends, name_is}
use Rattle.cc_lexer.proofs.span.split_name.Goals as goal

pub front-requires : goal.front-requires
front-requires c = subst (Ends (chars c.args.text.now)) (sym c.behind_name-rest.ensures) (behind_ends is_part (chars c.args.text.now))

pub returns-clause-name : goal.returns-clause-name
returns-clause-name c = name_is is_part _ _ _ c.front.ensures c.behind_name-rest.ensures
