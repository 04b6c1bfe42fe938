use Rattle.std.proofs.Common.{subst, sym}
use Rattle.std.specs.Str.{chars}
use Rattle.cc_text.specs.Ends.{Ends}
use Rattle.cc_text.specs.Whole.{is_digit_in}
use Rattle.cc_lexer.proofs.Runs.{behind_ends, name_is}
use Rattle.cc_lexer.proofs.span.digits.Goals as goal

pub front-requires : goal.front-requires
front-requires c = subst (Ends (chars c.args.text.now)) (sym c.behind_digits.ensures) (behind_ends (is_digit_in c.args.base) (chars c.args.text.now))

pub returns : goal.returns
returns c = name_is (is_digit_in c.args.base) _ _ _ c.front.ensures c.behind_digits.ensures
