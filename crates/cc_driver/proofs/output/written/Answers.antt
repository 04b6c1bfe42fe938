use Rattle.std.proofs.Common.{sym, ◌∙◌}
use Rattle.cc_driver.proofs.NamingLaws.{names-ASCII}
use Rattle.cc_driver.proofs.output.written.Goals as goal

pub unreachable-requires : goal.unreachable-requires
unreachable-requires c = c.requires.spelled (sym c.in_ok-pieces.ensures ∙ c.in_default.is)

pub text-requires : goal.text-requires
text-requires c = names-ASCII c.args.program.now c.in-Some.pieces c.in_ok-names.names c.in_ok-names.ensures c.requires.ascii

pub returns : goal.returns
returns c = record {
  pieces = c.in-Some.pieces;
  names = c.in_ok-names.names;
  spelled = sym c.in_ok-pieces.ensures ∙ c.in-Some.is;
  named = c.in_ok-names.ensures;
  text = c.in_ok-text.ensures;
}
