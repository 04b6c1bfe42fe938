use Rattle.std.proofs.Common.{sym, ap, ◌∙◌}
use Rattle.std.specs.Option.{option_copied}
use Rattle.cc_flags.specs.Words.{settings_of}
use Rattle.cc_flags.proofs.JobLaws.{bound-is}
use Rattle.cc_flags.proofs.read.bound.Goals as goal

pub returns-in-Some : goal.returns-in-Some
returns-in-Some c =
    bound-is (settings_of c.args.items.now) c.in-Some.text.now c.unwrap_or.result c.bound_of.result c.requires (sym c.last_value.ensures ∙ ap option_copied c.in-Some.is) c.bound_of.ensures c.unwrap_or.ensures
