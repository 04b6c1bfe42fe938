use Rattle.std.proofs.Common.{sym, ap, ◌∙◌}
use Rattle.std.specs.Option.{option_copied}
use Rattle.cc_flags.specs.Words.{settings_of}
use Rattle.cc_flags.proofs.JobLaws.{workers-wrong}
use Rattle.cc_flags.proofs.read.workers.Goals as goal

pub returns-in-None : goal.returns-in-None
returns-in-None c =
    workers-wrong (settings_of c.args.items.now) c.in-Some.text.now c.decimal_within.result c.requires (sym c.last_value.ensures ∙ ap option_copied c.in-Some.is) c.decimal_within.ensures c.in-None.is
