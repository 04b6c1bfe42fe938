use Rattle.cc_flags.proofs.FormLaws.{among-by}
use Rattle.cc_flags.proofs.form.is_among.Goals as goal

pub returns-else-is_empty : goal.returns-else-is_empty
returns-else-is_empty c = among-by c.args.names.now.keys c.args.name.now c.is_empty.result c.contains.result c.is_empty.ensures c.if-is_empty.false c.contains.ensures
