use Rattle.std.proofs.Common.{◌∙◌, ap}
use Rattle.std.specs.Str.{chars}
use Rattle.cc_jsdoc.proofs.CollectLemmas.{told_by}
use Rattle.cc_jsdoc.proofs.read_doc.Goals as goal

pub returns : goal.returns
returns c = told_by c.args.comment.now (chars c.as_str.result.now) c.in_ok-tags.tags.items c.doc_of.result c.in_ok-tags.ensures (ap chars c.as_str.ensures.value ∙ c.in_ok-text.ensures) c.doc_of.ensures
