use Rattle.std.proofs.Common.{◌∙◌, ap, map}
use Rattle.cc_jsdoc.specs.Collecting.{param_shown}
use Rattle.cc_jsdoc.specs.Docs.{with_param}
use Rattle.cc_jsdoc.proofs.CollectLemmas.{insert_shown}
use Rattle.cc_jsdoc.proofs.collect.insert.Goals as goal

pub returns : goal.returns
returns c =
    let old = c.args.params.now.entries in
    ap (map param_shown) c.in_ok-insert.ensures.entries ∙ insert_shown old c.param.inside.0.0.list c.param.inside.0.1.0 ∙ ap (with_param (map param_shown old)) c.param.view_is
