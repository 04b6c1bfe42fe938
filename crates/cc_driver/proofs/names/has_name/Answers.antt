use Rattle.std.proofs.Common.{rules, ◌≡◌, ap, ◌∙◌, arith}
use Rattle.cc_driver.specs.Names.{is_in}
use Rattle.cc_driver.specs.FormChecks.{names_in}
use Rattle.cc_driver.proofs.Tables.{table_has}
use Rattle.cc_driver.proofs.names.has_name.Goals as goal

pub returns : goal.returns
returns c =
    let same : c.as_slice.result.now ≡ c.args.name.now = first_of (cc, search rules, grind arith) in
    c.contains.ensures ∙ table_has c.as_slice.result.now c.args.table.now.keys ∙ ap (λ n. is_in n (names_in c.args.table.now)) same
