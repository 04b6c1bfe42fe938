use Rattle.std.proofs.Common.{rules, ◌≡◌, ap, ◌∙◌, not, cond, ◌++◌, ◌∷◌, [], arith}
use Rattle.cc_driver.specs.Names.{is_in}
use Rattle.cc_driver.specs.FormChecks.{names_in}
use Rattle.cc_driver.proofs.Tables.{table_has, table_enters, shown}
use Rattle.cc_driver.proofs.names.enter_name.Goals as goal

pub returns-clause-new : goal.returns-clause-new
returns-clause-new c =
    let same : c.as_slice.result.now ≡ c.args.name.now = first_of (cc, search rules, grind arith) in
    let new : c.in_ok-is_new.is_new ≡ not (is_in c.as_slice.result.now (names_in c.args.table.now)) = c.in_ok-is_new.ensures.added ∙ ap not (table_has c.as_slice.result.now c.args.table.now.keys) in
    new ∙ ap (λ n. not (is_in n (names_in c.args.table.now))) same

pub returns-clause-names : goal.returns-clause-names
returns-clause-names c =
    let same : c.as_slice.result.now ≡ c.args.name.now = first_of (cc, search rules, grind arith) in
    ap shown c.in_ok-is_new.ensures.keys ∙ table_enters c.as_slice.result c.args.table.now.keys
    ∙ ap (λ n. cond (is_in n (names_in c.args.table.now)) (names_in c.args.table.now) (names_in c.args.table.now ++ n ∷ [])) same
