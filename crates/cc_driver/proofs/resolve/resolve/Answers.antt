use Rattle.std.proofs.Common.{◌≡◌, ◌<◌, ◌^◌, ◌∙◌, ap, sym, subst, length, IfOk}
use Rattle.std.specs.List.{IsDistinct}
use Rattle.std.specs.Str.{bytes_eq}
use Rattle.cc_driver.specs.Reach.{names_of}
use Rattle.cc_driver.proofs.Resolved.{names_of_globals, globals_few, places_fit, resolved}
use Rattle.cc_driver.proofs.SourceLaws.{globals_distinct}
use Rattle.cc_driver.proofs.resolve.resolve.Goals as goal

pub body_of-requires-clause-distinct : goal.body_of-requires-clause-distinct
body_of-requires-clause-distinct c =
    let names = ap names_of c.in_ok-globals.ensures ∙ names_of_globals c.args.externs.now c.args.statements.now in
    subst (IsDistinct bytes_eq) (sym names) (globals_distinct c.requires.of_externs.0 c.args.externs.now c.requires.of_source.0 c.args.statements.now c.requires.of_externs.1 c.requires.of_source.2)

pub body_of-requires-clause-names : goal.body_of-requires-clause-names
body_of-requires-clause-names c =
    let names = ap names_of c.in_ok-globals.ensures ∙ names_of_globals c.args.externs.now c.args.statements.now in
    subst (λ ns. length ns < 2 ^ 32) (sym names) (globals_few c.requires.of_externs.0 c.args.externs.now c.requires.of_source.0 c.args.statements.now c.requires.of_externs.1 c.requires.of_source.2)

pub body_of-requires-clause-places : goal.body_of-requires-clause-places
body_of-requires-clause-places c = places_fit c.args.externs.now c.requires.of_source.0 c.args.statements.now c.requires.of_source.2

pub returns : goal.returns
returns c =
    let same = resolved c.args.externs.now c.args.size c.args.statements.now c.in_ok-globals.globals c.in_ok-body.body c.in_ok-globals.ensures c.in_ok-body.ensures in
    subst (λ p. IfOk c.program_with.result (λ program. program ≡ p)) same c.program_with.ensures
