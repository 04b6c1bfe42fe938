use Rattle.std.proofs.Common.{arith, ◌≡◌, ◌<◌, ◌∙◌, ap, sym, cond, false, take, length, get_or, ◌++◌, ◌∷◌, []}
use Rattle.cc_driver.specs.Names.{is_in}
use Rattle.cc_driver.specs.FormChecks.{names_in}
use Rattle.cc_driver.specs.Reach.{names_of}
use Rattle.cc_driver.proofs.Resolved.{next_is_new, names_more}
use Rattle.cc_driver.proofs.resolve.globals.global_table.Goals as goal

pub loop-global-preserved : goal.loop-global-preserved
loop-global-preserved c =
    let gs = c.args.globals.now in
    let i = c.loop-global.global-index in
    let g = c.global-item.result in
    let same = c.as_slice-global-items.ensures in
    let lt : i < length gs = omega (arith, ap length same) in
    let at : g ≡ get_or gs i g = c.global-item.is ∙ ap (λ t. get_or t i g) same in
    let fresh : is_in g.name (names_of (take i gs)) ≡ false = ap (λ x. is_in x.name (names_of (take i gs))) at ∙ next_is_new gs i g lt c.requires in
    let new : is_in g.name (names_in c.loop-global.table) ≡ false = ap (is_in g.name) c.loop-global.invariant ∙ fresh in
    c.in-Ok.ensures.names
    ∙ ap (λ b. cond b (names_in c.loop-global.table) (names_in c.loop-global.table ++ g.name ∷ [])) new
    ∙ ap (λ names. names ++ g.name ∷ []) c.loop-global.invariant
    ∙ ap (λ x. names_of (take i gs) ++ x.name ∷ []) at
    ∙ sym (names_more gs i g lt)
