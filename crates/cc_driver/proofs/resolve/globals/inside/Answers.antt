use Rattle.std.proofs.Common.{rules, arith, ◌≡◌, ◌∙◌, ap, sym, map, take, ◌++◌}
use Rattle.cc_driver.specs.Form.{declared, declared_by}
use Rattle.cc_driver.specs.Source.{global_of_main}
use Rattle.cc_driver.proofs.Resolved.{inside_more}
use Rattle.cc_driver.proofs.resolve.globals.inside.Goals as goal

pub loop-statement-preserved : goal.loop-statement-preserved
loop-statement-preserved c =
    let added : c.add_declared.new.globals ≡ c.loop-statement.globals ++ map global_of_main (declared_by c.statement-item.result) = first_of (search rules, grind arith) in
    added
    ∙ ap (λ gs. gs ++ map global_of_main (declared_by c.statement-item.result)) c.loop-statement.invariant
    ∙ ap (λ s. map global_of_main (declared (take c.loop-statement.statement-index c.args.statements.now)) ++ map global_of_main (declared_by s)) c.statement-item.is
    ∙ sym (inside_more c.args.statements.now c.loop-statement.statement-index c.statement-item.result c.loop-statement-test.true)
