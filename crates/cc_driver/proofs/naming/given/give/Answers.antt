use Rattle.std.proofs.Common.{◌≡◌, true, refl, sym, ap, ◌∙◌}
use Rattle.cc_driver.specs.NamingSteps.{has_name}
use Rattle.cc_driver.proofs.SetLaws.{has_name-remove}
use Rattle.cc_driver.proofs.naming.given.give.Goals as goal

pub returns-then-swap_remove-clause-taken : goal.returns-then-swap_remove-clause-taken
returns-then-swap_remove-clause-taken c = λ none.
    let there : true ≡ has_name c.args.passed.now.keys c.args.name.items = c.if-swap_remove.ensures.found ∙ ap (has_name c.args.passed.now.keys) c.as_slice.ensures.value in
    absurd (cc)

pub returns-then-swap_remove-clause-passed_over : goal.returns-then-swap_remove-clause-passed_over
returns-then-swap_remove-clause-passed_over c = λ _. record {
  given = refl;
  fewer = c.if-swap_remove.ensures.len;
  others = λ other apart. has_name-remove c.args.passed.now.keys c.swap_remove.new.self.keys c.as_slice.result.now other (λ e. apart (sym c.as_slice.ensures.value ∙ e)) c.if-swap_remove.ensures.updates.3;
}
