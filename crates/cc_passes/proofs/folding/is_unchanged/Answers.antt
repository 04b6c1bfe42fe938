use Rattle.cc_passes.proofs.CodeLaws.{same_test}
use Rattle.cc_passes.proofs.folding.is_unchanged.Goals as goal

pub returns : goal.returns
returns c = rw (← c.before-2.view_is, ← c.after.view_is) (same_test c.same_scopes.result _ _ c.same_scopes.ensures)
