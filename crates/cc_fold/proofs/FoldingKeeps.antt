-- Whichever scopes of a well made program are folded, it does the same.
use Rattle.std.proofs.Common.{refl, sym, subst}
use Rattle.cc_meaning.specs.Same.{Same}
use Rattle.cc_tied.specs.PlainFacts.{plain_facts}
use Rattle.cc_tied.proofs.Mixed.KeptPaths.{Stays}
use Rattle.cc_tied.proofs.Mixed.MixedSame.{same_by_scopes}
use Rattle.cc_tied.proofs.Injection.Pass.{same_tables}
use Rattle.cc_fold.specs.Built.{built_globals, built_in}
use Rattle.cc_fold.specs.Fold.{fold, same_call, same_declarator, same_name, same_stmt}
use Rattle.cc_fold.specs.Law.{FoldingKeeps}
use Rattle.cc_fold.proofs.BuiltLaw.{plan_lacks}
use Rattle.cc_fold.proofs.Law.{fold_rules}
use Rattle.cc_fold.proofs.Pass.{checked_adds}

fold_stays : Stays fold same_call
unfolding fold same_call
fold_stays = record { var = λ i r. refl; fun = λ i f. refl; object = λ i fs. refl; member = λ i e p. refl; assign = λ i op u e. refl; call = λ i j e p es. refl }

pub folding_keeps : FoldingKeeps
unfolding same_declarator same_name same_stmt
folding_keeps P Q W none m =
    subst (λ z. Same P z) (sym m.others)
    (same_by_scopes (built_in (built_globals P)) fold same_call fold_stays P W none (plan_lacks P) Q.scopes m.scopes
    (λ X. fold_rules _ X (built_in (built_globals P)) (same_tables (plain_facts P) P _ none (built_in (built_globals P)) (plan_lacks P) X) (λ i j. tt) checked_adds _))
