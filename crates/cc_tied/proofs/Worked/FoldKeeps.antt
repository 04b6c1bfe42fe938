-- Whichever scopes of a program the small folding rewrites, the program does the same.
use Rattle.std.proofs.Common.{◌≡◌, false, Option, Some, None, is_some, refl, sym, subst}
use Rattle.cc_meaning.specs.Shapes.{tables_of}
use Rattle.cc_meaning.specs.Same.{Same}
use Rattle.cc_tied.specs.Tied.{built_of}
use Rattle.cc_tied.specs.Rewrites.{stay_call}
use Rattle.cc_tied.specs.FoldExample.{fold, is_built_in, FoldingKeeps}
use Rattle.cc_tied.proofs.Mixed.KeptPaths.{Stays}
use Rattle.cc_tied.proofs.Worked.FoldExample.{fold_rules}
use Rattle.cc_tied.proofs.Mixed.MixedSame.{same_by_scopes}
use Rattle.cc_tied.proofs.Injection.Pass.{same_tables}
use Rattle.cc_tied.specs.PlainFacts.{plain_facts}

fold_stays : Stays fold stay_call
unfolding fold stay_call
fold_stays = record { var = λ i r. refl; fun = λ i f. refl; object = λ i fs. refl; member = λ i e p. refl; assign = λ i op u e. refl; call = λ i j e p es. refl }

pub none_of : {A : Type 0} (o : Option A) → is_some o ≡ false → o ≡ None
none_of None h = refl
none_of (Some x) h = absurd (cc)

pub folding_keeps : FoldingKeeps
folding_keeps P Q W none m =
    subst (λ z. Same P z) (sym m.others)
    (same_by_scopes (is_built_in P) fold stay_call fold_stays P W none (λ r h. none_of (built_of (tables_of P) r) h) Q.scopes m.scopes
    (λ X. fold_rules _ X (is_built_in P) (same_tables (plain_facts P) P _ none (is_built_in P) (λ r h. none_of (built_of (tables_of P) r) h) X) (λ i j. tt) _))
