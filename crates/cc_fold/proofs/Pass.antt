-- Folding as a pass: its cuts, what it makes of a body, what is built in, and that prices add up.
use Rattle.std.proofs.Common.{◌≡◌, refl, ap, ◌∙◌, ℕ, zero, suc, ◌+◌, Bool, [], Option, Some, None, arith}
use Rattle.cc_ast.specs.Syntax.{Stmt, Scope}
use Rattle.cc_ast.specs.declared.tree.Ref.{Ref}
use Rattle.cc_meaning.specs.State.{State}
use Rattle.cc_meaning.specs.Monad.{ret, ◌>>=◌, after, pay, paid, pay_from}
use Rattle.cc_meaning.specs.Script.{checked}
use Rattle.cc_meaning.specs.Shapes.{declared_by}
use Rattle.cc_tied.proofs.Kit.{Kit}
use Rattle.cc_tied.proofs.Laws.{said_none}
use Rattle.cc_tied.proofs.Parts.{Below}
use Rattle.cc_tied.proofs.Nodes.{SameTables}
use Rattle.cc_tied.proofs.Rewriting.{Standing}
use Rattle.cc_tied.proofs.RewritingBodies.{Rules, whole_rules}
use Rattle.cc_tied.proofs.Subsets.{Pass, rewritten}
use Rattle.cc_fold.specs.Fold.{fold, fold_scope, same_call, same_declarator, same_name, same_stmt}
use Rattle.cc_fold.specs.Walk.{fold_stmt}
use Rattle.cc_fold.proofs.Runs.{PricesAdd}

-- statements stay whole
pub fold_cuts : (K : Kit) (X : Below K) (built : Ref → Bool) (Stands : Standing K.Ctx) → SameTables K X built → ((n : ℕ) (s : Stmt) → Stands.of_stmt (K.outer n) [] s → K.DeclaresT (declared_by K.tables s) (declared_by K.tables' (fold_stmt built s))) → Rules K X built (λ c. Unit {0}) Stands fold same_call same_declarator same_name same_stmt
unfolding fold_stmt same_declarator same_name same_stmt
fold_cuts K X built Stands same declares = whole_rules K X built (λ c. Unit {0}) Stands fold same_call same declares

-- in each scope the same
unfoldable pub fold_pass : Pass
unfolding fold same_call same_declarator same_name same_stmt
fold_pass = record { step = λ f. fold; step_call = λ f. same_call; trim = λ f. same_declarator; trim_in = λ f. same_name; cut = λ f. same_stmt }

pub fold_rewritten : (built : Ref → Bool) (f : ℕ) (s : Scope) → (fold_scope built s).body ≡ rewritten built fold_pass f s.body
unfolding fold_scope fold_pass rewritten
fold_rewritten built f s = refl

-- ---- prices of the checked run

rest_from : (o : Option ℕ) (b : ℕ) (s : State) → pay_from o (record s { budget = b }) ≡ pay_from o s
unfolding pay_from
rest_from None b s = refl
rest_from (Some c) b s = refl

paid_both : (m n b : ℕ) (s : State) → after (pay_from (paid m b) s) (λ _. pay n) ≡ pay_from (paid (m + n) b) s
unfolding after pay pay_from paid
paid_both zero n b s = said_none (pay_from (paid n b) (record s { budget = b })) ∙ rest_from (paid n b) b s ∙ ap (λ z. pay_from (paid z b) s) (omega arith)
paid_both (suc m) n zero s = let e : suc (m + n) ≡ suc m + n = omega arith in ap (λ z. pay_from (paid z zero) s) e
paid_both (suc m) n (suc b) s = let e : suc (m + n) ≡ suc m + n = omega arith in paid_both m n b s ∙ ap (λ z. pay_from (paid z (suc b)) s) e

pub checked_adds : PricesAdd checked
unfolding pay pay_from paid ret ◌>>=◌
checked_adds = record {
  nothing = refl;
  together = λ m n. λ i s. paid_both m n s.budget s i;
}
