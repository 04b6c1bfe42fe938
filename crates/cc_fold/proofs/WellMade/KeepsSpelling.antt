-- Whichever scopes of a program are folded, its labels and properties can be written as before.
use Rattle.std.proofs.Common.{ℕ, List, sym, subst}
use Rattle.cc_ast.specs.Syntax.{Scope, Program}
use Rattle.cc_meaning.specs.Alike.{In, ListT}
use Rattle.cc_meaning.specs.Shapes.{tables_of}
use Rattle.cc_meaning.specs.Spelled.{IsSpelled}
use Rattle.cc_fold.specs.Law.{FoldingKeepsSpelling}
use Rattle.cc_fold.proofs.WellMade.FoldedScopes.{folded_follow}
use Rattle.cc_fold.proofs.WellMade.FollowingScopes.{Follows, before}
use Rattle.cc_fold.proofs.WellMade.FollowingParts.{part_before}

spelled_after : (Identifier Name : List ℕ → Type 0) (P : Program) (ts : List Scope) → ListT (Follows (tables_of P)) P.scopes ts → IsSpelled Identifier Name P → IsSpelled Identifier Name (record P { scopes = ts })
spelled_after Identifier Name P ts F h = record {
  labels = λ f t l e i. let b = before (tables_of P) F f t e in h.labels f b.scope l b.stands (subst (λ z. In l z) b.follows.labels i);
  props = λ f n p i e. h.props f n p (part_before P ts F f _ i) e;
}

pub folding_keeps_spelling : (Identifier Name : List ℕ → Type 0) → FoldingKeepsSpelling Identifier Name
folding_keeps_spelling Identifier Name P Q m h = subst (IsSpelled Identifier Name) (sym m.others) (spelled_after Identifier Name P Q.scopes (folded_follow P Q.scopes m.scopes) h)
