-- Back from plain trees to those of src/. It serves one end: a plain tree is known by the tree
-- that it stands for, which is the code that the models of `Scope` and `Program` owe.
use Rattle.std.specs.Prelude.{◌≡◌, List, [], ◌∷◌}
use Rattle.std.proofs.Common.{ap, ◌∙◌}
use Rattle.cc_ast.specs.declared.tree.Expr.{Expr}
use Rattle.cc_ast.specs.declared.tree.Expr.TheVariants as V
use Rattle.cc_ast.specs.declared.tree.Target.{Target}
use Rattle.cc_ast.specs.declared.tree.Target.TheVariants as W
use Rattle.cc_ast.specs.declared.tree.Key.{Key}
use Rattle.cc_ast.specs.Syntax as S
use Rattle.cc_ast.specs.Bridge.{term, terms, term_fields, target}
use Rattle.cc_ast.specs.Terms as T

abbrev mutual
  pub tree : S.Expr → Expr
  tree (S.lit s S.undefined) = V.Undefined s
  tree (S.lit s S.null) = V.Null s
  tree (S.lit s (S.truth b)) = V.Truth s b
  tree (S.lit s (S.whole n)) = V.Whole s n
  tree (S.lit s (S.text t)) = V.Text s t
  tree (S.var s r) = V.Var s r
  tree (S.this s) = V.This s
  tree (S.fun s f) = V.Fun s f
  tree (S.list s es) = V.List s (trees es)
  tree (S.object s fs) = V.Object s (field_trees fs)
  tree (S.unary s op a) = V.Unary s op (tree a)
  tree (S.binary s op a b) = V.Binary s op (tree a) (tree b)
  tree (S.and s a b) = V.And s (tree a) (tree b)
  tree (S.or s a b) = V.Or s (tree a) (tree b)
  tree (S.cond s t a b) = V.Cond s (tree t) (tree a) (tree b)
  tree (S.assign s op t a) = V.Assign s op (target_tree t) (tree a)
  tree (S.step s up prefix t) = V.Step s up prefix (target_tree t)
  tree (S.member s a p) = V.Member s (tree a) p
  tree (S.index s a b) = V.Index s (tree a) (tree b)
  tree (S.call s f es) = V.Call s (tree f) (trees es)
  tree (S.new s f es) = V.New s (tree f) (trees es)
  tree (S.comma s a b) = V.Comma s (tree a) (tree b)
  tree (S.cast s d a) = V.Cast s d (tree a)
  tree (S.tick s p a) = V.Tick s p (tree a)

  pub target_tree : S.Target → Target
  target_tree (S.to_var s r) = W.Variable s r
  target_tree (S.to_member s a p) = W.Dotted s (tree a) p
  target_tree (S.to_index s a b) = W.Bracketed s (tree a) (tree b)

  pub trees : S.Exprs → List Expr
  trees S.no_exprs = []
  trees (S.more_exprs e es) = tree e ∷ trees es

  pub field_trees : S.Fields → List (Key × Expr)
  field_trees S.no_fields = []
  field_trees (S.more_fields k e fs) = (k, tree e) ∷ field_trees fs

mutual
  pub term-tree : (e : S.Expr) → term (tree e) ≡ e
  term-tree (S.lit s S.undefined) = T.term-Undefined s
  term-tree (S.lit s S.null) = T.term-Null s
  term-tree (S.lit s (S.truth b)) = T.term-Truth s b
  term-tree (S.lit s (S.whole n)) = T.term-Whole s n
  term-tree (S.lit s (S.text t)) = T.term-Text s t
  term-tree (S.var s r) = T.term-Var s r
  term-tree (S.this s) = T.term-This s
  term-tree (S.fun s f) = T.term-Fun s f
  term-tree (S.list s es) = T.term-List s (trees es) ∙ ap (λ x. S.list s x) (terms-trees es)
  term-tree (S.object s fs) = T.term-Object s (field_trees fs) ∙ ap (λ x. S.object s x) (fields-trees fs)
  term-tree (S.unary s op a) = T.term-Unary s op (tree a) ∙ ap (λ x. S.unary s op x) (term-tree a)
  term-tree (S.binary s op a b) = T.term-Binary s op (tree a) (tree b) ∙ ap (λ x. S.binary s op x (term (tree b))) (term-tree a) ∙ ap (λ x. S.binary s op a x) (term-tree b)
  term-tree (S.and s a b) = T.term-And s (tree a) (tree b) ∙ ap (λ x. S.and s x (term (tree b))) (term-tree a) ∙ ap (λ x. S.and s a x) (term-tree b)
  term-tree (S.or s a b) = T.term-Or s (tree a) (tree b) ∙ ap (λ x. S.or s x (term (tree b))) (term-tree a) ∙ ap (λ x. S.or s a x) (term-tree b)
  term-tree (S.cond s t a b) = T.term-Cond s (tree t) (tree a) (tree b) ∙ ap (λ x. S.cond s x (term (tree a)) (term (tree b))) (term-tree t) ∙ ap (λ x. S.cond s t x (term (tree b))) (term-tree a) ∙ ap (λ x. S.cond s t a x) (term-tree b)
  term-tree (S.assign s op t a) = T.term-Assign s op (target_tree t) (tree a) ∙ ap (λ x. S.assign s op x (term (tree a))) (target-tree t) ∙ ap (λ x. S.assign s op t x) (term-tree a)
  term-tree (S.step s up prefix t) = T.term-Step s up prefix (target_tree t) ∙ ap (λ x. S.step s up prefix x) (target-tree t)
  term-tree (S.member s a p) = T.term-Member s (tree a) p ∙ ap (λ x. S.member s x p) (term-tree a)
  term-tree (S.index s a b) = T.term-Index s (tree a) (tree b) ∙ ap (λ x. S.index s x (term (tree b))) (term-tree a) ∙ ap (λ x. S.index s a x) (term-tree b)
  term-tree (S.call s f es) = T.term-Call s (tree f) (trees es) ∙ ap (λ x. S.call s x (terms (trees es))) (term-tree f) ∙ ap (λ x. S.call s f x) (terms-trees es)
  term-tree (S.new s f es) = T.term-New s (tree f) (trees es) ∙ ap (λ x. S.new s x (terms (trees es))) (term-tree f) ∙ ap (λ x. S.new s f x) (terms-trees es)
  term-tree (S.comma s a b) = T.term-Comma s (tree a) (tree b) ∙ ap (λ x. S.comma s x (term (tree b))) (term-tree a) ∙ ap (λ x. S.comma s a x) (term-tree b)
  term-tree (S.cast s d a) = T.term-Cast s d (tree a) ∙ ap (λ x. S.cast s d x) (term-tree a)
  term-tree (S.tick s p a) = T.term-Tick s p (tree a) ∙ ap (λ x. S.tick s p x) (term-tree a)

  pub target-tree : (t : S.Target) → target (target_tree t) ≡ t
  target-tree (S.to_var s r) = T.target-Variable s r
  target-tree (S.to_member s a p) = T.target-Dotted s (tree a) p ∙ ap (λ x. S.to_member s x p) (term-tree a)
  target-tree (S.to_index s a b) = T.target-Bracketed s (tree a) (tree b) ∙ ap (λ x. S.to_index s x (term (tree b))) (term-tree a) ∙ ap (λ x. S.to_index s a x) (term-tree b)

  pub terms-trees : (es : S.Exprs) → terms (trees es) ≡ es
  terms-trees S.no_exprs = T.terms-empty
  terms-trees (S.more_exprs e es) = T.terms-more (tree e) (trees es) ∙ ap (λ x. S.more_exprs x (terms (trees es))) (term-tree e) ∙ ap (λ x. S.more_exprs e x) (terms-trees es)

  pub fields-trees : (fs : S.Fields) → term_fields (field_trees fs) ≡ fs
  fields-trees S.no_fields = T.term_fields-empty
  fields-trees (S.more_fields k e fs) = T.term_fields-more (k, tree e) (field_trees fs) ∙ ap (λ x. S.more_fields k x (term_fields (field_trees fs))) (term-tree e) ∙ ap (λ x. S.more_fields k e x) (fields-trees fs)
