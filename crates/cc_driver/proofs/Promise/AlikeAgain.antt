-- The trees of what is read again are alike to those of the source.
use Rattle.std.proofs.Common.{◌≡◌, ℕ, zero, suc, ◌+◌, ◌<◌, List, [], ◌∷◌, length, map, refl, sym, ◌∙◌, subst, ◌⊎◌, inl, inr, arith}
use Rattle.cc_ast.specs.declared.tree.Ref.TheVariants as ref
use Rattle.cc_ast.specs.Syntax as S
use Rattle.cc_ast.specs.Bridge.{exprs}
use Rattle.cc_ast.specs.StmtBridge.{stmts}
use Rattle.cc_ast.specs.declared.operator.BinOp.TheVariants.{Add}
use Rattle.cc_meaning.specs.State.{Tables}
use Rattle.cc_meaning.specs.Alike.{In, here, there, ListT, nil_t, cons_t, OptT, some_t, none_t, Paired, OneToOne, Numbering, RefA, ExprA, ExprsA, StmtA, StmtsA, DeclA}
use Rattle.cc_meaning.specs.Alike as alike
use Rattle.cc_driver.specs.Source.{number_of, operand_tree, chain_tree, value_tree, statement_tree}
use Rattle.cc_driver.specs.declared.form.Operand.{Operand}
use Rattle.cc_driver.specs.declared.form.Operand.TheVariants.{Named, Text, Whole}
use Rattle.cc_driver.specs.declared.form.Added.{Added}
use Rattle.cc_driver.specs.declared.form.Value.{Value}
use Rattle.cc_driver.specs.declared.form.Statement.{Statement}
use Rattle.cc_driver.specs.declared.form.Statement.TheVariants.{Declares, Calls}
use Rattle.cc_driver.specs.Again.{operand_text, value_text, statement_text, operand_again, more_again, value_again, values_again, statement_again, statements_again}
use Rattle.cc_driver.specs.Sound.{OperandFit, MoreFit, ValueFit, ValuesFit, StatementFit, StatementsFit}

-- each number below n, paired with itself
abbrev pub pairs : ℕ → List (ℕ × ℕ)
pairs zero = []
pairs (suc n) = (n, n) ∷ pairs n

pub paired_within : (n k : ℕ) → k < n → Paired (pairs n) k k
paired_within zero k l = absurd (omega arith)
paired_within (suc n) k l = by (at_or_below n k (omega arith)) (paired_within n k)
  where
    at_or_below : (m i : ℕ) → i < suc m → (m ≡ i) ⊎ (i < m)
    at_or_below m i h = grind arith

    by : (n ≡ k) ⊎ (k < n) → (k < n → Paired (pairs n) k k) → In (k, k) ((n, n) ∷ pairs n)
    by (inl e) less = subst (λ j. In (j, j) ((n, n) ∷ pairs n)) e here
    by (inr h) less = there (less h)

pair_in : (n : ℕ) (p : ℕ × ℕ) → In p (pairs n) → p.0 ≡ p.1
pair_in zero p h = elim h [ ]
pair_in (suc n) p here = refl
pair_in (suc n) p (there g) = pair_in n p g

pub paired_same : (n m k : ℕ) → Paired (pairs n) m k → m ≡ k
paired_same n m k h = pair_in n (m, k) h

pub pairs_once : (n : ℕ) → OneToOne (pairs n)
pairs_once n = record {
  left = λ m k k' h g. sym (paired_same n m k h) ∙ paired_same n m k' g;
  right = λ m m' k h g. paired_same n m k h ∙ sym (paired_same n m' k g);
}

-- no functions, and each global by its own number
abbrev pub by_number : ℕ → Numbering
by_number n = record { functions = []; around = λ p. []; places = λ p. []; globals = pairs n }

module _ (A B : Tables) (old new : List (List ℕ)) (f : List ℕ → List ℕ) (C Q : List ℕ → Type 0)
    (c : (x : List ℕ) → C x → In x old) (q : (x : List ℕ) → Q x → In x old)
    (same : (x : List ℕ) → In x old → number_of new (f x) ≡ number_of old x)
    (within : (x : List ℕ) → In x old → number_of old x < length old) where
  ref_again : (x : List ℕ) → In x old → RefA A B (by_number (length old)) [] (ref.Global (number_of old x)) (ref.Global (number_of new (f x)))
  ref_again x h =
      subst (λ k. RefA A B (by_number (length old)) [] (ref.Global (number_of old x)) (ref.Global k)) (sym (same x h)) (alike.global_a (paired_within (length old) (number_of old x) (within x h)))

  operand_alike : (at : ℕ) (o : Operand) → OperandFit C Q o → ExprA A B (by_number (length old)) [] (operand_tree old o) (operand_tree new (operand_again f at o))
  operand_alike at (Named s n) h = alike.var_a (ref_again n (q n h))
  operand_alike at (Text s t) h = alike.lit_a
  operand_alike at (Whole s z) h = alike.lit_a

  chain_alike : (at : ℕ) (d e : S.Expr) (ms : List Added) → ExprA A B (by_number (length old)) [] d e → MoreFit C Q ms
      → ExprA A B (by_number (length old)) [] (chain_tree old d ms) (chain_tree new e (more_again f at ms))
  chain_alike at d e [] k h = k
  chain_alike at d e (m ∷ ms) k h =
      chain_alike (at + 1 + length (operand_text f m.operand)) (S.binary m.plus Add d (operand_tree old m.operand)) (S.binary at Add e (operand_tree new (operand_again f (at + 1) m.operand))) ms
      (alike.binary_a k (operand_alike (at + 1) m.operand h.0)) h.1

  value_alike : (at : ℕ) (v : Value) → ValueFit C Q v → ExprA A B (by_number (length old)) [] (value_tree old v) (value_tree new (value_again f at v))
  value_alike at v h =
      chain_alike (at + length (operand_text f v.first)) (operand_tree old v.first) (operand_tree new (operand_again f at v.first)) v.more (operand_alike at v.first h.0) h.1.0

  values_alike : (at : ℕ) (vs : List Value) → ValuesFit C Q vs → ExprsA A B (by_number (length old)) [] (exprs (map (value_tree old) vs)) (exprs (map (value_tree new) (values_again f at vs)))
  unfolding exprs
  values_alike at [] h = alike.no_exprs_a
  values_alike at (v ∷ vs) h = alike.more_exprs_a (value_alike at v h.0) (values_alike (at + length (value_text f v) + 1) vs h.1)

  statement_alike : (at : ℕ) (s : Statement) → StatementFit C Q s → StmtA A B (by_number (length old)) [] (statement_tree old s) (statement_tree new (statement_again f at s))
  statement_alike at (Declares k n v) h =
      alike.vars_a (cons_t (record { variable = ref_again n (q n h.0); value = some_t (value_alike (at + 5 + length (f n)) v h.1) }) nil_t)
  statement_alike at (Calls k n vs) h = alike.simple_a (alike.call_a (alike.var_a (ref_again n (c n h.0))) (values_alike (at + length (f n) + 1) vs h.1))

  pub statements_alike : (at : ℕ) (ss : List Statement) → StatementsFit C Q ss
      → StmtsA A B (by_number (length old)) [] (stmts (map (statement_tree old) ss)) (stmts (map (statement_tree new) (statements_again f at ss)))
  unfolding stmts
  statements_alike at [] h = alike.no_stmts_a
  statements_alike at (s ∷ ss) h = alike.more_stmts_a (statement_alike at s h.0) (statements_alike (at + length (statement_text f s)) ss h.1)
