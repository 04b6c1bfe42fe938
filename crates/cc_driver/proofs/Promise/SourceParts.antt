-- The parts of a source's trees, one by one.
use Rattle.std.proofs.Common.{◌≡◌, ℕ, ◌+◌, ◌<◌, true, nat_le, le-leb, ◌||◌, List, [], ◌∷◌, ◌++◌, length, map, refl, ap, ◌⊎◌, inl, inr, arith}
use Rattle.std.proofs.lemmas.Bool.{and_from}
use Rattle.cc_ast.specs.declared.tree.Ref.TheVariants as ref
use Rattle.cc_ast.specs.Syntax as S
use Rattle.cc_ast.specs.declared.operator.BinOp.TheVariants.{Add}
use Rattle.cc_ast.specs.Bridge.{exprs}
use Rattle.cc_ast.specs.StmtBridge.{stmts}
use Rattle.cc_meaning.specs.State.{Tables}
use Rattle.cc_meaning.specs.Operators.{greatest_whole}
use Rattle.cc_meaning.specs.Alike.{In, here, there}
use Rattle.cc_meaning.specs.Store.{global_kind, extern, of_chunk}
use Rattle.cc_meaning.specs.Parts as Pa
use Rattle.cc_meaning.specs.Parts.{Part, has_site, mentions, declares, makes, expr_parts, exprs_parts, option_parts, vars_parts, stmt_parts, stmts_parts, expr_well, exprs_well, may_read, is_no_built, built_callee, is_string, exact_prim}
use Rattle.cc_meaning.specs.WellMade.{Open, option_well, vars_well, some_vars, stmt_well, stmts_well, functions_in}
use Rattle.cc_driver.specs.Form.{whole_limit, declared, declared_by}
use Rattle.cc_driver.specs.Source.{number_of, operand_tree, chain_tree, value_tree, statement_tree}
use Rattle.cc_driver.specs.declared.form.Operand.{Operand}
use Rattle.cc_driver.specs.declared.form.Operand.TheVariants.{Named, Text, Whole}
use Rattle.cc_driver.specs.declared.form.Added.{Added}
use Rattle.cc_driver.specs.declared.form.Value.{Value}
use Rattle.cc_driver.specs.declared.form.Statement.{Statement}
use Rattle.cc_driver.specs.declared.form.Statement.TheVariants.{Declares, Calls}
use Rattle.cc_driver.proofs.Promise.Lists.{in_left, in_right, in_either}
use Rattle.cc_driver.specs.Sound as sound
use Rattle.cc_driver.specs.Sound.{OperandFit, MoreFit, ValueFit, ValuesFit, StatementFit, StatementsFit, OperandSites, MoreSites, ValueSites, ValuesSites, StatementSites, StatementsSites}

-- each part of a list is so
abbrev pub Each : (Part → Type 0) → List Part → Type 0
Each R xs = (x : Part) → In x xs → R x

each_none : (R : Part → Type 0) → Each R []
each_none R x h = elim h [ ]

each_more : (R : Part → Type 0) (y : Part) (ys : List Part) → R y → Each R ys → Each R (y ∷ ys)
each_more R y ys r rs _ here = r
each_more R y ys r rs x (there h) = rs x h

each_both : (R : Part → Type 0) (xs ys : List Part) → Each R xs → Each R ys → Each R (xs ++ ys)
each_both R xs ys f g x h = by (in_either xs ys h)
  where
    by : In x xs ⊎ In x ys → R x
    by (inl k) = f x k
    by (inr k) = g x k

module _ (T : Tables) (old : List (List ℕ)) (C Q : List ℕ → Type 0) (bound : ℕ) (R : Part → Type 0)
    (site : (i : ℕ) → i < bound → R (has_site i))
    (calls : (n : List ℕ) → C n → R (mentions 0 (ref.Global (number_of old n))))
    (uses : (n : List ℕ) → Q n → R (mentions 0 (ref.Global (number_of old n))))
    (sets : (n : List ℕ) → Q n → R (declares 0 (ref.Global (number_of old n)))) where
  operand_each : (o : Operand) → OperandFit C Q o → OperandSites bound o → Each R (expr_parts T 0 (operand_tree old o))
  unfolding expr_parts
  operand_each (Named at n) h l = each_more R (has_site at) (mentions 0 (ref.Global (number_of old n)) ∷ []) (site at l) (each_more R (mentions 0 (ref.Global (number_of old n))) [] (uses n h) (each_none R))
  operand_each (Text at t) h l = each_more R (has_site at) [] (site at l) (each_none R)
  operand_each (Whole at z) h l = each_more R (has_site at) [] (site at l) (each_none R)

  sum_each : (i : ℕ) (a b : S.Expr) → i < bound → Each R (expr_parts T 0 a) → Each R (expr_parts T 0 b) → Each R (expr_parts T 0 (S.binary i Add a b))
  unfolding expr_parts
  sum_each i a b l h k = each_more R (has_site i) (expr_parts T 0 a ++ expr_parts T 0 b) (site i l) (each_both R (expr_parts T 0 a) (expr_parts T 0 b) h k)

  chain_each : (e : S.Expr) (ms : List Added) → Each R (expr_parts T 0 e) → MoreFit C Q ms → MoreSites bound ms → Each R (expr_parts T 0 (chain_tree old e ms))
  chain_each e [] k h l = k
  chain_each e (m ∷ ms) k h l =
      chain_each (S.binary m.plus Add e (operand_tree old m.operand)) ms (sum_each m.plus e (operand_tree old m.operand) l.0 k (operand_each m.operand h.0 l.1.0)) h.1 l.1.1

  value_each : (v : Value) → ValueFit C Q v → ValueSites bound v → Each R (expr_parts T 0 (value_tree old v))
  value_each v h l = chain_each (operand_tree old v.first) v.more (operand_each v.first h.0 l.0) h.1.0 l.1

  values_each : (vs : List Value) → ValuesFit C Q vs → ValuesSites bound vs → Each R (exprs_parts T 0 (exprs (map (value_tree old) vs)))
  unfolding exprs_parts exprs
  values_each [] h l = each_none R
  values_each (v ∷ vs) h l = each_both R (expr_parts T 0 (value_tree old v)) (exprs_parts T 0 (exprs (map (value_tree old) vs))) (value_each v h.0 l.0) (values_each vs h.1 l.1)

  statement_each : (s : Statement) → StatementFit C Q s → StatementSites bound s → Each R (stmt_parts T 0 (statement_tree old s))
  unfolding stmt_parts vars_parts option_parts expr_parts
  statement_each (Declares at n v) h l =
      let k = number_of old n in
      let value = expr_parts T 0 (value_tree old v) in
      let first : at < bound = let m : at + 4 < bound = l.0 in omega arith in
      each_more R (has_site at) (has_site (at + 4) ∷ declares 0 (ref.Global k) ∷ (value ++ [])) (site at first)
      (each_more R (has_site (at + 4)) (declares 0 (ref.Global k) ∷ (value ++ [])) (site (at + 4) l.0)
      (each_more R (declares 0 (ref.Global k)) (value ++ []) (sets n h.0) (each_both R value [] (value_each v h.1 l.1) (each_none R))))
  statement_each (Calls at n vs) h l =
      let k = number_of old n in
      let values = exprs_parts T 0 (exprs (map (value_tree old) vs)) in
      let first : at < bound = let m : at + length n < bound = l.0 in omega arith in
      each_more R (has_site at) (has_site (at + length n) ∷ has_site at ∷ mentions 0 (ref.Global k) ∷ values) (site at first)
      (each_more R (has_site (at + length n)) (has_site at ∷ mentions 0 (ref.Global k) ∷ values) (site (at + length n) l.0)
      (each_more R (has_site at) (mentions 0 (ref.Global k) ∷ values) (site at first)
      (each_more R (mentions 0 (ref.Global k)) values (calls n h.0) (values_each vs h.1 l.1))))

  pub statements_each : (ss : List Statement) → StatementsFit C Q ss → StatementsSites bound ss → Each R (stmts_parts T 0 (stmts (map (statement_tree old) ss)))
  unfolding stmts_parts stmts
  statements_each [] h l = each_none R
  statements_each (s ∷ ss) h l =
      each_both R (stmt_parts T 0 (statement_tree old s)) (stmts_parts T 0 (stmts (map (statement_tree old) ss))) (statement_each s h.0 l.0) (statements_each ss h.1 l.1)

-- a declaration of each declared name
module _ (T : Tables) (old : List (List ℕ)) where
  declares_by : (s : Statement) (x : List ℕ) → In x (declared_by s) → In (declares 0 (ref.Global (number_of old x))) (stmt_parts T 0 (statement_tree old s))
  unfolding stmt_parts vars_parts
  declares_by (Declares at n v) _ here = there (there here)
  declares_by (Declares at n v) x (there h) = elim h [ ]
  declares_by (Calls at n vs) x h = elim h [ ]

  pub declares_in : (ss : List Statement) (x : List ℕ) → In x (declared ss) → In (declares 0 (ref.Global (number_of old x))) (stmts_parts T 0 (stmts (map (statement_tree old) ss)))
  unfolding stmts_parts stmts
  declares_in [] x h = elim h [ ]
  declares_in (s ∷ ss) x h = by (in_either (declared_by s) (declared ss) h) (declares_in ss x)
    where
      by : In x (declared_by s) ⊎ In x (declared ss) → (In x (declared ss) → In (declares 0 (ref.Global (number_of old x))) (stmts_parts T 0 (stmts (map (statement_tree old) ss))))
          → In (declares 0 (ref.Global (number_of old x))) (stmt_parts T 0 (statement_tree old s) ++ stmts_parts T 0 (stmts (map (statement_tree old) ss)))
      by (inl k) again = in_left (stmts_parts T 0 (stmts (map (statement_tree old) ss))) (declares_by s x k)
      by (inr k) again = in_right (stmt_parts T 0 (statement_tree old s)) (again k)

-- no part makes a function
abbrev pub MakesNone : Part → Type 0
MakesNone x = functions_in (x ∷ []) ≡ []

pub no_functions : (xs : List Part) → Each MakesNone xs → functions_in xs ≡ []
unfolding functions_in
no_functions [] h = refl
no_functions (Pa.has_site i ∷ xs) h = no_functions xs (λ x k. h x (there k))
no_functions (Pa.uses_prop i ∷ xs) h = no_functions xs (λ x k. h x (there k))
no_functions (Pa.uses_doc i ∷ xs) h = no_functions xs (λ x k. h x (there k))
no_functions (Pa.mentions c r ∷ xs) h = no_functions xs (λ x k. h x (there k))
no_functions (Pa.declares c r ∷ xs) h = no_functions xs (λ x k. h x (there k))
no_functions (Pa.makes c f d ∷ xs) h = absurd (let e = h (makes c f d) here in cc)
no_functions (Pa.sets_method w p f ∷ xs) h = no_functions xs (λ x k. h x (there k))

-- the statements are of the language
module _ (T : Tables) (old : List (List ℕ)) (o : Open) (C Q : List ℕ → Type 0)
    (outer : (n : List ℕ) → C n → global_kind T (number_of old n) ≡ extern) (own : (n : List ℕ) → Q n → global_kind T (number_of old n) ≡ of_chunk 0) where
  operand_well : (o : Operand) → OperandFit C Q o → expr_well T (operand_tree old o) ≡ true
  unfolding expr_well may_read is_no_built exact_prim
  operand_well (Named at n) h = ap is_no_built (own n h)
  operand_well (Text at t) h = refl
  operand_well (Whole at _) (sound.small {n} l) = exact n l
    where
      exact : (k : ℕ) → k < whole_limit → nat_le k greatest_whole ≡ true
      exact k m = le-leb k greatest_whole (omega arith)

  chain_well : (e : S.Expr) (ms : List Added) → expr_well T e ≡ true → MoreFit C Q ms → expr_well T (chain_tree old e ms) ≡ true
  unfolding expr_well
  chain_well e [] k h = k
  chain_well e (m ∷ ms) k h =
      chain_well (S.binary m.plus Add e (operand_tree old m.operand)) ms (and_from (expr_well T e) (expr_well T (operand_tree old m.operand)) k (operand_well m.operand h.0)) h.1

  value_well : (v : Value) → ValueFit C Q v → expr_well T (value_tree old v) ≡ true
  value_well v h = chain_well (operand_tree old v.first) v.more (operand_well v.first h.0) h.1.0

  values_well : (vs : List Value) → ValuesFit C Q vs → exprs_well T (exprs (map (value_tree old) vs)) ≡ true
  unfolding exprs_well exprs
  values_well [] h = refl
  values_well (v ∷ vs) h = and_from (expr_well T (value_tree old v)) (exprs_well T (exprs (map (value_tree old) vs))) (value_well v h.0) (values_well vs h.1)

  callee_well : (n : List ℕ) → C n → (is_string (global_kind T (number_of old n)) || is_no_built (global_kind T (number_of old n))) ≡ true
  unfolding is_string is_no_built
  callee_well n h = ap (λ k. is_string k || is_no_built k) (outer n h)

  statement_well : (s : Statement) → StatementFit C Q s → stmt_well T o [] (statement_tree old s) ≡ true
  unfolding stmt_well some_vars vars_well option_well expr_well built_callee may_read
  statement_well (Declares at n v) h = and_from (expr_well T (value_tree old v)) true (value_well v h.1) refl
  statement_well (Calls at n vs) h =
      and_from (is_string (global_kind T (number_of old n)) || is_no_built (global_kind T (number_of old n))) (exprs_well T (exprs (map (value_tree old) vs))) (callee_well n h.0) (values_well vs h.1)

  pub statements_well : (ss : List Statement) → StatementsFit C Q ss → stmts_well T o [] (stmts (map (statement_tree old) ss)) ≡ true
  unfolding stmts_well stmts
  statements_well [] h = refl
  statements_well (s ∷ ss) h = and_from (stmt_well T o [] (statement_tree old s)) (stmts_well T o [] (stmts (map (statement_tree old) ss))) (statement_well s h.0) (statements_well ss h.1)
