-- The text of statements under new names is of the form again.
use Rattle.std.proofs.Common.{◌≡◌, ℕ, suc, ◌+◌, ◌≤◌, List, [], ◌∷◌, ◌++◌, length, map, refl, sym, ap, ap₂, subst, ◌∙◌}
use Rattle.std.proofs.lemmas.List.{map-append}
use Rattle.cc_driver.specs.Names.{IsName}
use Rattle.cc_driver.specs.Form as form
use Rattle.cc_driver.specs.Form.{most_more, IsOperand, IsMore, IsValue, IsValues, IsStatement, IsStatements, IsReading, declared, called, used, declared_by, called_by, used_by, named_by_one, named_by_more, named_by, named_by_all}
use Rattle.cc_driver.specs.declared.form.Operand.{Operand}
use Rattle.cc_driver.specs.declared.form.Operand.TheVariants.{Named, Text, Whole}
use Rattle.cc_driver.specs.declared.form.Added.{Added}
use Rattle.cc_driver.specs.declared.form.Value.{Value}
use Rattle.cc_driver.specs.declared.form.Statement.{Statement}
use Rattle.cc_driver.specs.declared.form.Statement.TheVariants.{Declares, Calls}
use Rattle.cc_driver.specs.Again.{operand_text, more_text, value_text, values_text, statement_text, statements_text, operand_again, more_again, value_again, values_again, statement_again, statements_again}
use Rattle.cc_driver.specs.Sound as sound
use Rattle.cc_driver.specs.Sound.{OperandFit, MoreFit, ValueFit, ValuesFit, StatementFit, StatementsFit}

more_length : (f : List ℕ → List ℕ) (at : ℕ) (ms : List Added) → length (more_again f at ms) ≡ length ms
more_length f at [] = refl
more_length f at (m ∷ ms) = ap suc (more_length f (at + 1 + length (operand_text f m.operand)) ms)

module _ (f : List ℕ → List ℕ) (C Q : List ℕ → Type 0) (c : (n : List ℕ) → C n → IsName (f n)) (q : (n : List ℕ) → Q n → IsName (f n)) where
  operand_reads : (at : ℕ) (o : Operand) → OperandFit C Q o → IsOperand at (operand_text f o) (operand_again f at o)
  operand_reads at (Named old n) h = form.a_name (q n h)
  operand_reads at (Text old t) h = form.in_double_quotes h
  operand_reads at (Whole old _) (sound.small l) = form.a_whole l

  more_reads : (at : ℕ) (ms : List Added) → MoreFit C Q ms → IsMore at (more_text f ms) (more_again f at ms)
  more_reads at [] h = form.no_more
  more_reads at (m ∷ ms) h = form.one_more (operand_reads (at + 1) m.operand h.0) (more_reads (at + 1 + length (operand_text f m.operand)) ms h.1)

  value_reads : (at : ℕ) (v : Value) → ValueFit C Q v → IsValue at (value_text f v) (value_again f at v)
  value_reads at v h =
      let behind = at + length (operand_text f v.first) in
      form.a_chain (operand_reads at v.first h.0) (more_reads behind v.more h.1.0) (subst (λ n. n ≤ most_more) (sym (more_length f behind v.more)) h.1.1)

  values_read : (at : ℕ) (vs : List Value) → ValuesFit C Q vs → IsValues at (values_text f vs) (values_again f at vs)
  values_read at [] h = form.no_values
  values_read at (v ∷ []) h = form.last_value (value_reads at v h.0)
  values_read at (v ∷ w ∷ vs) h = form.more_values (value_reads at v h.0) (values_read (at + length (value_text f v) + 1) (w ∷ vs) h.1)

  statement_reads : (at : ℕ) (s : Statement) → StatementFit C Q s → IsStatement at (statement_text f s) (statement_again f at s)
  statement_reads at (Declares old n v) h = form.a_declaration (q n h.0) (value_reads (at + 5 + length (f n)) v h.1)
  statement_reads at (Calls old n vs) h = form.a_call (c n h.0) (values_read (at + length (f n) + 1) vs h.1)

  pub statements_read : (at : ℕ) (ss : List Statement) → StatementsFit C Q ss → IsStatements at (statements_text f ss) (statements_again f at ss)
  statements_read at [] h = form.no_statements
  statements_read at (s ∷ ss) h = form.more_statements (statement_reads at s h.0) (statements_read (at + length (statement_text f s)) ss h.1)

-- ---- the names of what is read

module _ (f : List ℕ → List ℕ) where
  operand_names : (at : ℕ) (o : Operand) → named_by_one (operand_again f at o) ≡ map f (named_by_one o)
  operand_names at (Named old n) = refl
  operand_names at (Text old t) = refl
  operand_names at (Whole old z) = refl

  more_names : (at : ℕ) (ms : List Added) → named_by_more (more_again f at ms) ≡ map f (named_by_more ms)
  more_names at [] = refl
  more_names at (m ∷ ms) =
      ap₂ (λ x y. x ++ y) (operand_names (at + 1) m.operand) (more_names (at + 1 + length (operand_text f m.operand)) ms) ∙ sym (map-append f (named_by_one m.operand) (named_by_more ms))

  value_names : (at : ℕ) (v : Value) → named_by (value_again f at v) ≡ map f (named_by v)
  value_names at v =
      ap₂ (λ x y. x ++ y) (operand_names at v.first) (more_names (at + length (operand_text f v.first)) v.more) ∙ sym (map-append f (named_by_one v.first) (named_by_more v.more))

  values_names : (at : ℕ) (vs : List Value) → named_by_all (values_again f at vs) ≡ map f (named_by_all vs)
  values_names at [] = refl
  values_names at (v ∷ vs) =
      ap₂ (λ x y. x ++ y) (value_names at v) (values_names (at + length (value_text f v) + 1) vs) ∙ sym (map-append f (named_by v) (named_by_all vs))

  declared_one : (at : ℕ) (s : Statement) → declared_by (statement_again f at s) ≡ map f (declared_by s)
  declared_one at (Declares old n v) = refl
  declared_one at (Calls old n vs) = refl

  called_one : (at : ℕ) (s : Statement) → called_by (statement_again f at s) ≡ map f (called_by s)
  called_one at (Declares old n v) = refl
  called_one at (Calls old n vs) = refl

  used_one : (at : ℕ) (s : Statement) → used_by (statement_again f at s) ≡ map f (used_by s)
  used_one at (Declares old n v) = value_names (at + 5 + length (f n)) v
  used_one at (Calls old n vs) = values_names (at + length (f n) + 1) vs

  pub declared_again : (at : ℕ) (ss : List Statement) → declared (statements_again f at ss) ≡ map f (declared ss)
  declared_again at [] = refl
  declared_again at (s ∷ ss) =
      ap₂ (λ x y. x ++ y) (declared_one at s) (declared_again (at + length (statement_text f s)) ss) ∙ sym (map-append f (declared_by s) (declared ss))

  pub called_again : (at : ℕ) (ss : List Statement) → called (statements_again f at ss) ≡ map f (called ss)
  called_again at [] = refl
  called_again at (s ∷ ss) =
      ap₂ (λ x y. x ++ y) (called_one at s) (called_again (at + length (statement_text f s)) ss) ∙ sym (map-append f (called_by s) (called ss))

  pub used_again : (at : ℕ) (ss : List Statement) → used (statements_again f at ss) ≡ map f (used ss)
  used_again at [] = refl
  used_again at (s ∷ ss) =
      ap₂ (λ x y. x ++ y) (used_one at s) (used_again (at + length (statement_text f s)) ss) ∙ sym (map-append f (used_by s) (used ss))
