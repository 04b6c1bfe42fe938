-- The sites of a source's trees stand within its text.
use Rattle.std.proofs.Common.{◌≡◌, ℕ, suc, ◌+◌, ◌≤◌, List, [], ◌∷◌, ◌++◌, length, ap, arith, codes, length-append}
use Rattle.cc_driver.specs.Names.{IsName}
use Rattle.cc_driver.specs.Form as form
use Rattle.cc_driver.specs.Form.{IsOperand, IsMore, IsValue, IsValues, IsStatement, IsStatements, IsSource, declared}
use Rattle.cc_driver.specs.Sound.{OperandSites, MoreSites, ValueSites, ValuesSites, StatementSites, StatementsSites, AreWithin}
use Rattle.cc_driver.specs.declared.form.Operand.{Operand}
use Rattle.cc_driver.specs.declared.form.Added.{Added}
use Rattle.cc_driver.specs.declared.form.Value.{Value}
use Rattle.cc_driver.specs.declared.form.Statement.{Statement}
use Rattle.cc_driver.proofs.WholeLaws.{decimal_some}
use Rattle.cc_driver.proofs.Resolved.{statements_few}

module _ (bound : ℕ) where
  name_long : (n : List ℕ) → IsName n → 1 ≤ length n
  name_long [] h = absurd (let e = h.starts in cc)
  name_long (c ∷ n) h = omega arith

  operand_sites : (at : ℕ) (x : List ℕ) (o : Operand) → IsOperand at x o → at + length x ≤ bound → OperandSites bound o
  operand_sites at _ _ (form.a_name {n} h) l = omega (arith, name_long n h)
  operand_sites at _ _ (form.in_single_quotes {t} h) l = omega arith
  operand_sites at _ _ (form.in_double_quotes {t} h) l = omega arith
  operand_sites at _ _ (form.a_whole {n} h) l = omega (arith, decimal_some n h)

  more_sites : (at : ℕ) (x : List ℕ) (ms : List Added) → IsMore at x ms → at + length x ≤ bound → MoreSites bound ms
  more_sites _ _ _ form.no_more l = tt
  more_sites _ _ _ (form.one_more {at} {x} {y} {o} {ms} h hs) l =
      let whole : length (43 ∷ x ++ y) ≡ suc (length x + length y) = ap suc (length-append x y) in
      (omega arith, (operand_sites (at + 1) x o h (omega arith), more_sites (at + 1 + length x) y ms hs (omega arith)))

  value_sites : (at : ℕ) (x : List ℕ) (v : Value) → IsValue at x v → at + length x ≤ bound → ValueSites bound v
  value_sites at _ _ (form.a_chain {x} {y} {o} {ms} h hs few) l =
      let whole : length (x ++ y) ≡ length x + length y = length-append x y in
      (operand_sites at x o h (omega arith), more_sites (at + length x) y ms hs (omega arith))

  values_sites : (at : ℕ) (x : List ℕ) (vs : List Value) → IsValues at x vs → at + length x ≤ bound → ValuesSites bound vs
  values_sites at _ _ form.no_values l = tt
  values_sites _ _ _ (form.last_value {at} {x} {v} h) l = (value_sites at x v h l, tt)
  values_sites _ _ _ (form.more_values {at} {x} {y} {v} {w} {vs} h hs) l =
      let whole : length (x ++ 44 ∷ y) ≡ length x + suc (length y) = length-append x (44 ∷ y) in
      (value_sites at x v h (omega arith), values_sites (at + length x + 1) y (w ∷ vs) hs (omega arith))

  statement_sites : (at : ℕ) (x : List ℕ) (s : Statement) → IsStatement at x s → at + length x ≤ bound → StatementSites bound s
  statement_sites at _ _ (form.a_declaration {n} {x} {v} hn hv) l =
      let whole : at + (length n + 4 + suc (length x) + 1) ≤ bound = declared_length n x l in
      (omega arith, value_sites (at + 5 + length n) x v hv (omega arith))
    where
      declared_length : (m y : List ℕ) → at + length (codes "var " ++ m ++ 61 ∷ y ++ 59 ∷ []) ≤ bound → at + (length m + 4 + suc (length y) + 1) ≤ bound
      declared_length m y k = omega (arith, simp length-append at k)
  statement_sites at _ _ (form.a_call {n} {xs} {vs} hn hv) l =
      let whole : at + (length n + suc (length xs) + 2) ≤ bound = called_length n xs l in
      (omega arith, values_sites (at + length n + 1) xs vs hv (omega arith))
    where
      called_length : (m y : List ℕ) → at + length (m ++ 40 ∷ y ++ 41 ∷ 59 ∷ []) ≤ bound → at + (length m + suc (length y) + 2) ≤ bound
      called_length m y k = omega (arith, simp length-append at k)

  pub statements_sites : (at : ℕ) (x : List ℕ) (ss : List Statement) → IsStatements at x ss → at + length x ≤ bound → StatementsSites bound ss
  statements_sites at _ _ form.no_statements l = tt
  statements_sites _ _ _ (form.more_statements {at} {x} {y} {s} {ss} h hs) l =
      let whole : length (x ++ y) ≡ length x + length y = length-append x y in
      (statement_sites at x s h (omega arith), statements_sites (at + length x) y ss hs (omega arith))

-- a source keeps within its bytes
pub source_within : (externs : List (List ℕ)) (source : List ℕ) (ss : List Statement) → IsSource externs source ss → AreWithin (length source) ss
source_within externs source ss h = record {
  short = h.short;
  few = statements_few 0 source ss h.reading.form;
  reach = statements_sites (length source) 0 source ss h.reading.form (omega arith);
}
