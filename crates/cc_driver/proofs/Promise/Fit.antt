-- Statements of the form are sound: what is called and what else is named are so, texts are plain, numbers in range and chains short.
use Rattle.std.proofs.Common.{ℕ, ◌+◌, List, [], ◌∷◌, length, All, Contains}
use Rattle.std.proofs.lemmas.List.Elements.{All-nil, All-cons}
use Rattle.cc_meaning.specs.Alike.{In, here}
use Rattle.cc_driver.specs.Names.{IsName}
use Rattle.cc_driver.specs.Form as form
use Rattle.cc_driver.specs.Form.{IsOperand, IsMore, IsValue, IsValues, IsStatement, IsStatements, IsReading, IsSource, declared, called, used, declared_by, called_by, used_by, named_by_one, named_by_more, named_by, named_by_all}
use Rattle.cc_driver.specs.Sound as sound
use Rattle.cc_driver.specs.Sound.{OperandFit, MoreFit, ValueFit, ValuesFit, StatementFit, StatementsFit, AreSound}
use Rattle.cc_driver.specs.declared.form.Operand.{Operand}
use Rattle.cc_driver.specs.declared.form.Operand.TheVariants.{Named, Text, Whole}
use Rattle.cc_driver.specs.declared.form.Added.{Added}
use Rattle.cc_driver.specs.declared.form.Value.{Value}
use Rattle.cc_driver.specs.declared.form.Statement.{Statement}
use Rattle.cc_driver.specs.declared.form.Statement.TheVariants.{Declares, Calls}
use Rattle.cc_driver.proofs.Promise.Lists.{in_left, in_right, all_at, in_from_contains}

-- ---- what stands in a text may be written

operand_writable : (at : ℕ) (x : List ℕ) (o : Operand) → IsOperand at x o → OperandFit IsName IsName o
operand_writable at _ _ (form.a_name h) = h
operand_writable at _ _ (form.in_single_quotes h) = h
operand_writable at _ _ (form.in_double_quotes h) = h
operand_writable at _ _ (form.a_whole l) = sound.small l

more_writable : (at : ℕ) (x : List ℕ) (ms : List Added) → IsMore at x ms → MoreFit IsName IsName ms
more_writable _ _ _ form.no_more = tt
more_writable _ _ _ (form.one_more {at} {x} {y} {o} {ms} h hs) = (operand_writable (at + 1) x o h, more_writable (at + 1 + length x) y ms hs)

value_writable : (at : ℕ) (x : List ℕ) (v : Value) → IsValue at x v → ValueFit IsName IsName v
value_writable at _ _ (form.a_chain {x} {y} {o} {ms} h hs few) = (operand_writable at x o h, (more_writable (at + length x) y ms hs, few))

values_writable : (at : ℕ) (x : List ℕ) (vs : List Value) → IsValues at x vs → ValuesFit IsName IsName vs
values_writable _ _ _ form.no_values = tt
values_writable _ _ _ (form.last_value {at} {x} {v} h) = (value_writable at x v h, tt)
values_writable _ _ _ (form.more_values {at} {x} {y} {v} {w} {vs} h hs) = (value_writable at x v h, values_writable (at + length x + 1) y (w ∷ vs) hs)

statement_writable : (at : ℕ) (x : List ℕ) (s : Statement) → IsStatement at x s → StatementFit IsName IsName s
statement_writable at _ _ (form.a_declaration {n} {x} {v} hn hv) = (hn, value_writable (at + 5 + length n) x v hv)
statement_writable at _ _ (form.a_call {n} {xs} {vs} hn hv) = (hn, values_writable (at + length n + 1) xs vs hv)

statements_writable : (at : ℕ) (x : List ℕ) (ss : List Statement) → IsStatements at x ss → StatementsFit IsName IsName ss
statements_writable _ _ _ form.no_statements = tt
statements_writable _ _ _ (form.more_statements {at} {x} {y} {s} {ss} h hs) = (statement_writable at x s h, statements_writable (at + length x) y ss hs)

-- what is read of a text is sound
pub sound_reading : (externs : List (List ℕ)) (text : List ℕ) (ss : List Statement) → IsReading externs text ss → AreSound externs ss
sound_reading externs text ss h = record {
  writable = statements_writable 0 text ss h.form;
  called_are_externs = h.called_are_externs;
  used_are_declared = h.used_are_declared;
  declared_once = h.declared_once;
  declared_are_new = h.declared_are_new;
}

pub sound_source : (externs : List (List ℕ)) (source : List ℕ) (ss : List Statement) → IsSource externs source ss → AreSound externs ss
sound_source externs source ss h = sound_reading externs source ss h.reading

-- ---- what else holds of the names

module _ (C Q : List ℕ → Type 0) where
  operand_fits : (o : Operand) → OperandFit IsName IsName o → ((n : List ℕ) → In n (named_by_one o) → Q n) → OperandFit C Q o
  operand_fits (Named at n) h q = q n here
  operand_fits (Text at t) h q = h
  operand_fits (Whole at z) h q = h

  more_fit : (ms : List Added) → MoreFit IsName IsName ms → ((n : List ℕ) → In n (named_by_more ms) → Q n) → MoreFit C Q ms
  more_fit [] h q = tt
  more_fit (m ∷ ms) h q = (operand_fits m.operand h.0 (λ n k. q n (in_left (named_by_more ms) k)), more_fit ms h.1 (λ n k. q n (in_right (named_by_one m.operand) k)))

  value_fits : (v : Value) → ValueFit IsName IsName v → ((n : List ℕ) → In n (named_by v) → Q n) → ValueFit C Q v
  value_fits v h q = (operand_fits v.first h.0 (λ n k. q n (in_left (named_by_more v.more) k)), (more_fit v.more h.1.0 (λ n k. q n (in_right (named_by_one v.first) k)), h.1.1))

  values_fit : (vs : List Value) → ValuesFit IsName IsName vs → ((n : List ℕ) → In n (named_by_all vs) → Q n) → ValuesFit C Q vs
  values_fit [] h q = tt
  values_fit (v ∷ vs) h q = (value_fits v h.0 (λ n k. q n (in_left (named_by_all vs) k)), values_fit vs h.1 (λ n k. q n (in_right (named_by v) k)))

  statement_fits : (s : Statement) → StatementFit IsName IsName s → ((n : List ℕ) → In n (called_by s) → C n) → ((n : List ℕ) → In n (used_by s) → Q n) → ((n : List ℕ) → In n (declared_by s) → Q n) → StatementFit C Q s
  statement_fits (Declares at n v) h c u d = (d n here, value_fits v h.1 u)
  statement_fits (Calls at n vs) h c u d = (c n here, values_fit vs h.1 u)

  pub statements_fit : (ss : List Statement) → StatementsFit IsName IsName ss → ((n : List ℕ) → In n (called ss) → C n) → ((n : List ℕ) → In n (used ss) → Q n) → ((n : List ℕ) → In n (declared ss) → Q n) → StatementsFit C Q ss
  statements_fit [] h c u d = tt
  statements_fit (s ∷ ss) h c u d = (
    statement_fits s h.0 (λ n k. c n (in_left (called ss) k)) (λ n k. u n (in_left (used ss) k)) (λ n k. d n (in_left (declared ss) k)),
    statements_fit ss h.1 (λ n k. c n (in_right (called_by s) k)) (λ n k. u n (in_right (used_by s) k)) (λ n k. d n (in_right (declared_by s) k)),
  )

-- what sound statements call are externs, and what else they name they declare
pub sound_fits : (externs : List (List ℕ)) (ss : List Statement) → AreSound externs ss → StatementsFit (λ n. In n externs) (λ n. In n (declared ss)) ss
sound_fits externs ss h =
    statements_fit (λ n. In n externs) (λ n. In n (declared ss)) ss h.writable
    (λ n k. in_from_contains externs n (all_at (Contains externs) k h.called_are_externs))
    (λ n k. in_from_contains (declared ss) n (all_at (Contains (declared ss)) k h.used_are_declared))
    (λ n k. k)

-- each declared name is a name
pub declared_named : (ss : List Statement) → StatementsFit IsName IsName ss → All IsName (declared ss)
declared_named [] h = All-nil _
declared_named (Declares at n v ∷ ss) h = All-cons IsName n (declared ss) h.0.0 (declared_named ss h.1)
declared_named (Calls at n vs ∷ ss) h = declared_named ss h.1
