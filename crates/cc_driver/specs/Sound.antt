-- Statements that may be written as a source of the form. Those that were read of a text are so, and
-- what is made of them may be so too, though no text was read as it.
use Rattle.std.specs.Prelude.{ℕ, ℤ, pos, ◌+◌, ◌<◌, ◌≤◌, List, [], ◌∷◌, length, IsTrue, All, Contains}
use Rattle.std.specs.List.{list_all, IsDistinct}
use Rattle.std.specs.Str.{bytes_eq}
use Rattle.cc_driver.specs.Names.{IsName}
use Rattle.cc_driver.specs.Form.{is_plain, whole_limit, most_more, most_bytes, declared, called, used}
use Rattle.cc_driver.specs.declared.form.Operand.{Operand}
use Rattle.cc_driver.specs.declared.form.Operand.TheVariants.{Named, Text, Whole}
use Rattle.cc_driver.specs.declared.form.Added.{Added}
use Rattle.cc_driver.specs.declared.form.Value.{Value}
use Rattle.cc_driver.specs.declared.form.Statement.{Statement}
use Rattle.cc_driver.specs.declared.form.Statement.TheVariants.{Declares, Calls}

-- a whole number from 0 to 2^53-1
pub data IsSmall : ℤ → Type 0 where
  small : {n : ℕ} → n < whole_limit → IsSmall (pos n)

-- C holds of each name that is called and Q of each other one, each text is plain, each number is from
-- 0 to 2^53-1, and no chain is too long
module _ (C Q : List ℕ → Type 0) where
  abbrev pub OperandFit : Operand → Type 0
  OperandFit (Named at n) = Q n
  OperandFit (Text at t) = IsTrue (list_all is_plain t)
  OperandFit (Whole at z) = IsSmall z

  abbrev pub MoreFit : List Added → Type 0
  MoreFit [] = Unit {0}
  MoreFit (m ∷ ms) = OperandFit m.operand × MoreFit ms

  abbrev pub ValueFit : Value → Type 0
  ValueFit v = OperandFit v.first × (MoreFit v.more × (length v.more ≤ most_more))

  abbrev pub ValuesFit : List Value → Type 0
  ValuesFit [] = Unit {0}
  ValuesFit (v ∷ vs) = ValueFit v × ValuesFit vs

  abbrev pub StatementFit : Statement → Type 0
  StatementFit (Declares at n v) = Q n × ValueFit v
  StatementFit (Calls at n vs) = C n × ValuesFit vs

  abbrev pub StatementsFit : List Statement → Type 0
  StatementsFit [] = Unit {0}
  StatementsFit (s ∷ ss) = StatementFit s × StatementsFit ss

-- each offset is below the bound
module _ (bound : ℕ) where
  abbrev pub OperandSites : Operand → Type 0
  OperandSites (Named at n) = at < bound
  OperandSites (Text at t) = at < bound
  OperandSites (Whole at z) = at < bound

  abbrev pub MoreSites : List Added → Type 0
  MoreSites [] = Unit {0}
  MoreSites (m ∷ ms) = (m.plus < bound) × (OperandSites m.operand × MoreSites ms)

  abbrev pub ValueSites : Value → Type 0
  ValueSites v = OperandSites v.first × MoreSites v.more

  abbrev pub ValuesSites : List Value → Type 0
  ValuesSites [] = Unit {0}
  ValuesSites (v ∷ vs) = ValueSites v × ValuesSites vs

  abbrev pub StatementSites : Statement → Type 0
  StatementSites (Declares at n v) = (at + 4 < bound) × ValueSites v
  StatementSites (Calls at n vs) = (at + length n < bound) × ValuesSites vs

  abbrev pub StatementsSites : List Statement → Type 0
  StatementsSites [] = Unit {0}
  StatementsSites (s ∷ ss) = StatementSites s × StatementsSites ss

-- statements whose names, texts and numbers may be written, with names as a source with these externs has them
pub record AreSound (externs : List (List ℕ)) (statements : List Statement) : Type 0 where
  pub writable : StatementsFit IsName IsName statements
  pub called_are_externs : All (Contains externs) (called statements)
  pub used_are_declared : All (Contains (declared statements)) (used statements)
  pub declared_once : IsDistinct bytes_eq (declared statements)
  pub declared_are_new : All (λ name. Contains externs name → ⊥) (declared statements)

-- statements that keep within so many places, as those of a source of so many bytes do
pub record AreWithin (size : ℕ) (statements : List Statement) : Type 0 where
  pub short : size ≤ most_bytes
  pub few : length (declared statements) ≤ size
  pub reach : StatementsSites size statements
