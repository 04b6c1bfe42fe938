-- A source of the form under new names: its text, and the statements that the text is.
use Rattle.std.specs.Fmt.{signed_decimal}
use Rattle.std.specs.Prelude.{ℕ, ◌+◌, List, [], ◌∷◌, ◌++◌, codes, length, unwrap_or, slice_get}
use Rattle.cc_driver.specs.Source.{number_of}
use Rattle.cc_driver.specs.declared.form.Operand.{Operand}
use Rattle.cc_driver.specs.declared.form.Operand.TheVariants.{Named, Text, Whole}
use Rattle.cc_driver.specs.declared.form.Added.{Added}
use Rattle.cc_driver.specs.declared.form.Value.{Value}
use Rattle.cc_driver.specs.declared.form.Statement.{Statement}
use Rattle.cc_driver.specs.declared.form.Statement.TheVariants.{Declares, Calls}

-- the name that a global gets in place of its old one: old names and new ones stand in the order of the globals
abbrev pub new_name : (old new : List (List ℕ)) → List ℕ → List ℕ
new_name old new name = unwrap_or (slice_get new (number_of old name)) []

module _ (f : List ℕ → List ℕ) where
  abbrev pub operand_text : Operand → List ℕ
  operand_text (Named at n) = f n
  operand_text (Text at t) = 34 ∷ t ++ 34 ∷ []
  operand_text (Whole at z) = signed_decimal z

  abbrev pub more_text : List Added → List ℕ
  more_text [] = []
  more_text (m ∷ ms) = 43 ∷ operand_text m.operand ++ more_text ms

  abbrev pub value_text : Value → List ℕ
  value_text v = operand_text v.first ++ more_text v.more

  abbrev pub values_text : List Value → List ℕ
  values_text [] = []
  values_text (v ∷ []) = value_text v
  values_text (v ∷ w ∷ vs) = value_text v ++ 44 ∷ values_text (w ∷ vs)

  abbrev pub statement_text : Statement → List ℕ
  statement_text (Declares at n v) = codes "var " ++ f n ++ 61 ∷ value_text v ++ 59 ∷ []
  statement_text (Calls at n vs) = f n ++ 40 ∷ values_text vs ++ 41 ∷ 59 ∷ []

  -- the text of these statements under new names
  abbrev pub statements_text : List Statement → List ℕ
  statements_text [] = []
  statements_text (s ∷ ss) = statement_text s ++ statements_text ss

  abbrev pub operand_again : ℕ → Operand → Operand
  operand_again at (Named old n) = Named at (f n)
  operand_again at (Text old t) = Text at t
  operand_again at (Whole old z) = Whole at z

  abbrev pub more_again : ℕ → List Added → List Added
  more_again at [] = []
  more_again at (m ∷ ms) = (record { plus = at; operand = operand_again (at + 1) m.operand }) ∷ more_again (at + 1 + length (operand_text m.operand)) ms

  abbrev pub value_again : ℕ → Value → Value
  value_again at v = record { first = operand_again at v.first; more = more_again (at + length (operand_text v.first)) v.more }

  abbrev pub values_again : ℕ → List Value → List Value
  values_again at [] = []
  values_again at (v ∷ vs) = value_again at v ∷ values_again (at + length (value_text v) + 1) vs

  abbrev pub statement_again : ℕ → Statement → Statement
  statement_again at (Declares old n v) = Declares at (f n) (value_again (at + 5 + length (f n)) v)
  statement_again at (Calls old n vs) = Calls at (f n) (values_again (at + length (f n) + 1) vs)

  -- the statements that such a text is, from an offset on
  abbrev pub statements_again : ℕ → List Statement → List Statement
  statements_again at [] = []
  statements_again at (s ∷ ss) = statement_again at s ∷ statements_again (at + length (statement_text s)) ss
