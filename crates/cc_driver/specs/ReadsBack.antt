-- What holds of the text that is written for a source: it reads, with the same externs, as a program
-- that is alike to the source.
use Rattle.std.specs.Prelude.{◌≡◌, ℕ, List}
use Rattle.cc_meaning.specs.Alike.{Alike}
use Rattle.cc_driver.specs.Form.{IsReading}
use Rattle.cc_driver.specs.Source.{program_of}
use Rattle.cc_driver.specs.declared.form.Statement.{Statement}

-- a text is read in one way alone, and the numbers of places make no difference
pub record ReadsBack (externs : List (List ℕ)) (size : ℕ) (statements : List Statement) (text : List ℕ) : Type 0 where
  pub statements_read : List Statement
  pub reading : IsReading externs text statements_read
  pub alike : (places : ℕ) → Alike (program_of externs size statements) (program_of externs places statements_read)
  pub only : (others : List Statement) → IsReading externs text others → others ≡ statements_read
