-- The promise where a compilation is done: the words and the files are of the form, the output file
-- holds the text that is written for the source and every other file is as before, and the program
-- that this text reads as agrees with the source.
use Rattle.std.specs.Prelude.{◌≡◌, ℕ, List, length, Some}
use Rattle.cc_host.specs.Host.{View, file_of, IfShown, KeepsOtherFiles}
use Rattle.cc_meaning.specs.Same.{Agrees}
use Rattle.cc_driver.specs.Form.{IsReading}
use Rattle.cc_driver.specs.Source.{program_of}
use Rattle.cc_driver.specs.Compile.{IsJob, WasRead, IsCompiled}
use Rattle.cc_driver.specs.declared.form.Statement.{Statement}

pub record IsFaithful (externs : List (List ℕ)) (source : List ℕ) (statements : List Statement) (text : List ℕ) : Type 0 where
  pub statements_read : List Statement
  -- This text reads, with the same externs,
  pub reading : IsReading externs text statements_read
  -- and in one way alone,
  pub only : (others : List Statement) → IsReading externs text others → others ≡ statements_read
  -- as a program that agrees with the source's: for every load order, every turn and reply of the outside
  -- and every bound, while the source's run breaks no rule, the written program makes the same calls with
  -- the same arguments, and ends or throws where the source does.
  pub agrees : Agrees (program_of externs (length source) statements) (program_of externs (length text) statements_read)

pub record Headline (words : List (List ℕ)) (before after : View) : Type 0 where
  pub externs_file : List ℕ
  pub source_file : List ℕ
  pub output_file : List ℕ
  pub externs : List ℕ
  pub source : List ℕ
  pub text : List ℕ
  -- For words that name one file of externs, one source and one output file, after status 0:
  pub job : IsJob words externs_file source_file output_file
  pub externs_read : WasRead before externs_file externs
  pub source_read : WasRead before source_file source
  -- both files were of the form, and the text is the one that the definitions of naming and spelling give
  -- for what the rounds of folding make of the source's program;
  pub compiled : IsCompiled externs source text
  -- the output file holds this text,
  pub written : IfShown before.shown after.shown (λ old new. file_of new output_file ≡ Some text)
  -- and every other file is as before.
  pub others : IfShown before.shown after.shown (KeepsOtherFiles output_file)
  pub faithful : IsFaithful compiled.names source compiled.statements text
