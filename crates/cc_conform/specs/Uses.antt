-- The rules that uses of arrays break.
use Rattle.std.specs.Prelude.{ℕ, Option, Some, None}
use Rattle.cc_meaning.specs.Builtins.{ArrayResult, changes, array_breaks}

-- the rule that a use of an array breaks, but for what it puts in
abbrev pub result_rule : ArrayResult → Option ℕ
result_rule (changes c) = None
result_rule (array_breaks r) = Some r
