-- The exit statuses.
use Rattle.std.specs.Prelude.{ℕ}
use Rattle.cc_driver.specs.declared.outcome.Outcome.{Outcome}
use Rattle.cc_driver.specs.declared.outcome.Outcome.TheVariants.{Done, Read, Write, Unbuilt, Memory}

abbrev pub status_of : Outcome → ℕ
status_of Done = 0
status_of (Read i) = 4
status_of (Write i) = 5
status_of Memory = 14
status_of (Unbuilt i) = 64
