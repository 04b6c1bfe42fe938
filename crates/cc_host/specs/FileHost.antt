-- What contracts see of a host of real files: its counts, and how much of a file it reads.
use Rattle.std.specs.Prelude.{ℕ, None}
use Rattle.cc_host.specs.Host.{View}

-- the view of a host that shows no contents
abbrev pub counts_only : ℕ → ℕ → View
counts_only faults tell_faults = record { faults = faults; tell_faults = tell_faults; shown = None }

-- the most bytes that are read of a file
abbrev pub read_limit : ℕ
read_limit = 16777217
