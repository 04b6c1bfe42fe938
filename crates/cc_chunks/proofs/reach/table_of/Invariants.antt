use Rattle.std.proofs.Common.{◌≡◌, vec_len}
use Rattle.cc_chunks.specs.Tables.{AreReaches}
use Rattle.cc_chunks.proofs.reach.table_of.Given as goal

abbrev pub invariant-loop : goal.invariant-loop
invariant-loop l = record { next : vec_len l.table ≡ l.counter; reaches : AreReaches l.chunks l.table.items }
