use Rattle.std.proofs.Common.{◌*◌, ◌+◌, ◌<◌, ◌≤◌, vec_len, take, length}
use Rattle.cc_chunks.proofs.ReachLaws.{Gathers}
use Rattle.cc_chunks.proofs.reach.reached.Given as goal

abbrev pub invariant-loop-dep : goal.invariant-loop-dep
invariant-loop-dep l = record {
  gathers : Gathers l.chunks (take l.dep-index l.dep-items) l.set.words.items;
  room : length l.table ≤ 64 * vec_len l.set.words;
  tight : 64 * vec_len l.set.words < length l.table + 64;
}
