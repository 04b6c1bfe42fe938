use Rattle.std.proofs.Common.{◌≡◌, ◌+◌, ◌≤◌, drop}
use Rattle.cc_meaning.specs.Store.{without_chunk}
use Rattle.cc_acts.proofs.setting.count_outer.Given as goal

abbrev pub invariant-loop-global : goal.invariant-loop-global
invariant-loop-global l = (l.count + without_chunk (drop l.global-index l.globals) ≡ without_chunk l.globals) × (l.count ≤ l.global-index)
