use Rattle.std.proofs.Common.{◌≡◌, ◌≤◌, drop}
use Rattle.cc_meaning.specs.Names.{index_value}
use Rattle.cc_heap.proofs.NameLaws.{read_on}
use Rattle.cc_heap.proofs.names.index_of.Given as goal

abbrev pub invariant-loop-unit : goal.invariant-loop-unit
invariant-loop-unit l = record { value : index_value l.name ≡ read_on l.number (drop l.unit-index l.name); small : l.number ≤ 4294967294 }
