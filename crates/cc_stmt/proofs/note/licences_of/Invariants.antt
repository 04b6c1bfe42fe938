use Rattle.std.proofs.Common.{◌≡◌, ◌++◌, drop}
use Rattle.cc_stmt.specs.Notes as spec
use Rattle.cc_stmt.proofs.note.licences_of.Given as goal

abbrev pub invariant-loop-note : goal.invariant-loop-note
invariant-loop-note l = spec.licences l.notes ≡ l.found.items ++ spec.licences (drop l.note-index l.notes)
