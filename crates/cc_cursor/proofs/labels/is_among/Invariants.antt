use Rattle.std.proofs.Common.{◌≡◌, drop}
use Rattle.cc_grammar.specs.Grammar.{is_among}
use Rattle.cc_cursor.specs.Shown as shown
use Rattle.cc_cursor.proofs.labels.is_among.Given as goal

abbrev pub invariant-loop-label : goal.invariant-loop-label
invariant-loop-label l = is_among l.name (shown.labels (drop l.label-index l.labels)) ≡ is_among l.name (shown.labels l.labels)
