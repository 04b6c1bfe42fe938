use Rattle.std.proofs.Common.{◌≡◌, ◌++◌, take}
use Rattle.cc_ast.specs.Bridge.{terms, term_fields}
use Rattle.cc_rename.specs.Steps.{met_exprs, met_fields}
use Rattle.cc_rename.proofs.expression.+expression.Given as goal

abbrev pub invariant-meet_exprs-loop-e : goal.invariant-meet_exprs-loop-e
invariant-meet_exprs-loop-e l = l.met ≡ l.initial.met ++ met_exprs l.catches (terms (take l.e-index l.e-items))

abbrev pub invariant-meet_fields-loop-field : goal.invariant-meet_fields-loop-field
invariant-meet_fields-loop-field l = l.met ≡ l.initial.met ++ met_fields l.catches (term_fields (take l.field-index l.field-items))
