use Rattle.std.proofs.Common.{◌≡◌, length, take}
use Rattle.cc_equal.proofs.expression.+expression.Given as goal

abbrev pub invariant-same_exprs-loop-e : goal.invariant-same_exprs-loop-e
invariant-same_exprs-loop-e l = (l.i ≡ l.e-index) × (length l.others ≡ length l.e-items) × (take l.e-index l.e-items ≡ take l.e-index l.others)

abbrev pub invariant-same_fields-loop-field : goal.invariant-same_fields-loop-field
invariant-same_fields-loop-field l = (l.i ≡ l.field-index) × (length l.others ≡ length l.field-items) × (take l.field-index l.field-items ≡ take l.field-index l.others)
