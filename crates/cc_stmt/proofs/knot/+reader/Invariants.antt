use Rattle.std.proofs.Common.{◌+◌, ◌*◌}
use Rattle.cc_stmt.proofs.knot.+reader.Given as goal

-- What is as high as the tree that is read comes before what stands inside it: a function before its statements, and an
-- expression before a function.

abbrev pub decreases-expr : goal.decreases-expr
decreases-expr l = 3 * l.limits.depth

abbrev pub decreases-stmt : goal.decreases-stmt
decreases-stmt l = 3 * l.limits.depth

abbrev pub decreases-function : goal.decreases-function
decreases-function l = 3 * l.limits.depth + 1

abbrev pub decreases-whole : goal.decreases-whole
decreases-whole l = 3 * l.limits.depth + 2

abbrev pub decreases-begun : goal.decreases-begun
decreases-begun l = 3 * l.limits.depth + 2
