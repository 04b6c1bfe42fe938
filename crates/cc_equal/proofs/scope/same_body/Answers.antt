use Rattle.cc_equal.proofs.Bodies.{body_known}
use Rattle.cc_equal.proofs.scope.same_body.Goals as goal

pub returns : goal.returns
returns c = body_known c.same_stmts.result c.args.a.now c.args.b.now c.same_stmts.ensures
