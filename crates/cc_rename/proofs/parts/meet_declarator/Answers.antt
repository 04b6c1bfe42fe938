use Rattle.cc_rename.proofs.Walk as W
use Rattle.cc_rename.proofs.WalkParts as P
use Rattle.cc_rename.proofs.parts.meet_declarator.Goals as goal

pub returns : goal.returns
returns c = W.last c.meet_option.result c.args.met.now c.push.new.self c.meet_option.new.met _ _ _ c.in_ok-push.ensures.ok (P.of-declarator c.args.catches c.args.d.now) c.meet_option.ensures
