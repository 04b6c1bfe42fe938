use Rattle.std.proofs.Common.{rules, arith}
use Rattle.std.proofs.lemmas.Grind.{common_steps}
use Rattle.cc_cursor.proofs.signs.infix_of.Goals as goal

pub returns-in-Mark : goal.returns-in-Mark
returns-in-Mark c =
    let e = c.infix_of_mark.ensures c.args.with_in in
    first_of (search rules, grind (arith, common_steps))
