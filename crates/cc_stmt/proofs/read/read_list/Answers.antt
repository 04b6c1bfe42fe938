use Rattle.std.proofs.Common.{◌≡◌, refl, ap, ◌+◌, length, arith}
use Rattle.cc_grammar.specs.Reading.{syntax, depth, spent, refused}
use Rattle.cc_cursor.specs.Shown.{cause}
use Rattle.cc_stmt.proofs.ReadLemmas.{read_well, fails_by, unspent}
use Rattle.cc_stmt.proofs.read.read_list.Goals as goal

pub returns-in-Ok-clause-read : goal.returns-in-Ok-clause-read
returns-in-Ok-clause-read c =
    read_well c.a_text_has_tokens.ensures c.reading_ends.ensures c.reading_is_sound.ensures c.trees_are_small.ensures
    _ c.args.tokens.now _ _ c.in-Ok.found c.in-Ok.field-0-1 c.requires c.new-cursor.ensures refl c.in-Ok.ensures.reads

pub returns-in-Syntax-clause-refused : goal.returns-in-Syntax-clause-refused
returns-in-Syntax-clause-refused c =
    let e = rw c.in-Err-Fault.field-0-is at c.in-Err-Fault.ensures.reads in
    let n : c.len-turns.result + 2 ≡ length c.args.tokens.now.list.items + 2 = omega (arith, c.len-turns.ensures) in
    fails_by c.a_text_has_tokens.ensures c.faults_are_first.ensures c.derived_lists_have_no_fault.ensures
    _ c.args.tokens.now _ _ c.in-Err-Fault.fault syntax c.requires c.new-cursor.ensures refl n e (ap cause c.in-Syntax.is)

pub returns-in-Refused-clause-refused : goal.returns-in-Refused-clause-refused
returns-in-Refused-clause-refused c =
    let e = rw c.in-Err-Fault.field-0-is at c.in-Err-Fault.ensures.reads in
    let n : c.len-turns.result + 2 ≡ length c.args.tokens.now.list.items + 2 = omega (arith, c.len-turns.ensures) in
    fails_by c.a_text_has_tokens.ensures c.faults_are_first.ensures c.derived_lists_have_no_fault.ensures
    _ c.args.tokens.now _ _ c.in-Err-Fault.fault (refused c.in-Refused.kind) c.requires c.new-cursor.ensures refl n e (ap cause c.in-Refused.is)

pub returns-in-Depth-clause-refused : goal.returns-in-Depth-clause-refused
returns-in-Depth-clause-refused c =
    let e = rw c.in-Err-Fault.field-0-is at c.in-Err-Fault.ensures.reads in
    let n : c.len-turns.result + 2 ≡ length c.args.tokens.now.list.items + 2 = omega (arith, c.len-turns.ensures) in
    fails_by c.a_text_has_tokens.ensures c.faults_are_first.ensures c.derived_lists_have_no_fault.ensures
    _ c.args.tokens.now _ _ c.in-Err-Fault.fault depth c.requires c.new-cursor.ensures refl n e (ap cause c.in-Depth.is)

-- The turns are more than the tokens.
pub unreachable-requires : goal.unreachable-requires
unreachable-requires c =
    let e = rw c.in-Err-Fault.field-0-is at c.in-Err-Fault.ensures.reads in
    let n : c.len-turns.result + 2 ≡ length c.args.tokens.now.list.items + 2 = omega (arith, c.len-turns.ensures) in
    unspent (fails_by c.a_text_has_tokens.ensures c.faults_are_first.ensures c.derived_lists_have_no_fault.ensures
    _ c.args.tokens.now _ _ c.in-Err-Fault.fault spent c.requires c.new-cursor.ensures refl n e (ap cause c.in-Spent.is))
