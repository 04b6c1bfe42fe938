use Rattle.std.proofs.Common.{arith, ◌≡◌, Some, None}
use Rattle.std.proofs.lemmas.Grind.{common_steps}
use Rattle.cc_ast.specs.Bridge.{term, terms}
use Rattle.cc_driver.specs.Spelling.{join, spell_value}
use Rattle.cc_driver.specs.Shapes.{spell_more}
use Rattle.cc_driver.proofs.SpellingLaws.{more_goes_on, more_fails, more_ends}
use Rattle.cc_driver.proofs.spelling.value.push_more.Goals as goal

pub returns-then-not-branch : goal.returns-then-not-branch
returns-then-not-branch c =
    let failed : None ≡ join (Some c.push_bytes.new.pieces) (spell_value (term c.value-item.result)) = grind (arith, common_steps) in
    more_fails (join (Some c.args.pieces.now) (spell_more (terms c.args.values.now))) c.args.values.now c.loop-value.value-index c.value-item.result c.loop-value.pieces (omega arith) c.value-item.is c.loop-value.invariant _ c.in_ok-push_bytes.ensures failed

pub loop-value-preserved : goal.loop-value-preserved
loop-value-preserved c =
    let put : Some c.push_value.new.pieces ≡ join (Some c.push_bytes.new.pieces) (spell_value (term c.value-item.result)) = grind (arith, common_steps) in
    more_goes_on (join (Some c.args.pieces.now) (spell_more (terms c.args.values.now))) c.args.values.now c.loop-value.value-index c.value-item.result c.loop-value.pieces (omega arith) c.value-item.is c.loop-value.invariant _ c.in_ok-push_bytes.ensures _ put

pub returns : goal.returns
returns c = more_ends (join (Some c.args.pieces.now) (spell_more (terms c.args.values.now))) c.args.values.now c.loop-value.value-index c.loop-value.pieces (omega arith) c.loop-value.invariant
