use Rattle.std.proofs.Common.{arith, ◌≡◌, Some, drop}
use Rattle.std.proofs.lemmas.Grind.{common_steps}
use Rattle.cc_ast.specs.Bridge.{term, terms}
use Rattle.cc_driver.specs.Spelling.{join, spell_value, spell_values}
use Rattle.cc_driver.specs.Shapes.{spell_more}
use Rattle.cc_driver.proofs.SpellingLaws.{no_values, first_value}
use Rattle.cc_driver.proofs.spelling.value.push_values.Goals as goal

pub returns-in-empty : goal.returns-in-empty
returns-in-empty c = no_values c.args.values.now c.args.pieces.now (omega arith)

pub returns-else-not-branch : goal.returns-else-not-branch
returns-else-not-branch c =
    let put : Some c.push_value.new.pieces ≡ join (Some c.args.pieces.now) (spell_value (term c.first-item.result)) = grind (arith, common_steps) in
    let whole : join (Some c.push_value.new.pieces) (spell_more (terms (drop 1 c.args.values.now))) ≡ join (Some c.args.pieces.now) (spell_values (terms c.args.values.now)) = first_value c.args.values.now c.first-item.result c.args.pieces.now c.push_value.new.pieces (omega arith) c.first-item.is put in
    grind (arith, common_steps)
