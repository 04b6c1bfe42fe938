use Rattle.std.proofs.Common.{arith, ◌≡◌, ◌++◌, ◌∷◌, [], ◌-◌, ◌/◌, ◌%◌, slice_index}
use Rattle.std.proofs.lemmas.Grind.{common_steps}
use Rattle.cc_driver.specs.Naming.{characters}
use Rattle.cc_driver.proofs.NumberLaws.{first_number, longer_number}
use Rattle.cc_driver.proofs.naming.number.+numbered.Goals as goal

pub returns-then-k-lt54 : goal.returns-then-k-lt54
returns-then-k-lt54 t c =
    let whole : c.push.new.self.items ≡ slice_index characters c.args.k ∷ [] = grind (arith, common_steps) in
    first_number c.args.k c.push.new.self.items (omega arith) whole

pub returns : goal.returns
returns t c =
    let behind = c.args.k - 54 in
    let whole : c.push-2.new.self.items ≡ c.in_ok-name.name.items ++ slice_index characters (behind % 64) ∷ [] = grind (arith, common_steps) in
    longer_number c.args.k (behind / 64) (behind % 64) c.in_ok-name.name.items c.push-2.new.self.items (omega arith) (omega arith) c.in_ok-name.ensures whole
