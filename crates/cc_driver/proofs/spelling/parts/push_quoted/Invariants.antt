use Rattle.std.proofs.Common.{◌≡◌, ◌∷◌, take, true}
use Rattle.std.specs.List.{list_all}
use Rattle.cc_driver.specs.Form.{is_plain}
use Rattle.cc_driver.proofs.spelling.parts.push_quoted.Given as goal

abbrev pub invariant-loop-unit : goal.invariant-loop-unit
invariant-loop-unit l =
    (l.bytes ≡ 34 ∷ take l.unit-index l.unit-items) × (list_all is_plain (take l.unit-index l.unit-items) ≡ true)
