use Rattle.std.proofs.Common.{◌≡◌, ◌&&◌, true, not, nat_lt, take}
use Rattle.std.specs.List.{list_all}
use Rattle.cc_text.specs.Characters.{is_line_end}
use Rattle.cc_lexer.proofs.place.plain_length.Given as goal

abbrev pub invariant-loop-at : goal.invariant-loop-at
invariant-loop-at l = list_all (λ b. nat_lt b 128 && not (is_line_end b)) (take l.at l.bytes) ≡ true
