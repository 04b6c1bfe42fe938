use Rattle.std.proofs.Common.{◌≡◌, take, flat_map}
use Rattle.cc_driver.specs.Spelling.{piece_text}
use Rattle.cc_driver.proofs.spelling.text.Given as goal

abbrev pub invariant-loop-piece : goal.invariant-loop-piece
invariant-loop-piece l = l.bytes.items ≡ flat_map (piece_text l.names) (take l.piece-index l.pieces)
