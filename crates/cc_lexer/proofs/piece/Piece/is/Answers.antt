use Rattle.std.proofs.Common.{◌∙◌}
use Rattle.cc_lexer.proofs.PieceLemmas.{is_text}
use Rattle.cc_lexer.proofs.piece.Piece.is.Goals as goal

pub returns : goal.returns
returns c = c.eq.ensures ∙ is_text _ _ _ c.utf8.text c.text.utf8 c.text.ensures
