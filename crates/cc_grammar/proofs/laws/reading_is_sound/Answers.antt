use Rattle.cc_grammar.proofs.laws.reading_is_sound.Goals as goal
use Rattle.cc_grammar.proofs.Soundness.SoundTokens.{sound}

pub returns : goal.returns
returns c = sound
