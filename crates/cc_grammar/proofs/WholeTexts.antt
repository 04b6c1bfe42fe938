-- Where the tokens of a text are read, none of them is left.
use Rattle.std.specs.Prelude.{◌≡◌, ℕ, false, List, [], map, Ok}
use Rattle.std.proofs.Common.{subst}
use Rattle.cc_grammar.specs.Symbols.{real}
use Rattle.cc_grammar.specs.RawTree.{RawStmt}
use Rattle.cc_grammar.specs.Laws.{IsText, IsWhole}
use Rattle.cc_grammar.specs.Reading.{Sized, read_symbols}
use Rattle.cc_grammar.proofs.Soundness.Sound.{symbols_sound, ended_at}
use Rattle.cc_grammar.proofs.Copying.Copies.{L, put, put_lexemes, lexemes_real, Copies, read, Quiet}
use Rattle.cc_grammar.proofs.Copying.CopyPrograms.{program_copy}
use Rattle.cc_grammar.proofs.Completeness.CompleteTokens.{whole_text}

whole_by : (turns d : ℕ) {ts us : L} {x : Sized (List RawStmt)} → IsText ts → Copies false Quiet (read_symbols turns d) ts (Ok (x, us)) → us ≡ []
whole_by turns d text (read {a} {us} w e j k z) =
    let xs = put w (map real us) in
    whole_text d xs a us text (put_lexemes w (map real us) (lexemes_real us)) (ended_at d xs a (map real us) (read_symbols turns d xs) (symbols_sound turns d xs) (e (map real us) (lexemes_real us)))

pub whole : IsWhole
whole turns d ts us x text e = whole_by turns d text (subst (λ o. Copies false Quiet (read_symbols turns d) ts o) e (program_copy turns d ts))
