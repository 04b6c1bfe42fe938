-- Short forms of tokens, for computed rows.
use Rattle.std.specs.Prelude.{ℕ, suc, pos, List, [], ◌∷◌, Bool, true, false, Ok, Err, Option, Some, None, codes}
use Prim.Native.String.{String}
use Rattle.cc_lexer.specs.declared.token.Mark.{Mark}
use Rattle.cc_lexer.specs.declared.word.Word.{Word}
use Rattle.cc_grammar.specs.Symbols.{Kind, Lexeme, nowhere}
use Rattle.cc_grammar.specs.Symbols as k
use Rattle.cc_grammar.specs.RawTree.{RawStmt}
use Rattle.cc_grammar.specs.Reading.{Outcome, Sized, Cause}

pub record Piece : Type 0 where
  pub kind : Kind
  pub after_line : Bool

abbrev pub name : String → Piece
name n = record { kind = k.name (codes n); after_line = false }

abbrev pub word : Word → Piece
word w = record { kind = k.word w; after_line = false }

abbrev pub mark : Mark → Piece
mark m = record { kind = k.mark m; after_line = false }

abbrev pub number : ℕ → Piece
number n = record { kind = k.number (pos n); after_line = false }

abbrev pub text : String → Piece
text t = record { kind = k.text (codes t); after_line = false }

abbrev pub end : Piece
end = record { kind = k.end; after_line = false }

-- where no token begins
abbrev pub stopped : Piece
stopped = record { kind = k.stop None; after_line = false }

-- behind a line end
abbrev pub line : Piece → Piece
line p = record p { after_line = true }

-- the tokens, each with the number of those before it as its place
abbrev pub placed : ℕ → List Piece → List Lexeme
placed n [] = []
placed n (p ∷ ps) = record { kind = p.kind; place = record { file = 0; offset = n; line = 1; column = 1 }; after_line = p.after_line; noted = false } ∷ placed (suc n) ps

-- the tokens without their places
abbrev pub placeless : List Piece → List Lexeme
placeless [] = []
placeless (p ∷ ps) = record { kind = p.kind; place = nowhere; after_line = p.after_line; noted = false } ∷ placeless ps

-- why the list isn't read, and how many tokens stand before the place
abbrev pub failure : Outcome (List Lexeme) (Sized (List RawStmt)) → Option (Cause × ℕ)
failure (Ok x) = None
failure (Err x) = Some (x.0.cause, x.0.place.offset)

-- the statements, where the list is read
abbrev pub tree : Outcome (List Lexeme) (Sized (List RawStmt)) → Option (List RawStmt × List Lexeme)
tree (Ok x) = Some (x.0.0, x.1)
tree (Err x) = None

-- it is read, and what is left of it is nothing
abbrev pub is_whole : Option (List RawStmt × List Lexeme) → Bool
is_whole (Some (b, [])) = true
is_whole _ = false
