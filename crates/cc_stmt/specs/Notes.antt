-- The annotation comments of a list of tokens, and the licences among them.
use Rattle.std.specs.Prelude.{ℕ, List, [], ◌∷◌, ◌++◌, Bool, true, false, ◌||◌, ◌&&◌, ◌==◌, if◌then◌else◌, codes}
use Rattle.cc_ast.specs.declared.place.Place.{Place}
use Rattle.cc_lexer.specs.declared.token.Token.{Token}
use Rattle.cc_lexer.specs.declared.token.TokenKind.{TokenKind}
use Rattle.cc_lexer.specs.declared.token.TokenKind.TheVariants as kind
use Rattle.cc_stmt.specs.declared.tree.Note.{Note}

-- the place of the first of these tokens that is no comment, or the place q where there is none
abbrev pub after : TokenKind → Place → Place → Place
after (kind.Doc text) p q = q
after _ p q = p

abbrev pub next_place : Place → List Token → Place
next_place q [] = q
next_place q (t ∷ ts) = after t.kind t.place (next_place q ts)

abbrev pub note : TokenKind → Place → Place → List Note
note (kind.Doc text) p q = record { place = p; next = q; text = text } ∷ []
note _ p q = []

-- The annotation comments in order, each with the place of the next token that is no comment, which
-- is q behind the last of those.
abbrev pub notes : Place → List Token → List Note
notes q [] = []
notes q (t ∷ ts) = note t.kind t.place (next_place q ts) ++ notes q ts

abbrev pub starts_with : List ℕ → List ℕ → Bool
starts_with [] us = true
starts_with (w ∷ ws) [] = false
starts_with (w ∷ ws) (u ∷ us) = w == u && starts_with ws us

-- the text w stands somewhere in the units
abbrev pub contains : List ℕ → List ℕ → Bool
contains w [] = starts_with w []
contains w (u ∷ us) = starts_with w (u ∷ us) || contains w us

abbrev pub is_licence : List ℕ → Bool
is_licence text = contains (codes "@license") text || contains (codes "@preserve") text

-- the whole texts of the licences, in order
abbrev pub licences : List Note → List (List ℕ)
licences [] = []
licences (n ∷ ns) = if is_licence n.text then n.text ∷ licences ns else licences ns
