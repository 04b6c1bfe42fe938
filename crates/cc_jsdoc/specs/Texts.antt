-- What a comment says: its text without the marks of the comment and the stars at the heads of its lines.
use Rattle.std.specs.Prelude.{ℕ, ◌-◌, List, [], ◌∷◌, ◌++◌, if◌then◌else◌, length}
use Rattle.std.specs.List.{slice_range, flat_map}
use Rattle.std.specs.Char.Utf16.{utf16_lossy_chars}
use Rattle.cc_text.specs.Characters.{is_line_end}
use Rattle.cc_lexer.specs.Characters.{is_white, behind}
use Rattle.cc_jsdoc.specs.Classes.{is_star}

-- what stands between the first three units and the last two, which are `/**` and `*/`
abbrev pub inside : List ℕ → List ℕ
inside units = slice_range units 3 (length units - 2)

-- the list of texts, with a character before the first of them
abbrev pub onto_first : ℕ → List (List ℕ) → List (List ℕ)
onto_first c [] = (c ∷ []) ∷ []
onto_first c (text ∷ texts) = (c ∷ text) ∷ texts

-- the lines of a text, without the line ends between them
abbrev pub lines : List ℕ → List (List ℕ)
lines [] = [] ∷ []
lines (c ∷ cs) = if is_line_end c then [] ∷ lines cs else onto_first c (lines cs)

-- a line without white space and one run of stars at its head
abbrev pub without_head : List ℕ → List ℕ
without_head line = behind is_star (behind is_white line)

-- the first line, and behind a line end each later one without its head
abbrev pub joined : List (List ℕ) → List ℕ
joined [] = []
joined (first ∷ later) = first ++ flat_map (λ line. 10 ∷ without_head line) later

-- what a comment of these units says
abbrev pub text_of : List ℕ → List ℕ
text_of units = joined (lines (utf16_lossy_chars (inside units)))
