-- Comments (ECMA-262 5.1, 7.4).
use Rattle.std.specs.Prelude.{ℕ, List, [], ◌∷◌, ◌++◌, Bool, ◌&&◌, ◌==◌, if◌then◌else◌, Option, Some, None, drop}
use Rattle.std.specs.List.{list_any}
use Rattle.cc_text.specs.Characters.{is_line_end, first_is}

-- a `*/` begins here
abbrev pub closes : ℕ → List ℕ → Bool
closes c cs = c == 42 && first_is (λ d. d == 47) cs

-- what a comment holds behind its `/*` up to the next `*/`, and what is behind that
abbrev pub inside : List ℕ → List ℕ
inside [] = []
inside (c ∷ cs) = if closes c cs then [] else c ∷ inside cs

abbrev pub behind_comment : List ℕ → Option (List ℕ)
behind_comment [] = None
behind_comment (c ∷ cs) = if closes c cs then Some (drop 1 cs) else behind_comment cs

-- the whole comment
abbrev pub comment : List ℕ → List ℕ
comment cs = 47 ∷ 42 ∷ (inside cs ++ 42 ∷ 47 ∷ [])

-- it begins with `/**` and isn't `/**/`
abbrev pub is_annotation : List ℕ → Bool
is_annotation cs = first_is (λ c. c == 42) (inside cs)

abbrev pub has_line_end : List ℕ → Bool
has_line_end cs = list_any is_line_end cs
