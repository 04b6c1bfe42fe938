-- Characters as units (ECMA-262 5.1, 8.4).
use Rattle.std.specs.Prelude.{ℕ, List, [], ◌∷◌, ◌++◌}
use Rattle.std.specs.Char.Escape.{encode_utf16}

-- the UTF-16 units of characters, two for each above U+FFFF
abbrev pub utf16 : List ℕ → List ℕ
utf16 [] = []
utf16 (c ∷ cs) = encode_utf16 c ++ utf16 cs
