-- Classes of characters.
use Rattle.std.specs.Prelude.{ℕ, Bool, not, ◌||◌, ◌==◌}
use Rattle.std.specs.Char.{is_ascii_alphabetic}
use Rattle.cc_text.specs.Characters.{is_line_end}
use Rattle.cc_lexer.specs.Characters.{is_white, is_part}
use Rattle.cc_jsdoc.specs.declared.classes.Class.{Class}
use Rattle.cc_jsdoc.specs.declared.classes.Class.TheVariants as class

-- white space; a line end counts as such
abbrev pub is_blank : ℕ → Bool
is_blank c = is_white c || is_line_end c

abbrev pub is_star : ℕ → Bool
is_star c = c == 42

abbrev pub is_in : Class → ℕ → Bool
is_in class.White c = is_white c
is_in class.Blank c = is_blank c
is_in class.Inline c = not (is_line_end c)
is_in class.Star c = is_star c
is_in class.Part c = is_part c
is_in class.Letter c = is_ascii_alphabetic c
