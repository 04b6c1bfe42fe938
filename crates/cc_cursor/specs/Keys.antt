-- What the code's names of properties and keys show.
use Rattle.std.specs.Prelude.{ℕ, List}
use Rattle.cc_lexer.specs.Words.{spelling}
use Rattle.cc_grammar.specs.RawTree as raw
use Rattle.cc_cursor.specs.declared.keys.Property.{Property}
use Rattle.cc_cursor.specs.declared.keys.Property.TheVariants as P
use Rattle.cc_cursor.specs.declared.keys.Key.{Key}
use Rattle.cc_cursor.specs.declared.keys.Key.TheVariants as K

abbrev pub property : Property → List ℕ
property (P.Name n) = n.now
property (P.Word w) = spelling w

abbrev pub key : Key → raw.RawKey
key (K.Dotted p) = raw.dotted (property p)
key (K.Quoted t) = raw.quoted t.now
key (K.Numbered n) = raw.numbered n
