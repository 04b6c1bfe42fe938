-- A name that is spelled as a word is that word.
use Rattle.std.specs.Prelude.{◌≡◌, ℕ, pos, negsuc, List, [], ◌∷◌, Bool, true, false, cond, Option, Some, None}
use Rattle.std.specs.Str.{bytes_eq}
use Rattle.std.proofs.lemmas.Slice.Eq.{bytes_eq-Decides}
use Rattle.std.proofs.Common.{refl, ap, subst}
use Rattle.cc_lexer.specs.declared.word.Word.{Word}
use Rattle.cc_lexer.specs.Words.{word_of, spelled_in, spelling, words}
use Rattle.cc_grammar.specs.RawTree.{RawKey}
use Rattle.cc_grammar.specs.RawTree as raw
use Rattle.cc_grammar.specs.Signs.{property_of, key_of}
use Rattle.cc_printer.specs.Printing.{worded, identifier, key}
use Rattle.cc_printer.specs.Printable.{is_key}

bytes_same : (xs ys : List ℕ) → bytes_eq xs ys ≡ true → xs ≡ ys
bytes_same xs ys h = (bytes_eq-Decides xs ys).0 h

some_same : (x w : Word) → Some x ≡ Some w → x ≡ w
some_same x w h = cc

pub spelled : (ws : List Word) (v : List ℕ) (w : Word) → spelled_in ws v ≡ Some w → spelling w ≡ v
spelled [] v w h = cc
spelled (x ∷ ws) v w h = by (bytes_eq (spelling x) v) refl h (spelled ws v w) where
  by : (t : Bool) → bytes_eq (spelling x) v ≡ t → cond t (Some x) (spelled_in ws v) ≡ Some w → (spelled_in ws v ≡ Some w → spelling w ≡ v) → spelling w ≡ v
  by true e h r = subst (λ y. spelling y ≡ v) (some_same x w h) (bytes_same (spelling x) v e)
  by false e h r = r h

pub property_back : (v : List ℕ) → property_of (identifier v) ≡ Some v
unfolding words word_of
property_back v = by (word_of v) refl where
  by : (o : Option Word) → word_of v ≡ o → property_of (worded v o) ≡ Some v
  by None e = refl
  by (Some w) e = ap Some (spelled words v w e)

pub key_back : (x : RawKey) → is_key x ≡ true → key_of (key x) ≡ Some x
unfolding words word_of
key_back (raw.dotted v) h = by (word_of v) refl where
  by : (o : Option Word) → word_of v ≡ o → key_of (worded v o) ≡ Some (raw.dotted v)
  by None e = refl
  by (Some w) e = ap (λ x. Some (raw.dotted x)) (spelled words v w e)
key_back (raw.quoted t) h = refl
key_back (raw.numbered (pos n)) h = refl
key_back (raw.numbered (negsuc n)) h = cc
