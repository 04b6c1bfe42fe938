-- Texts in quotes, character by character.
use Rattle.std.proofs.Common.{◌≡◌, ℕ, ◌≤◌, Bool, true, false, not, ◌||◌, ◌==◌, List, [], ◌∷◌, ◌++◌, length, refl, ap, sym, subst, ◌∙◌, append_assoc, length-append, true≢false, arith}
use Rattle.std.proofs.lemmas.List.{append-nil}
use Rattle.std.proofs.lemmas.Bool.{ne_eqb}
use Rattle.std.proofs.lemmas.Str.{chars-nil, chars-encodes}
use Rattle.std.specs.Str.{chars, IsUtf8, encode_utf8_all}
use Rattle.std.specs.Char.Escape.{encode_utf16}
use Rattle.cc_text.specs.Characters.{is_line_end}
use Rattle.cc_text.specs.Escape.{Escaped, escaped, gives, octal, bad}
use Rattle.cc_text.proofs.EscapeLemmas.{ends_from}
use Rattle.cc_flags.specs.Values.{InQuotes, closing, itself, escaping, is_itself}
use Rattle.cc_flags.specs.Quoting.{GivesNone}

not_both : (c : ℕ) → c ≡ 92 → c ≡ 39 → ⊥
not_both c e h = omega arith

-- ---- empty texts

pub empty-is : (bs : List ℕ) (b : Bool) → b ≡ (length bs == 0) → b ≡ true → chars bs ≡ []
empty-is [] b e is = chars-nil
empty-is (x ∷ bs) b e is = absurd (let k = sym is ∙ e ∙ ne_eqb (length (x ∷ bs)) 0 (omega arith) in true≢false k)

chars-some : (bs : List ℕ) → IsUtf8 bs → chars bs ≡ [] → bs ≡ []
chars-some bs text none =
    let no_chars : text.0 ≡ [] = sym (chars-encodes text.0 text.1.0) ∙ ap chars text.1.1 ∙ none in
    sym text.1.1 ∙ ap encode_utf8_all no_chars

pub some-is : (bs : List ℕ) (b : Bool) → IsUtf8 bs → b ≡ (length bs == 0) → b ≡ false → chars bs ≡ [] → ⊥
some-is bs b text e is none = by_bytes bs (chars-some bs text none) (sym is ∙ e) where
  by_bytes : (ds : List ℕ) → ds ≡ [] → false ≡ (length ds == 0) → ⊥
  by_bytes [] h k = cc
  by_bytes (d ∷ ds) h k = cc

-- ---- what stands for itself

none_of : (a b l : Bool) → a ≡ false → b ≡ false → l ≡ false → not (a || b || l) ≡ true
none_of true b l e h k = cc
none_of false true l e h k = cc
none_of false false true e h k = cc
none_of false false false e h k = refl

line_end_of : (a b l : Bool) → l ≡ true → not (a || b || l) ≡ false
line_end_of true b l e = refl
line_end_of false true l e = refl
line_end_of false false true e = refl
line_end_of false false false e = cc

pub itself-is : (c : ℕ) → (c ≡ 39 → ⊥) → (c ≡ 92 → ⊥) → is_line_end c ≡ false → is_itself c ≡ true
itself-is c e h k = none_of (c == 39) (c == 92) (is_line_end c) (ne_eqb c 39 e) (ne_eqb c 92 h) k

line_end-isnt : (c : ℕ) → is_line_end c ≡ true → is_itself c ≡ false
line_end-isnt c e = line_end_of (c == 39) (c == 92) (is_line_end c) e

quote-isnt : (c : ℕ) → c ≡ 39 → is_itself c ≡ false
quote-isnt c e = ap is_itself e

backslash-isnt : (c : ℕ) → c ≡ 92 → is_itself c ≡ false
backslash-isnt c e = ap is_itself e

-- ---- one step

-- Before the next characters stand these units, and however the text reads, so do the next ones.
pub record QuoteStep (rest next units : List ℕ) : Type 0 where
  pub forward : (us : List ℕ) → InQuotes next us → InQuotes rest (units ++ us)
  pub backward : (us : List ℕ) → InQuotes rest us → (vs : List ℕ) × InQuotes next vs

back-itself : (c : ℕ) (cs us : List ℕ) → is_itself c ≡ true → InQuotes (c ∷ cs) us → (vs : List ℕ) × InQuotes cs vs
back-itself c cs us is (closing e) = absurd (let k = quote-isnt c e in cc)
back-itself c cs us is (itself {us = vs} p more) = (vs, more)
back-itself c cs us is (escaping e g more) = absurd (let k = backslash-isnt c e in cc)

pub step-itself : (c : ℕ) (rest cs : List ℕ) → rest ≡ c ∷ cs → is_itself c ≡ true → QuoteStep rest cs (encode_utf16 c)
step-itself c rest cs e is = record {
  forward = λ us more. subst (λ r. InQuotes r (encode_utf16 c ++ us)) (sym e) (itself is more);
  backward = λ us read. back-itself c cs us is (subst (λ r. InQuotes r us) e read);
}

back-escape : (c : ℕ) (cs us units next : List ℕ) → c ≡ 92 → escaped cs ≡ gives units next → InQuotes (c ∷ cs) us → (vs : List ℕ) × InQuotes next vs
back-escape c cs us units next e found (closing h) = absurd (not_both c e h)
back-escape c cs us units next e found (itself p more) = absurd (let k = backslash-isnt c e in cc)
back-escape c cs us units next e found (escaping {vs} {rest} h g more) = (vs, subst (λ r. InQuotes r vs) (let k : rest ≡ next = cc in k) more)

pub step-escape : (c : ℕ) (rest cs units next : List ℕ) → rest ≡ c ∷ cs → c ≡ 92 → escaped cs ≡ gives units next → QuoteStep rest next units
step-escape c rest cs units next e h found = record {
  forward = λ us more. subst (λ r. InQuotes r (units ++ us)) (sym e) (escaping h found more);
  backward = λ us read. back-escape c cs us units next h found (subst (λ r. InQuotes r us) e read);
}

pub escape-shorter : (cs units next : List ℕ) → escaped cs ≡ gives units next → length next ≤ length cs
escape-shorter cs units next e = let k = ends_from cs units next e in let h = ap length k.1 ∙ length-append k.0 next in omega arith

-- ---- texts that are none

wrong-quote : (c d : ℕ) (cs us : List ℕ) → c ≡ 39 → InQuotes (c ∷ d ∷ cs) us → ⊥
wrong-quote c d cs us e (itself p more) = let k = quote-isnt c e in cc
wrong-quote c d cs us e (escaping h g more) = not_both c h e

pub none-behind_quote : (c : ℕ) (rest cs us : List ℕ) → rest ≡ c ∷ cs → c ≡ 39 → (cs ≡ [] → ⊥) → InQuotes rest us → ⊥
none-behind_quote c rest [] us e h some read = some refl
none-behind_quote c rest (d ∷ cs) us e h some read = wrong-quote c d cs us h (subst (λ r. InQuotes r us) e read)

wrong-line_end : (c : ℕ) (cs us : List ℕ) → is_line_end c ≡ true → InQuotes (c ∷ cs) us → ⊥
wrong-line_end c cs us e (closing h) = let k : is_line_end 39 ≡ true = sym (ap is_line_end h) ∙ e in cc
wrong-line_end c cs us e (itself p more) = let k = line_end-isnt c e in cc
wrong-line_end c cs us e (escaping h g more) = let k : is_line_end 92 ≡ true = sym (ap is_line_end h) ∙ e in cc

pub none-at_line_end : (c : ℕ) (rest cs us : List ℕ) → rest ≡ c ∷ cs → is_line_end c ≡ true → InQuotes rest us → ⊥
none-at_line_end c rest cs us e h read = wrong-line_end c cs us h (subst (λ r. InQuotes r us) e read)

gives_none : (e : Escaped) (units next : List ℕ) → e ≡ gives units next → GivesNone e → ⊥
gives_none (gives us rest) units next e none = none
gives_none octal units next e none = cc
gives_none bad units next e none = cc

wrong-escape : (c : ℕ) (cs us : List ℕ) → c ≡ 92 → GivesNone (escaped cs) → InQuotes (c ∷ cs) us → ⊥
wrong-escape c cs us e none (closing h) = not_both c e h
wrong-escape c cs us e none (itself p more) = let k = backslash-isnt c e in cc
wrong-escape c cs us e none (escaping {us = units} {rest} h g more) = gives_none (escaped cs) units rest g none

pub none-at_escape : (c : ℕ) (rest cs us : List ℕ) → rest ≡ c ∷ cs → c ≡ 92 → GivesNone (escaped cs) → InQuotes rest us → ⊥
none-at_escape c rest cs us e h none read = wrong-escape c cs us h none (subst (λ r. InQuotes r us) e read)

wrong-end : (us : List ℕ) → InQuotes [] us → ⊥
wrong-end us read = elim read [ ]

pub none-at_end : (rest us : List ℕ) → rest ≡ [] → InQuotes rest us → ⊥
none-at_end rest us e read = wrong-end us (subst (λ r. InQuotes r us) e read)

-- ---- the units so far

pub record QuotedSoFar (text rest done : List ℕ) : Type 0 where
  pub forward : (us : List ℕ) → InQuotes rest us → InQuotes text (done ++ us)
  pub backward : (us : List ℕ) → InQuotes text us → (vs : List ℕ) × InQuotes rest vs

pub quoted-none : (text : List ℕ) → QuotedSoFar text text []
quoted-none text = record { forward = λ us read. read; backward = λ us read. (us, read) }

pub quoted-more : (text rest next done units new : List ℕ) → QuotedSoFar text rest done → QuoteStep rest next units → new ≡ done ++ units → QuotedSoFar text next new
quoted-more text rest next done units new so_far step added = record {
  forward =
      λ us read. subst (InQuotes text) (sym (append_assoc done units us) ∙ ap (λ d. d ++ us) (sym added)) (so_far.forward (units ++ us) (step.forward us read));
  backward = λ us read. let more = so_far.backward us read in step.backward more.0 more.1;
}

pub quoted-end : (text rest done : List ℕ) (c : ℕ) (cs : List ℕ) → QuotedSoFar text rest done → rest ≡ c ∷ cs → c ≡ 39 → cs ≡ [] → InQuotes text done
quoted-end text rest done c cs so_far e h none =
    subst (InQuotes text) (append-nil done) (so_far.forward [] (subst (λ r. InQuotes r []) (sym (e ∙ ap (λ ds. c ∷ ds) none)) (closing h)))

pub quoted-never : (text rest done : List ℕ) → QuotedSoFar text rest done → ((us : List ℕ) → InQuotes rest us → ⊥) → (us : List ℕ) → InQuotes text us → ⊥
quoted-never text rest done so_far none us read = let more = so_far.backward us read in none more.0 more.1
