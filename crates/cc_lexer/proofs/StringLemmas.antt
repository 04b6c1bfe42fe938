-- A string, character by character from its start.
use Rattle.std.specs.Prelude.{◌≡◌, ℕ, ◌≤◌, List, [], ◌∷◌, ◌++◌, Bool, true, false, not, ◌||◌, ◌==◌, length}
use Rattle.std.proofs.Common.{refl, sym, ◌∙◌, ap, subst, arith, append_assoc, length-append}
use Rattle.std.proofs.lemmas.List.{append-nil}
use Rattle.std.specs.Char.Escape.{encode_utf16}
use Rattle.cc_text.specs.Escape.{escaped, gives}
use Rattle.cc_text.proofs.EscapeLemmas.{ends_from}
use Rattle.std.proofs.lemmas.Bool.Decides.{nat_tests}
use Rattle.cc_text.specs.Characters.{is_line_end}
use Rattle.cc_lexer.specs.declared.token.Fault.{Fault}
use Rattle.cc_lexer.specs.declared.token.Fault.TheVariants as fault
use Rattle.cc_lexer.specs.Strings.{StringEnd, closes, fails, before, InString, quote, plain, escape, no_escape, cut, unclosed, is_plain, FailsAs}

pub before_before : (us vs : List ℕ) (e : StringEnd) → before us (before vs e) ≡ before (us ++ vs) e
before_before us vs (closes ws rest) = ap (λ x. closes x rest) (sym (append_assoc us vs ws))
before_before us vs (fails f) = refl

-- what stands before the rest has these units
abbrev pub Read : ℕ → List ℕ → List ℕ → List ℕ → Type 0
Read q text us rest = (e : StringEnd) → InString q rest e → InString q text (before us e)

pub read_more : (q : ℕ) (text us rest vs next new : List ℕ) → Read q text us rest → Read q rest vs next → new ≡ us ++ vs → Read q text new next
read_more q text us rest vs next new r s e x i = subst (InString q text) (before_before us vs x ∙ ap (λ w. before w x) (sym e)) (r (before vs x) (s x i))

pub read_plain : (q c : ℕ) (cs rest : List ℕ) → rest ≡ c ∷ cs → is_plain q c ≡ true → Read q rest (encode_utf16 c) cs
read_plain q c cs rest e p x i = subst (λ l. InString q l (before (encode_utf16 c) x)) (sym e) (plain p i)

pub read_escape : (q c : ℕ) (cs rest us next : List ℕ) → rest ≡ c ∷ cs → c ≡ 92 → escaped cs ≡ gives us next → Read q rest us next
read_escape q c cs rest us next e h k x i = subst (λ l. InString q l (before us x)) (sym e) (escape h k i)

pub before_none : (us rest : List ℕ) → before us (closes [] rest) ≡ closes us rest
before_none us rest = ap (λ x. closes x rest) (append-nil us)

pub escape_shorter : (cs us next : List ℕ) → escaped cs ≡ gives us next → length next ≤ length cs
escape_shorter cs us next e = let k = ends_from cs us next e in let h = ap length k.1 ∙ length-append k.0 next in omega arith

none_of : (a b l : Bool) → a ≡ false → b ≡ false → l ≡ false → not (a || b || l) ≡ true
none_of true b l e h k = cc
none_of false true l e h k = cc
none_of false false true e h k = cc
none_of false false false e h k = refl

pub plain_is : (q c : ℕ) → (c ≡ q → ⊥) → (c ≡ 92 → ⊥) → is_line_end c ≡ false → is_plain q c ≡ true
plain_is q c e h k = none_of (c == q) (c == 92) (is_line_end c) (grind (arith, nat_tests)) (grind (arith, nat_tests)) k

pub fails_at : (q c : ℕ) (cs rest : List ℕ) (f : Fault) → rest ≡ c ∷ cs → c ≡ 92 → FailsAs (escaped cs) f → InString q rest (fails f)
fails_at q c cs rest f e h k = subst (λ l. InString q l (fails f)) (sym e) (no_escape h k)

pub cut_at : (q c : ℕ) (cs rest : List ℕ) → rest ≡ c ∷ cs → is_line_end c ≡ true → InString q rest (fails fault.Syntax)
cut_at q c cs rest e h = subst (λ l. InString q l (fails fault.Syntax)) (sym e) (cut h)

pub unclosed_at : (q : ℕ) (rest : List ℕ) → rest ≡ [] → InString q rest (fails fault.Syntax)
unclosed_at q rest e = subst (λ l. InString q l (fails fault.Syntax)) (sym e) unclosed

pub quote_at : (q c : ℕ) (cs rest : List ℕ) → rest ≡ c ∷ cs → c ≡ q → InString q rest (closes [] cs)
quote_at q c cs rest e h = subst (λ l. InString q l (closes [] cs)) (sym e) (quote h)
