-- The tokens of a text are as the trees need them: whole literals are exact, and names begin with no digit.
use Rattle.std.specs.Prelude.{◌≡◌, ℕ, ℤ, zero, suc, pos, ◌+◌, ◌-◌, ◌<◌, ◌/◌, ◌%◌, Bool, true, false, ◌&&◌, ◌||◌, ◌==◌, nat_eq, nat_le, nat_lt, cond, List, [], ◌∷◌, ◌++◌, Option, Some, None, is_none, encode_utf8_all}
use Rattle.std.specs.Option.{option_map_or}
use Rattle.std.specs.List.{list_all}
use Rattle.std.proofs.Common.{refl, sym, ◌∙◌, subst, arith, inl, inr}
use Rattle.std.proofs.lemmas.Bool.Decides.{nat_tests}
use Rattle.cc_ast.specs.declared.reading.Refusal.{Refusal}
use Rattle.cc_ast.specs.declared.reading.Refusal.TheVariants as refusal
use Rattle.cc_text.specs.Characters.{first_is}
use Rattle.cc_text.specs.Utf16.{utf16}
use Rattle.cc_text.specs.Whole.{value_in, is_digit_in, numeral, hexadecimal, behind_zero, whole_of}
use Rattle.cc_lexer.specs.declared.token.Token.{Token}
use Rattle.cc_lexer.specs.declared.token.TokenKind.{TokenKind}
use Rattle.cc_lexer.specs.declared.token.TokenKind.TheVariants as kind
use Rattle.cc_lexer.specs.declared.word.Word.{Word}
use Rattle.cc_lexer.specs.Words.{word_of}
use Rattle.cc_lexer.specs.Characters.{is_start}
use Rattle.cc_lexer.specs.Covers as cover
use Rattle.cc_lexer.specs.Covers.{Spells, Covered}
use Rattle.cc_lexer.specs.Lexes.{Lexed}
use Rattle.cc_lexer.proofs.CoverLemmas.{lexes_covered}
use Rattle.cc_lexer.proofs.QuickLemmas.{is_letter, letter_start}
use Rattle.cc_meaning.specs.Alike.{In, here, there}
use Rattle.cc_meaning.specs.Names.{is_index}
use Rattle.cc_meaning.specs.Operators.{is_exact}
use Rattle.cc_grammar.specs.Symbols.{Kind, Lexeme, kind_of, stop_of, lexeme, lexemes}
use Rattle.cc_grammar.specs.Symbols as k
use Rattle.cc_scope.proofs.Leaving.{IsLexed}
use Rattle.cc_scope.proofs.Declared.{in_either}

-- ---- numbers

numeral_small : (base v n : ℕ) (cs : List ℕ) → numeral base v cs ≡ Some n → n < 9007199254740992
numeral_small base v n cs e = by (list_all (is_digit_in base) cs) (nat_lt (value_in base v cs) 9007199254740992) refl e where
  by : (a b : Bool) → nat_lt (value_in base v cs) 9007199254740992 ≡ b → cond (a && b) (Some (value_in base v cs)) None ≡ Some n → n < 9007199254740992
  by true true h q = let same : value_in base v cs ≡ n = cc in subst (λ m. m < 9007199254740992) same (grind (arith, nat_tests))
  by true false h q = absurd (cc)
  by false b h q = absurd (cc)

hexadecimal_small : (n : ℕ) (cs : List ℕ) → hexadecimal cs ≡ Some n → n < 9007199254740992
hexadecimal_small n [] e = absurd (cc)
hexadecimal_small n (c ∷ cs) e = numeral_small 16 0 n (c ∷ cs) e

zero_small : (n : ℕ) (cs : List ℕ) → behind_zero cs ≡ Some n → n < 9007199254740992
zero_small n [] e = let same : 0 ≡ n = cc in omega (arith, same)
zero_small n (c ∷ cs) e = by (c == 120 || c == 88) e where
  by : (a : Bool) → cond a (hexadecimal cs) None ≡ Some n → n < 9007199254740992
  by true q = hexadecimal_small n cs q
  by false q = absurd (cc)

whole_small : (n : ℕ) (cs : List ℕ) → whole_of cs ≡ Some n → n < 9007199254740992
whole_small n [] e = absurd (cc)
whole_small n (c ∷ cs) e = by (c == 48) e where
  by : (a : Bool) → cond a (behind_zero cs) (numeral 10 0 (c ∷ cs)) ≡ Some n → n < 9007199254740992
  by true q = zero_small n cs q
  by false q = numeral_small 10 0 n (c ∷ cs) q

small_exact : (n : ℕ) → n < 9007199254740992 → is_exact (pos n) ≡ true
small_exact n h = grind (arith, nat_tests)

-- ---- names

abbrev digit : ℕ → Bool
digit c = nat_le 48 c && nat_le c 57

no_first : (c : ℕ) (cs : List ℕ) → digit c ≡ false → is_index (c ∷ cs) ≡ false
unfolding is_index
no_first c cs e = let h : nat_eq c 48 ≡ false = grind (arith, nat_tests) in rw (h, e) refl

no_letter : (d : ℕ) → d < 10 → is_letter (48 + d) ≡ false
no_letter zero h = refl
no_letter (suc zero) h = refl
no_letter (suc (suc zero)) h = refl
no_letter (suc (suc (suc zero))) h = refl
no_letter (suc (suc (suc (suc zero)))) h = refl
no_letter (suc (suc (suc (suc (suc zero))))) h = refl
no_letter (suc (suc (suc (suc (suc (suc zero)))))) h = refl
no_letter (suc (suc (suc (suc (suc (suc (suc zero))))))) h = refl
no_letter (suc (suc (suc (suc (suc (suc (suc (suc zero)))))))) h = refl
no_letter (suc (suc (suc (suc (suc (suc (suc (suc (suc zero))))))))) h = refl
no_letter (suc (suc (suc (suc (suc (suc (suc (suc (suc (suc d)))))))))) h = absurd (omega (arith, h))

no_digit : (c : ℕ) → is_start c ≡ true → digit c ≡ false
no_digit c s = by (digit c) refl where
  by : (b : Bool) → digit c ≡ b → b ≡ false
  by false e = refl
  by true e =
      let low : 48 + (c - 48) ≡ c = grind (arith, nat_tests) in let few : c - 48 < 10 = grind (arith, nat_tests) in let ascii : c < 128 = omega (arith, low, few) in
      let no : is_letter c ≡ false = subst (λ z. is_letter z ≡ false) low (no_letter (c - 48) few) in
      let bad : true ≡ false = sym s ∙ sym (letter_start c ascii) ∙ no in bad

name_plain : (ws : List ℕ) → first_is is_start ws ≡ true → is_index (utf16 ws) ≡ false
name_plain [] e = absurd (cc)
name_plain (c ∷ cs) e = by (nat_lt c 65536) where
  by : (b : Bool) → is_index (cond b (c ∷ []) ((0xD800 + (c - 0x1_0000) / 0x400) ∷ (0xDC00 + (c - 0x1_0000) % 0x400) ∷ []) ++ utf16 cs) ≡ false
  by true = no_first c (utf16 cs) (no_digit c e)
  by false = no_first (0xD800 + (c - 0x1_0000) / 0x400) ((0xDC00 + (c - 0x1_0000) % 0x400) ∷ utf16 cs) (grind (arith, nat_tests))

-- ---- tokens

abbrev Sound : TokenKind → Type 0
Sound t = (x : Kind) → kind_of t ≡ Some x → IsLexed x

plain_kind : (x : Kind) → ((z : ℤ) → x ≡ k.number z → ⊥) → ((n : List ℕ) → x ≡ k.name n → ⊥) → IsLexed x
plain_kind x f h = record { exact = λ z e. absurd (f z e); no_index = λ n e. absurd (h n e) }

of_word : (o : Option Word) (ws : List ℕ) → first_is is_start ws ≡ true → Sound (option_map_or kind.Word o (kind.Name (utf16 ws)))
of_word (Some w) ws s x e = let same : k.word w ≡ x = cc in subst IsLexed same (plain_kind (k.word w) (λ z q. cc) (λ n q. cc))
of_word None ws s x e =
    let same : k.name (utf16 ws) ≡ x = cc in
    subst IsLexed same (record { exact = λ z q. absurd (cc); no_index = λ n q. let h : utf16 ws ≡ n = cc in subst (λ m. is_index m ≡ false) h (name_plain ws s) })

spelled_sound : {t : TokenKind} {ws rest : List ℕ} → Spells t ws rest → Sound t
spelled_sound (cover.name {ws} s r) x e = of_word (word_of (encode_utf8_all ws)) ws s x e
spelled_sound (cover.number {n} {ws} v r) x e =
    let same : k.number (pos n) ≡ x = cc in
    subst IsLexed same (record { exact = λ z q. let h : pos n ≡ z = cc in subst (λ m. is_exact m ≡ true) h (small_exact n (whole_small n ws v)); no_index = λ m q. absurd (cc) })
spelled_sound (cover.mark m f) x e = let same : k.mark m ≡ x = cc in subst IsLexed same (plain_kind (k.mark m) (λ z q. cc) (λ n q. cc))
spelled_sound (cover.quoted {us} q b) x e = let same : k.text us ≡ x = cc in subst IsLexed same (plain_kind (k.text us) (λ z h. cc) (λ n h. cc))
spelled_sound (cover.note cs) x e = absurd (cc)

end_sound : Sound kind.End
end_sound x q = let same : k.end ≡ x = cc in subst IsLexed same (plain_kind k.end (λ z h. cc) (λ n h. cc))

covered_sound : {text rest : List ℕ} {ts : List Token} → Covered text ts rest → (t : Token) → In t ts → Sound t.kind
covered_sound cover.none t i = elim i [ ]
covered_sound (cover.ended e) t here = subst Sound (sym e) end_sound
covered_sound (cover.ended e) t (there i) = elim i [ ]
covered_sound (cover.gap e w c) t i = covered_sound c t i
covered_sound (cover.piece e s c) t here = spelled_sound s
covered_sound (cover.piece e s c) t (there i) = covered_sound c t i

stop_sound : (s : Option Refusal) (x : Lexeme) → In x (stop_of s) → IsLexed x.kind
stop_sound (Some (refusal.Syntax p)) x here = plain_kind (k.stop None) (λ z q. cc) (λ n q. cc)
stop_sound (Some (refusal.Refused c p)) x here = plain_kind (k.stop (Some c)) (λ z q. cc) (λ n q. cc)
stop_sound (Some (refusal.Syntax p)) x (there i) = elim i [ ]
stop_sound (Some (refusal.Refused c p)) x (there i) = elim i [ ]
stop_sound _ x i = elim i [ ]

one_sound : (o : Option Kind) (b : Bool) (t : Token) (x : Lexeme) → ((y : Kind) → o ≡ Some y → IsLexed y) → In x (lexeme o b t) → IsLexed x.kind
one_sound None b t x f i = elim i [ ]
one_sound (Some y) b t x f here = f y refl
one_sound (Some y) b t x f (there i) = elim i [ ]

all_sound : (b : Bool) (ts : List Token) (s : Option Refusal) → ((t : Token) → In t ts → Sound t.kind) → (x : Lexeme) → In x (lexemes b ts s) → IsLexed x.kind
all_sound b [] s f x i = stop_sound s x i
all_sound b (t ∷ ts) s f x i = elim (in_either (lexeme (kind_of t.kind) b t) (lexemes (is_none (kind_of t.kind)) ts s) i) [ inl j ↦ one_sound (kind_of t.kind) b t x (f t here) j | inr j ↦ all_sound (is_none (kind_of t.kind)) ts s (λ u h. f u (there h)) x j ]

pub tokens_sound : (text : List ℕ) (file : ℕ) (ts : List Token) (s : Option Refusal) → Lexed text file ts s → (x : Lexeme) → In x (lexemes false ts s) → IsLexed x.kind
tokens_sound text file ts s l = all_sound false ts s (covered_sound (lexes_covered l).covered)
