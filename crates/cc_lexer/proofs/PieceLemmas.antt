-- Two texts have the same units only if they are the same.
use Rattle.std.specs.Prelude.{◌≡◌, ℕ, ◌+◌, ◌-◌, ◌/◌, ◌%◌, ◌≤◌, List, [], ◌∷◌, ◌++◌, Bool, true, false, cond, ◌&&◌, nat_lt}
use Rattle.std.specs.Str.{bytes_eq, chars, IsUtf8}
use Rattle.std.proofs.Common.{refl, sym, ◌∙◌, ap, inl, inr, arith}
use Rattle.std.proofs.lemmas.Bool.{ltb-true, ltb-false}
use Rattle.std.proofs.lemmas.Slice.Eq.{bytes_eq-Decides}
use Rattle.std.proofs.lemmas.Str.{encodes-chars, scalars-chars}
use lib.Utf8.{scalar, scalars, scalar_cases, encodes}
use Rattle.cc_text.specs.Utf16.{utf16}

-- the surrogates of a character above U+FFFF
abbrev high : ℕ → ℕ
high c = 0xD800 + (c - 0x1_0000) / 0x400

abbrev low : ℕ → ℕ
low c = 0xDC00 + (c - 0x1_0000) % 0x400

abbrev units_by : Bool → ℕ → List ℕ
units_by b c = cond b (c ∷ []) (high c ∷ low c ∷ [])

-- a surrogate is no character
no_character : (c d : ℕ) → scalar c ≡ true → scalar d ≡ true → 65536 ≤ d → c ≡ high d → ⊥
no_character c d s t above e = elim (scalar_cases c s) [
  | inl below ↦ omega arith
  | inr over ↦ elim (scalar_cases d t) [ inl small ↦ omega arith | inr large ↦ omega (arith, over.0, large.1) ]
]

pair_same : (c d : ℕ) → 65536 ≤ c → 65536 ≤ d → high c ≡ high d → low c ≡ low d → c ≡ d
pair_same c d m n e h = omega arith

heads : (b k : Bool) (c d : ℕ) (us vs : List ℕ) → scalar c ≡ true → scalar d ≡ true → nat_lt c 65536 ≡ b → nat_lt d 65536 ≡ k
    → units_by b c ++ us ≡ units_by k d ++ vs → (c ≡ d) × (us ≡ vs)
heads true true c d us vs s t m n e = (cc, cc)
heads true false c d us vs s t m n e = absurd (no_character c d s t (ltb-false d 65536 n) (cc))
heads false true c d us vs s t m n e = absurd (no_character d c t s (ltb-false c 65536 m) (cc))
heads false false c d us vs s t m n e =
    let h : high c ≡ high d = cc in
    let l : low c ≡ low d = cc in
    (pair_same c d (ltb-false c 65536 m) (ltb-false d 65536 n) h l, cc)

some_unit : (b : Bool) (c : ℕ) (us : List ℕ) → [] ≡ units_by b c ++ us → ⊥
some_unit true c us e = cc
some_unit false c us e = cc

both : (a b : Bool) → a && b ≡ true → (a ≡ true) × (b ≡ true)
both true b e = (refl, e)
both false b e = cc

units_same : (cs ds : List ℕ) → scalars cs ≡ true → scalars ds ≡ true → utf16 cs ≡ utf16 ds → cs ≡ ds
units_same [] [] s t e = refl
units_same [] (d ∷ ds) s t e = absurd (some_unit (nat_lt d 65536) d (utf16 ds) e)
units_same (c ∷ cs) [] s t e = absurd (some_unit (nat_lt c 65536) c (utf16 cs) (sym e))
units_same (c ∷ cs) (d ∷ ds) s t e =
    let p = both (scalar c) (scalars cs) s in
    let q = both (scalar d) (scalars ds) t in
    let h = heads (nat_lt c 65536) (nat_lt d 65536) c d (utf16 cs) (utf16 ds) p.0 q.0 refl refl e in
    let rest = units_same cs ds p.1 q.1 h.1 in
    ap (λ x. x ∷ cs) h.0 ∙ ap (λ xs. d ∷ xs) rest

text_same : (ts bs : List ℕ) → IsUtf8 ts → IsUtf8 bs → utf16 (chars ts) ≡ utf16 (chars bs) → ts ≡ bs
text_same ts bs u v e = sym (encodes-chars ts u) ∙ ap encodes (units_same (chars ts) (chars bs) (scalars-chars ts u) (scalars-chars bs v) e) ∙ encodes-chars bs v

same_test : (p q : Bool) → (p ≡ true → q ≡ true) → (q ≡ true → p ≡ true) → p ≡ q
same_test true q h k = sym (h refl)
same_test false true h k = k refl
same_test false false h k = refl

-- so they are compared by their bytes
pub is_text : (ts bs us : List ℕ) → IsUtf8 ts → IsUtf8 bs → utf16 (chars bs) ≡ us → bytes_eq ts bs ≡ bytes_eq (utf16 (chars ts)) us
is_text ts bs us u v e = same_test (bytes_eq ts bs) (bytes_eq (utf16 (chars ts)) us)
    (λ h. (bytes_eq-Decides (utf16 (chars ts)) us).1 (ap (λ t. utf16 (chars t)) ((bytes_eq-Decides ts bs).0 h) ∙ e))
    (λ h. (bytes_eq-Decides ts bs).1 (text_same ts bs u v ((bytes_eq-Decides (utf16 (chars ts)) us).0 h ∙ sym e)))
