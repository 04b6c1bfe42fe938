-- A text has one list of tokens.
use Rattle.std.specs.Prelude.{◌≡◌, ℕ, List, [], ◌∷◌, Bool, true, false, not, ◌||◌, ◌==◌, Option, Some}
use Rattle.std.proofs.Common.{refl, sym, ◌∙◌, ap, subst, arith}
use Rattle.std.proofs.lemmas.Bool.Decides.{nat_tests}
use Rattle.std.specs.Char.Escape.{encode_utf16}
use Rattle.cc_ast.specs.declared.place.Place.{Place}
use Rattle.cc_ast.specs.declared.reading.Refusal.{Refusal}
use Rattle.cc_text.specs.Characters.{is_line_end}
use Rattle.cc_text.specs.Escape.{Escaped, gives, octal, bad}
use Rattle.cc_lexer.specs.declared.token.Fault.{Fault}
use Rattle.cc_lexer.specs.declared.token.Fault.TheVariants as fault
use Rattle.cc_lexer.specs.declared.token.Token.{Token}
use Rattle.cc_lexer.specs.declared.token.TokenKind.{TokenKind}
use Rattle.cc_lexer.specs.declared.token.TokenKind.TheVariants as kind
use Rattle.cc_lexer.specs.Characters.{is_quote}
use Rattle.cc_lexer.specs.Strings.{StringEnd, fails, before, InString, quote, plain, escape, no_escape, cut, unclosed, is_plain, FailsAs}
use Rattle.cc_lexer.specs.Items.{Item, blank, token, annotation, nothing, string_item, Begins, string, other}
use Rattle.cc_lexer.specs.Lexes.{Lexes, end, gap, next, note, stop, refused, token_at}
use Rattle.cc_lexer.proofs.PlaceLemmas.{passed_once}

not_plain : (a b l : Bool) → not (a || b || l) ≡ true → (a ≡ false) × (b ≡ false) × (l ≡ false)
not_plain true b l e = cc
not_plain false true l e = cc
not_plain false false true e = cc
not_plain false false false e = (refl, refl, refl)

plain_no_quote : (q c : ℕ) → is_plain q c ≡ true → c ≡ q → ⊥
plain_no_quote q c e h = let k = (not_plain (c == q) (c == 92) (is_line_end c) e).0 in grind (arith, nat_tests)

plain_no_escape : (q c : ℕ) → is_plain q c ≡ true → c ≡ 92 → ⊥
plain_no_escape q c e h = let k = (not_plain (c == q) (c == 92) (is_line_end c) e).1 in grind (arith, nat_tests)

plain_no_line : (q c : ℕ) → is_plain q c ≡ true → is_line_end c ≡ true → ⊥
plain_no_line q c e h = let k = (not_plain (c == q) (c == 92) (is_line_end c) e).2 in cc

quote_no_escape : (q : ℕ) → is_quote q ≡ true → q ≡ 92 → ⊥
quote_no_escape q e h = grind (arith, nat_tests)

quote_no_line : (q : ℕ) → is_quote q ≡ true → is_line_end q ≡ true → ⊥
quote_no_line q e h = grind (arith, nat_tests)

escape_no_line : (c : ℕ) → c ≡ 92 → is_line_end c ≡ true → ⊥
escape_no_line c e h = grind (arith, nat_tests)

fails_once : (e : Escaped) (f g : Fault) → FailsAs e f → FailsAs e g → f ≡ g
fails_once (gives us rest) f g h k = absurd h
fails_once octal f g h k = h ∙ sym k
fails_once bad f g h k = h ∙ sym k

gives_or_fails : (e : Escaped) (f : Fault) (us rest : List ℕ) → e ≡ gives us rest → FailsAs e f → ⊥
gives_or_fails e f us rest h k = subst (λ x. FailsAs x f) h k

units_of_gives : Escaped → List ℕ
units_of_gives (gives us rest) = us
units_of_gives _ = []

rest_of_gives : Escaped → List ℕ
rest_of_gives (gives us rest) = rest
rest_of_gives _ = []

-- a string ends in one way
pub string_once : (q : ℕ) {cs : List ℕ} {e f : StringEnd} → is_quote q ≡ true → InString q cs e → InString q cs f → e ≡ f
unfolding units_of_gives rest_of_gives
string_once q i (quote h) (quote k) = refl
string_once q i (quote h) (plain e x) = absurd (plain_no_quote q _ e h)
string_once q i (quote h) (escape e k x) = absurd (quote_no_escape q i (sym h ∙ e))
string_once q i (quote h) (no_escape e k) = absurd (quote_no_escape q i (sym h ∙ e))
string_once q i (quote {c} h) (cut e) = absurd (quote_no_line q i (subst (λ x. is_line_end x ≡ true) h e))
string_once q i (plain e x) (quote h) = absurd (plain_no_quote q _ e h)
string_once q i (plain {c} e x) (plain _ y) = ap (before (encode_utf16 c)) (string_once q i x y)
string_once q i (plain e x) (escape h k y) = absurd (plain_no_escape q _ e h)
string_once q i (plain e x) (no_escape h k) = absurd (plain_no_escape q _ e h)
string_once q i (plain e x) (cut h) = absurd (plain_no_line q _ e h)
string_once q i (escape e k x) (quote h) = absurd (quote_no_escape q i (sym h ∙ e))
string_once q i (escape e k x) (plain h y) = absurd (plain_no_escape q _ h e)
string_once q i (escape {c} {cs} {us} {rest} {e} d k x) (escape {us = vs} {rest = after} {e = f} d' k' y) =
    let units : us ≡ vs = ap units_of_gives (sym k ∙ k') in
    let rests : rest ≡ after = ap rest_of_gives (sym k ∙ k') in
    ap (λ w. before w e) units ∙ ap (before vs) (string_once q i x (subst (λ r. InString q r f) (sym rests) y))
string_once q i (escape e k x) (no_escape h l) = absurd (gives_or_fails _ _ _ _ k l)
string_once q i (escape e k x) (cut h) = absurd (escape_no_line _ e h)
string_once q i (no_escape e k) (quote h) = absurd (quote_no_escape q i (sym h ∙ e))
string_once q i (no_escape e k) (plain h y) = absurd (plain_no_escape q _ h e)
string_once q i (no_escape e k) (escape h l y) = absurd (gives_or_fails _ _ _ _ l k)
string_once q i (no_escape e k) (no_escape h l) = ap fails (fails_once _ _ _ k l)
string_once q i (no_escape e k) (cut h) = absurd (escape_no_line _ e h)
string_once q i (cut e) (quote {c} h) = absurd (quote_no_line q i (subst (λ x. is_line_end x ≡ true) h e))
string_once q i (cut e) (plain h y) = absurd (plain_no_line q _ h e)
string_once q i (cut e) (escape h l y) = absurd (escape_no_line _ h e)
string_once q i (cut e) (no_escape h l) = absurd (escape_no_line _ h e)
string_once q i (cut e) (cut h) = refl
string_once q i unclosed unclosed = refl

-- a text begins with one thing
pub begins_once : {cs : List ℕ} {i j : Item} → Begins cs i → Begins cs j → i ≡ j
begins_once (string {q} h x) (string k y) = ap string_item (string_once q h x y)
begins_once (string h x) (other k) = cc
begins_once (other h) (string k y) = cc
begins_once (other h) (other k) = refl

nothing_begins : {i : Item} {A : Type 0} → Begins [] i → A
nothing_begins b = elim b [ ]

abbrev Same : List Token → Option Refusal → List Token → Option Refusal → Type 0
Same ts s us t = (ts ≡ us) × (s ≡ t)

same_more : (t u : TokenKind) (p : Place) (l : Bool) (ts us : List Token) (s r : Option Refusal) → t ≡ u → Same ts s us r → Same (token_at t p l ∷ ts) s (token_at u p l ∷ us) r
same_more t u p l ts us s r e d = (ap (λ x. token_at x p l ∷ ts) e ∙ ap (λ x. token_at u p l ∷ x) d.0, d.1)

along : {l k : Bool} {p q : Place} {cs ds : List ℕ} {ts : List Token} {s : Option Refusal} → l ≡ k → p ≡ q → cs ≡ ds → Lexes k q ds ts s → Lexes l p cs ts s
along {l} {k} {p} {q} {cs} {ds} {ts} {s} e h w x = subst (λ b. Lexes b p cs ts s) (sym e) (subst (λ b. Lexes k b cs ts s) (sym h) (subst (λ b. Lexes k q b ts s) (sym w) x))

rest_of : Item → List ℕ
rest_of (blank k rest) = rest
rest_of (token t rest) = rest
rest_of (annotation us k rest) = rest
rest_of (nothing f) = []

flag_of : Item → Bool
flag_of (blank k rest) = k
flag_of (annotation us k rest) = k
flag_of _ = false

kind_of : Item → TokenKind
kind_of (token t rest) = t
kind_of (annotation us k rest) = kind.Doc us
kind_of _ = kind.End

fault_of : Item → Fault
fault_of (nothing f) = f
fault_of _ = fault.Syntax

pub lexes_once : {l : Bool} {p : Place} {cs : List ℕ} {ts us : List Token} {s r : Option Refusal} → Lexes l p cs ts s → Lexes l p cs us r → Same ts s us r
unfolding rest_of flag_of kind_of fault_of
lexes_once end end = (refl, refl)
lexes_once end (gap b w x) = nothing_begins b
lexes_once end (next b w x) = nothing_begins b
lexes_once end (note b w x) = nothing_begins b
lexes_once end (stop b) = nothing_begins b
lexes_once (gap b w x) end = nothing_begins b
lexes_once {l} (gap b w x) (gap b' w' x') = let i = begins_once b b' in let rests = ap rest_of i in
    lexes_once x (along (ap (λ k. l || k) (ap flag_of i)) (passed_once w w' rests) rests x')
lexes_once (gap b w x) (next b' w' x') = let i = begins_once b b' in cc
lexes_once (gap b w x) (note b' w' x') = let i = begins_once b b' in cc
lexes_once (gap b w x) (stop b') = let i = begins_once b b' in cc
lexes_once (next b w x) end = nothing_begins b
lexes_once (next b w x) (gap b' w' x') = let i = begins_once b b' in cc
lexes_once {l} {p} (next b w x) (next b' w' x') = let i = begins_once b b' in let rests = ap rest_of i in
    same_more _ _ p l _ _ _ _ (ap kind_of i) (lexes_once x (along refl (passed_once w w' rests) rests x'))
lexes_once (next b w x) (note b' w' x') = let i = begins_once b b' in cc
lexes_once (next b w x) (stop b') = let i = begins_once b b' in cc
lexes_once (note b w x) end = nothing_begins b
lexes_once (note b w x) (gap b' w' x') = let i = begins_once b b' in cc
lexes_once (note b w x) (next b' w' x') = let i = begins_once b b' in cc
lexes_once {l} {p} (note b w x) (note b' w' x') = let i = begins_once b b' in let rests = ap rest_of i in
    same_more _ _ p l _ _ _ _ (ap kind_of i) (lexes_once x (along (ap (λ k. l || k) (ap flag_of i)) (passed_once w w' rests) rests x'))
lexes_once (note b w x) (stop b') = let i = begins_once b b' in cc
lexes_once (stop b) end = nothing_begins b
lexes_once (stop b) (gap b' w' x') = let i = begins_once b b' in cc
lexes_once (stop b) (next b' w' x') = let i = begins_once b b' in cc
lexes_once (stop b) (note b' w' x') = let i = begins_once b b' in cc
lexes_once {l} {p} (stop b) (stop b') = (refl, ap (λ f. Some (refused f p)) (ap fault_of (begins_once b b')))
