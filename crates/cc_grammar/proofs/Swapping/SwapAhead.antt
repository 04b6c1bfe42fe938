-- Two readings of the same symbols up to a place: the look ahead behind `delete`.
use Rattle.std.specs.Prelude.{◌≡◌, ℕ, zero, suc, not, Bool, true, false, Ok, Err, cond, is_some, [], ◌∷◌, ◌++◌}
use Rattle.std.proofs.Common.{refl, ap, ◌∙◌}
use Rattle.cc_ast.specs.declared.place.Place.{Place}
use Rattle.cc_ast.specs.declared.reading.Construct.{Construct}
use Rattle.cc_lexer.specs.declared.token.Mark.TheVariants as mark
use Rattle.cc_grammar.specs.Symbols.{Kind, Lexeme, Symbol, Symbols, real, inserted, look, rest, lexeme_of, is_mark}
use Rattle.cc_grammar.specs.Symbols as k
use Rattle.cc_grammar.specs.Reading.{Outcome, Fault, and_then, goes_on, allowed, variable_of, semicolon_symbol, refused, depth}
use Rattle.cc_grammar.specs.Reading as r
use Rattle.cc_grammar.proofs.Alikeness.Alike.{IsErr, is_err, Stands, stand_by, err_by, err_after, unless}
use Rattle.cc_grammar.proofs.Swapping.Swap.{Next, Change, Pair, slash, slash_equal, comma, function, label, name, accessor, delete, IsPair, IsLimit, held, IsRefused, Swaps, stops, barred, passes, limited, refuses, falls, Later, part, token, Fits, limit_by, refused_by, falls_by, limit_after, refused_after}
use Rattle.cc_grammar.proofs.Swapping.SwapSites.{change}
use Rattle.cc_grammar.proofs.OnSymbols as s

-- ---- what the tokens and the parts are not

token_quiet : (t : Lexeme) {p : k.Part} {y : Kind} {b : Bool} {c : Construct} {n : Next} → Pair p y b c n → goes_on (record t { kind = y }) ≡ false
token_quiet t slash = refl
token_quiet t slash_equal = refl
token_quiet t comma = refl
token_quiet t function = refl
token_quiet t (label q) = refl
token_quiet t (name q) = refl
token_quiet t (accessor q) = refl
token_quiet t delete = refl

part_quiet : (t : Lexeme) {p : k.Part} {y : Kind} {b : Bool} {c : Construct} {n : Next} → Pair p y b c n → goes_on (record t { kind = k.due p }) ≡ false
part_quiet t slash = refl
part_quiet t slash_equal = refl
part_quiet t comma = refl
part_quiet t function = refl
part_quiet t (label q) = refl
part_quiet t (name q) = refl
part_quiet t (accessor q) = refl
part_quiet t delete = refl

not_closing : {p : k.Part} {y : Kind} {b : Bool} {c : Construct} {n : Next} → Pair p y b c n → is_mark mark.CloseParen y ≡ false
not_closing slash = refl
not_closing slash_equal = refl
not_closing comma = refl
not_closing function = refl
not_closing (label q) = refl
not_closing (name q) = refl
not_closing (accessor q) = refl
not_closing delete = refl

not_opening : {p : k.Part} {y : Kind} {b : Bool} {c : Construct} {n : Next} → Pair p y b c n → is_mark mark.OpenParen y ≡ false
not_opening slash = refl
not_opening slash_equal = refl
not_opening comma = refl
not_opening function = refl
not_opening (label q) = refl
not_opening (name q) = refl
not_opening (accessor q) = refl
not_opening delete = refl

-- opening parentheses
pub data Opens : Symbols → Type 0 where
  none : Opens []
  paren : {before : Symbols} (m : Lexeme) → is_mark mark.OpenParen m.kind ≡ true → Opens before → Opens (real m ∷ before)

module _ (x : Change) where
  -- ---- where the look ahead comes to

  record Agreed (la lb : s.Reader Bool) (before : Symbols) : Type 0 where
    value : Bool
    mid : Symbols
    one : (xs : Symbols) → la (before ++ token x ∷ xs) ≡ Ok (value, mid ++ token x ∷ xs)
    two : (xs : Symbols) → lb (before ++ part x ∷ xs) ≡ Ok (value, mid ++ part x ∷ xs)

  pub data Looked (la lb : s.Reader Bool) (before : Symbols) : Type 0 where
    agreed : (v : Bool) (mid : Symbols) → ((xs : Symbols) → la (before ++ token x ∷ xs) ≡ Ok (v, mid ++ token x ∷ xs)) → ((xs : Symbols) → lb (before ++ part x ∷ xs) ≡ Ok (v, mid ++ part x ∷ xs)) → Looked la lb before
    la_spent : ((xs : Symbols) → IsLimit x (la (before ++ token x ∷ xs))) → Looked la lb before
    lost : ((xs : Symbols) → IsErr (lb (before ++ part x ∷ xs))) → Looked la lb before
    at_name : x.part ≡ k.variable → Opens before → ((xs : Symbols) → la (before ++ token x ∷ xs) ≡ Ok (false, token x ∷ xs)) → Looked la lb before
    at_key : x.part ≡ k.key → Opens before → Looked la lb before

  agreed_by : {la lb lc ld : s.Reader Bool} {before after : Symbols} → ((xs : Symbols) → la (before ++ token x ∷ xs) ≡ lc (after ++ token x ∷ xs)) → ((xs : Symbols) → lb (before ++ part x ∷ xs) ≡ ld (after ++ part x ∷ xs)) → Agreed lc ld after → Agreed la lb before
  agreed_by u v h = record { value = h.value; mid = h.mid; one = λ xs. u xs ∙ h.one xs; two = λ xs. v xs ∙ h.two xs }

  -- a choice by a symbol before
  by_test : {A : Type 0} (b : Bool) (p q : s.Reader A) {c : Bool} (xs : Symbols) → b ≡ c → cond b p q xs ≡ cond c p q xs
  by_test b p q xs e = ap (λ d. cond d p q xs) e

  module _ (w : IsPair x) where
    closed_agrees : (count : ℕ) (before : Symbols) → Agreed (s.closed count) (s.closed count) before
    unfolding r.closed
    closed_agrees zero [] = record { value = true; mid = []; one = λ xs. ap (λ b. Ok (not b, token x ∷ xs)) (token_quiet x.place w); two = λ xs. ap (λ b. Ok (not b, part x ∷ xs)) (part_quiet x.place w) }
    closed_agrees zero (m ∷ before) = record { value = not (goes_on (lexeme_of m)); mid = m ∷ before; one = λ xs. refl; two = λ xs. refl }
    closed_agrees (suc count) [] = record { value = false; mid = []; one = λ xs. by_test (is_mark mark.CloseParen x.kind) _ _ (token x ∷ xs) (not_closing w); two = λ xs. refl }
    closed_agrees (suc count) (m ∷ before) = by (is_mark mark.CloseParen (lexeme_of m).kind) refl (closed_agrees count before) where
      by : (b : Bool) → is_mark mark.CloseParen (lexeme_of m).kind ≡ b → Agreed (s.closed count) (s.closed count) before → Agreed (s.closed (suc count)) (s.closed (suc count)) (m ∷ before)
      by true e h = agreed_by (λ xs. by_test (is_mark mark.CloseParen (lexeme_of m).kind) _ _ (m ∷ (before ++ token x ∷ xs)) e) (λ xs. by_test (is_mark mark.CloseParen (lexeme_of m).kind) _ _ (m ∷ (before ++ part x ∷ xs)) e) h
      by false e h = record { value = false; mid = m ∷ before; one = λ xs. by_test (is_mark mark.CloseParen (lexeme_of m).kind) _ _ (m ∷ (before ++ token x ∷ xs)) e; two = λ xs. by_test (is_mark mark.CloseParen (lexeme_of m).kind) _ _ (m ∷ (before ++ part x ∷ xs)) e }

-- at the token itself
opened_first : {t : Lexeme} {p : k.Part} {y : Kind} {b : Bool} {c : Construct} {z : Next} {n : ℕ} (m u count : ℕ) → Pair p y b c z → Looked (change t p y b c z n) (s.opened (suc m) count) (s.opened (suc u) count) []
unfolding r.opened
opened_first m u count slash = agreed false [] (λ xs. refl) (λ xs. refl)
opened_first m u count slash_equal = agreed false [] (λ xs. refl) (λ xs. refl)
opened_first m u count comma = agreed false [] (λ xs. refl) (λ xs. refl)
opened_first m u count function = agreed false [] (λ xs. refl) (λ xs. refl)
opened_first {t} m u count (label {n = v} q) = at_name refl none (λ xs. ap (λ o. cond {A = s.Reader Bool} (is_some (allowed o v)) (λ i. s.closed count (rest i)) (λ i. Ok (false, i)) (real (record t { kind = k.name v }) ∷ xs)) q)
opened_first {t} m u count (name {n = v} q) = at_name refl none (λ xs. ap (λ o. cond {A = s.Reader Bool} (is_some (allowed o v)) (λ i. s.closed count (rest i)) (λ i. Ok (false, i)) (real (record t { kind = k.name v }) ∷ xs)) q)
opened_first m u count (accessor q) = at_key refl none
opened_first m u count delete = agreed false [] (λ xs. refl) (λ xs. refl)

opens_behind : (m : Symbol) {before : Symbols} → is_mark mark.OpenParen (lexeme_of m).kind ≡ true → Opens before → Opens (m ∷ before)
opens_behind (real t) e h = paren t e h
opens_behind inserted e h = let no : false ≡ true = e in absurd (cc)

module _ (x : Change) (w : IsPair x) where
  looked_behind : {la lb lc ld : s.Reader Bool} (m : Symbol) {before : Symbols} → is_mark mark.OpenParen (lexeme_of m).kind ≡ true → ((xs : Symbols) → la (m ∷ (before ++ token x ∷ xs)) ≡ lc (before ++ token x ∷ xs))
      → ((xs : Symbols) → lb (m ∷ (before ++ part x ∷ xs)) ≡ ld (before ++ part x ∷ xs)) → Looked x lc ld before → Looked x la lb (m ∷ before)
  looked_behind m e u v (agreed b mid f g) = agreed b mid (λ xs. u xs ∙ f xs) (λ xs. v xs ∙ g xs)
  looked_behind m e u v (la_spent f) = la_spent (λ xs. limit_by x (u xs) (f xs))
  looked_behind m e u v (lost g) = lost (λ xs. err_by (v xs) (g xs))
  looked_behind m e u v (at_name q h f) = at_name q (opens_behind m e h) (λ xs. u xs ∙ f xs)
  looked_behind m e u v (at_key q h) = at_key q (opens_behind m e h)

  pub opened_looked : (m u count : ℕ) (before : Symbols) → Looked x (s.opened m count) (s.opened u count) before
  unfolding r.opened
  opened_looked zero u count before = la_spent (λ xs. held refl)
  opened_looked (suc m) zero count before = lost (λ xs. is_err)
  opened_looked (suc m) (suc u) count [] = opened_first m u count w
  opened_looked (suc m) (suc u) count (l ∷ before) = by (is_mark mark.OpenParen (lexeme_of l).kind) (is_some (variable_of (lexeme_of l).kind)) refl refl (opened_looked m u (suc count) before) (closed_agrees x w count before) where
    by : (b c : Bool) → is_mark mark.OpenParen (lexeme_of l).kind ≡ b → is_some (variable_of (lexeme_of l).kind) ≡ c → Looked x (s.opened m (suc count)) (s.opened u (suc count)) before → Agreed x (s.closed count) (s.closed count) before
        → Looked x (s.opened (suc m) count) (s.opened (suc u) count) (l ∷ before)
    by true c e f h g = looked_behind l e (λ xs. by_test x (is_mark mark.OpenParen (lexeme_of l).kind) _ _ (l ∷ (before ++ token x ∷ xs)) e) (λ xs. by_test x (is_mark mark.OpenParen (lexeme_of l).kind) _ _ (l ∷ (before ++ part x ∷ xs)) e) h
    by false true e f h g = agreed g.value g.mid
        (λ xs. by_test x (is_mark mark.OpenParen (lexeme_of l).kind) _ _ (l ∷ (before ++ token x ∷ xs)) e ∙ by_test x (is_some (variable_of (lexeme_of l).kind)) _ _ (l ∷ (before ++ token x ∷ xs)) f ∙ g.one xs)
        (λ xs. by_test x (is_mark mark.OpenParen (lexeme_of l).kind) _ _ (l ∷ (before ++ part x ∷ xs)) e ∙ by_test x (is_some (variable_of (lexeme_of l).kind)) _ _ (l ∷ (before ++ part x ∷ xs)) f ∙ g.two xs)
    by false false e f h g = agreed false (l ∷ before)
        (λ xs. by_test x (is_mark mark.OpenParen (lexeme_of l).kind) _ _ (l ∷ (before ++ token x ∷ xs)) e ∙ by_test x (is_some (variable_of (lexeme_of l).kind)) _ _ (l ∷ (before ++ token x ∷ xs)) f)
        (λ xs. by_test x (is_mark mark.OpenParen (lexeme_of l).kind) _ _ (l ∷ (before ++ part x ∷ xs)) e ∙ by_test x (is_some (variable_of (lexeme_of l).kind)) _ _ (l ∷ (before ++ part x ∷ xs)) f)

-- ---- behind the look ahead

module _ (x : Change) where
  -- at a name that no variable has, or before it
  pub data Settled {A : Type 0} (p q : s.Reader A) (before : Symbols) : Type 0 where
    settled_refuses : ((xs : Symbols) → Fits x xs → IsRefused x (p (before ++ token x ∷ xs))) → Settled p q before
    settled_limited : ((xs : Symbols) → IsLimit x (p (before ++ token x ∷ xs))) → Settled p q before
    settled_barred : ((xs : Symbols) → IsErr (q (before ++ part x ∷ xs))) → Settled p q before

  pub settled_after : {A B : Type 0} {p q : s.Reader A} {before : Symbols} (f g : A → s.Reader B) → Settled p q before → Settled (λ i. and_then (p i) f) (λ i. and_then (q i) g) before
  settled_after f g (settled_refuses u) = settled_refuses (λ xs h. refused_after x f (u xs h))
  settled_after f g (settled_limited u) = settled_limited (λ xs. limit_after x f (u xs))
  settled_after f g (settled_barred v) = settled_barred (λ xs. err_after g (v xs))

  pub settled_by : {A : Type 0} {p q u v : s.Reader A} {before after : Symbols} → ((xs : Symbols) → p (before ++ token x ∷ xs) ≡ u (after ++ token x ∷ xs)) → ((xs : Symbols) → q (before ++ part x ∷ xs) ≡ v (after ++ part x ∷ xs)) → Settled u v after → Settled p q before
  settled_by f g (settled_refuses h) = settled_refuses (λ xs l. refused_by x (f xs) (h xs l))
  settled_by f g (settled_limited h) = settled_limited (λ xs. limit_by x (f xs) (h xs))
  settled_by f g (settled_barred h) = settled_barred (λ xs. err_by (g xs) (h xs))

  pub settled_fork : {A : Type 0} {before : Symbols} (b : Bool) (p q u v : s.Reader A) → Settled p u before → Settled q v before → Settled (cond b p q) (cond b u v) before
  settled_fork true p q u v h l = h
  settled_fork false p q u v h l = l

  pub settled_deeper : {A : Type 0} (b c : Bool) (p q : s.Reader A) {before : Symbols} → Settled p q before
      → Settled (λ i. cond b (p i) (Err (record { cause = depth; place = (look i).place }, i))) (λ i. cond c (q i) (Err (record { cause = depth; place = (look i).place }, i))) before
  settled_deeper true true p q h = h
  settled_deeper true false p q h = settled_barred (λ xs. is_err)
  settled_deeper false c p q h = settled_limited (λ xs. held refl)

  module _ {A : Type 0} (place : Place) (n o : ℕ) (p q : s.Reader A) where
    abbrev guarded : ℕ → s.Reader A → s.Reader A
    guarded m u i = unless place (s.opened m 0 (rest i)) (u i)

    err_either : (u : Outcome Symbols Bool) {v : Outcome Symbols A} → IsErr v → IsErr (unless place u v)
    err_either (Ok (true, j)) h = is_err
    err_either (Ok (false, j)) h = h
    err_either (Err y) h = is_err

    spent_unless : {u : Outcome Symbols Bool} (v : Outcome Symbols A) → IsLimit x u → IsLimit x (unless place u v)
    spent_unless v (held e) = held e

    err_unless : {u : Outcome Symbols Bool} (v : Outcome Symbols A) → IsErr u → IsErr (unless place u v)
    err_unless v is_err = is_err

    stands_unless : (xs : Symbols) (u : Outcome Symbols Bool) (v : Outcome Symbols A) → Stands xs u → Stands xs v → Stands xs (unless place u v)
    stands_unless xs (Ok (true, j)) v h l = h
    stands_unless xs (Ok (false, j)) v h l = l
    stands_unless xs (Err y) v h l = h

    unhindered : (m : Symbol) (before mid : Symbols) → ((xs : Symbols) → s.opened n 0 (before ++ token x ∷ xs) ≡ Ok (false, mid ++ token x ∷ xs)) → ((xs : Symbols) → s.opened o 0 (before ++ part x ∷ xs) ≡ Ok (false, mid ++ part x ∷ xs))
        → Swaps x p q (m ∷ before) → Swaps x (guarded n p) (guarded o q) (m ∷ before)
    unhindered m before mid f g (stops low a u v) = stops low a (λ xs. ap (λ y. unless place y (p (m ∷ (before ++ token x ∷ xs)))) (f xs) ∙ u xs) (λ xs. ap (λ y. unless place y (q (m ∷ (before ++ part x ∷ xs)))) (g xs) ∙ v xs)
    unhindered m before mid f g (barred v) = barred (λ xs. err_either (s.opened o 0 (before ++ part x ∷ xs)) (v xs))
    unhindered m before mid f g (passes free u) = passes free (λ xs. stand_by xs (ap (λ y. unless place y (p (m ∷ (before ++ token x ∷ xs)))) (f xs)) (u xs))
    unhindered m before mid f g (limited u) = limited (λ xs. limit_by x (ap (λ y. unless place y (p (m ∷ (before ++ token x ∷ xs)))) (f xs)) (u xs))
    unhindered m before mid f g (refuses u) = refuses (λ xs h. refused_by x (ap (λ y. unless place y (p (m ∷ (before ++ token x ∷ xs)))) (f xs)) (u xs h))
    unhindered m before mid f g (falls e u) = falls e (λ xs. falls_by x (ap (λ y. unless place y (p (m ∷ (before ++ token x ∷ xs)))) (f xs)) (u xs))

    settled : (m : Symbol) (before : Symbols) → ((xs : Symbols) → s.opened n 0 (before ++ token x ∷ xs) ≡ Ok (false, token x ∷ xs)) → Settled p q (m ∷ before) → Swaps x (guarded n p) (guarded o q) (m ∷ before)
    settled m before f (settled_refuses u) = refuses (λ xs h. refused_by x (ap (λ y. unless place y (p (m ∷ (before ++ token x ∷ xs)))) (f xs)) (u xs h))
    settled m before f (settled_limited u) = limited (λ xs. limit_by x (ap (λ y. unless place y (p (m ∷ (before ++ token x ∷ xs)))) (f xs)) (u xs))
    settled m before f (settled_barred v) = barred (λ xs. err_either (s.opened o 0 (before ++ part x ∷ xs)) (v xs))

    guards : (m : Symbol) (before : Symbols) → Swaps x p q (m ∷ before) → (x.part ≡ k.variable → Opens before → Settled p q (m ∷ before)) → (x.part ≡ k.key → Opens before → (xs : Symbols) → IsErr (q (m ∷ (before ++ part x ∷ xs))))
        → Looked x (s.opened n 0) (s.opened o 0) before → Swaps x (guarded n p) (guarded o q) (m ∷ before)
    guards m before h v u (agreed true mid f g) = barred (λ xs. err_by (ap (λ y. unless place y (q (m ∷ (before ++ part x ∷ xs)))) (g xs)) is_err)
    guards m before h v u (agreed false mid f g) = unhindered m before mid f g h
    guards m before h v u (la_spent f) = limited (λ xs. spent_unless (p (m ∷ (before ++ token x ∷ xs))) (f xs))
    guards m before h v u (lost g) = barred (λ xs. err_unless (q (m ∷ (before ++ part x ∷ xs))) (g xs))
    guards m before h v u (at_name e l f) = settled m before f (v e l)
    guards m before h v u (at_key e l) = barred (λ xs. err_either (s.opened o 0 (before ++ part x ∷ xs)) (u e l xs))

    pub later_guarded : IsPair x → ((xs : Symbols) → Stands xs (s.opened n 0 (rest xs))) → Later x p q → ((m : Symbol) (before : Symbols) → x.part ≡ k.variable → Opens before → Settled p q (m ∷ before))
        → ((m : Symbol) (before : Symbols) → x.part ≡ k.key → Opens before → (xs : Symbols) → IsErr (q (m ∷ (before ++ part x ∷ xs)))) → Later x (guarded n p) (guarded o q)
    later_guarded w l h v u = record {
      swaps = λ m before. guards m before (h.swaps m before) (v m before) (u m before) (opened_looked x w n o 0 before);
      walks = λ xs. stands_unless xs (s.opened n 0 (rest xs)) (p xs) (l xs) (h.walks xs);
    }
