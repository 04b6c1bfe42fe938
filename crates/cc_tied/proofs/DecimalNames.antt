-- The text of a whole number is the name of no built-in method.
use Rattle.std.proofs.Common.{◌≡◌, refl, sym, ap, subst, ◌∙◌, ℕ, zero, suc, ◌+◌, ◌/◌, ◌%◌, ◌<◌, if◌then◌else◌, Bool, true, false, List, [], ◌∷◌, Option, Some, None, is_some, arith, mod-lt, eqb-true, lt-ltb}
use Rattle.std.specs.Prelude.{ℤ, pos, negsuc, nat_eq, nat_lt, not, ◌&&◌, slice_get}
use Rattle.std.specs.Fmt.{digits, digits_onto, digit_glyph}
use Rattle.std.proofs.lemmas.Bool.{and_parts}
use Rattle.cc_ast.specs.Syntax.{undefined, null, truth, whole, text}
use Rattle.cc_meaning.specs.Values.{Val, prim, obj, out}
use Rattle.cc_meaning.specs.Operators.{list_eq, decimal, key_text}
use Rattle.cc_meaning.specs.Names.{name_hasOwnProperty, name_call}
use Rattle.cc_meaning.specs.Builtins.{method_of, array_methods, array_method}
use Rattle.cc_meaning.specs.State.{Obj, State}
use Rattle.cc_meaning.specs.Monad.{pick}
use Rattle.cc_meaning.specs.Store.{Found, found_use, nothing_found, has_own, call_with, find_own, array_found, built_here, found_here, found_at, found_on, chain_of, look_up}
use Rattle.cc_meaning.specs.Acts.{is_whole}
use Rattle.cc_meaning.specs.Calls.{use_found, method_on}

-- whether no letter, or a letter, begins a text
unfoldable pub no_letter : List ℕ → Bool
no_letter [] = true
no_letter (c ∷ cs) = nat_lt c 58

unfoldable letter : List ℕ → Bool
letter [] = false
letter (c ∷ cs) = not (nat_lt c 58)

-- ---- decimals

glyph_low : (d : ℕ) → d < 10 → nat_lt (digit_glyph false d) 58 ≡ true
glyph_low d l = subst (λ z. nat_lt (if z then 48 + d else 87 + d) 58 ≡ true) (sym (lt-ltb d 10 l)) (lt-ltb (48 + d) 58 (omega arith))

onto_low : (k n : ℕ) (acc : List ℕ) → no_letter acc ≡ true → no_letter (digits_onto k 10 false n acc) ≡ true
unfolding no_letter
onto_low zero n acc h = h
onto_low (suc k) n acc h =
    let some : 0 < 10 = omega arith in let low = glyph_low (n % 10) (mod-lt n some) in
    either (nat_eq (n / 10) 0) (digit_glyph false (n % 10) ∷ acc) (digits_onto k 10 false (n / 10) (digit_glyph false (n % 10) ∷ acc)) low (onto_low k (n / 10) (digit_glyph false (n % 10) ∷ acc) low)
  where
    either : (b : Bool) (xs ys : List ℕ) → no_letter xs ≡ true → no_letter ys ≡ true → no_letter (if b then xs else ys) ≡ true
    either true xs ys p q = p
    either false xs ys p q = q

decimal_low : (z : ℤ) → no_letter (decimal z) ≡ true
unfolding decimal digits no_letter
decimal_low (pos n) = onto_low 64 n [] refl
decimal_low (negsuc n) = refl

-- the key that a whole number is
pub whole_low : (v : Val) {t : List ℕ} → key_text v ≡ Some t → is_whole v ≡ true → no_letter t ≡ true
unfolding key_text is_whole
whole_low (prim (whole z)) e d = subst (λ z. no_letter z ≡ true) (cc) (decimal_low z)
whole_low (prim undefined) e d = absurd (cc)
whole_low (prim null) e d = absurd (cc)
whole_low (prim (truth b)) e d = absurd (cc)
whole_low (prim (text t)) e d = absurd (cc)
whole_low (obj n) e d = absurd (cc)
whole_low (out n) e d = absurd (cc)

-- ---- names of methods

not_both : (b : Bool) → not b ≡ true → b ≡ true → ⊥
not_both true e d = absurd (cc)
not_both false e d = absurd (cc)

apart : (m n : List ℕ) → letter m ≡ true → no_letter n ≡ true → list_eq m n ≡ false
unfolding letter no_letter list_eq
apart [] n e d = absurd (cc)
apart (c ∷ cs) [] e d = refl
apart (c ∷ cs) (x ∷ xs) e d = by_first (nat_eq c x) refl
  where
    by_first : (b : Bool) → nat_eq c x ≡ b → b && list_eq cs xs ≡ false
    by_first true q = absurd (not_both (nat_lt c 58) e (ap (λ z. nat_lt z 58) (eqb-true c x q) ∙ d))
    by_first false q = refl

apart_back : (n m : List ℕ) → letter m ≡ true → no_letter n ≡ true → list_eq n m ≡ false
unfolding letter no_letter list_eq
apart_back [] [] e d = absurd (cc)
apart_back [] (c ∷ cs) e d = refl
apart_back (x ∷ xs) [] e d = absurd (cc)
apart_back (x ∷ xs) (c ∷ cs) e d = by_first (nat_eq x c) refl
  where
    by_first : (b : Bool) → nat_eq x c ≡ b → b && list_eq xs cs ≡ false
    by_first true q = absurd (not_both (nat_lt c 58) e (ap (λ z. nat_lt z 58) (sym (eqb-true x c q)) ∙ d))
    by_first false q = refl

unfoldable letters : {A : Type 0} → List (List ℕ × A) → Bool
unfolding letter
letters [] = true
letters (m ∷ ms) = letter m.0 && letters ms

method_none : {A : Type 0} (ms : List (List ℕ × A)) (n : List ℕ) → letters ms ≡ true → no_letter n ≡ true → method_of ms n ≡ None
unfolding letters method_of
method_none [] n e d = refl
method_none (m ∷ ms) n e d = let k = and_parts (letter m.0) (letters ms) e in subst (λ z. (if z then Some m.1 else method_of ms n) ≡ None) (sym (apart m.0 n k.0 d)) (method_none ms n k.1 d)

array_letters : letters array_methods ≡ true
unfolding letters letter array_methods
array_letters = refl

array_none : (n : List ℕ) → no_letter n ≡ true → array_method n ≡ None
unfolding array_method
array_none n d = method_none array_methods n array_letters d

own_letter : letter name_hasOwnProperty ≡ true
unfolding letter
own_letter = refl

call_letter : letter name_call ≡ true
unfolding letter
call_letter = refl

module _ (n : List ℕ) (low : no_letter n ≡ true) where
  here_none : (o : Obj) (rest : Found) → use_found rest ≡ None → use_found (built_here o n rest) ≡ None
  unfolding built_here array_found use_found
  here_none o rest e = rw (array_none n low, apart_back n name_call call_letter low) (by_tests (is_some o.elements) (is_some o.code))
    where
      by_tests : (b c : Bool) → use_found (pick b (array_found None rest) (pick (c && false) (found_use call_with) rest)) ≡ None
      by_tests true c = e
      by_tests false true = e
      by_tests false false = e

  by_own : (v : Option Val) (o : Obj) (rest : Found) → use_found rest ≡ None → use_found (found_here v o n rest) ≡ None
  unfolding found_here use_found
  by_own None o rest e = here_none o rest e
  by_own (Some v) o rest e = refl

  at_none : (o : Option Obj) (rest : Found) → use_found rest ≡ None → use_found (found_at o n rest) ≡ None
  unfolding found_at
  at_none None rest e = e
  at_none (Some o) rest e = by_own (find_own o n) o rest e

  on_none : (os : List Obj) (c : List ℕ) → use_found (found_on os c n) ≡ None
  unfolding found_on use_found
  on_none os [] = ap (λ z. use_found (pick z (found_use has_own) nothing_found)) (apart_back n name_hasOwnProperty own_letter low)
  on_none os (p ∷ c) = at_none (slice_get os p) (found_on os c n) (on_none os c)

  pub no_method : (s : State) (o : ℕ) → method_on s (obj o) n ≡ None
  unfolding method_on look_up
  no_method s o = on_none s.objs (chain_of s.objs o)
