-- Each name by number is an identifier of ASCII characters, but for the reserved words.
use Rattle.std.specs.Prelude.{◌≡◌, ℕ, zero, suc, ◌+◌, ◌-◌, ◌/◌, ◌%◌, ◌<◌, ◌≤◌, List, [], ◌∷◌, ◌++◌, Bool, true, false, not, ◌&&◌, ◌||◌, nat_eq, nat_lt, cond, map, Some, None, codes, slice_index, encode_utf8_all}
use Rattle.std.specs.List.{list_all}
use Rattle.std.specs.Str.{bytes_eq}
use Rattle.std.specs.Char.Escape.{encode_utf16}
use Rattle.std.proofs.Common.{refl, sym, ap, ap₂, ◌∙◌, subst, arith, inl, inr}
use Rattle.std.proofs.lemmas.Bool.{eqb-true}
use Rattle.std.proofs.lemmas.Bool.Decides.{nat_tests}
use Rattle.std.proofs.lemmas.Slice.Eq.{bytes_eq-Decides}
use Rattle.std.proofs.lemmas.Str.{encode_ascii}
use lib.Utf8.{scalar, scalars}
use Rattle.unicode_ident.proofs.Computing.{unicode_ident}
use Rattle.cc_text.specs.Characters.{first_is}
use Rattle.cc_text.specs.Utf16.{utf16}
use Rattle.cc_lexer.specs.Characters.{is_start, is_part}
use Rattle.cc_lexer.specs.declared.word.Word.{Word}
use Rattle.cc_lexer.specs.Words.{spelling, words, word_of, spelled_in}
use Rattle.cc_grammar.specs.Signs.{refused_name}
use Rattle.cc_meaning.specs.Operators.{list_eq, is_in}
use Rattle.cc_meaning.specs.Alike.{In, here, there}
use Rattle.cc_printer.specs.Spelling.{IsName}
use Rattle.cc_printer.specs.Naming.{IsVariableName}
use Rattle.cc_printer.proofs.ReadNames.{names_are_names}
use Rattle.cc_rename.specs.Order.{characters, nth_name}
use Rattle.cc_rename.specs.Naming.{special_names, is_free}
use Rattle.cc_rename.proofs.NameOrder.{all_below, below_from_all, Cases, cases, first_name, later_name}

-- ---- characters

starts : (k : ℕ) → k < 54 → is_start (slice_index characters k) ≡ true
unfolding all_below unicode_ident
starts k l = below_from_all (λ j. is_start (slice_index characters j)) 54 k refl l

goes_on : (k : ℕ) → k < 64 → is_part (slice_index characters k) ≡ true
unfolding all_below unicode_ident
goes_on k l = below_from_all (λ j. is_part (slice_index characters j)) 64 k refl l

is_ascii : (k : ℕ) → k < 64 → nat_lt (slice_index characters k) 128 ≡ true
unfolding all_below
is_ascii k l = below_from_all (λ j. nat_lt (slice_index characters j) 128) 64 k refl l

-- ---- names

-- what is known of a name, character by character
pub record Good (v : List ℕ) : Type 0 where
  pub begins : first_is is_start v ≡ true
  pub parts : list_all is_part v ≡ true
  pub ascii : list_all (λ c. nat_lt c 128) v ≡ true

and_true : (a b : Bool) → a ≡ true → b ≡ true → (a && b) ≡ true
and_true true b e f = f
and_true false b e f = e

all_more : (p : ℕ → Bool) (v : List ℕ) (c : ℕ) → list_all p v ≡ true → p c ≡ true → list_all p (v ++ c ∷ []) ≡ true
all_more p [] c h g = and_true (p c) true g refl
all_more p (x ∷ v) c h g = by (p x) (list_all p v) h (all_more p v c) where
  by : (a b : Bool) → (a && b) ≡ true → (b ≡ true → p c ≡ true → list_all p (v ++ c ∷ []) ≡ true) → (a && list_all p (v ++ c ∷ [])) ≡ true
  by true b h go = go h g
  by false b h go = h

begins_more : (v : List ℕ) (c : ℕ) → first_is is_start v ≡ true → first_is is_start (v ++ c ∷ []) ≡ true
begins_more [] c h = cc
begins_more (x ∷ v) c h = h

good_more : (v : List ℕ) (k : ℕ) → k < 64 → Good v → Good (v ++ slice_index characters k ∷ [])
good_more v k l g = record { begins = begins_more v (slice_index characters k) g.begins; parts = all_more is_part v (slice_index characters k) g.parts (goes_on k l); ascii = all_more (λ c. nat_lt c 128) v (slice_index characters k) g.ascii (is_ascii k l) }

good_first : (k : ℕ) → k < 54 → Good (slice_index characters k ∷ [])
good_first k l = record { begins = starts k l; parts = and_true (is_part (slice_index characters k)) true (goes_on k (omega arith)) refl; ascii = and_true (nat_lt (slice_index characters k) 128) true (is_ascii k (omega arith)) refl }

good_within : (n k : ℕ) → k < n → Good (nth_name k)
good_within zero k h = absurd (omega arith)
good_within (suc n) k h = by (cases k) (λ l. good_within n ((k - 54) / 64) (omega arith)) where
  by : Cases k → (54 ≤ k → Good (nth_name ((k - 54) / 64))) → Good (nth_name k)
  by (inl l) go = subst Good (sym (first_name k l)) (good_first k l)
  by (inr l) go = subst Good (sym (later_name k l)) (good_more (nth_name ((k - 54) / 64)) ((k - 54) % 64) (omega arith) (go l))

pub is_good : (k : ℕ) → Good (nth_name k)
is_good k = good_within (suc k) k (omega arith)

-- ---- texts of ASCII characters

one_unit : (c : ℕ) → nat_lt c 128 ≡ true → encode_utf16 c ≡ c ∷ []
one_unit c h = let e : nat_lt c 0x10000 ≡ true = grind (arith, nat_tests) in ap (λ b. cond b (c ∷ []) ((0xD800 + (c - 0x1_0000) / 0x400) ∷ (0xDC00 + (c - 0x1_0000) % 0x400) ∷ [])) e

split_all : (a b : Bool) → (a && b) ≡ true → (a ≡ true) × (b ≡ true)
split_all true b h = (refl, h)
split_all false b h = cc

same_units : (v : List ℕ) → list_all (λ c. nat_lt c 128) v ≡ true → utf16 v ≡ v
same_units [] h = refl
same_units (c ∷ v) h = let p = split_all (nat_lt c 128) (list_all (λ c. nat_lt c 128) v) h in ap₂ (λ a b. a ++ b) (one_unit c p.0) (same_units v p.1)

same_bytes : (v : List ℕ) → list_all (λ c. nat_lt c 128) v ≡ true → encode_utf8_all v ≡ v
same_bytes [] h = refl
same_bytes (c ∷ v) h = let p = split_all (nat_lt c 128) (list_all (λ c. nat_lt c 128) v) h in let l : c < 128 = grind (arith, nat_tests) in ap₂ (λ a b. a ++ b) (encode_ascii c l) (same_bytes v p.1)

one_scalar : (c : ℕ) → nat_lt c 128 ≡ true → scalar c ≡ true
one_scalar c h = grind (arith, nat_tests)

are_scalars : (v : List ℕ) → list_all (λ c. nat_lt c 128) v ≡ true → scalars v ≡ true
are_scalars [] h = refl
are_scalars (c ∷ v) h = let p = split_all (nat_lt c 128) (list_all (λ c. nat_lt c 128) v) h in and_true (scalar c) (scalars v) (one_scalar c p.0) (are_scalars v p.1)

-- ---- lists of names

pub itself : (n : List ℕ) → list_eq n n ≡ true
unfolding list_eq
itself [] = refl
itself (x ∷ xs) = and_true _ (list_eq xs xs) (grind (arith, nat_tests)) (itself xs)

or_true : (a b : Bool) → b ≡ true → (a || b) ≡ true
or_true true b e = refl
or_true false b e = e

or_left : (a b : Bool) → a ≡ true → (a || b) ≡ true
or_left true b e = refl
or_left false b e = cc

-- what stands in a list is found there
pub found : (n : List ℕ) (xs : List (List ℕ)) → In n xs → is_in n xs ≡ true
unfolding is_in
found n [] i = elim i [ ]
found n (_ ∷ xs) here = or_left (list_eq n n) (is_in n xs) (itself n)
found n (x ∷ xs) (there i) = or_true (list_eq n x) (is_in n xs) (found n xs i)

no_both : (b : Bool) → b ≡ true → not b ≡ true → ⊥
no_both true h k = cc
no_both false h k = cc

pub not_in : (n : List ℕ) (xs : List (List ℕ)) → is_free xs n ≡ true → In n xs → ⊥
unfolding is_free
not_in n xs f i = no_both (is_in n xs) (found n xs i) f

pub left_in : {A : Type 0} (x : A) (xs ys : List A) → In x xs → In x (xs ++ ys)
left_in x [] ys i = elim i [ ]
left_in x (_ ∷ xs) ys here = here
left_in x (y ∷ xs) ys (there i) = there (left_in x xs ys i)

pub right_in : {A : Type 0} (x : A) (xs ys : List A) → In x ys → In x (xs ++ ys)
right_in x [] ys i = i
right_in x (y ∷ xs) ys i = there (right_in x xs ys i)

-- ---- words

no_word : (ws : List Word) (v : List ℕ) → (In v (map spelling ws) → ⊥) → spelled_in ws v ≡ None
no_word [] v h = refl
no_word (w ∷ ws) v h = by (bytes_eq (spelling w) v) refl (no_word ws v (λ i. h (there i))) where
  by : (b : Bool) → bytes_eq (spelling w) v ≡ b → spelled_in ws v ≡ None → cond b (Some w) (spelled_in ws v) ≡ None
  by true e go = absurd (h (subst (λ x. In x (spelling w ∷ map spelling ws)) ((bytes_eq-Decides (spelling w) v).0 e) here))
  by false e go = go

no_special : (v x : List ℕ) → In x special_names → (In v special_names → ⊥) → bytes_eq x v ≡ false
no_special v x i h = by (bytes_eq x v) refl where
  by : (b : Bool) → bytes_eq x v ≡ b → b ≡ false
  by true e = absurd (h (subst (λ y. In y special_names) ((bytes_eq-Decides x v).0 e) i))
  by false e = refl

not_refused : (v : List ℕ) → (In v special_names → ⊥) → refused_name v ≡ None
unfolding special_names
not_refused v h = rw (no_special v (codes "eval") here h) rw (no_special v (codes "arguments") (there here) h) refl

-- a name by number that isn't passed over
pub is_variable : (k : ℕ) → (In (nth_name k) (map spelling words) → ⊥) → (In (nth_name k) special_names → ⊥) → IsVariableName (nth_name k)
unfolding word_of
is_variable k w s =
    let g = is_good k in
    let v = nth_name k in
    let n : IsName (utf16 v) = names_are_names v (are_scalars v g.ascii) g.begins g.parts (ap (λ x. word_of x) (same_bytes v g.ascii) ∙ no_word words v w) in
    record { identifier = subst IsName (same_units v g.ascii) n; allowed = not_refused v s }

pub texts_one : (m n : List ℕ) → list_eq m n ≡ true → m ≡ n
unfolding list_eq
texts_one [] [] e = refl
texts_one [] (y ∷ ys) e = cc
texts_one (x ∷ xs) [] e = cc
texts_one (x ∷ xs) (y ∷ ys) e = let h = split_all (nat_eq x y) (list_eq xs ys) e in ap₂ (λ z zs. z ∷ zs) (eqb-true x y h.0) (texts_one xs ys h.1)
