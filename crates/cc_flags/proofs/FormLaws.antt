-- The forms of values.
use Rattle.std.proofs.Common.{◌≡◌, ◌≢◌, ◌⊎◌, ◌↔◌, ℕ, zero, suc, ◌≤◌, Bool, true, false, ◌||◌, List, [], ◌∷◌, length, map, codes, Option, Some, None, is_some, is_none, not, option_map, option_and_then, ◌-◌, ◌^◌, MatchBool, MatchOption, IsTrue, inl, inr, refl, ap, sym, subst, ◌∙◌, true≢false, arith}
use denote.Enum.Bare.{sameb, same_true, true_same}
use Rattle.std.specs.Borrow.{Bor}
use Rattle.std.specs.List.{Contains, list_any}
use Rattle.std.proofs.lemmas.List.{length-map}
use Rattle.std.specs.Option.{option_copied}
use Rattle.std.specs.Str.{bytes_eq}
use Rattle.std.proofs.lemmas.Slice.Eq.{bytes_eq-Decides}
use Rattle.cc_flags.specs.declared.flag.Form.{Form}
use Rattle.cc_flags.specs.declared.flag.Form.TheVariants as form
use Rattle.cc_flags.specs.contracts.flag.Form as the_form
use Rattle.cc_flags.specs.declared.form.Value.{Value}
use Rattle.cc_flags.specs.declared.form.Value.TheVariants as value
use Rattle.cc_flags.specs.declared.job.DefineValue.{DefineValue}
use Rattle.cc_flags.specs.declared.job.Synthesis.{Synthesis}
use Rattle.cc_flags.specs.Texts.{before, behind, places}
use Rattle.cc_flags.specs.Numbers.{is_decimal, decimal, within}
use Rattle.std.specs.Str.Parse.{digits_value}
use Rattle.cc_flags.proofs.NumberLaws.{decimal-is, decimal-isnt, within-above}
use Rattle.cc_flags.specs.Values.{HasForm, chunk_of, is_chunk_name, synthesis_of, seed_and_size, bound_of}
use Rattle.cc_flags.specs.Values as v
use Rattle.cc_flags.specs.Forming.{IsPositive, IsPlain, IsValue}

-- what a value gives, by the form and the text that it is told to have
pub value-by : (names : List (List ℕ)) (f g : Form) (v : Option (Bor (List ℕ))) (text : Bor (List ℕ)) (r : Value) → f ≡ g → v ≡ Some text
    → IsValue names g (Some text.now) r → IsValue names f (option_copied v) r
value-by names f g v text r same given is =
    subst (λ h. IsValue names h (option_copied v) r) (sym same) (subst (λ (o : Option (Bor (List ℕ))). IsValue names g (option_copied o) r) (sym given) is)

-- a value of a form that gives nothing beside its text, by a test
pub plain-by : (names : List (List ℕ)) (f : Form) (v : Option (List ℕ)) (b : Bool) (r : Value) → f ≢ form.Chunk → f ≢ form.Define
    → MatchBool b (HasForm names f v) (¬ HasForm names f v) → MatchBool b (r ≡ value.Plain) (r ≡ value.Wrong) → IsValue names f v r
plain-by names f v true r no_chunk no_define is e = subst (IsValue names f v) (sym e) (record { formed = is; no_chunk = no_chunk; no_define = no_define })
plain-by names f v false r no_chunk no_define is e = subst (IsValue names f v) (sym e) is

-- ---- no value

none-form : (names : List (List ℕ)) (f : Form) → HasForm names f None → f ≡ form.Switch
none-form names form.Switch v.switch = refl
none-form names form.AnyText has = elim has [ ]
none-form names form.Chunk has = elim has [ ]
none-form names form.ChunkWrapper has = elim has [ ]
none-form names form.OutputWrapper has = elim has [ ]
none-form names form.Define has = elim has [ ]
none-form names form.Level has = elim has [ ]
none-form names form.Workers has = elim has [ ]
none-form names form.Synthesis has = elim has [ ]
none-form names form.Bound has = elim has [ ]

pub value-none : (names : List (List ℕ)) (f : Form) (b : Bool) (r : Value) → b ≡ sameb the_form.the_type f form.Switch → MatchBool b (r ≡ value.Plain) (r ≡ value.Wrong) → IsValue names f None r
value-none names f true r tested e =
    let same = same_true the_form.the_type tt f form.Switch (sym tested) in
    subst (IsValue names f None) (sym e) (subst (λ g. IsPlain names g None) (sym same) (record { formed = v.switch; no_chunk = (λ k. cc); no_define = (λ k. cc) }))
value-none names f false r tested e =
    subst (IsValue names f None) (sym e) (λ has. true≢false (sym (true_same the_form.the_type f form.Switch (none-form names f has)) ∙ sym tested))

-- ---- the forms of texts

either : (a b : Bool) → (a || b) ≡ true → (a ≡ true) ⊎ (b ≡ true)
either true b e = inl refl
either false b e = inr e

neither : (a b : Bool) → (a || b) ≡ false → (a ≡ false) × (b ≡ false)
neither true b e = cc
neither false b e = (refl, e)

-- a text that is one of two, by a test
one_of_two : (text p q : List ℕ) (P : Type 0) (b : Bool) → b ≡ (bytes_eq text p || bytes_eq text q) → (text ≡ p → P) → (text ≡ q → P) → (P → (text ≡ p) ⊎ (text ≡ q)) → MatchBool b P (¬ P)
one_of_two text p q P true tested first second back = elim (either (bytes_eq text p) (bytes_eq text q) (sym tested)) [
  | inl e ↦ first ((bytes_eq-Decides text p).0 e)
  | inr e ↦ second ((bytes_eq-Decides text q).0 e)
]
one_of_two text p q P false tested first second back = λ has.
    let none = neither (bytes_eq text p) (bytes_eq text q) (sym tested) in
    elim (back has) [
      | inl e ↦ true≢false (sym ((bytes_eq-Decides text p).1 e) ∙ none.0)
      | inr e ↦ true≢false (sym ((bytes_eq-Decides text q).1 e) ∙ none.1)
    ]

switch-back : (names : List (List ℕ)) (text : List ℕ) → HasForm names form.Switch (Some text) → (text ≡ codes "true") ⊎ (text ≡ codes "false")
switch-back names text (v.switch_on e) = inl e
switch-back names text (v.switch_off e) = inr e

pub switch-form : (names : List (List ℕ)) (text : List ℕ) (b : Bool) → b ≡ (bytes_eq text (codes "true") || bytes_eq text (codes "false"))
    → MatchBool b (HasForm names form.Switch (Some text)) (¬ HasForm names form.Switch (Some text))
switch-form names text b tested = one_of_two text (codes "true") (codes "false") _ b tested (λ e. v.switch_on e) (λ e. v.switch_off e) (switch-back names text)

level-back : (names : List (List ℕ)) (text : List ℕ) → HasForm names form.Level (Some text) → (text ≡ codes "ADVANCED") ⊎ (text ≡ codes "ADVANCED_OPTIMIZATIONS")
level-back names text (v.level e) = inl e
level-back names text (v.level_optimizations e) = inr e

pub level-form : (names : List (List ℕ)) (text : List ℕ) (b : Bool) → b ≡ (bytes_eq text (codes "ADVANCED") || bytes_eq text (codes "ADVANCED_OPTIMIZATIONS"))
    → MatchBool b (HasForm names form.Level (Some text)) (¬ HasForm names form.Level (Some text))
level-form names text b tested = one_of_two text (codes "ADVANCED") (codes "ADVANCED_OPTIMIZATIONS") _ b tested (λ e. v.level e) (λ e. v.level_optimizations e) (level-back names text)

workers-back : (names : List (List ℕ)) (text : List ℕ) → HasForm names form.Workers (Some text) → IsPositive text
workers-back names text (v.workers {n} e low) = record { n = n; read = e; least = low }

pub workers-form : (names : List (List ℕ)) (text : List ℕ) (b : Bool) → MatchBool b (IsPositive text) (¬ IsPositive text)
    → MatchBool b (HasForm names form.Workers (Some text)) (¬ HasForm names form.Workers (Some text))
workers-form names text true is = v.workers is.read is.least
workers-form names text false isnt = λ has. isnt (workers-back names text has)

none_some : {A : Type 0} {x : A} → None ≡ Some x → ⊥
none_some e = cc

some_one : {m n : ℕ} → Some m ≡ Some n → m ≡ n
some_one e = cc

some_text : {x y : List ℕ} → Some x ≡ Some y → x ≡ y
some_text e = cc

-- a form whose values are what a function reads
reads : (P A : Type 0) (o : Option A) (b : Bool) → b ≡ is_some o → ((x : A) → o ≡ Some x → P) → (P → (x : A) × (o ≡ Some x)) → MatchBool b P (¬ P)
reads P A None true tested to back = cc
reads P A None false tested to back = λ has. let found = back has in absurd (none_some found.1)
reads P A (Some x) true tested to back = to x refl
reads P A (Some x) false tested to back = cc

synthesis-back : (names : List (List ℕ)) (text : List ℕ) → HasForm names form.Synthesis (Some text) → (s : Synthesis) × (synthesis_of text ≡ Some s)
synthesis-back names text (v.synthesis {s} e) = (s, e)

pub synthesis-form : (names : List (List ℕ)) (text : List ℕ) (b : Bool) → b ≡ is_some (synthesis_of text)
    → MatchBool b (HasForm names form.Synthesis (Some text)) (¬ HasForm names form.Synthesis (Some text))
synthesis-form names text b tested = reads _ Synthesis (synthesis_of text) b tested (λ s e. v.synthesis e) (synthesis-back names text)

pub bound-back : (names : List (List ℕ)) (text : List ℕ) → HasForm names form.Bound (Some text) → (n : ℕ) × (bound_of text ≡ Some n)
bound-back names text (v.bound {n} e) = (n, e)

pub bound-form : (names : List (List ℕ)) (text : List ℕ) (b : Bool) → b ≡ is_some (bound_of text)
    → MatchBool b (HasForm names form.Bound (Some text)) (¬ HasForm names form.Bound (Some text))
bound-form names text b tested = reads _ ℕ (bound_of text) b tested (λ n e. v.bound e) (bound-back names text)

output-back : (names : List (List ℕ)) (text : List ℕ) → HasForm names form.OutputWrapper (Some text) → places (codes "%output%") text ≡ 1
output-back names text (v.output_wrapper e) = e

pub output-form : {A : Type 0} (names : List (List ℕ)) (text : List ℕ) (Q : A → Type 0) (sides : Option A) → MatchOption sides (¬ (places (codes "%output%") text ≡ 1)) (λ s. (places (codes "%output%") text ≡ 1) × Q s)
    → MatchBool (is_some sides) (HasForm names form.OutputWrapper (Some text)) (¬ HasForm names form.OutputWrapper (Some text))
output-form names text Q None none = λ has. none (output-back names text has)
output-form names text Q (Some s) one = v.output_wrapper one.0

-- ---- chunks and definitions

chunk-back : (names : List (List ℕ)) (text : List ℕ) → HasForm names form.Chunk (Some text) → (c : v.Chunk) × (chunk_of text ≡ Some c)
chunk-back names text (v.chunk_text {c} e) = (c, e)

pub chunk-wrong : (names : List (List ℕ)) (text : List ℕ) → chunk_of text ≡ None → ¬ HasForm names form.Chunk (Some text)
chunk-wrong names text none has = let found = chunk-back names text has in none_some (sym none ∙ found.1)

define-back : (names : List (List ℕ)) (text : List ℕ) → HasForm names form.Define (Some text) → (d : DefineValue) × v.IsDefineValue (behind 61 text) d
define-back names text (v.define d is) = (d, is)

pub define-wrong : (names : List (List ℕ)) (text : List ℕ) → ((d : DefineValue) → ¬ v.IsDefineValue (behind 61 text) d) → ¬ HasForm names form.Define (Some text)
define-wrong names text none has = let found = define-back names text has in none found.0 found.1

-- what a chunk or a definition gives doesn't depend on the names
pub chunk-value : (names : List (List ℕ)) (text : List ℕ) (r : Value) → IsValue [] form.Chunk (Some text) r → IsValue names form.Chunk (Some text) r
chunk-value names text value.Wrong is = λ has. let found = chunk-back names text has in is (v.chunk_text found.1)
chunk-value names text (value.Chunk spec) is = is
chunk-value names text (value.Define d) is = is
chunk-value names text value.Plain is = absurd (is.no_chunk refl)

pub define-value : (names : List (List ℕ)) (text : List ℕ) (r : Value) → IsValue [] form.Define (Some text) r → IsValue names form.Define (Some text) r
define-value names text value.Wrong is = λ has. let found = define-back names text has in is (v.define found.0 found.1)
define-value names text (value.Chunk spec) is = is
define-value names text (value.Define d) is = is
define-value names text value.Plain is = absurd (is.no_define refl)

-- ---- numbers of workers

pub positive-no : (bs : List ℕ) → is_decimal bs ≡ false → ¬ IsPositive bs
positive-no bs isnt is = none_some (sym (decimal-isnt bs isnt) ∙ is.read)

above_zero : (n : ℕ) (b : Bool) → b ≡ is_none (within 0 0 (Some n)) → MatchBool b (1 ≤ n) (n ≡ 0)
above_zero zero true e = cc
above_zero zero false e = refl
above_zero (suc n) true e = omega arith
above_zero (suc n) false e = absurd (true≢false (ap is_none (sym (within-above 0 0 (suc n) (omega arith))) ∙ sym e))

pub flipped : (a b : Bool) → not a ≡ b → a ≡ not b
flipped true b e = ap not e
flipped false b e = ap not e

pub positive-by : (bs : List ℕ) (b : Bool) → is_decimal bs ≡ true → b ≡ is_none (within 0 0 (decimal bs)) → MatchBool b (IsPositive bs) (¬ IsPositive bs)
positive-by bs b is tested = by_test b (above_zero (digits_value 10 bs) b (tested ∙ ap (λ o. is_none (within 0 0 o)) (decimal-is bs is))) where
  by_test : (t : Bool) → MatchBool t (1 ≤ digits_value 10 bs) (digits_value 10 bs ≡ 0) → MatchBool t (IsPositive bs) (¬ IsPositive bs)
  by_test true low = record { n = digits_value 10 bs; read = decimal-is bs is; least = low }
  by_test false zero_is = λ pos. let same : digits_value 10 bs ≡ pos.n = some_one (sym (decimal-is bs is) ∙ pos.read) in omega (arith, pos.least)

-- ---- generated input

-- the parts of the text that the code has cut and read
pub synthesis-read : (v front : List ℕ) (size : Option (List ℕ)) (seed : Option ℕ) → front ≡ before 44 v → size ≡ behind 44 v → seed ≡ within 0 (2 ^ 64 - 1) (decimal front)
    → synthesis_of v ≡ option_and_then (λ n. option_map (seed_and_size n) (option_and_then (λ text. within 1 20000 (decimal text)) size)) seed
unfolding synthesis_of
synthesis-read v front size seed at_front at_back read = rw (read, at_front, at_back) refl

-- ---- wrappers of chunks

wrapper-back : (names : List (List ℕ)) (text : List ℕ) → HasForm names form.ChunkWrapper (Some text)
    → (body : List ℕ) × (behind 58 text ≡ Some body) × (is_chunk_name (before 58 text) ≡ true) × (places (codes "%s") body ≡ 1) × ((names ≡ []) ⊎ Contains names (before 58 text))
wrapper-back names text (v.chunk_wrapper {text = body} right cut one among) = (body, cut, right, one, among)

pub wrapper-no_colon : (names : List (List ℕ)) (text : List ℕ) → behind 58 text ≡ None → ¬ HasForm names form.ChunkWrapper (Some text)
wrapper-no_colon names text none has = let found = wrapper-back names text has in none_some (sym none ∙ found.1)

pub wrapper-name : (names : List (List ℕ)) (text : List ℕ) → is_chunk_name (before 58 text) ≡ false → ¬ HasForm names form.ChunkWrapper (Some text)
wrapper-name names text wrong has = let found = wrapper-back names text has in true≢false (sym found.2 ∙ wrong)

pub wrapper-marker : {A : Type 0} (names : List (List ℕ)) (text body : List ℕ) (Q : A → Type 0) (sides : Option A) → behind 58 text ≡ Some body → is_some sides ≡ false
    → MatchOption sides (¬ (places (codes "%s") body ≡ 1)) (λ s. (places (codes "%s") body ≡ 1) × Q s) → ¬ HasForm names form.ChunkWrapper (Some text)
wrapper-marker names text body Q None cut none nowhere has =
    let found = wrapper-back names text has in
    nowhere (ap (places (codes "%s")) (some_text (sym cut ∙ found.1)) ∙ found.3)
wrapper-marker names text body Q (Some s) cut none here has = cc

pub wrapper-among : {A : Type 0} (names : List (List ℕ)) (text body : List ℕ) (Q : A → Type 0) (sides : Option A) (b : Bool) → behind 58 text ≡ Some body → is_some sides ≡ true
    → MatchOption sides (¬ (places (codes "%s") body ≡ 1)) (λ s. (places (codes "%s") body ≡ 1) × Q s) → is_chunk_name (before 58 text) ≡ true
    → IsTrue b ↔ ((names ≡ []) ⊎ Contains names (before 58 text)) → MatchBool b (HasForm names form.ChunkWrapper (Some text)) (¬ HasForm names form.ChunkWrapper (Some text))
wrapper-among names text body Q None b cut some one right among = cc
wrapper-among names text body Q (Some s) true cut some one right among = v.chunk_wrapper right cut one.0 (among.0 refl)
wrapper-among names text body Q (Some s) false cut some one right among = λ has. let found = wrapper-back names text has in true≢false (sym (among.1 found.4))

-- ---- names in a set

map-any : (name : List ℕ) (keys : List (Bor (List ℕ))) → list_any (λ k. bytes_eq name k.now) keys ≡ list_any (bytes_eq name) (map (λ k. k.now) keys)
map-any name [] = refl
map-any name (k ∷ keys) = ap (λ b. bytes_eq name k.now || b) (map-any name keys)

-- a name is in a list where a test of each name finds it, and the other way round
pub any-contains : (name : List ℕ) (names : List (List ℕ)) → list_any (bytes_eq name) names ≡ true → Contains names name
any-contains name [] e = cc
any-contains name (n ∷ names) e = elim (either (bytes_eq name n) (list_any (bytes_eq name) names) e) [
  | inl here ↦ (0, omega arith, sym ((bytes_eq-Decides name n).0 here))
  | inr there ↦ let more = any-contains name names there in (suc more.0, omega (arith, more.1), more.2)
]

or-right : (a b : Bool) → b ≡ true → (a || b) ≡ true
or-right true b e = refl
or-right false b e = e

pub contains-any : (name : List ℕ) (names : List (List ℕ)) → Contains names name → list_any (bytes_eq name) names ≡ true
contains-any name [] has = absurd (let k = has.1 in omega arith)
contains-any name (n ∷ names) (zero, within, found) = let here = (bytes_eq-Decides name n).1 (sym found) in rw here refl
contains-any name (n ∷ names) (suc k, within, found) = or-right (bytes_eq name n) _ (contains-any name names (k, omega arith, found))

pub among-by : (keys : List (Bor (List ℕ))) (name : List ℕ) (none found : Bool) → IsTrue none ↔ (length keys ≡ 0) → none ≡ false → found ≡ list_any (λ k. bytes_eq name k.now) keys
    → IsTrue found ↔ ((map (λ k. k.now) keys ≡ []) ⊎ Contains (map (λ k. k.now) keys) name)
among-by keys name none found empty isnt tested = (
  (λ is. inr (any-contains name (map (λ k. k.now) keys) (sym (tested ∙ map-any name keys) ∙ is))),
  (λ either_way. elim either_way [
    | inl no_keys ↦ absurd (true≢false (sym (empty.1 (sym (length-map keys (λ k. k.now)) ∙ ap length no_keys)) ∙ isnt))
    | inr has ↦ tested ∙ map-any name keys ∙ contains-any name (map (λ k. k.now) keys) has
  ]),
)
