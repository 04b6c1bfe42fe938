-- The words that begin with a byte.
use Rattle.std.specs.Prelude.{ℕ, List, [], ◌∷◌, Bool, true, false, ◌==◌, ◌||◌, cond, if◌then◌else◌, Option, Some, None, slice_index, length, ◌≤◌}
use Rattle.std.specs.List.{filter}
use Rattle.std.specs.Str.{bytes_eq, chars}
use Rattle.std.proofs.Common.{◌≡◌, arith, refl, sym, ap, ◌∙◌, subst}
use Rattle.std.proofs.lemmas.Slice.Eq.{bytes_eq-Decides}
use Rattle.cc_text.specs.Utf16.{utf16}
use Rattle.cc_lexer.specs.declared.word.Word.{Word}
use Rattle.cc_lexer.specs.declared.word.Word.TheVariants as w
use Rattle.cc_lexer.specs.Words.{spelling, words, spelled_in, word_of}

abbrev pub first_of : List ℕ → ℕ
first_of text = slice_index text 0

abbrev pub begins_with : ℕ → Word → Bool
begins_with n x = first_of (spelling x) == n

equal_itself : (n : ℕ) → (n == n) ≡ true
equal_itself n = search (arith)

spelled : (x : Word) (text : List ℕ) → bytes_eq (spelling x) text ≡ true → spelling x ≡ text
spelled x text same = (bytes_eq-Decides (spelling x) text).0 same

begins : (text : List ℕ) (n : ℕ) (x : Word) → first_of text ≡ n → bytes_eq (spelling x) text ≡ true → begins_with n x ≡ true
begins text n x e same = subst (λ (m : ℕ). (m == n) ≡ true) (sym (ap first_of (spelled x text same) ∙ e)) (equal_itself n)

one_more : (b d : Bool) (x : Word) (text : List ℕ) (front : List Word) (all : Option Word) → bytes_eq (spelling x) text ≡ d → (d ≡ true → b ≡ true)
    → spelled_in front text ≡ all → spelled_in (cond b (x ∷ front) front) text ≡ (if d then Some x else all)
one_more true d x text front all e h k = ap (λ t. if t then Some x else spelled_in front text) e ∙ ap (λ o. if d then Some x else o) k
one_more false true x text front all e h k = absurd (let n = h refl in cc)
one_more false false x text front all e h k = k

among : (text : List ℕ) (n : ℕ) → first_of text ≡ n → (xs : List Word) → spelled_in (filter (begins_with n) xs) text ≡ spelled_in xs text
among text n e [] = refl
among text n e (x ∷ xs) = one_more (begins_with n x) (bytes_eq (spelling x) text) x text _ _ refl (begins text n x e) (among text n e xs)

-- a word is found among those that begin as the text does
pub by_first : (text : List ℕ) (n : ℕ) → first_of text ≡ n → spelled_in (filter (begins_with n) words) text ≡ word_of text
unfolding word_of
by_first text n e = among text n e words

-- the bytes that words begin with
abbrev pub is_first : ℕ → Bool
is_first n = n == 98 || n == 99 || n == 100 || n == 101 || n == 102 || n == 105 || n == 110 || n == 114 || n == 115 || n == 116 || n == 118 || n == 119

first_known : (x : Word) → is_first (first_of (spelling x)) ≡ true
unfolding spelling
first_known w.Break = refl
first_known w.Case = refl
first_known w.Catch = refl
first_known w.Class = refl
first_known w.Const = refl
first_known w.Continue = refl
first_known w.Debugger = refl
first_known w.Default = refl
first_known w.Delete = refl
first_known w.Do = refl
first_known w.Else = refl
first_known w.Enum = refl
first_known w.Export = refl
first_known w.Extends = refl
first_known w.False = refl
first_known w.Finally = refl
first_known w.For = refl
first_known w.Function = refl
first_known w.If = refl
first_known w.Import = refl
first_known w.In = refl
first_known w.Instanceof = refl
first_known w.New = refl
first_known w.Null = refl
first_known w.Return = refl
first_known w.Super = refl
first_known w.Switch = refl
first_known w.This = refl
first_known w.Throw = refl
first_known w.True = refl
first_known w.Try = refl
first_known w.Typeof = refl
first_known w.Var = refl
first_known w.Void = refl
first_known w.While = refl
first_known w.With = refl

none_more : (d : Bool) (x : Word) (text : List ℕ) (all : Option Word) → bytes_eq (spelling x) text ≡ d → is_first (first_of text) ≡ false → all ≡ None → (if d then Some x else all) ≡ None
none_more true x text all e h k = absurd (let known = ap (λ t. is_first (first_of t)) (sym (spelled x text e)) ∙ first_known x in cc)
none_more false x text all e h k = k

none_among : (text : List ℕ) → is_first (first_of text) ≡ false → (xs : List Word) → spelled_in xs text ≡ None
none_among text h [] = refl
none_among text h (x ∷ xs) = none_more (bytes_eq (spelling x) text) x text (spelled_in xs text) refl h (none_among text h xs)

-- where the text begins with another byte it is no word
pub no_word : (text : List ℕ) → is_first (first_of text) ≡ false → word_of text ≡ None
unfolding word_of
no_word text h = none_among text h words

pub no_bytes : (text : List ℕ) → length text ≤ 0 → word_of text ≡ None
unfolding word_of words spelling
no_bytes [] h = refl
no_bytes (c ∷ cs) h = absurd (omega arith)

-- a word is of ASCII
pub units_spelled : (x : Word) → utf16 (chars (spelling x)) ≡ spelling x
unfolding chars spelling
units_spelled w.Break = refl
units_spelled w.Case = refl
units_spelled w.Catch = refl
units_spelled w.Class = refl
units_spelled w.Const = refl
units_spelled w.Continue = refl
units_spelled w.Debugger = refl
units_spelled w.Default = refl
units_spelled w.Delete = refl
units_spelled w.Do = refl
units_spelled w.Else = refl
units_spelled w.Enum = refl
units_spelled w.Export = refl
units_spelled w.Extends = refl
units_spelled w.False = refl
units_spelled w.Finally = refl
units_spelled w.For = refl
units_spelled w.Function = refl
units_spelled w.If = refl
units_spelled w.Import = refl
units_spelled w.In = refl
units_spelled w.Instanceof = refl
units_spelled w.New = refl
units_spelled w.Null = refl
units_spelled w.Return = refl
units_spelled w.Super = refl
units_spelled w.Switch = refl
units_spelled w.This = refl
units_spelled w.Throw = refl
units_spelled w.True = refl
units_spelled w.Try = refl
units_spelled w.Typeof = refl
units_spelled w.Var = refl
units_spelled w.Void = refl
units_spelled w.While = refl
units_spelled w.With = refl
