-- The naming of a program: one name for each global and each slot, the same in all chunks.
use Rattle.std.specs.Prelude.{ℕ, suc, ◌+◌, List, [], ◌∷◌, ◌++◌, Bool, true, false, not, ◌&&◌, ◌||◌, nat_lt, nat_eq, if◌then◌else◌, map, length, count_by, is_some, codes}
use Rattle.std.specs.List.{filter}
use Rattle.cc_ast.specs.declared.tables.GlobalInfo.{GlobalInfo}
use Rattle.cc_ast.specs.Syntax as S
use Rattle.cc_meaning.specs.Operators.{is_in}
use Rattle.cc_lexer.specs.Words.{spelling, words}
use Rattle.cc_printer.specs.RawOf.{name_at}
use Rattle.cc_rename.specs.Order.{nth_name, numbers}
use Rattle.cc_rename.specs.Uses.{Variable, global, slot, uses, occurrences, slots_of}

-- ---- names that are passed over

-- the reserved words of strict code (ECMA-262 5.1, 7.6.1.2)
unfoldable pub strict_words : List (List ℕ)
strict_words = codes "let" ∷ codes "static" ∷ codes "yield" ∷ codes "implements" ∷ codes "interface" ∷ codes "package" ∷ codes "private"
    ∷ codes "protected" ∷ codes "public" ∷ []

-- names with a meaning of their own (10.6, 15.1.1 and 15.1.2.1)
unfoldable pub special_names : List (List ℕ)
special_names = codes "eval" ∷ codes "arguments" ∷ codes "undefined" ∷ codes "NaN" ∷ codes "Infinity" ∷ []

-- a global that no chunk declares: an extern, or a built-in one
unfoldable pub is_outer : GlobalInfo → Bool
is_outer g = not (is_some g.chunk)

unfoldable pub names_of_outer : List GlobalInfo → List (List ℕ)
unfolding is_outer
names_of_outer gs = map (λ g. g.name) (filter is_outer gs)

-- the names that no variable gets
unfoldable pub passed_over : S.Program → List (List ℕ)
unfolding strict_words special_names names_of_outer
passed_over P = map spelling words ++ (strict_words ++ (special_names ++ names_of_outer P.globals))

unfoldable pub is_free : List (List ℕ) → List ℕ → Bool
unfolding is_in
is_free passed name = not (is_in name passed)

-- the name behind so many others, those that are passed over not counted
unfoldable pub free_name : List (List ℕ) → ℕ → List ℕ
unfolding is_free numbers
free_name passed n = name_at (filter (is_free passed) (map nth_name (numbers 0 (suc n + length passed)))) n

-- ---- ranks

-- the numbers of the globals that chunks declare, from a number on
unfoldable pub inner_globals : ℕ → List GlobalInfo → List ℕ
unfolding is_outer
inner_globals k [] = []
inner_globals k (g ∷ gs) = if is_outer g then inner_globals (suc k) gs else k ∷ inner_globals (suc k) gs

-- the globals of the chunks, and the slots: the variables that get names
unfoldable pub variables : S.Program → List Variable
unfolding inner_globals numbers slots_of uses
variables P = map global (inner_globals 0 P.globals) ++ map slot (numbers 0 (slots_of (uses P)))

-- globals come before slots, and among either the lesser number does
unfoldable pub is_lesser : Variable → Variable → Bool
is_lesser (global m) (global n) = nat_lt m n
is_lesser (global m) (slot n) = true
is_lesser (slot m) (global n) = false
is_lesser (slot m) (slot n) = nat_lt m n

-- What is printed more often comes first, and of what is printed as often the lesser one.
unfoldable pub comes_before : S.Program → Variable → Variable → Bool
unfolding occurrences uses is_lesser
comes_before P v w = nat_lt (occurrences (uses P) w) (occurrences (uses P) v)
    || (nat_eq (occurrences (uses P) v) (occurrences (uses P) w) && is_lesser v w)

-- how many variables come before one
unfoldable pub rank : S.Program → Variable → ℕ
unfolding comes_before variables
rank P v = count_by (λ w. comes_before P w v) (variables P)

-- ---- names

-- the name of a variable that gets one
unfoldable pub new_name : S.Program → Variable → List ℕ
unfolding rank free_name passed_over
new_name P v = free_name (passed_over P) (rank P v)

-- an extern and a built-in global keep their names
unfoldable pub global_name : S.Program → ℕ → GlobalInfo → List ℕ
unfolding is_outer new_name
global_name P k g = if is_outer g then g.name else new_name P (global k)

unfoldable pub global_names : S.Program → ℕ → List GlobalInfo → List (List ℕ)
unfolding global_name
global_names P k [] = []
global_names P k (g ∷ gs) = global_name P k g ∷ global_names P (suc k) gs

unfoldable pub slot_names : S.Program → List (List ℕ)
unfolding numbers new_name slots_of uses
slot_names P = map (λ n. new_name P (slot n)) (numbers 0 (slots_of (uses P)))

-- the naming of a program
unfoldable pub naming_of : S.Program → S.Names
unfolding global_names slot_names
naming_of P = record { globals = global_names P 0 P.globals; slots = slot_names P }
