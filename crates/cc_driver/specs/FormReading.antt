-- Reading the form from left to right. Each reader takes the offset and the bytes from there on, and
-- gives what it read, the offset behind it and the bytes from there on, where there is such a reading.
use Rattle.std.specs.Prelude.{◌≡◌, ℕ, zero, suc, ◌+◌, ◌*◌, ◌-◌, pos, Bool, not, nat_eq, nat_le, nat_lt, ◌||◌, ◌&&◌, List, [], ◌∷◌, ◌++◌, codes, length, take, drop, Option, None, Some, cond, Result, Ok, Err}
use Rattle.std.specs.List.{prefix_len}
use Rattle.std.specs.Str.{bytes_eq}
use Rattle.std.specs.Borrow.{Bor}
use Rattle.cc_driver.specs.Names.{between, is_name_part, starts_name, is_in, reserved_words, built_in_names, special_names}
use Rattle.cc_driver.specs.Form.{is_plain, whole_limit, most_more}
use Rattle.cc_driver.specs.declared.form.unread.Unread.{Unread}
use Rattle.cc_driver.specs.declared.form.unread.Unread.TheVariants.{Form, Memory}
use Rattle.cc_driver.specs.declared.form.Operand.{Operand}
use Rattle.cc_driver.specs.declared.form.Operand.TheVariants.{Named, Text, Whole}
use Rattle.cc_driver.specs.declared.form.Added.{Added}
use Rattle.cc_driver.specs.declared.form.Value.{Value}
use Rattle.cc_driver.specs.declared.form.Statement.{Statement}
use Rattle.cc_driver.specs.declared.form.Statement.TheVariants.{Declares, Calls}

abbrev pub Reading : Type 0 → Type 0
Reading A = Option (A × ℕ × List ℕ)

abbrev pub and_then : {A B : Type 0} → Reading A → (A → ℕ → List ℕ → Option B) → Option B
and_then None f = None
and_then (Some x) f = f x.0 x.1 x.2

-- the next byte, or 0 at the end
abbrev pub look : List ℕ → ℕ
look [] = 0
look (c ∷ cs) = c

abbrev pub begins : List ℕ → List ℕ → Bool
begins w xs = bytes_eq w (take (length w) xs)

unfoldable pub expect : ℕ → ℕ → List ℕ → Reading (Unit {0})
expect c at xs = cond (nat_eq (look xs) c) (Some (tt, at + 1, drop 1 xs)) None

unfoldable pub expect_word : List ℕ → ℕ → List ℕ → Reading (Unit {0})
expect_word w at xs = cond (begins w xs) (Some (tt, at + length w, drop (length w) xs)) None

abbrev pub is_free_name : List ℕ → Bool
is_free_name n = starts_name n && not (is_in n (reserved_words ++ built_in_names ++ special_names))

abbrev pub named : ℕ → List ℕ → ℕ → Reading (List ℕ)
named at xs n = cond (is_free_name (take n xs)) (Some (take n xs, at + n, drop n xs)) None

unfoldable pub read_name : ℕ → List ℕ → Reading (List ℕ)
read_name at xs = named at xs (prefix_len is_name_part xs)

abbrev pub texted : ℕ → ℕ → List ℕ → ℕ → Reading Operand
texted quote at xs n = and_then (expect quote (at + 1 + n) (drop n xs)) (λ u end rest. Some (Text at (take n xs), end, rest))

-- a text behind its opening quote, which stands at the offset
unfoldable pub read_text : ℕ → ℕ → List ℕ → Reading Operand
read_text quote at xs = texted quote at xs (prefix_len is_plain xs)

abbrev pub is_digit : ℕ → Bool
is_digit = between 48 57

-- the number that digits write behind those that wrote n
abbrev pub number_behind : ℕ → List ℕ → ℕ
number_behind n [] = n
number_behind n (c ∷ cs) = number_behind (n * 10 + (c - 48)) cs

abbrev pub most_digits : ℕ
most_digits = 16

-- one digit, or digits of which the first is not 0
abbrev pub leads_well : List ℕ → Bool
leads_well ds = nat_lt 48 (look ds) || nat_eq (length ds) 1

-- digits that write a number of the form
abbrev pub is_free_number : List ℕ → Bool
is_free_number ds = leads_well ds && (nat_le (length ds) most_digits && nat_lt (number_behind 0 ds) whole_limit)

abbrev pub numbered : ℕ → List ℕ → ℕ → Reading Operand
numbered at xs n = cond (is_free_number (take n xs)) (Some (Whole at (pos (number_behind 0 (take n xs))), at + n, drop n xs)) None

unfoldable pub read_number : ℕ → List ℕ → Reading Operand
read_number at xs = numbered at xs (prefix_len is_digit xs)

unfoldable pub read_operand : ℕ → List ℕ → Reading Operand
read_operand at xs =
    cond (nat_eq (look xs) 39 || nat_eq (look xs) 34) (read_text (look xs) at (drop 1 xs))
    (cond (is_digit (look xs)) (read_number at xs)
    (and_then (read_name at xs) (λ n end rest. Some (Named at n, end, rest))))

-- the operands from here on that each follow a `+`, as many as are asked for at most, after those that were found before
unfoldable pub read_more : ℕ → List Added → ℕ → List ℕ → Reading (List Added)
read_more zero found at xs = Some (found, at, xs)
read_more (suc n) found at xs =
    cond (nat_eq (look xs) 43) (and_then (read_operand (at + 1) (drop 1 xs)) (λ o a ys. read_more n (found ++ (record { plus = at; operand = o }) ∷ []) a ys)) (Some (found, at, xs))

unfoldable pub read_value : ℕ → List ℕ → Reading Value
read_value at xs =
    and_then (read_operand at xs) (λ o a ys. and_then (read_more most_more [] a ys) (λ ms b zs. Some (record { first = o; more = ms }, b, zs)))

-- the values from here on, with the parenthesis behind them, after those that were found before
unfoldable pub read_values : ℕ → List Value → ℕ → List ℕ → Reading (List Value)
read_values zero found at xs = None
read_values (suc n) found at xs =
    and_then (read_value at xs) (λ v a ys. cond (nat_eq (look ys) 44) (read_values n (found ++ v ∷ []) (a + 1) (drop 1 ys))
    (and_then (expect 41 a ys) (λ u b zs. Some (found ++ v ∷ [], b, zs))))

unfoldable pub read_arguments : ℕ → List ℕ → Reading (List Value)
read_arguments at xs = cond (nat_eq (look xs) 41) (Some ([], at + 1, drop 1 xs)) (read_values (length xs) [] at xs)

-- a declaration behind its `var`, which stands at the offset
unfoldable pub read_declaration : ℕ → List ℕ → Reading Statement
read_declaration at xs =
    and_then (read_name (at + 4) xs) (λ n a ys. and_then (expect 61 a ys) (λ u b zs. and_then (read_value b zs) (λ v c ws.
    and_then (expect 59 c ws) (λ u end rest. Some (Declares at n v, end, rest)))))

unfoldable pub read_call : ℕ → List ℕ → Reading Statement
read_call at xs =
    and_then (read_name at xs) (λ n a ys. and_then (expect 40 a ys) (λ u b zs. and_then (read_arguments b zs) (λ vs c ws.
    and_then (expect 59 c ws) (λ u end rest. Some (Calls at n vs, end, rest)))))

unfoldable pub read_statement : ℕ → List ℕ → Reading Statement
read_statement at xs = cond (begins (codes "var ") xs) (read_declaration at (drop 4 xs)) (read_call at xs)

unfoldable pub read_statements : ℕ → List Statement → ℕ → List ℕ → Option (List Statement)
read_statements zero found at xs = None
read_statements (suc n) found at xs =
    cond (nat_eq (length xs) 0) (Some found) (and_then (read_statement at xs) (λ s a ys. read_statements n (found ++ s ∷ []) a ys))

unfoldable pub read_function : ℕ → List ℕ → Reading (List ℕ)
read_function at xs =
    and_then (expect_word (codes "function ") at xs) (λ u a ys. and_then (read_name a ys) (λ n b zs. and_then (expect 40 b zs) (λ u c ws.
    and_then (read_name c ws) (λ p d vs. and_then (expect_word (codes "){}") d vs) (λ u end rest. Some (n, end, rest))))))

unfoldable pub read_functions : ℕ → List (List ℕ) → ℕ → List ℕ → Option (List (List ℕ))
read_functions zero found at xs = None
read_functions (suc n) found at xs =
    cond (nat_eq (length xs) 0) (Some found) (and_then (read_function at xs) (λ f a ys. read_functions n (found ++ f ∷ []) a ys))

-- what a function that reads ensures: it gives what the reader gives, unless memory is wanting
abbrev pub Reads : {A : Type 0} → Reading A → Result A Unread → ℕ → List ℕ → Type 0
Reads reading (Ok a) at rest = reading ≡ Some (a, at, rest)
Reads reading (Err Form) at rest = reading ≡ None
Reads reading (Err (Memory e)) at rest = Unit {0}

-- the same for a function that gives the bytes of the text that are read
abbrev pub ReadsBytes : Reading (List ℕ) → Result (Bor (List ℕ)) Unread → ℕ → List ℕ → Type 0
ReadsBytes reading (Ok bytes) at rest = reading ≡ Some (bytes.now, at, rest)
ReadsBytes reading (Err Form) at rest = reading ≡ None
ReadsBytes reading (Err (Memory e)) at rest = Unit {0}

-- the same for a function that adds what is read to what was found before
abbrev pub Adds : {A : Type 0} → List A → Reading A → Result (Unit {0}) Unread → List A → ℕ → List ℕ → Type 0
Adds {A} found reading (Ok u) after at rest = (a : A) × (reading ≡ Some (a, at, rest)) × (after ≡ found ++ a ∷ [])
Adds found reading (Err Form) after at rest = reading ≡ None
Adds found reading (Err (Memory e)) after at rest = Unit {0}

abbrev pub Finds : {A : Type 0} → Option A → Result A Unread → Type 0
Finds found (Ok a) = found ≡ Some a
Finds found (Err Form) = found ≡ None
Finds found (Err (Memory e)) = Unit {0}
