-- What reading tests of the names in a text of the form, one after the other.
use Rattle.std.specs.Prelude.{◌≡◌, ℕ, Bool, true, ◌&&◌, List, [], ◌∷◌, ◌++◌, Option, None, Some, cond, Result, Ok, Err, map, nat_lt, suc, length}
use Rattle.std.specs.List.{list_all}
use Rattle.std.specs.HashSet.{HashSet}
use Rattle.std.specs.Borrow.{Bor}
use Rattle.cc_driver.specs.Names.{is_in}
use Rattle.cc_driver.specs.FormReading.{read_functions, read_statements}
use Rattle.cc_driver.specs.declared.form.unread.Unread.{Unread}
use Rattle.cc_driver.specs.declared.form.unread.Unread.TheVariants.{Form, Memory}
use Rattle.cc_driver.specs.declared.form.Operand.{Operand}
use Rattle.cc_driver.specs.declared.form.Operand.TheVariants.{Named, Text, Whole}
use Rattle.cc_driver.specs.declared.form.Added.{Added}
use Rattle.cc_driver.specs.declared.form.Value.{Value}
use Rattle.cc_driver.specs.declared.form.Statement.{Statement}
use Rattle.cc_driver.specs.declared.form.Statement.TheVariants.{Declares, Calls}

-- the names of a table, in the order in which they came
abbrev pub names_in : {S : Type 0} → HashSet (Bor (List ℕ)) S → List (List ℕ)
names_in table = map (λ k. k.now) table.keys

-- what a function that makes a table ensures
abbrev pub FindsNames : {S : Type 0} → Option (List (List ℕ)) → Result (HashSet (Bor (List ℕ)) S) Unread → Type 0
FindsNames found (Ok table) = found ≡ Some (names_in table)
FindsNames found (Err Form) = found ≡ None
FindsNames found (Err (Memory e)) = Unit {0}

-- what a function that enters a name into a table ensures
abbrev pub Enters : Option (List (List ℕ)) → Result (Unit {0}) Unread → List (List ℕ) → Type 0
Enters found (Ok u) names = found ≡ Some names
Enters found (Err Form) names = found ≡ None
Enters found (Err (Memory e)) names = Unit {0}

abbrev pub enter : List (List ℕ) → List ℕ → Option (List (List ℕ))
enter before name = cond (is_in name before) None (Some (before ++ name ∷ []))

abbrev pub and_after : Option (List (List ℕ)) → (List (List ℕ) → Option (List (List ℕ))) → Option (List (List ℕ))
and_after None f = None
and_after (Some names) f = f names

-- the names after those before, where none comes twice
unfoldable pub each_once : List (List ℕ) → List (List ℕ) → Option (List (List ℕ))
each_once before [] = Some before
each_once before (n ∷ ns) = and_after (enter before n) (λ names. each_once names ns)

abbrev pub enter_declared : List (List ℕ) → List (List ℕ) → Statement → Option (List (List ℕ))
enter_declared externs before (Declares at n v) = cond (is_in n externs) None (enter before n)
enter_declared externs before (Calls at n vs) = Some before

-- the names after those before that the statements declare, where none is an extern or comes twice
unfoldable pub all_declared : List (List ℕ) → List (List ℕ) → List Statement → Option (List (List ℕ))
all_declared externs before [] = Some before
all_declared externs before (s ∷ ss) = and_after (enter_declared externs before s) (λ names. all_declared externs names ss)

abbrev pub is_known_one : List (List ℕ) → Operand → Bool
is_known_one declared (Named at n) = is_in n declared
is_known_one declared (Text at t) = true
is_known_one declared (Whole at z) = true

abbrev pub is_known : List (List ℕ) → Value → Bool
is_known declared v = is_known_one declared v.first && list_all (λ m. is_known_one declared m.operand) v.more

abbrev pub uses_known : List (List ℕ) → List (List ℕ) → Statement → Bool
uses_known externs declared (Declares at n v) = is_known declared v
uses_known externs declared (Calls at n vs) = is_in n externs && list_all (is_known declared) vs

abbrev pub bind : {A B : Type 0} → Option A → (A → Option B) → Option B
bind None f = None
bind (Some x) f = f x

-- whether the names of a source are as the form wants them
unfoldable pub names_test : List (List ℕ) → List Statement → Option (Unit {0})
names_test externs ss =
    bind (each_once [] externs) (λ table. bind (all_declared table [] ss) (λ names. cond (list_all (uses_known table names) ss) (Some tt) None))

-- the names of a file of externs
unfoldable pub externs_found : List ℕ → Option (List (List ℕ))
externs_found text =
    cond (nat_lt 16777216 (length text)) None (bind (read_functions (suc (length text)) [] 0 text) (λ names. bind (each_once [] names) (λ table. Some names)))

-- the statements of a source
unfoldable pub source_found : List (List ℕ) → List ℕ → Option (List Statement)
source_found externs text =
    cond (nat_lt 16777216 (length text)) None (bind (read_statements (suc (length text)) [] 0 text) (λ ss. bind (names_test externs ss) (λ u. Some ss)))
