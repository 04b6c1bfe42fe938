-- The form of externs and sources that is compiled so far, by cases on the text. Each part has the
-- offset in bytes at which it begins.
use Rattle.std.specs.Prelude.{ℕ, ◌+◌, ◌≤◌, ◌<◌, pos, Bool, not, nat_eq, ◌||◌, ◌&&◌, List, [], ◌∷◌, ◌++◌, codes, length, IsTrue, All, Contains}
use Rattle.std.specs.List.{list_all, IsDistinct}
use Rattle.std.specs.Str.{bytes_eq}
use Rattle.std.specs.Fmt.{decimal}
use Rattle.cc_driver.specs.Names.{between, IsName}
use Rattle.cc_driver.specs.declared.form.Operand.{Operand}
use Rattle.cc_driver.specs.declared.form.Operand.TheVariants.{Named, Text, Whole}
use Rattle.cc_driver.specs.declared.form.Added.{Added}
use Rattle.cc_driver.specs.declared.form.Value.{Value}
use Rattle.cc_driver.specs.declared.form.Statement.{Statement}
use Rattle.cc_driver.specs.declared.form.Statement.TheVariants.{Declares, Calls}

-- what may stand in a text: bytes 32 to 126 without quotes and backslash
abbrev pub is_plain : ℕ → Bool
is_plain c = between 32 126 c && not (nat_eq c 34 || nat_eq c 39 || nat_eq c 92)

-- the most bytes of a file of the form
abbrev pub most_bytes : ℕ
most_bytes = 16777216

-- 2^53: the whole numbers below it are exact
abbrev pub whole_limit : ℕ
whole_limit = 9007199254740992

-- a tree of a greater depth isn't compiled
abbrev pub most_more : ℕ
most_more = 256

-- a name, a text in quotes, or a decimal with no zero in front
pub data IsOperand (at : ℕ) : List ℕ → Operand → Type 0 where
  a_name : {n : List ℕ} → IsName n → IsOperand at n (Named at n)
  in_single_quotes : {t : List ℕ} → IsTrue (list_all is_plain t) → IsOperand at (39 ∷ t ++ 39 ∷ []) (Text at t)
  in_double_quotes : {t : List ℕ} → IsTrue (list_all is_plain t) → IsOperand at (34 ∷ t ++ 34 ∷ []) (Text at t)
  a_whole : {n : ℕ} → n < whole_limit → IsOperand at (decimal n) (Whole at (pos n))

-- operands that each follow a `+`
pub data IsMore : (at : ℕ) → List ℕ → List Added → Type 0 where
  no_more : {at : ℕ} → IsMore at [] []
  one_more : {at : ℕ} {x y : List ℕ} {o : Operand} {ms : List Added} → IsOperand (at + 1) x o → IsMore (at + 1 + length x) y ms → IsMore at (43 ∷ x ++ y) ((record { plus = at; operand = o }) ∷ ms)

-- operands with `+` between them
pub data IsValue (at : ℕ) : List ℕ → Value → Type 0 where
  a_chain : {x y : List ℕ} {o : Operand} {ms : List Added} → IsOperand at x o → IsMore (at + length x) y ms → length ms ≤ most_more → IsValue at (x ++ y) (record { first = o; more = ms })

-- values with commas between them
pub data IsValues : (at : ℕ) → List ℕ → List Value → Type 0 where
  no_values : {at : ℕ} → IsValues at [] []
  last_value : {at : ℕ} {x : List ℕ} {v : Value} → IsValue at x v → IsValues at x (v ∷ [])
  more_values : {at : ℕ} {x y : List ℕ} {v w : Value} {vs : List Value} → IsValue at x v → IsValues (at + length x + 1) y (w ∷ vs) → IsValues at (x ++ 44 ∷ y) (v ∷ w ∷ vs)

pub data IsStatement (at : ℕ) : List ℕ → Statement → Type 0 where
  a_declaration : {n x : List ℕ} {v : Value} → IsName n → IsValue (at + 5 + length n) x v → IsStatement at (codes "var " ++ n ++ 61 ∷ x ++ 59 ∷ []) (Declares at n v)
  a_call : {n xs : List ℕ} {vs : List Value} → IsName n → IsValues (at + length n + 1) xs vs → IsStatement at (n ++ 40 ∷ xs ++ 41 ∷ 59 ∷ []) (Calls at n vs)

-- statements with nothing between them
pub data IsStatements : (at : ℕ) → List ℕ → List Statement → Type 0 where
  no_statements : {at : ℕ} → IsStatements at [] []
  more_statements : {at : ℕ} {x y : List ℕ} {s : Statement} {ss : List Statement} → IsStatement at x s → IsStatements (at + length x) y ss → IsStatements at (x ++ y) (s ∷ ss)

abbrev pub declared_by : Statement → List (List ℕ)
declared_by (Declares at n v) = n ∷ []
declared_by (Calls at n vs) = []

abbrev pub called_by : Statement → List (List ℕ)
called_by (Declares at n v) = []
called_by (Calls at n vs) = n ∷ []

abbrev pub named_by_one : Operand → List (List ℕ)
named_by_one (Named at n) = n ∷ []
named_by_one (Text at t) = []
named_by_one (Whole at z) = []

abbrev pub named_by_more : List Added → List (List ℕ)
named_by_more [] = []
named_by_more (m ∷ ms) = named_by_one m.operand ++ named_by_more ms

abbrev pub named_by : Value → List (List ℕ)
named_by v = named_by_one v.first ++ named_by_more v.more

abbrev pub named_by_all : List Value → List (List ℕ)
named_by_all [] = []
named_by_all (v ∷ vs) = named_by v ++ named_by_all vs

abbrev pub used_by : Statement → List (List ℕ)
used_by (Declares at n v) = named_by v
used_by (Calls at n vs) = named_by_all vs

abbrev pub all_of : (Statement → List (List ℕ)) → List Statement → List (List ℕ)
all_of names [] = []
all_of names (s ∷ ss) = names s ++ all_of names ss

abbrev pub declared : List Statement → List (List ℕ)
declared = all_of declared_by

abbrev pub called : List Statement → List (List ℕ)
called = all_of called_by

abbrev pub used : List Statement → List (List ℕ)
used = all_of used_by

-- the statements that a text of any length is, with these externs: each called name is an extern,
-- each name used as a value is declared by a `var` of the text, and no `var` name is declared twice
-- or is an extern
pub record IsReading (externs : List (List ℕ)) (text : List ℕ) (statements : List Statement) : Type 0 where
  pub form : IsStatements 0 text statements
  pub called_are_externs : All (Contains externs) (called statements)
  pub used_are_declared : All (Contains (declared statements)) (used statements)
  pub declared_once : IsDistinct bytes_eq (declared statements)
  pub declared_are_new : All (λ name. Contains externs name → ⊥) (declared statements)

-- a source of the form: such a text within the limit, which reading alone doesn't know
pub record IsSource (externs : List (List ℕ)) (source : List ℕ) (statements : List Statement) : Type 0 where
  pub reading : IsReading externs source statements
  pub short : length source ≤ most_bytes

-- `function NAME(NAME){}`, any number of times with nothing between
pub data IsFunctions : List ℕ → List (List ℕ) → Type 0 where
  no_functions : IsFunctions [] []
  more_functions : {n p x : List ℕ} {ns : List (List ℕ)} → IsName n → IsName p → IsFunctions x ns → IsFunctions (codes "function " ++ n ++ 40 ∷ p ++ codes "){}" ++ x) (n ∷ ns)

-- externs of the form, with the names that they declare
pub record IsExterns (text : List ℕ) (names : List (List ℕ)) : Type 0 where
  pub form : IsFunctions text names
  pub short : length text ≤ most_bytes
  pub once : IsDistinct bytes_eq names
