-- Lists of names: where a name stands, and which of a list are new. A name is a list of 16-bit units.
use Rattle.std.specs.Prelude.{ℕ, suc, List, [], ◌∷◌, ◌++◌, if◌then◌else◌, Option, Some, None}
use Rattle.cc_meaning.specs.Operators.{list_eq, is_in}

abbrev pub Name : Type 0
Name = List ℕ

-- the number one further on, behind the head of a list
unfoldable pub later : Option ℕ → Option ℕ
later None = None
later (Some n) = Some (suc n)

-- where a name first stands, from 0
unfoldable pub index_of : Name → List Name → Option ℕ
unfolding list_eq later
index_of n [] = None
index_of n (m ∷ ms) = if list_eq n m then Some 0 else later (index_of n ms)

-- those of the second list that the first doesn't have, each once, by first place
unfoldable pub new_names : List Name → List Name → List Name
unfolding is_in
new_names ms [] = []
new_names ms (n ∷ ns) = if is_in n ms then new_names ms ns else n ∷ new_names (ms ++ n ∷ []) ns

-- each name of a list once, by first place
unfoldable pub distinct : List Name → List Name
unfolding new_names
distinct ns = new_names [] ns

-- 0 where nothing is found
unfoldable pub or_zero : Option ℕ → ℕ
or_zero None = 0
or_zero (Some n) = n

-- the first that is found
unfoldable pub or_else : {A : Type 0} → Option A → Option A → Option A
or_else None y = y
or_else (Some a) y = Some a
