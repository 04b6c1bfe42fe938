-- Where the text of a program has names of variables: each mention and each declaration of a variable, each parameter, each own name of a
-- function expression and each variable of a `catch` clause (ECMA-262 5.1, 10.5, 12.14 and 13).
use Rattle.std.specs.Prelude.{ℕ, zero, suc, ◌+◌, max, List, [], ◌∷◌, ◌++◌, Bool, false, nat_eq, if◌then◌else◌, map, drop, length, count_by, Option, Some, None, slice_get}
use Rattle.std.specs.List.{flat_map}
use Rattle.cc_ast.specs.declared.tree.Ref.{Ref}
use Rattle.cc_ast.specs.Syntax as S
use Rattle.cc_meaning.specs.Shapes.{body_of}
use Rattle.cc_meaning.specs.Parts.{Part, mentions, declares, makes}
use Rattle.cc_meaning.specs.WellMade.{parts_of}
use Rattle.cc_printer.specs.RawOf.{Frames, places, outside}
use Rattle.cc_printer.specs.Naming.{inside_catches, inside_function}
use Rattle.cc_rename.specs.Order.{numbers}

-- What a name is chosen for: a global, or a slot. The slot of a place is the number of places in the frames that enclose its own, and its
-- place there; so places of frames that don't enclose one another may share a slot.
pub data Variable : Type 0 where
  global slot : ℕ → Variable

unfoldable pub is_same : Variable → Variable → Bool
is_same (global m) (global n) = nat_eq m n
is_same (slot m) (slot n) = nat_eq m n
is_same _ _ = false

-- a name is printed, or frames have so many places together
pub data Use : Type 0 where
  prints : Variable → Use
  spans : ℕ → Use

-- the variable that a mention means in these frames
unfoldable pub meant : Frames → Ref → Variable
meant fs (Ref.Global n) = global n
meant fs (Ref.Frame up place) = slot (places (drop (suc up) fs) + place)

-- the own name of a function expression
unfoldable pub own_uses : Bool → Frames → List Use
own_uses own fs = if own then prints (slot (places fs)) ∷ [] else []

-- so many slots, one after the other
unfoldable pub slot_uses : ℕ → ℕ → List Use
unfolding numbers
slot_uses from n = map (λ k. prints (slot k)) (numbers from n)

unfoldable mutual
  -- the `catch` clauses in a statement, each with the number of those around it
  pub stmt_clauses : ℕ → S.Stmt → List ℕ
  stmt_clauses c (S.simple s e) = []
  stmt_clauses c (S.vars s ds) = []
  stmt_clauses c (S.fun_decl s v f) = []
  stmt_clauses c (S.if s e a b) = stmts_clauses c a ++ stmts_clauses c b
  stmt_clauses c (S.while s e b) = stmts_clauses c b
  stmt_clauses c (S.do_while s b e) = stmts_clauses c b
  stmt_clauses c (S.for s i t u b) = stmts_clauses c b
  stmt_clauses c (S.for_in s t e b) = stmts_clauses c b
  stmt_clauses c (S.return s e) = []
  stmt_clauses c (S.throw s e) = []
  stmt_clauses c (S.break s l) = []
  stmt_clauses c (S.continue s l) = []
  stmt_clauses c (S.label s l b) = stmts_clauses c b
  stmt_clauses c (S.switch s e cs) = cases_clauses c cs
  stmt_clauses c (S.try s b k f) = stmts_clauses c b ++ (catch_clauses c k ++ finally_clauses c f)
  stmt_clauses c (S.pay_stmt s n) = []

  -- in a list of statements
  pub stmts_clauses : ℕ → S.Stmts → List ℕ
  stmts_clauses c S.no_stmts = []
  stmts_clauses c (S.more_stmts s ss) = stmt_clauses c s ++ stmts_clauses c ss

  -- in a `catch` clause, with itself
  pub catch_clauses : ℕ → S.MaybeStmts → List ℕ
  catch_clauses c S.absent = []
  catch_clauses c (S.present ss) = c ∷ stmts_clauses (suc c) ss

  -- in a `finally` clause
  pub finally_clauses : ℕ → S.MaybeStmts → List ℕ
  finally_clauses c S.absent = []
  finally_clauses c (S.present ss) = stmts_clauses c ss

  -- in the clauses of a `switch`
  pub cases_clauses : ℕ → S.Cases → List ℕ
  cases_clauses c S.no_cases = []
  cases_clauses c (S.more_cases t b cs) = stmts_clauses c b ++ cases_clauses c cs

-- the variables of `catch` clauses
unfoldable pub clause_uses : Frames → List ℕ → List Use
clause_uses fs cs = map (λ c. prints (slot (places (inside_catches c fs)))) cs

-- what the statements of a function print, by its number and in these frames
abbrev pub Insides : Type 0
Insides = ℕ → Frames → List Use

-- a function: its own name, its parameters, and what its statements print
unfoldable pub function_uses : Insides → Frames → ℕ → Option S.Scope → List Use
unfolding own_uses slot_uses
function_uses I fs f None = []
function_uses I fs f (Some s) = own_uses s.own fs ++ (slot_uses (places (outside s.own fs)) s.params ++ I f (inside_function s fs))

-- a part of a scope's statements
unfoldable pub part_uses : S.Program → Insides → Frames → Part → List Use
unfolding meant function_uses
part_uses P I fs (mentions c r) = prints (meant (inside_catches c fs) r) ∷ []
part_uses P I fs (declares c r) = prints (meant (inside_catches c fs) r) ∷ []
part_uses P I fs (makes c f d) = function_uses I (inside_catches c fs) f (slice_get P.scopes f)
part_uses P I fs _ = []

unfoldable pub parts_uses : S.Program → Insides → Frames → List Part → List Use
unfolding part_uses
parts_uses P I fs xs = flat_map (part_uses P I fs) xs

-- The statements of a scope in its frames, and functions in them that stand so many functions deep.
unfoldable pub scope_uses : S.Program → ℕ → Insides
unfolding parts_uses clause_uses stmts_clauses
scope_uses P zero f fs = []
scope_uses P (suc n) f fs = spans (places fs) ∷ (parts_uses P (scope_uses P n) fs (parts_of P f) ++ clause_uses fs (stmts_clauses 0 (body_of P f)))

-- a chunk, whose own statements stand in no frame; functions stand no deeper than there are scopes
abbrev pub chunk_uses : S.Program → ℕ → List Use
chunk_uses P chunk = scope_uses P (suc (length P.scopes)) chunk []

-- all chunks
unfoldable pub uses : S.Program → List Use
unfolding numbers scope_uses
uses P = flat_map (chunk_uses P) (numbers 0 (length P.chunks))

-- whether the name of a variable is printed
unfoldable pub is_of : Variable → Use → Bool
unfolding is_same
is_of v (prints w) = is_same v w
is_of v (spans n) = false

-- how often it is
unfoldable pub occurrences : List Use → Variable → ℕ
unfolding is_of
occurrences us v = count_by (is_of v) us

-- how many slots it takes
unfoldable pub reach : Use → ℕ
reach (prints (global n)) = 0
reach (prints (slot n)) = suc n
reach (spans n) = n

-- the number of slots that uses take together
unfoldable pub slots_of : List Use → ℕ
unfolding reach
slots_of [] = 0
slots_of (u ∷ us) = max (reach u) (slots_of us)
