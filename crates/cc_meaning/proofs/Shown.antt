-- Short names for values and outcomes, for the tables of facts.
use Rattle.std.specs.Prelude.{ℕ, zero, suc, pos, negsuc, true, false, List}
use Rattle.cc_ast.specs.Syntax.{undefined, null, truth, whole, text}
use Rattle.cc_meaning.specs.Values.{Val, prim}
use Rattle.cc_meaning.specs.Operators.{Outcome, breaks}

abbrev pub w : ℕ → Val
w n = prim (whole (pos n))

-- the negative of a number other than 0
abbrev pub minus : ℕ → Val
minus zero = w 0
minus (suc n) = prim (whole (negsuc n))

abbrev pub t : List ℕ → Val
t s = prim (text s)

abbrev pub undef : Val
undef = prim undefined

abbrev pub nul : Val
nul = prim null

abbrev pub yes : Val
yes = prim (truth true)

abbrev pub no : Val
no = prim (truth false)

abbrev pub rule1 : Outcome
rule1 = breaks 1

abbrev pub rule2 : Outcome
rule2 = breaks 2
