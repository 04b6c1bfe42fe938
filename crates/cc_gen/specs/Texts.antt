-- The generated texts, line by line.
use Rattle.std.specs.Prelude.{ℕ, zero, suc, ◌+◌, ◌*◌, ◌/◌, List, [], ◌∷◌, ◌++◌, codes}
use Rattle.std.specs.List.{flat_map, range_with_len}
use Rattle.std.specs.Fmt.{decimal}
use Rattle.cc_gen.specs.declared.functions.Kind.{Kind}
use Rattle.cc_gen.specs.declared.functions.Kind.TheVariants.{Adds, Calls, Lowers, Builds}
use Rattle.cc_gen.specs.Draws.{draw}

-- a line ends with LF
abbrev pub line : List ℕ → List ℕ
line text = text ++ 10 ∷ []

-- ---- the functions of the base chunk

-- the line that declares function i
unfoldable pub function_line : ℕ → Kind → List ℕ
function_line i Adds = line (codes "function f" ++ decimal i ++ codes "(a){return a+" ++ decimal i ++ codes ";}")
function_line i (Calls j) = line (codes "function f" ++ decimal i ++ codes "(a){return f" ++ decimal j ++ codes "(a)+1;}")
function_line i Lowers = line (codes "function f" ++ decimal i ++ codes "(a){var b=a;if(b>10)b=b-10;return b;}")
function_line i Builds = line (codes "/** @constructor */function C" ++ decimal i ++ codes "(a){this.v=a;}C" ++ decimal i ++ codes ".prototype.g=function(){return this.v;};function f" ++ decimal i ++ codes "(a){return new C" ++ decimal i ++ codes "(a).g();}")

-- the kind of a function by two draws, of which the second is the number of an earlier function
unfoldable pub kind_by : ℕ → ℕ → Kind
kind_by zero j = Adds
kind_by (suc zero) j = Calls j
kind_by (suc (suc zero)) j = Lowers
kind_by (suc (suc (suc t))) j = Builds

-- function 0 has no earlier one to call, and adds then
unfoldable pub first_kind_by : ℕ → Kind
first_kind_by zero = Adds
first_kind_by (suc zero) = Adds
first_kind_by (suc (suc zero)) = Lowers
first_kind_by (suc (suc (suc t))) = Builds

-- how many draws come before those of function i: one for function 0, and two for each later one
unfoldable pub draws_before : ℕ → ℕ
draws_before zero = 0
draws_before (suc i) = 1 + 2 * i

unfoldable pub kind : ℕ → ℕ → Kind
unfolding draw kind_by first_kind_by draws_before
kind seed zero = first_kind_by (draw seed 0 4)
kind seed (suc i) = kind_by (draw seed (draws_before (suc i)) 4) (draw seed (draws_before (suc i) + 1) (suc i))

-- the base chunk with functions 0 up to size
unfoldable pub base_text : ℕ → ℕ → List ℕ
unfolding function_line kind
base_text seed size = flat_map (λ i. function_line i (kind seed i)) (range_with_len 0 size)

-- ---- the chunks that depend on it

-- the line that shows what function j gives for an argument
unfoldable pub call_line : ℕ → ℕ → List ℕ
call_line argument j = line (codes "out(f" ++ decimal j ++ codes "(" ++ decimal argument ++ codes "));")

-- how many of them a chunk has
abbrev pub call_count : ℕ → ℕ
call_count size = 1 + size / 10

-- so many of them, of functions by the draws from number `first` on
unfoldable pub calls_text : (seed size argument first count : ℕ) → List ℕ
unfolding draw call_line
calls_text seed size argument first count = flat_map (λ n. call_line argument (draw seed n size)) (range_with_len first count)

unfoldable pub x_text : ℕ → ℕ → List ℕ
unfolding calls_text draws_before
x_text seed size = calls_text seed size 1 (draws_before size) (call_count size)

unfoldable pub y_text : ℕ → ℕ → List ℕ
unfolding calls_text draws_before
y_text seed size = calls_text seed size 2 (draws_before size + call_count size) (call_count size)

-- ---- the externs

abbrev pub externs_text : List ℕ
externs_text = codes "function out(x){}"
