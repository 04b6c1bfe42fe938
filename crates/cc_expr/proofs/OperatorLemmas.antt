-- One turn of the binary operators, and one of the commas.
use Rattle.std.proofs.Common.{◌≡◌, ◌∙◌, refl, sym, ap, ℕ, suc, ◌+◌, ◌<◌, ◌≤◌, max, Bool, true, false, Option, Some, None, Ok, Err, if◌then◌else◌}
use Rattle.std.proofs.lemmas.Bool.{lt-ltb, le-ltb}
use Rattle.std.specs.Prelude.{nat_lt}
use Rattle.cc_lexer.specs.declared.token.Mark.TheVariants as mark
use Rattle.cc_grammar.specs.RawTree as S
use Rattle.cc_grammar.specs.Reading.{Outcome, Sized, and_then, depth, look_token, rest_tokens, semicolon_token}
use Rattle.cc_grammar.specs.Reading as r
use Rattle.cc_grammar.specs.ReadingExpressions.{climb, commas}
use Rattle.cc_grammar.specs.Signs.{Infix, infix_of, level, infix_tree}
use Rattle.cc_grammar.specs.Symbols.{is_mark}
use Rattle.cc_cursor.specs.declared.limits.Limits.{Limits}
use Rattle.cc_cursor.specs.Reads.{Tokens, within}
use Rattle.cc_trees.proofs.Chains.{last_same}
use Rattle.cc_expr.specs.Expressions as spec

abbrev limits : ℕ → ℕ → Limits
limits t d = record { turns = t; depth = d }

abbrev Answer : Type 0
Answer = Outcome Tokens (Sized S.RawExpr)

abbrev Reader : Type 0
Reader = Tokens → Answer

abbrev choose : Bool → Reader → Reader → Reader
choose b p q = if b then p else q

abbrev pick : Bool → Answer → Answer → Answer
pick b x y = if b then x else y

abbrev here : Sized S.RawExpr → Reader
here a i = Ok (a, i)

abbrev deep : Reader
deep i = Err (record { cause = depth; place = (look_token i).place }, i)

-- ---- binary operators

-- at an operator that is read
abbrev pub operand : Limits → Bool → ℕ → ℕ → Sized S.RawExpr → Infix → Reader
operand m n least turns a o i = and_then ((within m).expr n (level o + 1) (rest_tokens i)) (λ b j. spec.climb m n least turns (infix_tree o (look_token i).place a.0 b.0, max a.1 b.1 + 1) j)

abbrev by_infix : Limits → Bool → ℕ → ℕ → Sized S.RawExpr → Option Infix → Reader
by_infix m n least turns a = r.climb_by Tokens look_token rest_tokens semicolon_token m.depth m.turns (within m) (spec.climb m n least turns) n least a

abbrev read : Limits → Bool → ℕ → ℕ → Sized S.RawExpr → Infix → Reader
read m n least turns a o i = pick (nat_lt a.1 m.depth) (operand m n least turns a o i) (deep i)

by_some : (m : Limits) (n : Bool) (least turns : ℕ) (a : Sized S.RawExpr) (o : Infix) (i : Tokens)
    → by_infix m n least turns a (Some o) i ≡ choose (nat_lt (level o) least) (here a) (read m n least turns a o) i
by_some m n least turns a o i = refl

opened : (t d : ℕ) (n : Bool) (least turns : ℕ) (a : Sized S.RawExpr) (i : Tokens) (o : Option Infix) → o ≡ infix_of n (look_token i).kind
    → spec.climb (limits t d) n least (suc turns) a i ≡ by_infix (limits t d) n least turns a o i
unfolding climb
opened t d n least turns a i o e = ap (λ x. by_infix (limits t d) n least turns a x i) (sym e)

pub climb_none : (t d : ℕ) (n : Bool) (least turns : ℕ) (a : Sized S.RawExpr) (i : Tokens) → None ≡ infix_of n (look_token i).kind
    → spec.climb (limits t d) n least (suc turns) a i ≡ Ok (a, i)
climb_none t d n least turns a i e = opened t d n least turns a i None e

pub climb_low : (t d : ℕ) (n : Bool) (least turns : ℕ) (a : Sized S.RawExpr) (i : Tokens) (o : Infix) → Some o ≡ infix_of n (look_token i).kind → level o < least
    → spec.climb (limits t d) n least (suc turns) a i ≡ Ok (a, i)
climb_low t d n least turns a i o e low = opened t d n least turns a i (Some o) e ∙ by_some (limits t d) n least turns a o i
    ∙ ap (λ b. choose b (here a) (read (limits t d) n least turns a o) i) (lt-ltb (level o) least low)

high : (t d : ℕ) (n : Bool) (least turns : ℕ) (a : Sized S.RawExpr) (i : Tokens) (o : Infix) → Some o ≡ infix_of n (look_token i).kind → least ≤ level o
    → spec.climb (limits t d) n least (suc turns) a i ≡ read (limits t d) n least turns a o i
high t d n least turns a i o e up = opened t d n least turns a i (Some o) e ∙ by_some (limits t d) n least turns a o i
    ∙ ap (λ b. choose b (here a) (read (limits t d) n least turns a o) i) (le-ltb (level o) least up)

one_operator : (m : Limits) (n : Bool) (least turns : ℕ) (a : Sized S.RawExpr) (o : Infix) (i : Tokens) (b : Bool)
    → pick b (operand m n least turns a o i) (deep i)
    ≡ and_then (pick b (and_then ((within m).expr n (level o + 1) (rest_tokens i)) (λ x j. Ok ((infix_tree o (look_token i).place a.0 x.0, max a.1 x.1 + 1), j))) (deep i)) (spec.climb m n least turns)
one_operator m n least turns a o i true = last_same ((within m).expr n (level o + 1) (rest_tokens i)) (λ x. (infix_tree o (look_token i).place a.0 x.0, max a.1 x.1 + 1)) (spec.climb m n least turns)
one_operator m n least turns a o i false = refl

pub climb_turn : (t d : ℕ) (n : Bool) (least turns : ℕ) (a : Sized S.RawExpr) (i : Tokens) (o : Infix) → Some o ≡ infix_of n (look_token i).kind → least ≤ level o
    → spec.climb (limits t d) n least (suc turns) a i ≡ and_then (spec.binary (limits t d) n o a i) (spec.climb (limits t d) n least turns)
climb_turn t d n least turns a i o e up = high t d n least turns a i o e up ∙ one_operator (limits t d) n least turns a o i (nat_lt a.1 d)

-- ---- commas

-- at a comma that is read
abbrev pub behind : Limits → Bool → ℕ → Sized S.RawExpr → Reader
behind m n turns a i = and_then ((within m).expr n 1 (rest_tokens i)) (λ b j. spec.commas m n turns (S.comma (look_token i).place a.0 b.0, max a.1 b.1 + 1) j)

abbrev by_comma : Limits → Bool → ℕ → Sized S.RawExpr → Bool → Reader
by_comma m n turns a = r.comma_by Tokens look_token rest_tokens semicolon_token m.depth m.turns (within m) (spec.commas m n turns) n a

seen : (t d : ℕ) (n : Bool) (turns : ℕ) (a : Sized S.RawExpr) (i : Tokens) (b : Bool) → b ≡ is_mark mark.Comma (look_token i).kind
    → spec.commas (limits t d) n (suc turns) a i ≡ by_comma (limits t d) n turns a b i
unfolding commas
seen t d n turns a i b e = ap (λ x. by_comma (limits t d) n turns a x i) (sym e)

by_true : (m : Limits) (n : Bool) (turns : ℕ) (a : Sized S.RawExpr) (i : Tokens) → by_comma m n turns a true i ≡ pick (nat_lt a.1 m.depth) (behind m n turns a i) (deep i)
by_true m n turns a i = refl

pub commas_none : (t d : ℕ) (n : Bool) (turns : ℕ) (a : Sized S.RawExpr) (i : Tokens) → false ≡ is_mark mark.Comma (look_token i).kind
    → spec.commas (limits t d) n (suc turns) a i ≡ Ok (a, i)
commas_none t d n turns a i e = seen t d n turns a i false e

one_comma : (m : Limits) (n : Bool) (turns : ℕ) (a : Sized S.RawExpr) (i : Tokens) (b : Bool)
    → pick b (behind m n turns a i) (deep i)
    ≡ and_then (pick b (and_then ((within m).expr n 1 (rest_tokens i)) (λ x j. Ok ((S.comma (look_token i).place a.0 x.0, max a.1 x.1 + 1), j))) (deep i)) (spec.commas m n turns)
one_comma m n turns a i true = last_same ((within m).expr n 1 (rest_tokens i)) (λ x. (S.comma (look_token i).place a.0 x.0, max a.1 x.1 + 1)) (spec.commas m n turns)
one_comma m n turns a i false = refl

pub commas_turn : (t d : ℕ) (n : Bool) (turns : ℕ) (a : Sized S.RawExpr) (i : Tokens) → true ≡ is_mark mark.Comma (look_token i).kind
    → spec.commas (limits t d) n (suc turns) a i ≡ and_then (spec.comma (limits t d) n a i) (spec.commas (limits t d) n turns)
commas_turn t d n turns a i e = seen t d n turns a i true e ∙ by_true (limits t d) n turns a i ∙ one_comma (limits t d) n turns a i (nat_lt a.1 d)
