-- The readers of expressions, over lists of tokens.
use Rattle.std.specs.Prelude.{ℕ, suc, ◌+◌, max, Bool, true, false, nat_lt, if◌then◌else◌, List, [], ◌∷◌, ◌++◌, Ok, Err}
use Rattle.cc_ast.specs.declared.reading.Construct.TheVariants as construct
use Rattle.cc_ast.specs.declared.place.Place.{Place}
use Rattle.cc_lexer.specs.declared.token.Mark.{Mark}
use Rattle.cc_lexer.specs.declared.token.Mark.TheVariants as mark
use Rattle.cc_grammar.specs.Symbols.{is_mark}
use Rattle.cc_grammar.specs.RawTree as S
use Rattle.cc_grammar.specs.Reading.{Outcome, Sized, and_then, look_token, rest_tokens, semicolon_token}
use Rattle.cc_grammar.specs.Reading as r
use Rattle.cc_grammar.specs.Signs.{Prefix, Infix, key_of, level, infix_tree}
use Rattle.cc_cursor.specs.declared.limits.Limits.{Limits}
use Rattle.cc_cursor.specs.declared.signs.Nested.{Nested}
use Rattle.cc_cursor.specs.declared.signs.Nested.TheVariants as nests
use Rattle.cc_cursor.specs.declared.signs.Suffix.{Suffix}
use Rattle.cc_cursor.specs.declared.signs.Suffix.TheVariants as goes
use Rattle.cc_cursor.specs.Reads.{Tokens, within, expect}
pub use Rattle.cc_cursor.specs.Reads.{elements, arguments, arguments_of, parentheses, array, expr_of}
pub use Rattle.cc_trees.specs.Nests.{function, after_head, closed_expr}

-- ---- lists

-- whether a list goes on behind one of its items: behind a comma it does, behind the mark that closes it it doesn't
abbrev pub continues : Mark → Tokens → Outcome Tokens Bool
continues k i = if is_mark mark.Comma (look_token i).kind then Ok (true, rest_tokens i) else and_then (expect k i) (λ _ j. Ok (false, j))

-- an expression behind others, with its own height, and whether the list that this mark closes goes on behind it
abbrev pub pushed : Limits → Mark → List S.RawExpr → Tokens → Outcome Tokens (Sized (List S.RawExpr) × Bool)
pushed m k found i = and_then ((within m).expr true 1 i) (λ x j. and_then (continues k j) (λ c l. Ok (((found ++ x.0 ∷ [], x.1), c), l)))

-- the same in an array, which has no holes
abbrev pub element : Limits → List S.RawExpr → Tokens → Outcome Tokens (Sized (List S.RawExpr) × Bool)
element m found i = if is_mark mark.Comma (look_token i).kind then Err (record { cause = r.refused construct.Hole; place = (look_token i).place }, i)
    else pushed m mark.CloseBracket found i

-- ---- expressions

-- a key of an object literal, with its place
abbrev pub key : Limits → Tokens → Outcome Tokens (Place × S.RawKey)
key m i = r.key_by Tokens look_token rest_tokens semicolon_token m.depth m.turns (within m) (key_of (look_token i).kind) i

abbrev pub field : Limits → Tokens → Outcome Tokens (Sized S.RawField)
field m = r.field Tokens look_token rest_tokens semicolon_token m.depth m.turns (within m)

-- a key and its value behind others, with the height of the value, and whether the object goes on behind it
abbrev pub pushed_field : Limits → List S.RawField → Tokens → Outcome Tokens (Sized (List S.RawField) × Bool)
pushed_field m found i = and_then (field m i) (λ x j. and_then (continues mark.CloseBrace j) (λ c l. Ok (((found ++ x.0 ∷ [], x.1), c), l)))

abbrev pub object_fields : Limits → ℕ → List S.RawField → ℕ → Tokens → Outcome Tokens (Sized (List S.RawField))
object_fields m = r.object_fields Tokens look_token rest_tokens semicolon_token m.depth m.turns (within m)

abbrev pub object : Limits → Tokens → Outcome Tokens (Sized S.RawExpr)
object m = r.object Tokens look_token rest_tokens semicolon_token m.depth m.turns (within m)

abbrev pub function_expr : Limits → Tokens → Outcome Tokens (Sized S.RawExpr)
function_expr m = r.function_expr Tokens look_token rest_tokens semicolon_token m.depth m.turns (within m)

abbrev pub new_expr : Limits → Bool → Tokens → Outcome Tokens (Sized S.RawExpr)
new_expr m = r.new_expr Tokens look_token rest_tokens semicolon_token m.depth m.turns (within m)

-- the arguments of a `new`, where it has some
abbrev pub new_arguments : Limits → Tokens → Outcome Tokens (Sized (List S.RawExpr))
new_arguments m i = if is_mark mark.OpenParen (look_token i).kind then arguments_of m (rest_tokens i) else Ok (([], 0), i)

-- a primary expression with parts, or `new`
abbrev pub nested : Limits → Bool → Nested → Tokens → Outcome Tokens (Sized S.RawExpr)
nested m n nests.Paren = parentheses m
nested m n nests.Array = array m
nested m n nests.Object = object m
nested m n nests.Function = function_expr m
nested m n nests.New = new_expr m n

abbrev pub primary : Limits → Bool → Tokens → Outcome Tokens (Sized S.RawExpr)
primary m = r.primary Tokens look_token rest_tokens semicolon_token m.depth m.turns (within m)

abbrev pub dotted : Limits → Sized S.RawExpr → Tokens → Outcome Tokens (Sized S.RawExpr)
dotted m = r.dotted Tokens look_token rest_tokens semicolon_token m.depth m.turns (within m)

abbrev pub bracketed : Limits → Sized S.RawExpr → Tokens → Outcome Tokens (Sized S.RawExpr)
bracketed m = r.bracketed Tokens look_token rest_tokens semicolon_token m.depth m.turns (within m)

abbrev pub called : Limits → Sized S.RawExpr → Tokens → Outcome Tokens (Sized S.RawExpr)
called m = r.called Tokens look_token rest_tokens semicolon_token m.depth m.turns (within m)

-- an expression with one suffix
abbrev pub suffixed : Limits → Suffix → Sized S.RawExpr → Tokens → Outcome Tokens (Sized S.RawExpr)
suffixed m goes.Dot = dotted m
suffixed m goes.Bracket = bracketed m
suffixed m goes.Call = called m

-- within the depth
abbrev pub deep_suffixed : Limits → Suffix → Sized S.RawExpr → Tokens → Outcome Tokens (Sized S.RawExpr)
deep_suffixed m s a i = if nat_lt a.1 m.depth then suffixed m s a i else Err (record { cause = r.depth; place = (look_token i).place }, i)

abbrev pub suffixes : Limits → Bool → ℕ → Sized S.RawExpr → Tokens → Outcome Tokens (Sized S.RawExpr)
suffixes m = r.suffixes Tokens look_token rest_tokens semicolon_token m.depth m.turns (within m)

abbrev pub postfix : Limits → Sized S.RawExpr → Tokens → Outcome Tokens (Sized S.RawExpr)
postfix m = r.postfix Tokens look_token rest_tokens semicolon_token m.depth m.turns (within m)

abbrev pub wrong_prefix : Limits → Prefix → Place → Tokens → Outcome Tokens (Sized S.RawExpr)
wrong_prefix m = r.wrong_prefix Tokens look_token rest_tokens semicolon_token m.depth m.turns (within m)

abbrev pub prefix_expr : Limits → Bool → Prefix → Tokens → Outcome Tokens (Sized S.RawExpr)
prefix_expr m = r.prefix_expr Tokens look_token rest_tokens semicolon_token m.depth m.turns (within m)

-- within the depth
abbrev pub deep_prefix : Limits → Bool → Prefix → Tokens → Outcome Tokens (Sized S.RawExpr)
deep_prefix m n o i = if nat_lt 0 m.depth then prefix_expr m n o i else Err (record { cause = r.depth; place = (look_token i).place }, i)

abbrev pub prefixed : Limits → Bool → Prefix → Tokens → Outcome Tokens (Sized S.RawExpr)
prefixed m = r.prefixed Tokens look_token rest_tokens semicolon_token m.depth m.turns (within m)

abbrev pub climb : Limits → Bool → ℕ → ℕ → Sized S.RawExpr → Tokens → Outcome Tokens (Sized S.RawExpr)
climb m = r.climb Tokens look_token rest_tokens semicolon_token m.depth m.turns (within m)

-- what a binary operator makes of what stands before it, at the operator
abbrev pub binary : Limits → Bool → Infix → Sized S.RawExpr → Tokens → Outcome Tokens (Sized S.RawExpr)
binary m n o a i = if nat_lt a.1 m.depth then and_then ((within m).expr n (level o + 1) (rest_tokens i)) (λ b j. Ok ((infix_tree o (look_token i).place a.0 b.0, max a.1 b.1 + 1), j))
    else Err (record { cause = r.depth; place = (look_token i).place }, i)

abbrev pub conditional : Limits → Bool → Sized S.RawExpr → Tokens → Outcome Tokens (Sized S.RawExpr)
conditional m = r.conditional Tokens look_token rest_tokens semicolon_token m.depth m.turns (within m)

-- the branches of a conditional, behind its question mark
abbrev pub branches : Limits → Bool → Tokens → Outcome Tokens (Sized (S.RawExpr × S.RawExpr))
branches m n i = and_then ((within m).expr true 1 i) (λ x j. and_then (expect mark.Colon j) (λ _ k. and_then ((within m).expr n 1 k)
    (λ y l. Ok (((x.0, y.0), max x.1 y.1), l))))

-- a conditional, at its question mark
abbrev pub chosen : Limits → Bool → Sized S.RawExpr → Tokens → Outcome Tokens (Sized S.RawExpr)
chosen m n a i = and_then (branches m n (rest_tokens i)) (λ b j. Ok ((S.cond (look_token i).place a.0 b.0.0 b.0.1, max a.1 b.1 + 1), j))

abbrev pub assign : Limits → Bool → Sized S.RawExpr → Tokens → Outcome Tokens (Sized S.RawExpr)
assign m = r.assign Tokens look_token rest_tokens semicolon_token m.depth m.turns (within m)

abbrev pub commas : Limits → Bool → ℕ → Sized S.RawExpr → Tokens → Outcome Tokens (Sized S.RawExpr)
commas m = r.commas Tokens look_token rest_tokens semicolon_token m.depth m.turns (within m)

-- what a comma makes of what stands before it, at the comma
abbrev pub comma : Limits → Bool → Sized S.RawExpr → Tokens → Outcome Tokens (Sized S.RawExpr)
comma m n a i = if nat_lt a.1 m.depth then and_then ((within m).expr n 1 (rest_tokens i)) (λ b j. Ok ((S.comma (look_token i).place a.0 b.0, max a.1 b.1 + 1), j))
    else Err (record { cause = r.depth; place = (look_token i).place }, i)

abbrev pub after_unary : Limits → Bool → ℕ → Sized S.RawExpr → Tokens → Outcome Tokens (Sized S.RawExpr)
after_unary m = r.after_unary Tokens look_token rest_tokens semicolon_token m.depth m.turns (within m)

-- the callee of a `new`
abbrev pub callee : Limits → Bool → Tokens → Outcome Tokens (Sized S.RawExpr)
callee m n i = and_then (primary m n i) (suffixes m false (suc m.depth))

-- an expression by the primary expression, or by the operator, that it begins with
abbrev pub headed : Limits → Bool → ℕ → Tokens → Outcome Tokens (Sized S.RawExpr)
headed m n l i = and_then (primary m n i) (after_head m n l)

abbrev pub signed : Limits → Bool → ℕ → Prefix → Tokens → Outcome Tokens (Sized S.RawExpr)
signed m n l o i = and_then (prefixed m n o i) (after_unary m n l)
