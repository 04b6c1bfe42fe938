-- What the tokens of expressions mean, and what the trees of their productions are.
use Rattle.std.specs.Prelude.{ℕ, zero, suc, pos, negsuc, List, [], Bool, true, false, ◌||◌, if◌then◌else◌, Option, Some, None, codes}
use Rattle.std.specs.Option.{option_map}
use Rattle.std.specs.Str.{bytes_eq}
use Rattle.cc_ast.specs.declared.operator.BinOp.{BinOp}
use Rattle.cc_ast.specs.declared.operator.BinOp.TheVariants as b
use Rattle.cc_ast.specs.declared.operator.UnOp.{UnOp}
use Rattle.cc_ast.specs.declared.operator.UnOp.TheVariants as u
use Rattle.cc_ast.specs.declared.place.Place.{Place}
use Rattle.cc_ast.specs.declared.reading.Construct.{Construct}
use Rattle.cc_ast.specs.declared.reading.Construct.TheVariants as construct
use Rattle.cc_ast.specs.Syntax.{Prim, undefined, null, truth, whole, text}
use Rattle.cc_lexer.specs.declared.token.Mark.TheVariants as m
use Rattle.cc_lexer.specs.declared.word.Word.{Word}
use Rattle.cc_lexer.specs.declared.word.Word.TheVariants as w
use Rattle.cc_lexer.specs.Words.{spelling}
use Rattle.cc_grammar.specs.Symbols.{Kind, Lexeme}
use Rattle.cc_grammar.specs.Symbols as k
use Rattle.cc_grammar.specs.RawTree.{RawExpr, RawTarget, RawKey}
use Rattle.cc_grammar.specs.RawTree as raw

-- ---- refused constructs

-- a name that no variable has
abbrev pub refused_name : List ℕ → Option Construct
refused_name n = if bytes_eq (codes "eval") n then Some construct.EvalName
    else (if bytes_eq (codes "arguments") n then Some construct.ArgumentsName else None)

-- what a word begins that is no property name
abbrev pub refused_word : Word → Option Construct
refused_word w.With = Some construct.With
refused_word w.Debugger = Some construct.Debugger
refused_word w.Class = Some construct.LaterWord
refused_word w.Const = Some construct.LaterWord
refused_word w.Enum = Some construct.LaterWord
refused_word w.Export = Some construct.LaterWord
refused_word w.Extends = Some construct.LaterWord
refused_word w.Import = Some construct.LaterWord
refused_word w.Super = Some construct.LaterWord
refused_word _ = None

-- what a token refuses wherever it may not stand
abbrev pub refused_kind : Kind → Option Construct
refused_kind (k.stop c) = c
refused_kind (k.word w) = refused_word w
refused_kind _ = None

-- the slashes of a regular expression
abbrev pub is_slash : Kind → Bool
is_slash (k.mark m.Slash) = true
is_slash (k.mark m.SlashEqual) = true
is_slash _ = false

-- ---- primary expressions (ECMA-262 5.1, 11.1)

abbrev pub literal_of : Kind → Option Prim
literal_of (k.word w.Null) = Some null
literal_of (k.word w.True) = Some (truth true)
literal_of (k.word w.False) = Some (truth false)
literal_of (k.number n) = Some (whole n)
literal_of (k.text t) = Some (text t)
literal_of _ = None

-- parentheses leave no node, but behind an annotation comment
abbrev pub parenthesised : Lexeme → RawExpr → RawExpr
parenthesised t e = if t.noted then raw.cast t.place e else e

-- the key of a property, and the name behind a dot (11.1.5, 11.2.1)
abbrev pub key_of : Kind → Option RawKey
key_of (k.name n) = Some (raw.dotted n)
key_of (k.word w) = Some (raw.dotted (spelling w))
key_of (k.text t) = Some (raw.quoted t)
key_of (k.number n) = Some (raw.numbered n)
key_of (k.due k.key) = Some (raw.dotted [])
key_of _ = None

abbrev pub property_of : Kind → Option (List ℕ)
property_of (k.name n) = Some n
property_of (k.word w) = Some (spelling w)
property_of _ = None

-- `get` or `set`
abbrev pub is_accessor : Kind → Bool
is_accessor (k.name n) = bytes_eq (codes "get") n || bytes_eq (codes "set") n
is_accessor _ = false

-- ---- targets

abbrev pub target_of : RawExpr → Option RawTarget
target_of (raw.var p n) = Some (raw.to_var p n)
target_of (raw.member p e q n) = Some (raw.to_member p e q n)
target_of (raw.index p e i) = Some (raw.to_index p e i)
target_of (raw.cast p e) = target_of e
target_of _ = None

abbrev pub is_variable : RawExpr → Bool
is_variable (raw.var p n) = true
is_variable (raw.cast p e) = is_variable e
is_variable _ = false

-- ---- unary and postfix operators (11.3, 11.4)

pub data Prefix : Type 0 where
  unary : UnOp → Prefix
  step : (up : Bool) → Prefix

abbrev pub step_of : Kind → Option Bool
step_of (k.mark m.PlusPlus) = Some true
step_of (k.mark m.MinusMinus) = Some false
step_of _ = None

abbrev pub prefix_of : Kind → Option Prefix
prefix_of (k.mark m.PlusPlus) = Some (step true)
prefix_of (k.mark m.MinusMinus) = Some (step false)
prefix_of (k.mark m.Plus) = Some (unary u.Plus)
prefix_of (k.mark m.Minus) = Some (unary u.Minus)
prefix_of (k.mark m.Tilde) = Some (unary u.BitNot)
prefix_of (k.mark m.Bang) = Some (unary u.Not)
prefix_of (k.word w.Delete) = Some (unary u.Delete)
prefix_of (k.word w.Void) = Some (unary u.Void)
prefix_of (k.word w.Typeof) = Some (unary u.Typeof)
prefix_of _ = None

-- minus before a whole literal that isn't 0 makes it negative, and `void 0` is undefined
abbrev pub unary_tree : UnOp → Place → RawExpr → RawExpr
unary_tree u.Minus p (raw.lit q (whole (pos (suc n)))) = raw.lit p (whole (negsuc n))
unary_tree u.Void p (raw.lit q (whole (pos zero))) = raw.lit p undefined
unary_tree o p e = raw.unary p o e

-- A step needs a target, and a variable isn't deleted.
abbrev pub prefix_tree : Prefix → Place → RawExpr → Option RawExpr
prefix_tree (step up) p e = option_map (λ t. raw.step p up true t) (target_of e)
prefix_tree (unary u.Delete) p e = if is_variable e then None else Some (raw.unary p u.Delete e)
prefix_tree (unary o) p e = Some (unary_tree o p e)

-- ---- binary operators (11.5 to 11.11)

pub data Infix : Type 0 where
  operator : BinOp → Infix
  logical_and logical_or : Infix

-- `in` is none in the head of a `for`
abbrev pub infix_of : (with_in : Bool) → Kind → Option Infix
infix_of n (k.mark m.BarBar) = Some logical_or
infix_of n (k.mark m.AmpersandAmpersand) = Some logical_and
infix_of n (k.mark m.Bar) = Some (operator b.BitOr)
infix_of n (k.mark m.Caret) = Some (operator b.BitXor)
infix_of n (k.mark m.Ampersand) = Some (operator b.BitAnd)
infix_of n (k.mark m.EqualEqual) = Some (operator b.Equal)
infix_of n (k.mark m.BangEqual) = Some (operator b.NotEqual)
infix_of n (k.mark m.EqualEqualEqual) = Some (operator b.Strict)
infix_of n (k.mark m.BangEqualEqual) = Some (operator b.NotStrict)
infix_of n (k.mark m.Less) = Some (operator b.Less)
infix_of n (k.mark m.Greater) = Some (operator b.Greater)
infix_of n (k.mark m.LessEqual) = Some (operator b.LessEq)
infix_of n (k.mark m.GreaterEqual) = Some (operator b.GreaterEq)
infix_of n (k.word w.Instanceof) = Some (operator b.Instance)
infix_of true (k.word w.In) = Some (operator b.Has)
infix_of n (k.mark m.LessLess) = Some (operator b.Shl)
infix_of n (k.mark m.GreaterGreater) = Some (operator b.Shr)
infix_of n (k.mark m.GreaterGreaterGreater) = Some (operator b.UShr)
infix_of n (k.mark m.Plus) = Some (operator b.Add)
infix_of n (k.mark m.Minus) = Some (operator b.Sub)
infix_of n (k.mark m.Star) = Some (operator b.Mul)
infix_of n (k.mark m.Slash) = Some (operator b.Div)
infix_of n (k.mark m.Percent) = Some (operator b.Rem)
infix_of n _ = None

-- how tightly an operator binds
abbrev pub level_of : BinOp → ℕ
level_of b.BitOr = 5
level_of b.BitXor = 6
level_of b.BitAnd = 7
level_of b.Equal = 8
level_of b.NotEqual = 8
level_of b.Strict = 8
level_of b.NotStrict = 8
level_of b.Less = 9
level_of b.Greater = 9
level_of b.LessEq = 9
level_of b.GreaterEq = 9
level_of b.Instance = 9
level_of b.Has = 9
level_of b.Shl = 10
level_of b.Shr = 10
level_of b.UShr = 10
level_of b.Add = 11
level_of b.Sub = 11
level_of b.Mul = 12
level_of b.Div = 12
level_of b.Rem = 12

abbrev pub level : Infix → ℕ
level logical_or = 3
level logical_and = 4
level (operator o) = level_of o

abbrev pub infix_tree : Infix → Place → RawExpr → RawExpr → RawExpr
infix_tree logical_or p e f = raw.or p e f
infix_tree logical_and p e f = raw.and p e f
infix_tree (operator o) p e f = raw.binary p o e f

-- ---- assignments (11.13)

abbrev pub assign_of : Kind → Option (Option BinOp)
assign_of (k.mark m.Equal) = Some None
assign_of (k.mark m.PlusEqual) = Some (Some b.Add)
assign_of (k.mark m.MinusEqual) = Some (Some b.Sub)
assign_of (k.mark m.StarEqual) = Some (Some b.Mul)
assign_of (k.mark m.SlashEqual) = Some (Some b.Div)
assign_of (k.mark m.PercentEqual) = Some (Some b.Rem)
assign_of (k.mark m.LessLessEqual) = Some (Some b.Shl)
assign_of (k.mark m.GreaterGreaterEqual) = Some (Some b.Shr)
assign_of (k.mark m.GreaterGreaterGreaterEqual) = Some (Some b.UShr)
assign_of (k.mark m.AmpersandEqual) = Some (Some b.BitAnd)
assign_of (k.mark m.BarEqual) = Some (Some b.BitOr)
assign_of (k.mark m.CaretEqual) = Some (Some b.BitXor)
assign_of _ = None
