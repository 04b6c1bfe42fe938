-- What the code's signs mean.
use Rattle.std.specs.Prelude.{Option, Some, None}
use Rattle.cc_ast.specs.declared.place.Place.{Place}
use Rattle.cc_ast.specs.Syntax.{null, truth, whole, text}
use Rattle.cc_grammar.specs.Signs as s
use Rattle.cc_grammar.specs.Reading as r
use Rattle.cc_grammar.specs.RawTree as raw
use Rattle.cc_cursor.specs.declared.signs.Leaf.{Leaf}
use Rattle.cc_cursor.specs.declared.signs.Leaf.TheVariants as L
use Rattle.cc_cursor.specs.declared.signs.Nested.{Nested}
use Rattle.cc_cursor.specs.declared.signs.Nested.TheVariants as N
use Rattle.cc_cursor.specs.declared.signs.Head.{Head}
use Rattle.cc_cursor.specs.declared.signs.Head.TheVariants as H
use Rattle.cc_cursor.specs.declared.signs.Suffix.{Suffix}
use Rattle.cc_cursor.specs.declared.signs.Suffix.TheVariants as S
use Rattle.cc_cursor.specs.declared.signs.Prefix.{Prefix}
use Rattle.cc_cursor.specs.declared.signs.Prefix.TheVariants as P
use Rattle.cc_cursor.specs.declared.signs.Infix.{Infix}
use Rattle.cc_cursor.specs.declared.signs.Infix.TheVariants as I

abbrev pub leaf : Leaf → r.Head
leaf L.This = r.is_this
leaf L.Null = r.is_literal null
leaf (L.Truth b) = r.is_literal (truth b)
leaf (L.Whole n) = r.is_literal (whole n)
leaf (L.Text t) = r.is_literal (text t.now)
leaf (L.Variable n) = r.is_variable n.now

-- the tree of a primary expression of one token
abbrev pub leaf_tree : Leaf → Place → raw.RawExpr
leaf_tree L.This p = raw.this p
leaf_tree L.Null p = raw.lit p null
leaf_tree (L.Truth b) p = raw.lit p (truth b)
leaf_tree (L.Whole n) p = raw.lit p (whole n)
leaf_tree (L.Text t) p = raw.lit p (text t.now)
leaf_tree (L.Variable n) p = raw.var p n.now

abbrev pub nested : Nested → r.Head
nested N.Paren = r.is_paren
nested N.Array = r.is_array
nested N.Object = r.is_object
nested N.Function = r.is_function
nested N.New = r.is_new

abbrev pub head : Option Head → r.Head
head None = r.no_head
head (Some (H.Leaf l)) = leaf l
head (Some (H.Nested n)) = nested n

abbrev pub suffix : Option Suffix → r.Suffix
suffix None = r.no_suffix
suffix (Some S.Dot) = r.by_dot
suffix (Some S.Bracket) = r.by_bracket
suffix (Some S.Call) = r.by_call

abbrev pub prefix : Prefix → s.Prefix
prefix (P.Unary o) = s.unary o
prefix (P.Step up) = s.step up

abbrev pub binary : Infix → s.Infix
binary (I.Operator o) = s.operator o
binary I.And = s.logical_and
binary I.Or = s.logical_or
