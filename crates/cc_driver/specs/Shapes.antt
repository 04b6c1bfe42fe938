-- What an expression is in the form that is spelled so far.
use Rattle.std.specs.Prelude.{◌≡◌, ℕ, ℤ, pos, negsuc, Bool, true, false, nat_lt, List, [], ◌∷◌, ◌++◌, Option, Some, None, cond, codes}
use Rattle.std.specs.List.{list_all}
use Rattle.std.specs.Fmt.{decimal}
use Rattle.cc_ast.specs.declared.tree.Ref.TheVariants as ref
use Rattle.cc_ast.specs.Bridge.{term, terms}
use Rattle.cc_ast.specs.Syntax as S
use Rattle.cc_ast.specs.declared.operator.BinOp.{BinOp}
use Rattle.cc_ast.specs.declared.operator.BinOp.TheVariants.{Add}
use Rattle.cc_driver.specs.declared.spelling.shape.Shape.{Shape}
use Rattle.cc_driver.specs.declared.spelling.shape.Shape.TheVariants as shape
use Rattle.cc_driver.specs.declared.spelling.Piece.{Piece}
use Rattle.cc_driver.specs.declared.spelling.Piece.TheVariants as piece
use Rattle.cc_driver.specs.Form.{is_plain, whole_limit}
use Rattle.cc_driver.specs.Spelling.{join, one, spell_operand, spell_value, spell_values, spell_statement}

abbrev pub IsShape : Shape → S.Expr → Type 0
IsShape (shape.Global g) e = (s : ℕ) × (e ≡ S.var s (ref.Global g))
IsShape (shape.Text t) e = (s : ℕ) × (e ≡ S.lit s (S.text t.now))
IsShape (shape.Whole z) e = (s : ℕ) × (e ≡ S.lit s (S.whole z))
IsShape (shape.Call f es) e = (s : ℕ) × (e ≡ S.call s (term f.now) (terms es.now))
IsShape shape.Other e = (spell_operand e ≡ None) × (spell_statement (S.simple 0 e) ≡ None)

-- a text in double quotes, where it has only plain units
abbrev pub quoted : List ℕ → Option (List ℕ)
quoted t = cond (list_all is_plain t) (Some (34 ∷ t ++ 34 ∷ [])) None

-- the decimal of a number, where it is from 0 to 2^53-1
abbrev pub numeral : ℤ → Option (List ℕ)
numeral (pos n) = cond (nat_lt n whole_limit) (Some (decimal n)) None
numeral (negsuc n) = None

abbrev pub is_add : BinOp → Bool
is_add Add = true
is_add _ = false

-- an operand behind a `+`
abbrev pub spell_added : S.Expr → Option (List Piece)
spell_added e = join (one (codes "+")) (spell_operand e)

-- values that each follow a comma
abbrev pub spell_more : S.Exprs → Option (List Piece)
spell_more S.no_exprs = Some []
spell_more (S.more_exprs e es) = join (one (codes ",")) (join (spell_value e) (spell_more es))

-- a call of a global
abbrev pub spell_call : ℕ → S.Exprs → Option (List Piece)
spell_call g es = join (Some (piece.Global g ∷ piece.Bytes (codes "(") ∷ [])) (join (spell_values es) (one (codes ");")))

-- a declaration of a global
abbrev pub spell_declaration : ℕ → S.Expr → Option (List Piece)
spell_declaration g e = join (Some (piece.Bytes (codes "var ") ∷ piece.Global g ∷ piece.Bytes (codes "=") ∷ [])) (join (spell_value e) (one (codes ";")))
