-- The one text of a program, as pieces: bytes that stand for themselves, and globals, which a
-- naming turns into names. A program with a node outside the form has none.
use Rattle.std.specs.Prelude.{ℕ, pos, nat_lt, List, [], ◌∷◌, ◌++◌, codes, Option, None, Some, cond, unwrap_or, slice_get}
use Rattle.std.specs.List.{list_all, flat_map}
use Rattle.std.specs.Fmt.{decimal}
use Rattle.cc_ast.specs.declared.tree.Ref.{Ref}
use Rattle.cc_ast.specs.declared.tree.Ref.TheVariants.{Frame, Global}
use Rattle.cc_ast.specs.Syntax as S
use Rattle.cc_ast.specs.declared.operator.BinOp.TheVariants.{Add}
use Rattle.cc_driver.specs.declared.spelling.Piece.{Piece}
use Rattle.cc_driver.specs.declared.spelling.Piece.TheVariants as piece
use Rattle.cc_driver.specs.Form.{is_plain, whole_limit}

-- pieces one after the other, where both are there
abbrev pub join : Option (List Piece) → Option (List Piece) → Option (List Piece)
join None ys = None
join (Some xs) None = None
join (Some xs) (Some ys) = Some (xs ++ ys)

abbrev pub one : List ℕ → Option (List Piece)
one text = Some (piece.Bytes text ∷ [])

-- a text takes double quotes, since the form has no quotes in texts
abbrev pub spell_operand : S.Expr → Option (List Piece)
spell_operand (S.var s (Global g)) = Some (piece.Global g ∷ [])
spell_operand (S.lit s (S.text t)) = cond (list_all is_plain t) (Some (piece.Bytes (34 ∷ t ++ 34 ∷ []) ∷ [])) None
spell_operand (S.lit s (S.whole (pos n))) = cond (nat_lt n whole_limit) (Some (piece.Bytes (decimal n) ∷ [])) None
spell_operand _ = None

-- a sum without parentheses leans to the left
abbrev pub spell_value : S.Expr → Option (List Piece)
spell_value (S.binary s Add a b) = join (spell_value a) (join (one (codes "+")) (spell_operand b))
spell_value e = spell_operand e

abbrev pub spell_values : S.Exprs → Option (List Piece)
spell_values S.no_exprs = Some []
spell_values (S.more_exprs e S.no_exprs) = spell_value e
spell_values (S.more_exprs e (S.more_exprs f es)) = join (spell_value e) (join (one (codes ",")) (spell_values (S.more_exprs f es)))

abbrev pub spell_initial : Option S.Expr → Option (List Piece)
spell_initial None = None
spell_initial (Some e) = spell_value e

abbrev pub spell_declared : Ref → Option (List Piece) → Option (List Piece)
spell_declared (Global g) value = join (Some (piece.Bytes (codes "var ") ∷ piece.Global g ∷ piece.Bytes (codes "=") ∷ [])) (join value (one (codes ";")))
spell_declared (Frame up place) value = None

abbrev pub spell_declarator : S.Declarator → Option (List Piece)
spell_declarator d = spell_declared d.variable (spell_initial d.value)

abbrev pub spell_statement : S.Stmt → Option (List Piece)
spell_statement (S.vars s (d ∷ [])) = spell_declarator d
spell_statement (S.simple s (S.call p (S.var q (Global g)) es)) =
    join (Some (piece.Global g ∷ piece.Bytes (codes "(") ∷ [])) (join (spell_values es) (one (codes ");")))
spell_statement _ = None

abbrev pub spell_statements : S.Stmts → Option (List Piece)
spell_statements S.no_stmts = Some []
spell_statements (S.more_stmts s ss) = join (spell_statement s) (spell_statements ss)

abbrev pub body_of : Option S.Scope → S.Stmts
body_of None = S.no_stmts
body_of (Some scope) = scope.body

-- the pieces of a chunk
abbrev pub spell_chunk : S.Program → ℕ → Option (List Piece)
spell_chunk program chunk = spell_statements (body_of (slice_get program.scopes chunk))

-- a piece under the names of the globals
abbrev pub piece_text : List (List ℕ) → Piece → List ℕ
piece_text names (piece.Bytes text) = text
piece_text names (piece.Global g) = unwrap_or (slice_get names g) []

abbrev pub text_of : List (List ℕ) → List Piece → List ℕ
text_of names pieces = flat_map (piece_text names) pieces
