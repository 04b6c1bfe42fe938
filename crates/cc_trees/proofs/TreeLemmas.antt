-- Lists of trees, as the grammar and as the trees write them.
use Rattle.std.proofs.Common.{◌≡◌, refl, ap, List, [], ◌∷◌, map}
use Rattle.cc_grammar.specs.RawTree as S
use Rattle.cc_raw.specs.declared.tree.RawExpr.{RawExpr}
use Rattle.cc_raw.specs.declared.tree.RawStmt.{RawStmt}
use Rattle.cc_raw.specs.declared.tree.RawField.{RawField}
use Rattle.cc_raw.specs.Bridge.{exprs, fields, stmts, raw_expr, raw_stmt, raw_field, raw_exprs, raw_fields, raw_stmts}
use Rattle.cc_cursor.specs.Shown as shown

pub exprs_shown : (es : List RawExpr) → raw_exprs es ≡ S.exprs (map raw_expr es)
unfolding raw_exprs exprs
exprs_shown [] = refl
exprs_shown (e ∷ es) = ap (S.more_exprs (raw_expr e)) (exprs_shown es)

pub stmts_shown : (ss : List RawStmt) → raw_stmts ss ≡ S.stmts (map raw_stmt ss)
unfolding raw_stmts stmts
stmts_shown [] = refl
stmts_shown (s ∷ ss) = ap (S.more_stmts (raw_stmt s)) (stmts_shown ss)

pub fields_shown : (fs : List RawField) → raw_fields fs ≡ S.fields (map shown.field fs)
unfolding raw_fields fields
fields_shown [] = refl
fields_shown (f ∷ fs) = ap (S.more_fields (raw_field f).0 (raw_field f).1.0 (raw_field f).1.1) (fields_shown fs)
