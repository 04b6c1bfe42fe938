-- What parts of expressions show.
use Rattle.std.specs.Prelude.{ℕ}
use Rattle.cc_ast.specs.declared.place.Place.{Place}
use Rattle.cc_grammar.specs.RawTree as S
use Rattle.cc_grammar.specs.Reading.{Sized}
use Rattle.cc_raw.specs.declared.tree.RawField.{RawField}
use Rattle.cc_raw.specs.declared.tree.RawKey.{RawKey}
use Rattle.cc_raw.specs.Bridge.{raw_expr}
use Rattle.cc_raw.specs.Bridge as bridge
use Rattle.cc_expr.specs.declared.conditional.Branches.{Branches}
use Rattle.cc_cursor.specs.Shown.{field}

-- a key with its place
abbrev pub placed_key : Place × RawKey → Place × S.RawKey
placed_key k = (k.0, bridge.key k.1)

abbrev pub sized_field : RawField × ℕ → Sized S.RawField
sized_field x = (field x.0, x.1)

abbrev pub sized_branches : Branches × ℕ → Sized (S.RawExpr × S.RawExpr)
sized_branches x = ((raw_expr x.0.then, raw_expr x.0.otherwise), x.1)
