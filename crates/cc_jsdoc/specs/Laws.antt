-- Laws of annotations.
use Rattle.std.specs.Prelude.{◌≡◌, ℕ, List}
use Rattle.cc_jsdoc.specs.declared.doc.Doc.{Doc}
use Rattle.cc_jsdoc.specs.declared.types.Alternative.{Alternative}
use Rattle.cc_jsdoc.specs.Docs.{IsDocOf}
use Rattle.cc_jsdoc.specs.Types.{IsExpression}

-- a text is at most one type
abbrev pub IsOneType : Type 0
IsOneType = (text : List ℕ) (ts us : List Alternative) → IsExpression text ts → IsExpression text us → ts ≡ us

-- a comment says one thing
abbrev pub IsOneDoc : Type 0
IsOneDoc = (units : List ℕ) (d e : Doc) → IsDocOf units d → IsDocOf units e → d ≡ e
