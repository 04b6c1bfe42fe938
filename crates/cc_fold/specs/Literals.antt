-- The literal for which one of src/ stands.
use Rattle.std.specs.Prelude.{ℕ, Option, Some, None}
use Rattle.cc_ast.specs.Syntax.{Expr, lit}
use Rattle.cc_meaning.specs.Operators.{truthy}
use Rattle.cc_meaning.specs.Values.{Val, prim}
use Rattle.cc_value.specs.Bridge.{value_of}
use Rattle.cc_fold.specs.declared.choice.Test.{Test}
use Rattle.cc_fold.specs.declared.literal.Literal as Made
use Rattle.cc_fold.specs.Fold.{Literal}

abbrev pub literal_of : Made.Literal → Literal
literal_of l = record { price = l.price; value = value_of l.value }

-- the literal of a value that is no object
abbrev pub lit_of : (site : ℕ) → Val → Option Expr
lit_of i (prim p) = Some (lit i p)
lit_of i _ = None

-- what a test of the literal comes to
abbrev pub tested : Literal → Test
tested l = record { price = l.price; is_true = truthy l.value }
