-- Names that the grammar speaks of, by their units.
use Rattle.std.proofs.Common.{◌≡◌, refl}
use Rattle.std.specs.Prelude.{codes}
use Rattle.std.specs.Str.{chars}
use Rattle.cc_text.specs.Utf16.{utf16}

pub eval_units : utf16 (chars (codes "eval")) ≡ codes "eval"
unfolding chars
eval_units = refl

pub arguments_units : utf16 (chars (codes "arguments")) ≡ codes "arguments"
unfolding chars
arguments_units = refl

pub get_units : utf16 (chars (codes "get")) ≡ codes "get"
unfolding chars
get_units = refl

pub set_units : utf16 (chars (codes "set")) ≡ codes "set"
unfolding chars
set_units = refl

pub ruleset name_steps = (eval_units, arguments_units, get_units, set_units)
