-- What is known of the value of a literal is known in one way.
use Rattle.std.specs.Prelude.{refl}
use Rattle.std.proofs.Math.Bridge.{le_prop}
use Rattle.cc_value.specs.declared.value.Value.{Value}
use Rattle.cc_value.specs.declared.value.Value.TheVariants as V
use Rattle.cc_value.specs.Bridge.{IsMade, IsNoObject}

pub made_once : (v : Value) → IsProp (IsMade v)
made_once (V.Whole z) = le_prop
made_once V.Undefined = λ x y. refl
made_once V.Null = λ x y. refl
made_once (V.Truth b) = λ x y. refl
made_once (V.Text t) = λ x y. refl
made_once (V.Object n) = λ x y. refl
made_once (V.Outside n) = λ x y. refl

pub no_object_once : (v : Value) → IsProp (IsNoObject v)
no_object_once (V.Object n) = λ x y. absurd x
no_object_once V.Undefined = λ x y. refl
no_object_once V.Null = λ x y. refl
no_object_once (V.Truth b) = λ x y. refl
no_object_once (V.Whole z) = λ x y. refl
no_object_once (V.Text t) = λ x y. refl
no_object_once (V.Outside n) = λ x y. refl
