use Rattle.std.proofs.Common.{◌≡◌, sym, ap, Option, Some, IfOk, Bor, subst}
use Rattle.std.specs.Option.{option_map}
use Rattle.cc_meaning.specs.Builtins.{or_undefined}
use Rattle.cc_meaning.specs.Values.{Val}
use Rattle.cc_value.specs.declared.value.Value.{Value}
use Rattle.cc_value.specs.Bridge.{value_of}
use Rattle.cc_acts.proofs.copies.copy_or_undefined.Goals as goal

there : (o : Option (Bor Value)) (v : Bor Value) → o ≡ Some v → value_of v.now ≡ or_undefined (option_map (λ (x : Bor Value). value_of x.now) o)
unfolding or_undefined
there o v e = sym (ap (λ (x : Option (Bor Value)). or_undefined (option_map (λ (y : Bor Value). value_of y.now) x)) e)

pub returns-in-Some : goal.returns-in-Some
returns-in-Some c = subst (λ (x : Val). IfOk c.copy_value.result (λ copy. value_of copy ≡ x)) (there c.args.value c.in-Some.value c.in-Some.is) c.copy_value.ensures

pub returns-in-None : goal.returns-in-None
unfolding or_undefined
returns-in-None c = sym (ap (λ (x : Option (Bor Value)). or_undefined (option_map (λ (y : Bor Value). value_of y.now) x)) c.in-None.is)
