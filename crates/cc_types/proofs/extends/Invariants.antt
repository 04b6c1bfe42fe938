use Rattle.std.proofs.Common.{◌≡◌, ◌-◌, length, Some}
use Rattle.cc_types.specs.Types.{extends, extends_within}
use Rattle.cc_types.proofs.extends.Given as goal

abbrev pub invariant-loop-step : goal.invariant-loop-step
invariant-loop-step l = extends_within (length l.classes - l._step) l.classes (Some l.at) l.b ≡ extends l.classes l.a l.b
