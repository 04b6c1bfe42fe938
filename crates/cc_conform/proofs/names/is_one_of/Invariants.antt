use Rattle.std.proofs.Common.{◌≡◌, drop, map}
use Rattle.cc_meaning.specs.Operators.{is_in}
use Rattle.cc_conform.proofs.names.is_one_of.Given as goal

abbrev pub invariant-loop-text : goal.invariant-loop-text
invariant-loop-text l = is_in l.name (map (λ t. t.now) (drop l.text-index l.texts)) ≡ is_in l.name (map (λ t. t.now) l.texts)
