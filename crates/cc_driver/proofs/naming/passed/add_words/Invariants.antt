use Rattle.std.proofs.Common.{◌≡◌, ◌||◌, ℕ, List, take, map}
use Rattle.cc_driver.specs.Names.{is_in}
use Rattle.cc_driver.specs.NamingSteps.{has_name}
use Rattle.cc_driver.proofs.naming.passed.add_words.Given as goal

abbrev pub invariant-loop-word : goal.invariant-loop-word
invariant-loop-word l = (name : List ℕ) → has_name l.passed.keys name ≡ (has_name l.initial.passed.keys name || is_in name (map (λ word. word.now) (take l.word-index l.words)))
