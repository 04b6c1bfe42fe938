-- The phases: folding, repeated until a round changes nothing, at most 12 times.
use Rattle.std.specs.Prelude.{ℕ, zero, suc, ◌+◌, nat_lt, Bool, true, not, ◌&&◌, cond, List, map, Option, Some, None}
use Rattle.cc_ast.specs.Syntax.{Program}
use Rattle.cc_meaning.specs.WellMade.{WellMade}
use Rattle.cc_tied.specs.Promises.{HasNoPaths}
use Rattle.cc_core.specs.Work.{Work, with_scopes, heads_of}
use Rattle.cc_fold.specs.Built.{built_globals, built_in}
use Rattle.cc_fold.specs.Fold.{fold_scope}
use Rattle.cc_passes.specs.Codes.{are_same}

-- a round: each scope folded by the plan of the program
abbrev pub folded : Program → Program
folded P = with_scopes P (map (fold_scope (built_in (built_globals P))) P.scopes)

-- so many rounds; one that changes nothing may be left out with all that follow
abbrev pub rounds : ℕ → Program → Program
rounds zero P = P
rounds (suc n) P = rounds n (folded P)

abbrev pub most_rounds : ℕ
most_rounds = 12

-- what the phases make of a program
abbrev pub optimised : Program → Program
optimised P = rounds most_rounds P

-- the round after a round: there is one where scopes were changed, and the rounds aren't used up
abbrev pub next_round : ℕ → (same : Bool) → Option ℕ
next_round step same = cond (nat_lt (step + 1) most_rounds && not same) (Some (step + 1)) None

-- a step is the number of its round
abbrev pub folding : Work (List Bool)
folding = record {
  fits = λ step base. WellMade base × HasNoPaths base;
  local = λ step. true;
  plan = λ step base. built_globals base;
  heads = λ plan base. heads_of base;
  rewrite = λ plan slot x. Some (fold_scope (built_in plan) x);
  next = λ step before after. next_round step (are_same before.scopes after.scopes);
  visits = λ history step base slot. true;
}
