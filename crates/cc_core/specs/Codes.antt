-- The codes by which states are told apart.
use Rattle.std.specs.Prelude.{◌≡◌, ℕ, List, Option, Some, None, cond, ◌==◌, refl}
use Rattle.std.specs.Coded.{Coded, code_by, coded_list, coded_option, coded×, coded_ℕ}
use Rattle.cc_ast.specs.Syntax.{Program, Scope}
use Rattle.cc_ast.specs.Codes.{coded_scope, coded_program}
use Rattle.cc_core.specs.State.{Mark, Pending, Claimed, Done, Slot, State, Shown, BenchShown}

abbrev pub number_of : Mark → ℕ × Option Scope
number_of Pending = (0, None)
number_of Claimed = (1, None)
number_of (Done x) = (2, Some x)

abbrev pub or_open : ℕ → Option Scope → Mark
or_open n None = cond (n == 0) Pending Claimed
or_open n (Some x) = Done x

abbrev pub numbered : ℕ × Option Scope → Mark
numbered p = or_open p.0 p.1

pub numbered_again : (m : Mark) → numbered (number_of m) ≡ m
numbered_again Pending = refl
numbered_again Claimed = refl
numbered_again (Done x) = refl

abbrev pub coded_mark : Coded Mark
coded_mark = code_by (ℕ × Option Scope) (coded× coded_ℕ (coded_option coded_scope)) number_of numbered numbered_again

abbrev pub coded_slot : Coded Slot
coded_slot = code_by (Mark × ℕ) (coded× coded_mark coded_ℕ) (λ s. (s.mark, s.out)) (λ p. record { mark = p.0; out = p.1 }) (λ _. refl)

abbrev pub coded_state : Coded State
coded_state =
    code_by ((Program × ℕ) × (ℕ × (Program × List Slot)))
    (coded× (coded× coded_program coded_ℕ) (coded× coded_ℕ (coded× coded_program (coded_list coded_slot))))
    (λ s. ((s.source, s.closed), (s.step, (s.base, s.slots))))
    (λ p. record { source = p.0.0; closed = p.0.1; step = p.1.0; base = p.1.1.0; slots = p.1.1.1 })
    (λ _. refl)

abbrev pub coded_shown : {R : Type 0} → Coded R → Coded (Shown R)
coded_shown {R} code = code_by (R × State) (coded× code coded_state) (λ s. (s.rules, s.state)) (λ p. record { rules = p.0; state = p.1 }) (λ _. refl)

abbrev pub coded_bench : {R : Type 0} → Coded R → Coded (BenchShown R)
coded_bench {R} code =
    code_by ((R × ℕ) × (ℕ × Program))
    (coded× (coded× code coded_ℕ) (coded× coded_ℕ coded_program))
    (λ s. ((s.rules, s.closed), (s.step, s.base)))
    (λ p. record { rules = p.0.0; closed = p.0.1; step = p.1.0; base = p.1.1 })
    (λ _. refl)
