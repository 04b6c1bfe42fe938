-- In the two modes a judged act either ends the run or changes nothing.
use Rattle.std.specs.Prelude.{Bool, true, false, ◌≡◌, ℕ, [], Option, Some, None}
use Rattle.cc_meaning.specs.Values.{Spot}
use Rattle.cc_meaning.specs.State.{State}
use Rattle.cc_meaning.specs.Monad.{End, broken, strayed, Res, over, M, pick, Mode}
use Rattle.cc_meaning.specs.Judge.{Act, least_broken}
use Rattle.cc_meaning.specs.Acts.{judged, is_fatal}
use Rattle.cc_meaning.specs.Script.{checked, plain}

-- how the checked run ends at the least rule that an act breaks
abbrev pub checked_end : Spot → Option ℕ → Option End
checked_end i None = None
checked_end i (Some r) = Some (broken r i)

-- and the plain run
abbrev pub plain_end : Spot → Act → Option ℕ → Option End
plain_end i a None = None
plain_end i a (Some r) = pick (is_fatal a r) (Some (strayed i)) None

-- how a run ends at a rule that an act breaks
abbrev pub end_at : (is_plain : Bool) → Spot → (fatal : Bool) → (rule : ℕ) → Option End
end_at true i fatal r = pick fatal (Some (strayed i)) None
end_at false i fatal r = Some (broken r i)

unfoldable pub settled : {A : Type 0} → Option End → Res A → Res A
settled None r = r
settled (Some e) r = over [] e

-- the mode, by whether the run is plain
abbrev pub mode_of : Bool → Mode
mode_of true = plain
mode_of false = checked

abbrev pub end_of : (is_plain : Bool) → Spot → Act → Option ℕ → Option End
end_of true i a o = plain_end i a o
end_of false i a o = checked_end i o

abbrev pub VerdictLaws : Type 0 → Type 0
VerdictLaws A = (b : Bool) (i : Spot) (a : Act) (m : M A) (s : State) → judged (mode_of b) i a m s ≡ settled (end_of b i a (least_broken s.tables s a)) (m s)
