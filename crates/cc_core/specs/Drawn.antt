-- Claims in a row.
use Rattle.std.specs.Prelude.{ℕ}
use Rattle.std.proofs.Common.{zero, suc}
use Rattle.cc_core.specs.State.{State}
use Rattle.cc_core.specs.Events.{after_claim}

-- the state after so many claims
abbrev pub after_claims : ℕ → State → State
after_claims zero s = s
after_claims (suc k) s = after_claims k (after_claim s)
