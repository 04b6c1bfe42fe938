-- Frames outwards, one after the other.
use Rattle.std.proofs.Common.{◌≡◌, ℕ, zero, suc, ◌+◌, ◌-◌, ◌<◌, ◌≤◌, List, Option, Some, None, refl, ap, ◌∙◌, slice_get, arith}
use Rattle.cc_meaning.specs.State.{Frame}
use Rattle.cc_meaning.specs.Store.{frame_up, up_in}

pub up-none : (k : ℕ) (fs : List Frame) → frame_up k fs None ≡ None
unfolding frame_up
up-none zero fs = refl
up-none (suc k) fs = refl

one-more : (fs : List Frame) (i k : ℕ) → frame_up (suc k) fs (Some i) ≡ frame_up k fs (up_in (slice_get fs i))
unfolding frame_up
one-more fs i k = refl

pub up-step : (n c : ℕ) (fs : List Frame) (i : ℕ) → c < n → frame_up (n - c) fs (Some i) ≡ frame_up (n - (c + 1)) fs (up_in (slice_get fs i))
up-step n c fs i h = let e : n - c ≡ suc (n - (c + 1)) = omega arith in ap (λ (k : ℕ). frame_up k fs (Some i)) e ∙ one-more fs i (n - (c + 1))

pub up-end : (n c : ℕ) (fs : List Frame) (at : Option ℕ) → n ≤ c → frame_up (n - c) fs at ≡ at
unfolding frame_up
up-end n c fs at h = let e : n - c ≡ 0 = omega arith in ap (λ (k : ℕ). frame_up k fs at) e
