-- The slot of the next number is the least pending one.
use Rattle.std.proofs.Common.{◌≡◌, ℕ, zero, suc, ◌+◌, ◌<◌, List, [], ◌∷◌, length, Bool, true, false, not, Some, None, cond, refl, sym, ap, ◌∙◌, subst, arith, position, lt-ltb, one-add, slice_get}
use Rattle.std.specs.List.{prefix_len}
use Rattle.cc_core.specs.State.{Pending, Claimed, Done, Slot, State, is_pending, places, with_if, pendings, with_slots}
use Rattle.cc_core.specs.Events.{claimed, entered, at_place, at_found, after_claim, after_enter}
use Rattle.cc_core.specs.Drawn.{after_claims}

abbrev skip : List Slot → ℕ
skip ss = prefix_len (λ s. not (is_pending s)) ss

head_is : (j k : ℕ) (js ks : List ℕ) → j ∷ js ≡ k ∷ ks → j ≡ k
head_is j k js ks e = cc

tail_is : (j k : ℕ) (js ks : List ℕ) → j ∷ js ≡ k ∷ ks → js ≡ ks
tail_is j k js ks e = cc

first_place : (j : ℕ) (ss : List Slot) (k : ℕ) (ks : List ℕ) → places is_pending j ss ≡ k ∷ ks → (skip ss + j ≡ k) × (skip ss < length ss)
first_place j [] k ks e = absurd (cc)
first_place j (s ∷ ss) k ks e =
    elim (is_pending s) as (λ b. with_if b j (places is_pending (suc j) ss) ≡ k ∷ ks → (cond (not b) (1 + skip ss) 0 + j ≡ k) × (cond (not b) (1 + skip ss) 0 < suc (length ss))) [
      | true ↦ λ e. let h = head_is j k _ ks e in (omega arith, omega arith)
      | false ↦ λ e. let r = first_place (suc j) ss k ks e in let a = r.0 in let b = r.1 in (omega arith, omega arith)
    ] e

claimed_not : (s : Slot) → is_pending (claimed s) ≡ false
claimed_not s = elim (s.mark) as (λ m. is_pending (claimed (record { mark = m; out = s.out })) ≡ false) [ Pending ↦ refl | Claimed ↦ refl | Done y ↦ refl ]

entered_same : (s : Slot) → is_pending s ≡ true → claimed s ≡ entered s
entered_same s = elim (s.mark) as (λ m. is_pending (record { mark = m; out = s.out }) ≡ true → claimed (record { mark = m; out = s.out }) ≡ entered (record { mark = m; out = s.out })) [ Pending ↦ λ e. refl | Claimed ↦ λ e. absurd (cc) | Done y ↦ λ e. absurd (cc) ]

step_here : (b : Bool) (s : Slot) (ss : List Slot) (n : ℕ) → is_pending s ≡ b → (h : Slot → Slot) → at_place h (cond (not b) (1 + n) 0) (s ∷ ss) ≡ cond b (h s ∷ ss) (s ∷ at_place h n ss)
step_here true s ss n e h = refl
step_here false s ss n e h = ap (λ k. at_place h k (s ∷ ss)) (one-add n)

rest_after : (j : ℕ) (ss : List Slot) (k : ℕ) (ks : List ℕ) → places is_pending j ss ≡ k ∷ ks → places is_pending j (at_place claimed (skip ss) ss) ≡ ks
rest_after j [] k ks e = absurd (cc)
rest_after j (s ∷ ss) k ks e =
    elim (is_pending s) as (λ b. is_pending s ≡ b → with_if b j (places is_pending (suc j) ss) ≡ k ∷ ks → places is_pending j (at_place claimed (cond (not b) (1 + skip ss) 0) (s ∷ ss)) ≡ ks) [
      | true ↦ λ is e. ap (λ b. with_if b j (places is_pending (suc j) ss)) (claimed_not s) ∙ tail_is j k _ ks e
      | false ↦ λ is e. ap (places is_pending j) (step_here false s ss (skip ss) is claimed) ∙ (ap (λ b. with_if b j (places is_pending (suc j) (at_place claimed (skip ss) ss))) is ∙ rest_after (suc j) ss k ks e)
    ] refl e

same_place : (j : ℕ) (ss : List Slot) (k : ℕ) (ks : List ℕ) → places is_pending j ss ≡ k ∷ ks → at_place claimed (skip ss) ss ≡ at_place entered (skip ss) ss
same_place j [] k ks e = refl
same_place j (s ∷ ss) k ks e =
    elim (is_pending s) as (λ b. is_pending s ≡ b → with_if b j (places is_pending (suc j) ss) ≡ k ∷ ks → at_place claimed (cond (not b) (1 + skip ss) 0) (s ∷ ss) ≡ at_place entered (cond (not b) (1 + skip ss) 0) (s ∷ ss)) [
      | true ↦ λ is e. ap (λ t. t ∷ ss) (entered_same s is)
      | false ↦ λ is e. step_here false s ss (skip ss) is claimed ∙ (ap (λ t. s ∷ t) (same_place (suc j) ss k ks e) ∙ sym (step_here false s ss (skip ss) is entered))
    ] refl e

-- where k is the first pending slot, Claim is the entering of k, and the other pending slots stay
pub claim_draws : (s : State) (k : ℕ) (ks : List ℕ) → pendings s.slots ≡ k ∷ ks → (after_claim s ≡ after_enter k s) × (pendings (after_claim s).slots ≡ ks)
claim_draws s k ks e =
    let f = first_place 0 s.slots k ks e in
    let a = f.0 in
    let at : skip s.slots ≡ k = omega arith in
    let found : position is_pending s.slots ≡ Some (skip s.slots) = ap (λ b. cond b (Some (skip s.slots)) None) (lt-ltb _ _ f.1) in
    let slots : at_found claimed (position is_pending s.slots) s.slots ≡ at_place claimed (skip s.slots) s.slots = ap (λ o. at_found claimed o s.slots) found in
    (ap (with_slots s) (slots ∙ (same_place 0 s.slots k ks e ∙ ap (λ n. at_place entered n s.slots) at)), ap pendings slots ∙ rest_after 0 s.slots k ks e)

draw : (k : ℕ) (s : State) (ks : List ℕ) (slot : ℕ) → pendings s.slots ≡ ks → slice_get ks k ≡ Some slot → after_claim (after_claims k s) ≡ after_enter slot (after_claims k s)
draw k s [] slot e at = absurd (let e : None ≡ Some slot = at in (cc))
draw zero s (j ∷ ks) slot e at = let f : j ≡ slot = (cc) in subst (λ (n : ℕ). after_claim s ≡ after_enter n s) f (claim_draws s j ks e).0
draw (suc k) s (j ∷ ks) slot e at = draw k (after_claim s) ks slot (claim_draws s j ks e).1 at

-- the claim after k claims is the entering of the k-th slot that was pending
pub draws : (s : State) (k slot : ℕ) → slice_get (pendings s.slots) k ≡ Some slot → after_claim (after_claims k s) ≡ after_enter slot (after_claims k s)
draws s k slot at = draw k s (pendings s.slots) slot refl at
