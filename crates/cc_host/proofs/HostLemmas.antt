-- How the promises of several calls of a host join: for the proofs of whoever calls one more than once.
use Rattle.std.proofs.Common.{◌≡◌, ℕ, ◌<◌, ◌≤◌, ◌^◌, ◌-◌, Option, None, Some, arith, sym, subst}
use Rattle.cc_host.specs.Count.{Rose}
use Rattle.cc_host.specs.Host.{Contents, IfShown}

-- what relates contents to themselves holds where they stayed
pub IfShown-same : (old new : Option Contents) (P : Contents → Contents → Type 0) → new ≡ old → ((x : Contents) → P x x) → IfShown old new P
IfShown-same old new P is h = subst (λ shown. IfShown old shown P) (sym is) (at old)
  where
    at : (shown : Option Contents) → IfShown shown shown P
    at None = tt
    at (Some x) = h x

-- what two changes one after the other do
pub IfShown-trans : (a b c : Option Contents) (P Q R : Contents → Contents → Type 0) → IfShown a b P → IfShown b c Q
    → ((x y z : Contents) → P x y → Q y z → R x z) → IfShown a c R
IfShown-trans None None None P Q R p q h = tt
IfShown-trans None None (Some z) P Q R p q h = absurd q
IfShown-trans None (Some y) c P Q R p q h = absurd p
IfShown-trans (Some x) None c P Q R p q h = absurd p
IfShown-trans (Some x) (Some y) None P Q R p q h = absurd q
IfShown-trans (Some x) (Some y) (Some z) P Q R p q h = h x y z p q

-- two facts about one change
pub IfShown-both : (a b : Option Contents) (P Q R : Contents → Contents → Type 0) → IfShown a b P → IfShown a b Q
    → ((x y : Contents) → P x y → Q x y → R x y) → IfShown a b R
IfShown-both None None P Q R p q h = tt
IfShown-both None (Some y) P Q R p q h = absurd p
IfShown-both (Some x) None P Q R p q h = absurd p
IfShown-both (Some x) (Some y) P Q R p q h = h x y p q

-- a count that rose in one call rose over the calls round it
pub Rose-within : (a b c d : ℕ) → a ≤ b → b ≤ c → c ≤ d → Rose b c → Rose a d
Rose-within a b c d before during after rose = grind arith

-- a count that stayed below the end of its type didn't rise
pub stays-Rose : (a b : ℕ) → b ≤ a → b < 2 ^ 64 - 1 → Rose a b → ⊥
stays-Rose a b stays below rose = grind arith
