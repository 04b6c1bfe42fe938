use Rattle.std.proofs.Common.{◌≡◌, ◌≢◌, ◌≤◌, ◌⊎◌, ℕ, Bool, true, false, inl, inr, arith}
use Rattle.std.proofs.lemmas.Int.{ints}
use Rattle.cc_value.proofs.Numbers.{sign-past, sign-zero, sign-minus, sign-plus}
use Rattle.cc_value.proofs.whole.with_sign.Goals as goal
use Rattle.cc_value.proofs.whole.with_sign.Goals.{then-size-gt-GREATEST-via-then-size-gt-GREATEST, then-size-gt-GREATEST-via-else-size-gt-GREATEST+then-size-eq0}

pub returns-then-size-gt-GREATEST : goal.returns-then-size-gt-GREATEST
returns-then-size-gt-GREATEST c =
    elim c.then-size-gt-GREATEST.branch [
      | then-size-gt-GREATEST-via-then-size-gt-GREATEST w ↦ sign-past c.args.minus c.args.size (omega arith)
      | then-size-gt-GREATEST-via-else-size-gt-GREATEST+then-size-eq0 w ↦ sign-zero c.args.minus c.args.size w.if-size-eq0.true.0 w.if-size-eq0.true.1
    ]

-- a negative number has a size
some_size : (minus : Bool) (n : ℕ) → minus ≡ true → ((minus ≡ true) × (n ≡ 0 → ⊥)) ⊎ (minus ≡ false) → n ≢ 0
some_size minus n e (inl h) = h.1
some_size minus n e (inr f) = cc

pub returns-then-minus-2 : goal.returns-then-minus-2
returns-then-minus-2 c =
    sign-minus c.args.minus c.args.size _ c.if-minus-2.true (some_size c.args.minus c.args.size c.if-minus-2.true c.if-size-eq0.either) c.if-size-gt-GREATEST.false
    (let h : c.args.size ≤ 9007199254740991 = c.if-size-gt-GREATEST.false in omega (arith, ints))

pub returns-else-minus-2 : goal.returns-else-minus-2
returns-else-minus-2 c = sign-plus c.args.minus c.args.size _ c.if-minus-2.false c.if-size-gt-GREATEST.false (let h : c.args.size ≤ 9007199254740991 = c.if-size-gt-GREATEST.false in omega (arith, ints))
