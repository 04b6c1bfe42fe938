use Rattle.std.proofs.Common.{◌≡◌, ℕ, length, sym, subst, arith}
use Rattle.cc_value.proofs.TextLemmas.{SameBelow, less_shorter, less_smaller, less_greater, less_prefix}
use Rattle.cc_value.proofs.texts.is_less.Goals as goal
use Rattle.cc_value.proofs.texts.is_less.Goals.{then-i-s-via-then-i-s, then-i-s-via-else-i-s+then-s-i}

pub returns-then-i-s : goal.returns-then-i-s
returns-then-i-s c =
    elim c.then-i-s.branch [
      | then-i-s-via-then-i-s w ↦
          let b = c.loop-i.invariant in
          let ends : c.loop-i.i ≡ length c.args.s.now = let h = b.within in omega arith in
          sym (less_shorter c.args.s.now c.args.t.now (omega arith) (subst (λ (n : ℕ). SameBelow c.args.s.now c.args.t.now n) ends b))
      | then-i-s-via-else-i-s+then-s-i w ↦ sym (less_smaller c.args.s.now c.args.t.now c.loop-i.i w.if-i-s.false c.loop-i-test.true c.loop-i.invariant w.if-s-i.true)
    ]

pub returns-then-unit-s : goal.returns-then-unit-s
returns-then-unit-s c = sym (less_greater c.args.s.now c.args.t.now c.loop-i.i c.if-i-s.false c.loop-i-test.true c.loop-i.invariant c.if-unit-s.true)

pub returns : goal.returns
returns c =
    let b = c.loop-i.invariant in
    let ends : c.loop-i.i ≡ length c.args.t.now = let h = c.loop-i.auto.i-end in omega arith in
    sym (less_prefix c.args.s.now c.args.t.now (let h = b.within in omega arith) (subst (λ (n : ℕ). SameBelow c.args.s.now c.args.t.now n) ends b))
