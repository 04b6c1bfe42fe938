use Rattle.std.proofs.Common.{◌∙◌, sym, arith, rules}
use Rattle.cc_heap.proofs.NameLaws.{index-empty, index-zero, index-zero-more, index-digits, read-low, read-high, read-digit, read-great, read-all}
use Rattle.cc_heap.proofs.names.index_of.Goals as goal
use Rattle.cc_heap.proofs.names.index_of.Goals.{then-unit-lt48-via-then-unit-lt48, then-unit-lt48-via-else-unit-lt48+then-unit-gt57}

pub returns-then-is_empty : goal.returns-then-is_empty
returns-then-is_empty c = sym (index-empty c.args.name.now (search rules))

pub returns-then-name-eq1 : goal.returns-then-name-eq1
returns-then-name-eq1 c = sym (index-zero c.args.name.now c.if-name-eq48.true c.if-name-eq1.true)

pub returns-else-name-eq1 : goal.returns-else-name-eq1
returns-else-name-eq1 c = sym (index-zero-more c.args.name.now c.if-name-eq48.true c.if-name-eq1.false)

pub loop-unit-init : goal.loop-unit-init
loop-unit-init c = record { value = index-digits c.args.name.now (search rules) c.if-name-eq48.false; small = omega arith }

pub returns-then-unit-lt48 : goal.returns-then-unit-lt48
returns-then-unit-lt48 c =
    let t = c.args.name.now in
    elim c.then-unit-lt48.branch [
      | then-unit-lt48-via-then-unit-lt48 w ↦ sym (c.loop-unit.invariant.value ∙ read-low t c.loop-unit.unit-index c.loop-unit.number c.loop-unit-test.true w.if-unit-lt48.true)
      | then-unit-lt48-via-else-unit-lt48+then-unit-gt57 w ↦ sym (c.loop-unit.invariant.value ∙ read-high t c.loop-unit.unit-index c.loop-unit.number c.loop-unit-test.true w.if-unit-gt57.true)
    ]

pub overflow_mul-number : goal.overflow_mul-number
overflow_mul-number c = let h = c.loop-unit.invariant.small in omega arith

pub overflow_add-number : goal.overflow_add-number
overflow_add-number c = let h = c.loop-unit.invariant.small in omega (arith, c.from.ensures)

pub returns-then-number-gt-GREATEST_INDEX : goal.returns-then-number-gt-GREATEST_INDEX
returns-then-number-gt-GREATEST_INDEX c =
    sym (c.loop-unit.invariant.value ∙ read-great c.args.name.now c.loop-unit.unit-index c.loop-unit.number c.loop-unit-test.true c.if-unit-lt48.false c.if-unit-gt57.false (omega (arith, c.from.ensures, c.if-number-gt-GREATEST_INDEX.true)))

pub loop-unit-preserved : goal.loop-unit-preserved
loop-unit-preserved c = record {
  value = rw c.from.ensures (c.loop-unit.invariant.value ∙ read-digit c.args.name.now c.loop-unit.unit-index c.loop-unit.number c.loop-unit-test.true c.if-unit-lt48.false c.if-unit-gt57.false);
  small = c.if-number-gt-GREATEST_INDEX.false;
}

pub returns : goal.returns
returns c = sym (c.loop-unit.invariant.value ∙ read-all c.args.name.now c.loop-unit.unit-index c.loop-unit.number c.loop-unit-test.false c.loop-unit.invariant.small)
