use Rattle.std.proofs.Common.{◌∙◌, true, false, List, sym}
use Rattle.cc_ast.specs.declared.tables.Class.{Class}
use Rattle.cc_meaning.specs.Store.{class_from}
use Rattle.cc_conform.proofs.Loops.{end}
use Rattle.cc_conform.proofs.PrototypeLemmas.{class-next}
use Rattle.cc_conform.proofs.prototypes.class_from.Goals as goal

pub returns-then-is_number : goal.returns-then-is_number
returns-then-is_number c = sym (sym c.loop-at.invariant ∙ class-next c.loop-at.at c.args.classes.now c.loop-at.at c.args.function c.index-classes-at.result true c.loop-at-test.true c.index-classes-at.is (sym c.if-is_number.true ∙ c.is_number.ensures))

pub loop-at-preserved : goal.loop-at-preserved
loop-at-preserved c = sym (sym c.loop-at.invariant ∙ class-next c.loop-at.at c.args.classes.now c.loop-at.at c.args.function c.index-classes-at.result false c.loop-at-test.true c.index-classes-at.is (sym c.if-is_number.false ∙ c.is_number.ensures))

pub returns : goal.returns
unfolding class_from
returns c = sym (sym c.loop-at.invariant ∙ end (λ (xs : List Class). class_from c.loop-at.at xs c.args.function) c.args.classes.now c.loop-at.at c.loop-at-test.false)
