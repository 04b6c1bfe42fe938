use Rattle.std.proofs.Common.{◌∙◌, true, false, List, sym}
use Rattle.cc_ast.specs.declared.tables.Class.{Class}
use Rattle.cc_meaning.specs.Store.{code_class_from}
use Rattle.cc_conform.proofs.Loops.{end}
use Rattle.cc_conform.proofs.CallLemmas.{code-next}
use Rattle.cc_conform.proofs.calls.code_class_from.Goals as goal

pub returns-then-has_code : goal.returns-then-has_code
returns-then-has_code c = sym (sym c.loop-at.invariant ∙ code-next c.loop-at.at c.args.classes.now c.loop-at.at c.args.function c.index-classes-at.result true c.loop-at-test.true c.index-classes-at.is (sym c.if-has_code.true ∙ c.has_code.ensures))

pub loop-at-preserved : goal.loop-at-preserved
loop-at-preserved c = sym (sym c.loop-at.invariant ∙ code-next c.loop-at.at c.args.classes.now c.loop-at.at c.args.function c.index-classes-at.result false c.loop-at-test.true c.index-classes-at.is (sym c.if-has_code.false ∙ c.has_code.ensures))

pub returns : goal.returns
unfolding code_class_from
returns c = sym (sym c.loop-at.invariant ∙ end (λ (xs : List Class). code_class_from c.loop-at.at xs c.args.function) c.args.classes.now c.loop-at.at c.loop-at-test.false)
