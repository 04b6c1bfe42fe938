use Rattle.std.proofs.Common.{sym, subst}
use Rattle.cc_cursor.specs.Shown as shown
use Rattle.cc_cursor.specs.Reads.{Reads}
use Rattle.cc_statements.specs.StatementSteps as steps
use Rattle.cc_statements.proofs.StartLemmas.{compound_else}
use Rattle.cc_statements.proofs.grammar.Statements.compound.Goals as goal

-- Each is what the reader for what begins there answers.

pub returns-in-Block-clause-reads : goal.returns-in-Block-clause-reads
returns-in-Block-clause-reads g c =
    subst (λ s. Reads shown.stmts (steps.compound c.args.self.now.grammar.limits (shown.context c.args.context) s c.args.cursor.now) c.block.result c.block.new.cursor)
    (sym c.in-Block.is) c.block.ensures.reads

pub returns-in-If-clause-reads : goal.returns-in-If-clause-reads
returns-in-If-clause-reads g c =
    subst (λ s. Reads shown.stmts (steps.compound c.args.self.now.grammar.limits (shown.context c.args.context) s c.args.cursor.now) c.choice.result c.choice.new.cursor)
    (sym c.in-If.is) c.choice.ensures.reads

pub returns-in-Switch-clause-reads : goal.returns-in-Switch-clause-reads
returns-in-Switch-clause-reads g c =
    subst (λ s. Reads shown.stmts (steps.compound c.args.self.now.grammar.limits (shown.context c.args.context) s c.args.cursor.now) c.switch.result c.switch.new.cursor)
    (sym c.in-Switch.is) c.switch.ensures.reads

pub returns-in-Try-clause-reads : goal.returns-in-Try-clause-reads
returns-in-Try-clause-reads g c =
    subst (λ s. Reads shown.stmts (steps.compound c.args.self.now.grammar.limits (shown.context c.args.context) s c.args.cursor.now) c.try_statement.result c.try_statement.new.cursor)
    (sym c.in-Try.is) c.try_statement.ensures.reads

pub returns-in_default-clause-reads : goal.returns-in_default-clause-reads
returns-in_default-clause-reads g c =
    subst (λ o. Reads shown.stmts o c.moved.result c.moved.new.cursor)
    (compound_else c.args.self.now.grammar.limits (shown.context c.args.context) c.args.start c.args.cursor.now c.in_default.not-Block c.in_default.not-If c.in_default.not-Switch c.in_default.not-Try) c.moved.ensures.reads
