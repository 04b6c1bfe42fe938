use Rattle.std.proofs.Common.{sym, subst}
use Rattle.cc_cursor.specs.Shown as shown
use Rattle.cc_cursor.specs.Reads.{Reads}
use Rattle.cc_statements.specs.StatementSteps as steps
use Rattle.cc_statements.proofs.StartLemmas.{moved_else}
use Rattle.cc_statements.proofs.grammar.Statements.moved.Goals as goal

-- Each is what the reader for what begins there answers.

pub returns-in-Do-clause-reads : goal.returns-in-Do-clause-reads
returns-in-Do-clause-reads g c =
    subst (λ s. Reads shown.stmts (steps.moved c.args.self.now.grammar.limits (shown.context c.args.context) s c.args.cursor.now) c.do_while.result c.do_while.new.cursor)
    (sym c.in-Do.is) c.do_while.ensures.reads

pub returns-in-While-clause-reads : goal.returns-in-While-clause-reads
returns-in-While-clause-reads g c =
    subst (λ s. Reads shown.stmts (steps.moved c.args.self.now.grammar.limits (shown.context c.args.context) s c.args.cursor.now) c.while_loop.result c.while_loop.new.cursor)
    (sym c.in-While.is) c.while_loop.ensures.reads

pub returns-in-For-clause-reads : goal.returns-in-For-clause-reads
returns-in-For-clause-reads g c =
    subst (λ s. Reads shown.stmts (steps.moved c.args.self.now.grammar.limits (shown.context c.args.context) s c.args.cursor.now) c.for_loop.result c.for_loop.new.cursor)
    (sym c.in-For.is) c.for_loop.ensures.reads

pub returns-in-Continue-clause-reads : goal.returns-in-Continue-clause-reads
returns-in-Continue-clause-reads g c =
    subst (λ s. Reads shown.stmts (steps.moved c.args.self.now.grammar.limits (shown.context c.args.context) s c.args.cursor.now) c.continue_jump.result c.continue_jump.new.cursor)
    (sym c.in-Continue.is) c.continue_jump.ensures.reads

pub returns-in-Break-clause-reads : goal.returns-in-Break-clause-reads
returns-in-Break-clause-reads g c =
    subst (λ s. Reads shown.stmts (steps.moved c.args.self.now.grammar.limits (shown.context c.args.context) s c.args.cursor.now) c.break_jump.result c.break_jump.new.cursor)
    (sym c.in-Break.is) c.break_jump.ensures.reads

pub returns-in-Return-clause-reads : goal.returns-in-Return-clause-reads
returns-in-Return-clause-reads g c =
    subst (λ s. Reads shown.stmts (steps.moved c.args.self.now.grammar.limits (shown.context c.args.context) s c.args.cursor.now) c.returned.result c.returned.new.cursor)
    (sym c.in-Return.is) c.returned.ensures.reads

pub returns-in_default-clause-reads : goal.returns-in_default-clause-reads
returns-in_default-clause-reads g c =
    subst (λ o. Reads shown.stmts o c.throw.result c.throw.new.cursor)
    (moved_else c.args.self.now.grammar.limits (shown.context c.args.context) c.args.start c.args.cursor.now c.in_default.not-Do c.in_default.not-While c.in_default.not-For c.in_default.not-Continue c.in_default.not-Break c.in_default.not-Return) c.throw.ensures.reads
