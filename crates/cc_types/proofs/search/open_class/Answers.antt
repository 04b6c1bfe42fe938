use Rattle.std.proofs.Common.{sym}
use Rattle.cc_types.proofs.Marking.{opened_past, opened_unseen, opened_seen}
use Rattle.cc_types.proofs.search.open_class.Goals as goal

pub returns-then-at-marks-clause-marks : goal.returns-then-at-marks-clause-marks
returns-then-at-marks-clause-marks c = sym (opened_past c.args.marks.now c.args.class c.if-at-marks.true)

pub returns-in-Unseen-clause-marks : goal.returns-in-Unseen-clause-marks
returns-in-Unseen-clause-marks c = sym (opened_unseen c.args.marks.now c.args.class c.if-at-marks.false c.in-Unseen.is)

pub returns-in_default-clause-marks : goal.returns-in_default-clause-marks
returns-in_default-clause-marks c = sym (opened_seen c.args.marks.now c.args.class c.in_default.not-Unseen c.if-at-marks.false)
