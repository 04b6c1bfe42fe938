use Rattle.std.proofs.Common.{◌≡◌, ◌≢◌, ◌<◌, ◌≤◌, length, set, ◌∙◌, arith, Some, get_or-set_same, get_or-set_other}
use Rattle.std.proofs.lemmas.List.{length-set}
use Rattle.cc_types.specs.declared.search.Mark.TheVariants.{Unseen, Open}
use Rattle.cc_types.specs.Marks.{mark_at, NoneOpenBelow}
use Rattle.cc_types.specs.Types.{parents_of}
use Rattle.cc_types.proofs.Marking.{walk_begins, walk_ends, turn_walks, turn_goes_down, none_below_done}
use Rattle.cc_types.proofs.search.mark_ancestors.Goals as goal

pub loop-at-init : goal.loop-at-init
loop-at-init c =
    let ms = c.args.marks.now in
    let n = c.args.class in
    let size = c.requires.size in
    let len = length-set ms n Open in
    let within : n < length ms = omega arith in (
      walk_begins c.args.classes.now n ms c.requires.in_table c.requires.size c.requires.clear,
      omega arith,
      λ h. get_or-set_same ms n Open Unseen within,
      λ k h e. let other : k ≢ n = omega arith in let now : mark_at (set ms n Open) k ≡ Unseen = get_or-set_other ms n k Open Unseen other ∙ c.requires.clear k in cc,
      c.requires.in_table,
    )

pub loop-at-smaller : goal.loop-at-smaller
loop-at-smaller c =
    turn_goes_down c.loop-at.at (parents_of (Some c.index-classes-at.result)) c.loop-at.marks c.open_parents-low.new.marks c.loop-at-test.true (c.loop-at.invariant.2 c.loop-at-test.true) c.open_parents-low.ensures.marks

pub loop-at-preserved : goal.loop-at-preserved
loop-at-preserved c =
    let i = c.loop-at.invariant in
    let low = c.open_parents-low.ensures.low (none_below_done c.loop-at.at c.loop-at.marks i.3) in (
      turn_walks c.args.classes.now c.args.class c.loop-at.at c.index-classes-at.result c.loop-at.marks c.open_parents-low.new.marks i.0 c.loop-at-test.true (i.2 c.loop-at-test.true) c.index-classes-at.is c.open_parents-low.ensures.marks,
      c.first_open-at.ensures.within,
      c.first_open-at.ensures.found,
      c.first_open-at.ensures.passed low,
      i.4,
    )

pub returns : goal.returns
returns c =
    let i = c.loop-at.invariant in
    let past : length c.loop-at.marks ≤ c.loop-at.at = c.loop-at-test.false in
    let none : NoneOpenBelow (length c.loop-at.marks) c.loop-at.marks = λ k h. i.3 k (omega arith) in
    walk_ends c.args.classes.now c.args.class c.loop-at.marks i.0 none c.requires.in_table
