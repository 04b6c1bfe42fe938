use Rattle.std.proofs.Common.{◌+◌, subst, sym, ◌∙◌, arith}
use Rattle.cc_flags.specs.declared.together.Met.{Met}
use Rattle.cc_flags.specs.Words.{settings_of}
use Rattle.cc_flags.proofs.SettingLaws.{setting-at, length-settings}
use Rattle.cc_flags.proofs.TogetherLaws.{MetSoFar, met-none, met-file, met-flag, no-together, first-together}
use Rattle.cc_flags.proofs.together.check_together.Goals as goal
use Rattle.cc_flags.proofs.together.check_together.Goals.{in-Some+else-refuses, in_default}

pub loop-item-init : goal.loop-item-init
loop-item-init c = met-none (settings_of c.args.items.now) c.nothing-met.result c.nothing-met.ensures

pub loop-item-preserved : goal.loop-item-preserved
loop-item-preserved c =
    let ss = settings_of c.args.items.now in
    let i = c.loop-item.item-index in
    let at = setting-at c.args.items.now i _ c.loop-item-test.true in
    elim c.match-item.branch [
      | in-Some+else-refuses w ↦
          met-flag ss i c.loop-item.met c.match-item.met _ w.in-Some.flag c.is_given-has_chunks.result at w.in-Some.is c.is_given-has_chunks.ensures c.loop-item.invariant
          (sym w.refuses.ensures ∙ w.if-refuses.false) (w.met-is ∙ w.add.ensures)
      | in_default w ↦ subst (λ (m : Met). MetSoFar ss (i + 1) m) (sym w.met-is) (met-file ss i c.loop-item.met _ at w.in_default.is c.loop-item.invariant)
    ]

pub returns-then-refuses-clause-first : goal.returns-then-refuses-clause-first
returns-then-refuses-clause-first c =
    let ss = settings_of c.args.items.now in
    let i = c.loop-item.item-index in
    let at = setting-at c.args.items.now i _ c.loop-item-test.true in
    first-together ss i c.loop-item.met _ c.in-Some.flag c.requires at c.in-Some.is c.loop-item.invariant c.is_given-has_chunks.result c.is_given-has_chunks.ensures
    (sym c.refuses.ensures ∙ c.if-refuses.true)

pub returns-clause-sound : goal.returns-clause-sound
returns-clause-sound c = no-together (settings_of c.args.items.now) c.loop-item.item-index c.loop-item.met c.loop-item.invariant (omega (arith, length-settings c.args.items.now, c.loop-item-test.false))
