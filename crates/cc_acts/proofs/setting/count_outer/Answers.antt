use Rattle.std.proofs.Common.{◌≡◌, ◌∙◌, ◌+◌, ◌≤◌, not, List, drop, ap, arith, ◌∷◌}
use Rattle.cc_ast.specs.declared.tables.GlobalInfo.{GlobalInfo}
use Rattle.cc_conform.proofs.Loops.{step, end}
use Rattle.cc_meaning.specs.Store.{without_chunk}
use Rattle.cc_acts.proofs.Outer.{counts-more, counts-same}
use Rattle.cc_acts.proofs.setting.count_outer.Goals as goal
use Rattle.cc_acts.proofs.setting.count_outer.Goals.{then-is_none, else-is_none}

pub loop-global-preserved : goal.loop-global-preserved
loop-global-preserved c =
    let gs : List GlobalInfo = c.args.globals.now in
    let rest : List GlobalInfo = drop (c.loop-global.global-index + 1) gs in
    let walk : without_chunk (drop c.loop-global.global-index gs) ≡ without_chunk (c.global-item.result ∷ rest) = step without_chunk gs c.loop-global.global-index c.global-item.result c.loop-global-test.true c.global-item.is in
    let so_far : c.loop-global.count + without_chunk (drop c.loop-global.global-index gs) ≡ without_chunk gs = c.loop-global.invariant.0 in
    let small : c.loop-global.count ≤ c.loop-global.global-index = c.loop-global.invariant.1 in
    elim c.if-is_none.branch [
      | then-is_none w ↦
          let more : without_chunk (c.global-item.result ∷ rest) ≡ 1 + without_chunk rest = counts-more c.global-item.result rest (c.is_none.ensures ∙ ap not w.if-is_none.true) in
          (omega (arith, walk, so_far, more, w.count-is), omega (arith, small, w.count-is))
      | else-is_none w ↦
          let same : without_chunk (c.global-item.result ∷ rest) ≡ without_chunk rest = counts-same c.global-item.result rest (c.is_none.ensures ∙ ap not w.if-is_none.false) in
          (omega (arith, walk, so_far, same, w.count-is), omega (arith, small, w.count-is))
    ]

pub returns : goal.returns
unfolding without_chunk
returns c =
    let gs : List GlobalInfo = c.args.globals.now in
    let so_far : c.loop-global.count + without_chunk (drop c.loop-global.global-index gs) ≡ without_chunk gs = c.loop-global.invariant.0 in
    let none : without_chunk (drop c.loop-global.global-index gs) ≡ 0 = end without_chunk gs c.loop-global.global-index c.loop-global-test.false in
    omega (arith, so_far, none)
