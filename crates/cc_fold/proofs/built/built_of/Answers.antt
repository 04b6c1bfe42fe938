use Rattle.std.proofs.Common.{◌≡◌, arith, rules, ap, ◌∙◌, List, length, map}
use Rattle.std.specs.List.{range_with_len}
use Rattle.cc_ast.specs.Syntax.{Program}
use Rattle.cc_ast.specs.declared.tables.GlobalInfo.{GlobalInfo}
use Rattle.cc_fold.specs.Built.{built_globals, global_built_in}
use Rattle.cc_fold.proofs.Globals.{built_more}
use Rattle.cc_fold.proofs.built.built_of.Goals as goal

pub loop-n-preserved : goal.loop-n-preserved
loop-n-preserved c =
    built_more c.args.program.now c.as_slice-globals.result.now c.outer_globals.result c.saturating_sub-externs.result c.loop-n.n c.index-globals-n.result c.is_built_at.result c.loop-n.built.items c.push.new.self.items
    (c.as_slice-globals.ensures ∙ c.get.ensures ∙ ap (λ (p : Program). p.globals) c.program.view_is) c.outer_globals.ensures c.saturating_sub-externs.ensures c.loop-n-test.true c.index-globals-n.is c.is_built_at.ensures c.loop-n.invariant (search rules)

pub returns : goal.returns
unfolding built_globals
returns c =
    let e : c.loop-n.n ≡ length c.args.program.now.globals = omega (arith, ap (λ (gs : List GlobalInfo). length gs) (c.as_slice-globals.ensures ∙ c.get.ensures ∙ ap (λ (p : Program). p.globals) c.program.view_is)) in
    c.loop-n.invariant ∙ ap (λ k. map (global_built_in c.args.program.now) (range_with_len 0 k)) e
