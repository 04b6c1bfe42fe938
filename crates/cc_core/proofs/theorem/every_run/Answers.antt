use Rattle.std.proofs.Common.{ℕ, ◌<◌, subst}
use Rattle.cc_ast.specs.Syntax.{Program}
use Rattle.cc_meaning.specs.Same.{Same}
use Rattle.cc_core.specs.Work.{Lawful, after_phases}
use Rattle.cc_core.specs.State.{started, reading}
use Rattle.cc_core.specs.Events.{Closes, event, ends, IsOneWorkers}
use Rattle.cc_core.proofs.Machine.{sound_started, sound_run, source_run, stores_rewrites, one_workers}
use Rattle.cc_core.proofs.theorem.every_run.Goals as goal

pub returns : goal.returns
returns g c =
    let W = g.R.Rules.work c.args.rules.now in
    let law : Lawful W = (g.met.R.Rules g.world.𝓛 g.world.𝓜 g.world.𝓡 ((λ s x. x), (λ x. x), (λ x. x), λ x. x)).lawful c.args.rules.now in
    record {
      stored = λ source events s fits few leads. stores_rewrites W law s (sound_run W law _ events s leads (sound_started W law source fits few));
      same = λ source events s fits few leads. subst (λ (p : Program). Same p (reading W s)) (source_run W law (started source) events s leads) (sound_run W law _ events s leads (sound_started W law source fits few)).same;
      well_made = λ source events s fits few leads. (sound_run W law _ events s leads (sound_started W law source fits few)).well_made;
      one_worker = λ source events s fits few leads done goes_on ended.
          subst (λ (p : Program). ((k : ℕ) → k < s.closed → ends W (after_phases W p k) → ⊥) → IsOneWorkers W p (reading W (event W s Closes))) (source_run W law (started source) events s leads)
          (λ goes_on. one_workers W law s (sound_run W law _ events s leads (sound_started W law source fits few)) done goes_on ended) goes_on;
    }
