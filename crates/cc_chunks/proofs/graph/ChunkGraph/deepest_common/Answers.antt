use Rattle.std.proofs.Common.{◌≡◌, ℕ, ◌+◌, ◌/◌, get_or, Option, true≢false, refl, sym, ap, subst, ◌∙◌, arith}
use Rattle.cc_chunks.specs.Graph.{DependsDown}
use Rattle.cc_chunks.proofs.DeepestLaws.{BestBelow, best-start, best-skip, best-take, best-end}
use Rattle.cc_chunks.proofs.graph.ChunkGraph.deepest_common.Goals as goal
use Rattle.cc_chunks.proofs.graph.ChunkGraph.deepest_common.Goals.{then-has_bit, else-has_bit}

pub loop-c-init : goal.loop-c-init
loop-c-init c = record { best = best-start c.args.self.now.chunks c.args.chunks.now; word = λ apart. absurd (apart refl) }

pub loop-c-preserved : goal.loop-c-preserved
loop-c-preserved c =
    let chunks = c.args.self.now.chunks in
    let list = c.args.chunks.now in
    let common = c.common_at-common.ensures c.loop-c.c refl in
    let stepped : BestBelow chunks list c.if-has_bit.deepest (c.loop-c.c + 1) = elim c.if-has_bit.branch [
      | then-has_bit w ↦
          subst (λ (o : Option ℕ). BestBelow chunks list o (c.loop-c.c + 1)) (sym w.deepest-is)
          (best-take chunks list c.loop-c.deepest c.loop-c.c w.deeper_of.result c.loop-c.invariant.best (common.0 (sym c.has_bit.ensures ∙ w.if-has_bit.true)) w.deeper_of.ensures.one w.deeper_of.ensures.before w.deeper_of.ensures.before_earlier)
      | else-has_bit w ↦
          subst (λ (o : Option ℕ). BestBelow chunks list o (c.loop-c.c + 1)) (sym w.deepest-is)
          (best-skip chunks list c.loop-c.deepest c.loop-c.c c.loop-c.invariant.best (λ is. true≢false (sym (common.1 is) ∙ sym c.has_bit.ensures ∙ w.if-has_bit.false)))
    ] in
    record {
      best = stepped;
      word = λ inside d place.
          let same : (c.loop-c.c + 1) / 64 ≡ c.loop-c.c / 64 = omega (arith, inside) in
          c.common_at-common.ensures d (place ∙ same);
    }

pub returns-after-has_bit : goal.returns-after-has_bit
returns-after-has_bit c =
    let chunks = c.args.self.now.chunks in
    let list = c.args.chunks.now in
    let common = c.common_at-common.ensures c.loop-c.c refl in
    let stepped : BestBelow chunks list c.if-has_bit.deepest (c.loop-c.c + 1) = elim c.if-has_bit.branch [
      | then-has_bit w ↦
          subst (λ (o : Option ℕ). BestBelow chunks list o (c.loop-c.c + 1)) (sym w.deepest-is)
          (best-take chunks list c.loop-c.deepest c.loop-c.c w.deeper_of.result c.loop-c.invariant.best (common.0 (sym c.has_bit.ensures ∙ w.if-has_bit.true)) w.deeper_of.ensures.one w.deeper_of.ensures.before w.deeper_of.ensures.before_earlier)
      | else-has_bit w ↦
          subst (λ (o : Option ℕ). BestBelow chunks list o (c.loop-c.c + 1)) (sym w.deepest-is)
          (best-skip chunks list c.loop-c.deepest c.loop-c.c c.loop-c.invariant.best (λ is. true≢false (sym (common.1 is) ∙ sym c.has_bit.ensures ∙ w.if-has_bit.false)))
    ] in
    let down : DependsDown chunks = subst DependsDown (ap (λ g. g.chunks) c.self.view_is) c.self.invariant.down in
    let end : c.loop-c.c ≡ get_or list 0 0 = omega arith in
    best-end chunks list c.if-has_bit.deepest (c.loop-c.c + 1) down c.requires.some (ap (λ n. n + 1) end) stepped
