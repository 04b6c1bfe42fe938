use Rattle.std.proofs.Common.{rules, ◌<◌, [], ◌∷◌, ◌++◌, take, length, sym, ap, ◌∙◌, arith}
use Rattle.std.proofs.lemmas.List.{append-nil}
use Rattle.cc_core.specs.State.{places, with_if}
use Rattle.cc_core.specs.SlotState.{is_pending_inside}
use Rattle.cc_core.proofs.SlotLemmas.{places_more}
use Rattle.cc_core.proofs.slots.pending_of.Goals.{then-is_open+in_ok-push, else-is_open}
use Rattle.cc_core.proofs.slots.pending_of.Goals as goal

pub loop-i-preserved : goal.loop-i-preserved
loop-i-preserved c =
    let lt : c.loop-i.i < length c.args.slots.now = search rules in
    let more = places_more is_pending_inside c.loop-i.i c.args.slots.now c.index-slots-i.result c.is_open.result lt (search rules) c.is_open.ensures in (
      omega arith,
      elim c.if-is_open.branch [
        | then-is_open+in_ok-push w ↦ (ap (λ v. v.items) w.found-is ∙ (w.in_ok-push.ensures.items ∙ (ap (λ ks. ks ++ c.loop-i.i ∷ []) c.loop-i.invariant.1
            ∙ sym (more ∙ ap (λ b. places is_pending_inside 0 (take c.loop-i.i c.args.slots.now) ++ with_if b c.loop-i.i []) w.if-is_open.true))))
        | else-is_open w ↦ (ap (λ v. v.items) w.found-is ∙ (c.loop-i.invariant.1
            ∙ sym (more ∙ (ap (λ b. places is_pending_inside 0 (take c.loop-i.i c.args.slots.now) ++ with_if b c.loop-i.i []) w.if-is_open.false ∙ append-nil _))))
      ],
    )
