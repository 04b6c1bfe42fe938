use Rattle.std.proofs.Common.{◌∙◌, [], Some, sym, ap}
use Rattle.cc_heap.specs.Store.{Store}
use Rattle.cc_meaning.specs.Acts.{set_place, write_by_kind}
use Rattle.cc_meaning.specs.Monad.{ok}
use Rattle.cc_value.specs.Bridge.{value_of}
use Rattle.cc_acts.specs.Shown.{state_of}
use Rattle.cc_acts.proofs.Variables.{err-anywhere, spares-place}
use Rattle.cc_acts.proofs.writes.write_local.Goals as goal

pub returns-in-Err : goal.returns-in-Err
unfolding write_by_kind
returns-in-Err c = λ rs.
    err-anywhere (λ (u : Unit {0}). u) c.in-Err.stop _ _ _ (c.in-Err.ensures {u = tt} rs (set_place (Some c.args.frame) c.args.place (value_of c.args.value)) (spares-place c.args.frame c.args.place (value_of c.args.value)))

pub returns : goal.returns
unfolding write_by_kind set_place
returns c = λ rs.
    c.in_default.ensures {u = tt} rs (set_place (Some c.args.frame) c.args.place (value_of c.args.value)) (spares-place c.args.frame c.args.place (value_of c.args.value))
    ∙ ap (λ (h : Store). ok [] tt (record (state_of c.args.setting.now.program.now rs c.keep.new.state) { objs = h.objs; frames = h.frames; constructed = h.constructed })) (sym c.write_var.ensures)
