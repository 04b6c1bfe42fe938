use Rattle.std.proofs.Common.{◌≡◌, ◌∙◌, refl, sym, ap, [], Ok}
use Rattle.std.specs.Option.{option_map}
use Rattle.cc_heap.proofs.PlaceLaws.{shown-copied}
use Rattle.cc_value.specs.Bridge.{value_of}
use Rattle.cc_meaning.specs.Acts.{is_fatal, read_this}
use Rattle.cc_meaning.specs.Builtins.{or_undefined}
use Rattle.cc_meaning.specs.Judge.{reads_this, least_broken}
use Rattle.cc_meaning.specs.Monad.{ok, ret}
use Rattle.cc_meaning.specs.Values.{Val}
use Rattle.cc_acts.specs.Shown.{spot_of, state_of}
use Rattle.cc_acts.proofs.Judging.{ends_at, goes_at}
use Rattle.cc_acts.proofs.reads.read_this.Goals as goal

pub returns-in-Err : goal.returns-in-Err
unfolding read_this least_broken is_fatal
returns-in-Err c = λ rs.
    let v = option_map value_of c.args.receiver.now in
    let s = state_of c.args.setting.now.program.now rs c.args.state.now in
    ends_at value_of c.args.setting.now.plain (spot_of c.args.spot) (reads_this v) (ret (or_undefined v)) s s c.this_rule.result c.settle.result c.in-Err.stop c.this_rule.ensures (c.settle.ensures (reads_this v) (λ r. refl)) c.in-Err.is

pub returns : goal.returns
unfolding read_this least_broken is_fatal ret
returns c = λ rs.
    let v = option_map value_of c.args.receiver.now in
    let s = state_of c.args.setting.now.program.now rs c.args.state.now in
    let same : or_undefined v ≡ value_of c.in_ok-copy_or_undefined.field-0 = ap or_undefined (sym (shown-copied c.as_ref.result ∙ ap (option_map value_of) c.as_ref.ensures.value)) ∙ sym (c.in_ok-copy_or_undefined.ensures {u = tt}) in
    goes_at value_of c.args.setting.now.plain (spot_of c.args.spot) (reads_this v) (ret (or_undefined v)) s s c.this_rule.result c.settle.result _ (Ok c.in_ok-copy_or_undefined.field-0) c.this_rule.ensures (c.settle.ensures (reads_this v) (λ r. refl)) c.in_default.is
    (ap (λ (x : Val). ok [] x s) same)
